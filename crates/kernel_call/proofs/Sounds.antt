-- A module comes in or goes out, and the kernel keeps of itself what it does.
use Rattle.std.proofs.Common.{◌≡◌, sym, subst, ℕ, ◌<◌, List, [], ◌∷◌, ◌++◌, length, set, Option, Some, None, true, false}
use Rattle.mote_base.specs.Messages.{Lists, unnamed}
use Rattle.mote_base.specs.declared.frame.Frame.{Frame}
use Rattle.mote_base.specs.Timers.{without_module}
use Rattle.mote_base.specs.declared.timer.Timer.{Timer}
use Rattle.mote_layout.specs.Parcels.{Payload}
use Rattle.domain_model.specs.declared.handler.Running.{Running}
use Rattle.domain_model.specs.State.{Loaded, Message, payload_address}
use Rattle.domain_model.specs.Modules.{id_at, in_use, without_domain}
use Rattle.domain_model.proofs.ModuleLaws.{in_use_old}
use Rattle.kernel_call.specs.Mail.{keeping}
use Rattle.kernel_call.specs.Sound.{AreRemindable, AreRows, AreSeated, IsRow, IsSound}
use Rattle.kernel_call.proofs.Keeping.{kept_more, kept_rest}
use Rattle.kernel_call.proofs.Receivers.{received_more, received_rest}
use Rattle.kernel_call.proofs.Reminders.{remindable_more, remindable_rest}

-- what runs, and what called it, stay loaded where a module comes in
row_more : (modules : List Loaded) (m : Loaded) (run : Option Running) → IsRow modules run → IsRow (modules ++ m ∷ []) run
row_more modules m None row = tt
row_more modules m (Some run) row = (row.0, row.1, in_use_old modules m run.domain row.2)

rows_more : (modules : List Loaded) (m : Loaded) (calls : List Frame) → AreRows modules calls → AreRows (modules ++ m ∷ []) calls
rows_more modules m [] rows = tt
rows_more modules m (f ∷ fs) rows = ((rows.0.0, rows.0.1, in_use_old modules m f.domain rows.0.2), rows_more modules m fs rows.1)

module _ (now : ℕ) (run : Option Running) (calls : List Frame) (message : Option Message) (last : Option ℕ) (modules : List Loaded) (queues : Lists Message) (kept : List (Option Payload)) (timers : List Timer) (sound : IsSound now run calls message last modules queues kept timers) where
  pub sound_more : (m : Loaded) (o : Option Payload) → in_use modules m.domain ≡ false → m.domain < length kept → payload_address o ≡ m.constants → IsSound now run calls message last (modules ++ m ∷ []) queues (keeping o m.domain kept) timers
  sound_more m o free within is = record {
    clock = sound.clock;
    running = row_more modules m run sound.running;
    callers = rows_more modules m calls sound.callers;
    outside = sound.outside;
    high = received_more modules m queues.high sound.high;
    low = received_more modules m queues.low sound.low;
    constants = kept_more modules m kept o sound.constants free within is;
    owners = remindable_more modules m timers sound.owners;
  }

  pub sound_rest : (domain : ℕ) → run ≡ None → AreSeated modules → in_use modules domain ≡ true → IsSound now run calls message last (without_domain domain modules) (unnamed (id_at modules domain) queues) (set kept domain None) (without_module (id_at modules domain) timers)
  sound_rest domain outside seated used = record {
    clock = sound.clock;
    running = subst (IsRow (without_domain domain modules)) (sym outside) tt;
    callers = subst (AreRows (without_domain domain modules)) (sym (sound.outside outside).0) tt;
    outside = sound.outside;
    high = received_rest modules domain queues.high seated used sound.high;
    low = received_rest modules domain queues.low seated used sound.low;
    constants = kept_rest modules kept domain sound.constants;
    owners = remindable_rest modules domain timers seated used sound.owners;
  }

  -- with other timers of loaded modules
  pub sound_timers : (new : List Timer) → AreRemindable modules new → IsSound now run calls message last modules queues kept new
  sound_timers new are = record {
    clock = sound.clock;
    running = sound.running;
    callers = sound.callers;
    outside = sound.outside;
    high = sound.high;
    low = sound.low;
    constants = sound.constants;
    owners = are;
  }
