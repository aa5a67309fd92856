-- A timer that fires keeps kernel and runner good: its message waits in the high list, or nothing waits more, and all else stays but the timers.
use Rattle.std.proofs.Common.{◌≡◌, inl, ◌+◌, ◌<◌, ◌≤◌, nat_lt, List, length, Bool, true, false, refl, sym, ap, subst, arith, Option, Some, is_some, slice_get}
use Rattle.std.specs.List.{list_any}
use Rattle.std.proofs.lemmas.Bool.{ltb-true, ltb-false}
use Rattle.mote_base.specs.Messages.{Lists, in_order, front, queue_limit}
use Rattle.mote_base.specs.Timers.{after_firing}
use Rattle.mote_base.specs.declared.timer.Timer.{Timer}
use Rattle.domain_model.specs.State.{Message, KernelState, RunnerState}
use Rattle.domain_model.specs.Payloads.{constants_kept}
use Rattle.domain_model.specs.Radio.{Hearing}
use Rattle.domain_model.specs.Firing.{reminder, fired_where, fired_by, fired}
use Rattle.domain_model.specs.Good.{GoodModule, GoodMachine, GoodTimer, IsKnown}
use Rattle.domain_model.specs.Laws.{IsOneReminder, none_more, one_more}
use Rattle.domain_model.proofs.Kept.{each_at, each_contained}
use Rattle.domain_model.proofs.ModuleLaws.{named, loaded_named}
use Rattle.domain_model.proofs.TimerLaws.{timers_fired}
use Rattle.domain_model.proofs.ClockLaws.{high_waits, appended_waits}
use Rattle.domain_model.proofs.DueLaws.{firing_is}
use Rattle.domain_model.proofs.PayloadLaws.{payloads_posted}
use Rattle.domain_model.proofs.ActLaws.{is_unload, one_more as one_more_waits}
use Rattle.domain_model.proofs.MachineLaws.{handler_kept, queues_posted}

-- The kernel with other queues and other timers.
abbrev pub with_fired : KernelState → Lists Message → List Timer → KernelState
with_fired k queues timers = record k { queues = queues; timers = timers }

-- What a timer that fires makes of the kernel: these alone change, the timer starts anew or is gone, one message comes at most, and one is there;
-- and one line is written, which unloads nothing.
pub record Reminds (k : KernelState) (t : Timer) (got : Hearing) : Type 0 where
  pub alone : got.kernel ≡ with_fired k got.kernel.queues (after_firing k.clock k.timers)
  pub more : length (in_order got.kernel.queues) ≤ length (in_order k.queues) + 1
  pub waits : is_some (front got.kernel.queues) ≡ true
  pub reminder : IsOneReminder k.queues t got.kernel.queues
  pub quiet : list_any is_unload got.lines ≡ false

where_reminds : (b : Bool) (t : Timer) (k : KernelState) → nat_lt (length k.queues.high) queue_limit ≡ b → Reminds k t (fired_where b t k)
where_reminds true t k room = record {
  alone = refl;
  more = one_more_waits true (reminder t) k;
  waits = appended_waits true (reminder t) k.queues;
  reminder = one_more (ltb-true (length k.queues.high) queue_limit room) (reminder t) refl refl refl refl refl refl refl;
  quiet = refl;
}
where_reminds false t k full = record {
  alone = refl;
  more = omega arith;
  waits = high_waits k.queues (omega (arith, ltb-false (length k.queues.high) queue_limit full));
  reminder = none_more (ltb-false (length k.queues.high) queue_limit full);
  quiet = refl;
}

-- the first timer is the one that fires, where it is due
pub fired_is : (k : KernelState) (t : Timer) → slice_get k.timers 0 ≡ Some t → t.due ≤ k.clock → fired k ≡ fired_where (nat_lt (length k.queues.high) queue_limit) t k
fired_is k t first due = ap (λ (o : Option Timer). fired_by o k) (firing_is k.clock k.timers t first due)

pub timer_reminds : (k : KernelState) (t : Timer) → slice_get k.timers 0 ≡ Some t → t.due ≤ k.clock → Reminds k t (fired k)
timer_reminds k t first due = subst (Reminds k t) (sym (fired_is k t first due)) (where_reminds (nat_lt (length k.queues.high) queue_limit) t k refl)

-- Good.

module _ (k : KernelState) (r : RunnerState) (t : Timer) (h : GoodMachine k r) (first : slice_get k.timers 0 ≡ Some t) where
  first_good : GoodTimer k.modules k.clock t
  first_good = each_at (GoodTimer k.modules k.clock) k.timers 0 t h.timers.each first

  -- its module has an id
  owner_id : t.«module» < 256
  owner_id =
      let there = loaded_named k.modules t.«module» first_good.owner in
      let n = named k.modules t.«module» there.0 there.1 in
      omega (arith, n.id_of, (each_contained (GoodModule r) k.modules there.0 h.modules n.contained).face.id.1)

  reminder_known : IsKnown k.modules (reminder t)
  reminder_known = record {
    receiver = first_good.owner;
    sender = inl (inl refl);
    framed = record {
      to = owner_id;
      from = omega arith;
      sort = omega arith;
      byte = first_good.id;
      word = omega arith;
      len = omega arith;
      address = omega arith;
    };
    load = tt;
  }

  where_good : (b : Bool) → nat_lt (length k.queues.high) queue_limit ≡ b → GoodMachine (fired_where b t k).kernel r
  where_good true room = record {
    processor = h.processor;
    banks = h.banks;
    modules = h.modules;
    distinct = h.distinct;
    blocks = h.blocks;
    owners = h.owners;
    queues = queues_posted k.modules true (reminder t) k.queues reminder_known room h.queues;
    timers = timers_fired k.modules k.clock k.timers h.timers;
    payloads = payloads_posted k.blocks k.queues k.hand (constants_kept k.modules) (reminder t) refl h.payloads;
    handler = handler_kept k.running k (fired_where true t k).kernel r refl refl refl refl refl h.handler;
  }
  where_good false full = record {
    processor = h.processor;
    banks = h.banks;
    modules = h.modules;
    distinct = h.distinct;
    blocks = h.blocks;
    owners = h.owners;
    queues = h.queues;
    timers = timers_fired k.modules k.clock k.timers h.timers;
    payloads = h.payloads;
    handler = handler_kept k.running k (fired_where false t k).kernel r refl refl refl refl refl h.handler;
  }

  pub fired_good : t.due ≤ k.clock → GoodMachine (fired k).kernel r
  fired_good due =
      subst (λ (got : Hearing). GoodMachine got.kernel r) (sym (fired_is k t first due)) (where_good (nat_lt (length k.queues.high) queue_limit) refl)
