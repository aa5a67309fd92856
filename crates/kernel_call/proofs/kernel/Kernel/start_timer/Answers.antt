use Rattle.std.proofs.Common.{◌≡◌, ◌+◌, ◌==◌, ℕ, not, sym, subst, true}
use Rattle.mote_base.specs.Timers.{started}
use Rattle.mote_base.specs.declared.timer.Timer.{Timer}
use Rattle.domain_model.specs.Modules.{is_loaded}
use Rattle.domain_model.proofs.ModuleLaws.{id_at_loaded}
use Rattle.kernel_call.proofs.Reminders.{remindable_started}
use Rattle.kernel_call.proofs.Sounds.{sound_timers}
use Rattle.kernel_call.proofs.kernel.Kernel.start_timer.Goals as goal

pub invariant_of-self : goal.invariant_of-self
invariant_of-self c =
    let modules = c.self.inside.modules in
    let mail = c.self.inside.mail in
    let loaded : is_loaded modules c.id_at-id.result ≡ true
    = subst (λ (id : ℕ). is_loaded modules id ≡ true) (sym c.id_at-id.ensures) (id_at_loaded modules c.args.run.now.domain (rw (← c.self.view_is) at c.requires.used)) in
    let t : Timer = record {
      «module» = c.id_at-id.result;
      id = c.register-timer.result;
      due = c.self.inside.clock + c.pair-ticks.result;
      ticks = c.pair-ticks.result;
      again = not (c.register-again.result == 0);
    } in
    rw c.start.ensures.timers
    (sound_timers c.self.inside.clock c.self.inside.running c.self.inside.frames mail.hand c.self.inside.ending modules mail.queues mail.kept c.self.inside.timers c.self.invariant (started t c.self.inside.timers)
    (remindable_started modules t c.self.inside.timers loaded c.self.invariant.owners))
