use Rattle.std.proofs.Common.{◌≡◌, ◌∙◌, refl, sym, ap, ℕ}
use Rattle.domain_model.specs.Modules.{constants_at}
use Rattle.domain_model.specs.Payloads.{kept_at, without_load}
use Rattle.kernel_call.specs.Mail.{kept_for}
use Rattle.kernel_call.proofs.Keeping.{let_go_by}
use Rattle.kernel_call.proofs.Sounds.{sound_rest}
use Rattle.kernel_call.proofs.kernel.Kernel.purge.Goals as goal

pub invariant_of-self : goal.invariant_of-self
invariant_of-self c =
    let mail = c.self.inside.mail in
    rw (c.purge.ensures, c.clear.ensures, c.remove.ensures, c.id_at-id.ensures)
    (sound_rest c.self.inside.clock c.self.inside.running c.self.inside.frames mail.hand c.self.inside.ending c.self.inside.modules mail.queues mail.kept c.self.inside.timers c.self.invariant
    c.args.d (rw (← c.self.view_is) at c.requires.outside) c.known.ensures (rw (← c.self.view_is) at c.requires.loaded))

pub returns : goal.returns
returns c =
    let mail = c.self.inside.mail in
    let kept = kept_for mail.kept c.args.d in
    let gone : without_load (kept_at (constants_at c.self.inside.modules c.args.d)) mail.blocks ≡ without_load kept mail.blocks
    = ap (λ (a : ℕ). without_load (kept_at a) mail.blocks) (sym (c.self.invariant.constants c.args.d)) ∙ let_go_by kept mail.blocks in
    rw (c.purge.ensures, c.clear.ensures, c.remove.ensures, c.id_at-id.ensures, ← c.self.view_is, gone) refl
