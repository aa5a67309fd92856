use Rattle.std.proofs.Common.{◌≡◌, ◌∙◌, sym, ap, subst}
use Rattle.domain_model.specs.declared.fault.UnitEnd.{UnitEnd}
use Rattle.domain_model.specs.State.{KernelState}
use Rattle.domain_model.specs.Act.{act}
use Rattle.domain_model.specs.Free.{dead_top}
use Rattle.domain_model.specs.Good.{GoodMachine}
use Rattle.mote_tests.specs.Scribble.{top_of}
use Rattle.mote_tests.specs.ScribbleLaw.{IsInStack, top_in_stack}
use Rattle.mote_tests.proofs.scribble.ScribbleRunnerRunner.run_unit.Goals as goal

-- the dead bytes end in the stack
pub scribble_dead-requires : goal.scribble_dead-requires
scribble_dead-requires c =
    let good : GoodMachine c.args.k.now c.self.inside.inner = subst (GoodMachine c.args.k.now) (sym c.self.view_is) c.requires.good in
    let after = act c.args.k.now c.self.inside.inner in
    let is : c.dead_top-top.result ≡ top_of c.args.k.now c.self.inside.inner =
    c.dead_top-top.ensures c.args.k.now (sym c.stack_pointer-before.ensures)
    ∙ ap (λ (e : UnitEnd). dead_top e c.args.k.now c.run_unit-ending.new.k) c.run_unit-ending.ensures.ending
    ∙ ap (λ (n : KernelState). dead_top after.ending c.args.k.now n) c.run_unit-ending.ensures.kernel in
    let at = subst IsInStack (sym is) (top_in_stack c.args.k.now c.self.inside.inner c.in-Some.run' good (sym c.handler.ensures ∙ c.in-Some.is)) in
    record { low = at.low; high = at.high }
