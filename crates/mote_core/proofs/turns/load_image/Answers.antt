use Rattle.std.proofs.Common.{◌∙◌, sym, ap}
use Rattle.domain_model.specs.Turn.{Moved}
use Rattle.mote_core.proofs.Loading.{placed_bank, placing, refused_by, refused_lines, refusing, started_by, started_kernel, started_lines, started_runner}
use Rattle.mote_core.proofs.turns.load_image.Goals as goal

pub start-requires-clause-handler : goal.start-requires-clause-handler
start-requires-clause-handler g c =
    let placed = placing c.args.image c.args.k.now (g.R.Runner.part c.args.r.now) c.args.ready.now c.in-Ok.domain c.load.result c.load.new.k c.in-Ok.is c.load.ensures.answer c.load.ensures.kernel in
    placed_bank placed c.known.ensures.good c.in-Some.bank.now c.in-Some.ensures.code

pub returns-in-Some-clause-kernel : goal.returns-in-Some-clause-kernel
returns-in-Some-clause-kernel g c =
    let placed = placing c.args.image c.args.k.now (g.R.Runner.part c.args.r.now) c.args.ready.now c.in-Ok.domain c.load.result c.load.new.k c.in-Ok.is c.load.ensures.answer c.load.ensures.kernel in
    started_kernel placed c.start.new.k c.start.ensures.kernel

pub returns-in-Some-clause-runner : goal.returns-in-Some-clause-runner
returns-in-Some-clause-runner g c =
    let placed = placing c.args.image c.args.k.now (g.R.Runner.part c.args.r.now) c.args.ready.now c.in-Ok.domain c.load.result c.load.new.k c.in-Ok.is c.load.ensures.answer c.load.ensures.kernel in
    started_runner placed (g.R.Runner.part c.start.new.r) c.in-Some.bank.now c.in-Some.ensures.code c.start.ensures.runner

pub returns-in-Some-clause-lines : goal.returns-in-Some-clause-lines
returns-in-Some-clause-lines g c =
    let placed = placing c.args.image c.args.k.now (g.R.Runner.part c.args.r.now) c.args.ready.now c.in-Ok.domain c.load.result c.load.new.k c.in-Ok.is c.load.ensures.answer c.load.ensures.kernel in
    started_lines placed c.start.new.lines c.start.ensures.lines

pub returns-in-Err-clause-kernel : goal.returns-in-Err-clause-kernel
returns-in-Err-clause-kernel g c =
    let refused = refusing c.args.image c.args.k.now (g.R.Runner.part c.args.r.now) c.args.ready.now c.in-Err.refusal c.load.result c.load.new.k c.in-Err.is c.load.ensures.answer c.load.ensures.kernel in
    refused.kernel ∙ sym (ap (λ (m : Moved). m.kernel) refused.is)

pub returns-in-Err-clause-runner : goal.returns-in-Err-clause-runner
returns-in-Err-clause-runner g c =
    let refused = refusing c.args.image c.args.k.now (g.R.Runner.part c.args.r.now) c.args.ready.now c.in-Err.refusal c.load.result c.load.new.k c.in-Err.is c.load.ensures.answer c.load.ensures.kernel in
    sym (ap (λ (m : Moved). m.runner) refused.is)

pub returns-in-Err-clause-lines : goal.returns-in-Err-clause-lines
returns-in-Err-clause-lines g c =
    let refused = refusing c.args.image c.args.k.now (g.R.Runner.part c.args.r.now) c.args.ready.now c.in-Err.refusal c.load.result c.load.new.k c.in-Err.is c.load.ensures.answer c.load.ensures.kernel in
    refused_lines refused c.args.lines.now c.refuse.new.lines c.requires.empty c.refuse.ensures

pub returns-in-Some-clause-exact : goal.returns-in-Some-clause-exact
returns-in-Some-clause-exact g c =
    let placed = placing c.args.image c.args.k.now (g.R.Runner.part c.args.r.now) c.args.ready.now c.in-Ok.domain c.load.result c.load.new.k c.in-Ok.is c.load.ensures.answer c.load.ensures.kernel in
    started_by g.R.Runner.placed_by g.R.Runner.entered_by placed c.load.result c.in-Ok.is c.load.ensures.answer c.args.r.now c.start.new.r c.in-Some.bank.now c.in-Some.ensures.code c.start.ensures.exact

pub returns-in-Err-clause-exact : goal.returns-in-Err-clause-exact
returns-in-Err-clause-exact g c =
    refused_by g.R.Runner.placed_by g.R.Runner.entered_by c.args.ready.now c.args.k.now c.in-Err.refusal c.load.result c.in-Err.is c.load.ensures.answer c.args.r.now
