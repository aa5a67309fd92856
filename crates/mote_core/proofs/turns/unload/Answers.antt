use Rattle.std.proofs.Common.{◌∙◌, ap}
use Rattle.domain_model.specs.Turn.{entered}
use Rattle.kernel_call.specs.declared.loaded.ModuleRow.{ModuleRow}
use Rattle.mote_core.proofs.RowLaws.{named_module, row_is, unloads_kernel, unloads_lines}
use Rattle.mote_core.proofs.turns.unload.Goals as goal

pub enter-requires : goal.enter-requires
enter-requires g c =
    let row = row_is _ _ c.in-Some.ensures.row in
    let named = named_module c.args.k.now (g.R.Runner.part c.args.r.now) c.args.id row.loaded c.requires.machine row.found in
    rw row.is (record { domain = named.domain; unit = named.handler })

pub returns : goal.returns
returns g c =
    let row = row_is _ _ c.in-Some.ensures.row in
    let named = named_module c.args.k.now (g.R.Runner.part c.args.r.now) c.args.id row.loaded c.requires.machine row.found in
    let there = c.in-Some.ensures.there ∙ row.found in
    let k = rw there at c.finish.ensures.kernel in
    let lines = rw (there, c.requires.empty) at c.finish.ensures.lines in
    record {
      kernel = unloads_kernel c.args.k.now (g.R.Runner.part c.args.r.now) c.args.id row.loaded c.finish.new.self row.found named.id_of k;
      runner = rw (row.found, c.enter.ensures, g.met.R.Runner.entered_law c.args.r.now c.in-Some.row.domain c.in-Some.row.handler) (ap (λ (x : ModuleRow). entered (g.R.Runner.part c.args.r.now) x.handler) row.is);
      exact = rw (row.found, c.enter.ensures) (ap (λ (x : ModuleRow). g.R.Runner.entered_by c.args.r.now x.domain x.handler) row.is);
      lines = unloads_lines c.args.k.now (g.R.Runner.part c.args.r.now) c.args.id row.loaded c.finish.new.lines row.found named.id_of lines;
    }
