-- The blocks of the least fit are free.
use Rattle.std.proofs.Common.{◌≡◌, ◌≤◌, Some, sym, ◌∙◌, rules}
use Rattle.mote_layout.specs.Fit.{fit}
use Rattle.mote_layout.proofs.LeastFit.{fit-some}
use Rattle.sos_heap.proofs.fit.serve.Goals as goal

pub set_segment-requires-clause-free : goal.set_segment-requires-clause-free
set_segment-requires-clause-free c =
    let count = c.div_ceil-count.result in
    let some : 1 ≤ count = search rules in
    let found : fit c.args.blocks.now count ≡ Some c.in_ok-first.first = sym c.lowest_fit.ensures ∙ c.in_ok-first.was in
    ((fit-some c.args.blocks.now count c.in_ok-first.first some).0 found).fits
