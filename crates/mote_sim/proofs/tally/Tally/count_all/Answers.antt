use Rattle.std.proofs.Common.{◌≡◌, ◌∙◌, ◌+◌, [], ◌∷◌, ap, sym, subst, drop, drop_of_length-le}
use Rattle.mote_sim.specs.Summary.{IsKept, with_lines}
use Rattle.mote_sim.proofs.Counting.{kept_front, line_at, with_more, with_none}
use Rattle.mote_sim.proofs.tally.Tally.count_all.Goals as goal

pub count-requires : goal.count-requires
count-requires c =
    let at = line_at c.args.told.now c.loop-line.line-index c.line-item.result c.loop-line-test.true c.line-item.is in
    kept_front c.loop-line.self (c.line-item.result ∷ []) (drop (c.loop-line.line-index + 1) c.args.told.now)
    (subst IsKept (sym c.loop-line.invariant ∙ ap (with_lines c.loop-line.self) at) c.requires)

pub loop-line-preserved : goal.loop-line-preserved
loop-line-preserved c =
    let at = line_at c.args.told.now c.loop-line.line-index c.line-item.result c.loop-line-test.true c.line-item.is in
    ap (λ t. with_lines t (drop (c.loop-line.line-index + 1) c.args.told.now)) c.count.ensures
    ∙ with_more c.loop-line.self (c.line-item.result ∷ []) (drop (c.loop-line.line-index + 1) c.args.told.now)
    ∙ sym (ap (with_lines c.loop-line.self) at) ∙ c.loop-line.invariant

pub returns : goal.returns
returns c =
    let over : drop c.loop-line.line-index c.args.told.now ≡ [] = drop_of_length-le c.args.told.now c.loop-line-test.false in
    sym (with_none c.loop-line.self) ∙ ap (with_lines c.loop-line.self) (sym over) ∙ c.loop-line.invariant
