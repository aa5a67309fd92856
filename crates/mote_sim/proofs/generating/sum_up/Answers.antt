use Rattle.std.proofs.Common.{◌≡◌, ◌≢◌, ◌∙◌, sym}
use Rattle.domain_model.specs.declared.event.Turned.TheVariants.{More}
use Rattle.mote_sim.proofs.Counting.{counted_kept, counted_over, counted_start, counted_turn, ended_by, live_by}
use Rattle.mote_sim.proofs.generating.sum_up.Goals as goal

pub turns-init : goal.turns-init
turns-init c = record {
  ended = sym c.requires.going;
  counted = counted_start c.args.mote.now c.none-tally.result c.none-tally.ensures;
}

pub count_all-requires : goal.count_all-requires
count_all-requires c =
    let i = c.turns.invariant in
    let live : c.turns.mote.ended ≡ More = sym i.ended ∙ live_by c.turns.turned (sym c.goes_on.ensures ∙ c.turns-test.true) in
    counted_kept i.counted c.make_turn-turned.new.mote c.make_turn-turned.new.lines c.items.result.now
    (c.make_turn-turned.ensures.fewer live) c.items.ensures.few c.items.ensures.items c.requires.few

pub turns-preserved : goal.turns-preserved
turns-preserved c =
    let i = c.turns.invariant in
    let live : c.turns.mote.ended ≡ More = sym i.ended ∙ live_by c.turns.turned (sym c.goes_on.ensures ∙ c.turns-test.true) in
    record {
      ended = c.make_turn-turned.ensures.ended;
      counted = counted_turn i.counted c.make_turn-turned.new.mote c.make_turn-turned.new.lines c.items.result.now c.count_all.new.self
          c.make_turn-turned.ensures.exact (c.make_turn-turned.ensures.fewer live) c.items.ensures.few c.items.ensures.items c.count_all.ensures;
    }

pub returns : goal.returns
returns c =
    let i = c.turns.invariant in
    let ended : c.turns.mote.ended ≢ More = λ e. ended_by c.turns.turned (sym c.goes_on.ensures ∙ c.turns-test.false) (i.ended ∙ e) in
    counted_over i.counted ended c.total.result c.turns.turned c.total.ensures i.ended
