use Rattle.std.proofs.Common.{◌≤◌, length, sym, ◌∙◌, arith}
use Rattle.std.proofs.lemmas.Bool.Decides.{nat_tests}
use Rattle.event_script.proofs.Pairs.{joined-pair, room_left}
use Rattle.event_script.proofs.hex.pairs_of.Goals as goal

pub loop-rest-preserved : goal.loop-rest-preserved
loop-rest-preserved c =
    let long : 2 ≤ length c.loop-rest.rest.now = grind (arith, nat_tests) in
    rw (c.push.ensures.added, c.behind_pair-rest.ensures) (
      sym (joined-pair c.loop-rest.bytes c.loop-rest.rest.now _ _ long (sym c.in_ok-high.ensures.value) (sym c.in_ok-low.ensures.value)) ∙ c.loop-rest.invariant.0,
      room_left c.loop-rest.bytes c.loop-rest.rest.now _ long c.loop-rest.invariant.1,
    )
