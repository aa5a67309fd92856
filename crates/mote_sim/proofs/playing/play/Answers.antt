use Rattle.std.proofs.Common.{◌≡◌, ◌∙◌, sym}
use Rattle.domain_model.specs.declared.event.Turned.TheVariants.{More, EndIdle, EndBudget}
use Rattle.mote_sim.proofs.Far.{far_turn, far_over, far_stopped, plays_err}
use Rattle.mote_sim.proofs.playing.play.Goals as goal

pub returns-in_err-tell_lines : goal.returns-in_err-tell_lines
returns-in_err-tell_lines g c =
    plays_err c.from_residual.ensures.0
    (far_stopped c.turns.invariant.far c.make_turn-turned.new.mote c.make_turn-turned.new.lines c.make_turn-turned.ensures.exact c.items.ensures.items c.in_err-tell_lines.ensures.moves.broke)

pub turns-preserved : goal.turns-preserved
turns-preserved g c = record {
  room = c.in_ok-tell_lines.ensures.room;
  far = far_turn c.turns.invariant.far c.make_turn-turned.new.mote c.make_turn-turned.new.lines c.make_turn-turned.ensures.exact c.items.ensures.items c.in_ok-tell_lines.ensures.moves.moved;
}

pub turns-smaller : goal.turns-smaller
turns-smaller g c = c.make_turn-turned.ensures.fewer (c.make_turn-turned.ensures.on c.in-More.is)

pub returns-in-EndIdle : goal.returns-in-EndIdle
returns-in-EndIdle g c =
    let far = far_turn c.turns.invariant.far c.make_turn-turned.new.mote c.make_turn-turned.new.lines c.make_turn-turned.ensures.exact c.items.ensures.items c.in_ok-tell_lines.ensures.moves.moved in
    far_over far (λ more. let e : EndIdle ≡ More = sym c.in-EndIdle.is ∙ c.make_turn-turned.ensures.ended ∙ more in absurd (cc)) c.flush.ensures

pub returns-in-EndBudget : goal.returns-in-EndBudget
returns-in-EndBudget g c =
    let far = far_turn c.turns.invariant.far c.make_turn-turned.new.mote c.make_turn-turned.new.lines c.make_turn-turned.ensures.exact c.items.ensures.items c.in_ok-tell_lines.ensures.moves.moved in
    far_over far (λ more. let e : EndBudget ≡ More = sym c.in-EndBudget.is ∙ c.make_turn-turned.ensures.ended ∙ more in absurd (cc)) c.flush-in-EndBudget.ensures
