use Rattle.std.proofs.Common.{◌≡◌, ◌≢◌, ◌∙◌, inl, inr, sym, ap}
use Rattle.domain_model.specs.declared.event.Turned.TheVariants.{More}
use Rattle.word_run.specs.FlashValue.{FlashValue}
use Rattle.mote_core.specs.Value.{MoteValue}
use Rattle.mote_sim.proofs.Turning.{stands}
use Rattle.mote_sim.proofs.playing.make_turn.Goals as goal

-- A turn behind which the run goes on did not come after an end.
went_on : (old new : MoteValue FlashValue) → (old.ended ≢ More → new ≡ old) → new.ended ≡ More → old.ended ≡ More
went_on old new stays more =
    elim (stands old.ended) [
      | inl live ↦ live
      | inr over ↦ absurd (over (sym (ap (λ (m : MoteValue FlashValue). m.ended) (stays over)) ∙ more))
    ]

pub returns-clause-on : goal.returns-clause-on
returns-clause-on c = λ more. went_on c.args.mote.now c.turn.new.self (λ over. (c.turn.ensures.stays over).0) (sym c.turn.ensures.ended ∙ more)
