use Rattle.std.proofs.Common.{◌≡◌, ◌∙◌, ℕ, ◌<◌, ◌+◌, ap, suc, add-one, arith, List, ◌∷◌, ◌++◌, length, drop, get_or, refl}
use Rattle.std.proofs.Math.Seq.{drop-cons}
use Rattle.std.proofs.lemmas.Option.{slice_get-get_or}
use Rattle.unit_code.specs.declared.unit.Unit.{Unit}
use Rattle.unit_code.specs.Proper.{IsOfKind}
use Rattle.domain_model.proofs.Kept.{each_at}
use Rattle.avr_list.specs.Lines.{listing_line}
use Rattle.mote_base.proofs.Puts.{puts_err}
use Rattle.mote_base.proofs.SoFar.{so_far_more, so_far_broke}
use Rattle.avr_list.specs.Lines.{listing_from}
use Rattle.mote_sim.proofs.listing.put_units.Goals as goal

next : (us : List Unit) (places : List ℕ) (i : ℕ) (u : Unit) (place : ℕ) → i < length us → length places ≡ length us → listing_from i (drop i us) (drop i places) ≡ listing_line i (get_or places i place) (get_or us i u) ++ listing_from (i + 1) (drop (i + 1) us) (drop (i + 1) places)
next us places i u place within placed =
    let placed_here : i < length places = omega arith in
    ap (λ xs. listing_from i xs (drop i places)) (drop-cons us i u within)
    ∙ ap (listing_from i (get_or us i u ∷ drop (suc i) us)) (drop-cons places i place placed_here)
    ∙ rw add-one refl

pub overflow_cast-number : goal.overflow_cast-number
overflow_cast-number g c = omega (arith, c.requires.fits)

pub put_unit-requires : goal.put_unit-requires
put_unit-requires g c = each_at IsOfKind c.args.units.now c.loop-number.number _ c.requires.kinds (slice_get-get_or c.args.units.now c.loop-number.number _ c.loop-number-test.true)

pub loop-number-preserved : goal.loop-number-preserved
loop-number-preserved g c =
    so_far_more c.loop-number.invariant c.in_ok-put_unit.ensures.wrote _ (next c.args.units.now c.args.places.now c.loop-number.number _ _ c.loop-number-test.true c.requires.placed)

pub returns-in_err-put_unit : goal.returns-in_err-put_unit
returns-in_err-put_unit g c =
    puts_err c.from_residual.ensures.0 (so_far_broke c.loop-number.invariant c.in_err-put_unit.ensures.broke _ (next c.args.units.now c.args.places.now c.loop-number.number _ _ c.loop-number-test.true c.requires.placed))
