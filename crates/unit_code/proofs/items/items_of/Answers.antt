use Rattle.std.proofs.Common.{◌≡◌, ◌∙◌, ◌+◌, ◌<◌, List, [], ◌∷◌, ◌++◌, length, drop, get_or, ap, subst, sym, arith}
use Rattle.unit_code.specs.declared.items.Item.{Item}
use Rattle.unit_code.specs.Sound.{AreSound}
use Rattle.unit_code.proofs.SoundKinds.{AreSound-push}
use Rattle.unit_code.proofs.Rest.{item_passed, item_read}
use Rattle.unit_code.specs.Items.{found, items_from, items_of, next_word}
use Rattle.unit_code.proofs.items.items_of.Goals as goal

pub loop-place-preserved-then-over-gt0 : goal.loop-place-preserved-then-over-gt0
loop-place-preserved-then-over-gt0 c =
    record {
      told = item_passed c.args.code.now c.loop-place.place c.loop-place.over c.loop-place.items.items _ (omega (arith, c.len-place-end.ensures, c.loop-place-test.true)) c.if-over-gt0.true c.loop-place.invariant.told;
      sound = c.loop-place.invariant.sound;
    }

pub loop-place-preserved : goal.loop-place-preserved
loop-place-preserved c =
    let words = c.args.code.now in
    let place = c.loop-place.place in
    let told = c.loop-place.items.items in
    let whole = items_of words in
    let standing = c.found-standing.result.0 in
    let further = c.found-standing.result.1 in
    let within : place < length words = omega (arith, c.len-place-end.ensures, c.loop-place-test.true) in
    let is : found (get_or words place 0) (next_word (drop (place + 1) words)) (next_word (drop (place + 2) words)) ≡ (standing, further) = cc in
    let none : c.loop-place.over ≡ 0 = omega (arith, c.if-over-gt0.false) in
    let so : told ++ items_from 0 place (drop place words) ≡ whole = rw none at c.loop-place.invariant.told in
    let more : c.push.new.self.items ≡ told ++ record { place = place; standing = standing } ∷ [] = c.in_ok-push.ensures.items in
    let fits = AreSound-push told (record { place = place; standing = standing }) c.loop-place.invariant.sound c.found-standing.ensures.sound in
    let P : List Item → Type 0 = AreSound in
    record {
      told = ap (λ l. l ++ items_from further (place + 1) (drop (place + 1) words)) more ∙ item_read words place further standing told whole within is so;
      sound = subst P (sym more) fits;
    }
