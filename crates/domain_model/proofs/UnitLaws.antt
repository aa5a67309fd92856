-- Lists of units that may be loaded: each unit is of its kind and leads to a unit, there are no more units than words in a
-- bank, and behind a unit that control goes on from stands another.
use Rattle.std.proofs.Common.{◌≡◌, ℕ, zero, suc, ◌+◌, ◌<◌, ◌≤◌, not, List, [], ◌∷◌, length, Bool, true, false, sym, ap, ◌∙◌, subst, arith, Option, Some, None, slice_get}
use Rattle.std.proofs.lemmas.Bool.{true≢false}
use Rattle.std.proofs.lemmas.Option.{none-some, same_Some}
use Rattle.std.proofs.lemmas.List.Sums.{sum_by-cons}
use Rattle.avr_isa.specs.declared.instruction.Instr.{Instr}
use Rattle.avr_isa.specs.Place.{second_word}
use Rattle.avr_isa.specs.Table.{word_count}
use Rattle.mote_layout.specs.Memory.{bank_words}
use Rattle.unit_code.specs.declared.unit.Unit.{Unit}
use Rattle.unit_code.specs.declared.unit.Unit.TheVariants.{Plain, Store, Load, Push, Pop, SpGroup, Reserve, Skip, Branch, Jump, LocalCall, KernelCall, SlotCall, SlotIndirect, Return}
use Rattle.unit_code.specs.declared.unit.Shape.TheVariants.{Long}
use Rattle.unit_code.specs.Ends.{leaves, goes_on, long_length}
use Rattle.unit_code.specs.Lengths.{spelled_length}
use Rattle.unit_code.specs.Proper.{CanBeSkipped, IsOfKind, IsProper, LeadsBelow, SkipsAreSound, SkipsTo}
use Rattle.domain_model.proofs.Kept.{each_at}

-- Units of such a list.

-- each is of its kind
pub kind_at : (us : List Unit) {sealed : Bool} (i : ℕ) (u : Unit) → IsProper us sealed → slice_get us i ≡ Some u → IsOfKind u
kind_at us i u h e = each_at IsOfKind us i u h.kinds e

-- each leads to a unit
pub target_at : (us : List Unit) {sealed : Bool} (i : ℕ) (u : Unit) → IsProper us sealed → slice_get us i ≡ Some u → LeadsBelow (length us) u
target_at us i u h e = each_at (LeadsBelow (length us)) us i u h.targets e

-- and behind a skip stand two
behind_skip : (us : List Unit) → CanBeSkipped us → 2 ≤ length us
behind_skip [] h = absurd h
behind_skip (x ∷ []) h = absurd h
behind_skip (x ∷ y ∷ us) h = omega arith

pub skip_at : (us : List Unit) (i : ℕ) (j : Instr) → SkipsAreSound us → slice_get us i ≡ Some (Skip j) → i + 2 < length us
skip_at [] i j h e = absurd (none-some (Skip j) e)
skip_at (x ∷ us) zero j h e =
    let sound : SkipsTo (Skip j) us = subst (λ (v : Unit). SkipsTo v us) (same_Some x (Skip j) e) h.0 in
    omega (arith, behind_skip us sound)
skip_at (x ∷ us) (suc i) j h e = omega (arith, skip_at us i j h.1 e)

-- Each unit has a word at least.

some_word : (o : Option ℕ) → 1 ≤ word_count o
some_word None = omega arith
some_word (Some k) = omega arith

some_length : (u : Unit) → 1 ≤ spelled_length u Long
some_length (Plain i) = some_word (second_word i)
some_length (Store i) = omega arith
some_length (Load i) = omega arith
some_length (Push r) = omega arith
some_length (Pop d) = omega arith
some_length (SpGroup true) = omega arith
some_length (SpGroup false) = omega arith
some_length Reserve = omega arith
some_length (Skip i) = omega arith
some_length (Branch set bit target) = omega arith
some_length (Jump target) = omega arith
some_length (LocalCall target) = omega arith
some_length (KernelCall n) = omega arith
some_length (SlotCall i) = omega arith
some_length SlotIndirect = omega arith
some_length Return = omega arith

as_many : (us : List Unit) → length us ≤ long_length us
as_many [] = omega arith
as_many (u ∷ us) = omega (arith, as_many us, some_length u, sum_by-cons (λ v. spelled_length v Long) u us)

pub proper_fits : (us : List Unit) {sealed : Bool} → IsProper us sealed → length us ≤ bank_words
proper_fits us h = omega (arith, as_many us, h.fits)

-- Control runs past no end.

pub not_last : (us : List Unit) (i : ℕ) (u : Unit) → goes_on us ≡ false → slice_get us i ≡ Some u → leaves u ≡ false → i + 1 < length us
not_last [] i u ends e on = absurd (none-some u e)
not_last (x ∷ []) zero u ends e on = absurd (true≢false (sym (ap not (ap leaves (same_Some x u e) ∙ on)) ∙ ends))
not_last (x ∷ []) (suc i) u ends e on = absurd (none-some u e)
not_last (x ∷ y ∷ us) zero u ends e on = omega arith
not_last (x ∷ y ∷ us) (suc i) u ends e on = let rest = not_last (y ∷ us) i u ends e on in omega (arith, rest)
