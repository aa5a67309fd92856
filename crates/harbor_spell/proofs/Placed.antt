-- The units of a proper list stand in a bank, in whatever shapes they may have.
use Rattle.std.proofs.Common.{◌≡◌, ◌∙◌, ℕ, zero, suc, ◌+◌, ◌≤◌, ◌<◌, Bool, true, false, List, [], ◌∷◌, length, get_or, Some, None, refl, sym, ap, subst, arith}
use Rattle.std.specs.Prelude.{slice_get}
use Rattle.std.specs.List.{AllByRecursion}
use Rattle.std.proofs.lemmas.List.Sums.{sum_by-cons}
use Rattle.std.proofs.lemmas.Option.{same_Some}
use Rattle.avr_isa.specs.declared.instruction.Instr.{Instr}
use Rattle.avr_isa.specs.Place.{second_word}
use Rattle.avr_isa.specs.Table.{word_count}
use Rattle.mote_layout.specs.Memory.{bank_words}
use Rattle.unit_code.specs.declared.unit.Unit.{Unit}
use Rattle.unit_code.specs.declared.unit.Unit.TheVariants.{Plain, Store, Load, SpGroup, Skip, Branch}
use Rattle.unit_code.specs.declared.unit.Shape.{Shape}
use Rattle.unit_code.specs.declared.unit.Shape.TheVariants.{Long, Short}
use Rattle.unit_code.specs.Ends.{long_length}
use Rattle.unit_code.specs.Lengths.{instruction_length, spelled_length}
use Rattle.unit_code.specs.Proper.{CanBeSkipped, IsProper, LeadsBelow, SkipsAreSound, SkipsTo}
use Rattle.unit_code.specs.Spelling.{AreShapesFrom, AreShapesOf, MayHave, start_of, starts_after, starts_of}
use Rattle.harbor_spell.specs.Placed.{IsPlaced, SkipsBelow}

-- A template has a word, no more than in its long shape, and five at most.
abbrev Bounded : Unit → Shape → Type 0
Bounded u s = (0 < spelled_length u s) × (spelled_length u s ≤ spelled_length u Long) × (spelled_length u s ≤ 5)

one_or_two : (i : Instr) → (0 < instruction_length i) × (instruction_length i ≤ 2)
one_or_two i = elim (second_word i) as (λ o. (0 < word_count o) × (word_count o ≤ 2)) [ None ↦ (omega arith, omega arith) | Some k ↦ (omega arith, omega arith) ]

spelled-bounds : (u : Unit) (s : Shape) → Bounded u s
spelled-bounds (Plain i) s = let few = one_or_two i in (omega (arith, few), omega arith, omega (arith, few))
spelled-bounds (Store i) s = let few = one_or_two i in (omega arith, omega arith, omega (arith, few))
spelled-bounds (Load i) s = let few = one_or_two i in (omega arith, omega arith, omega (arith, few))
spelled-bounds (SpGroup true) s = (omega arith, omega arith, omega arith)
spelled-bounds (SpGroup false) s = (omega arith, omega arith, omega arith)
spelled-bounds (Skip i) Long = (omega arith, omega arith, omega arith)
spelled-bounds (Skip i) Short = (omega arith, omega arith, omega arith)
spelled-bounds (Branch set bit t) Long = (omega arith, omega arith, omega arith)
spelled-bounds (Branch set bit t) Short = (omega arith, omega arith, omega arith)
spelled-bounds other s = (omega arith, omega arith, omega arith)

spelled-some : (u : Unit) (s : Shape) → 0 < spelled_length u s
spelled-some u s = (spelled-bounds u s).0

pub spelled-least : (u : Unit) (s : Shape) → spelled_length u s ≤ spelled_length u Long
spelled-least u s = (spelled-bounds u s).1

pub spelled-most : (u : Unit) (s : Shape) → spelled_length u s ≤ 5
spelled-most u s = (spelled-bounds u s).2

-- The lists of units and shapes are equally long.
pub same_count : (starts : List ℕ) (i : ℕ) (us : List Unit) (ss : List Shape) → AreShapesFrom starts i us ss → length ss ≡ length us
same_count starts i [] [] h = refl
same_count starts i [] (s ∷ ss) h = absurd h
same_count starts i (u ∷ us) [] h = absurd h
same_count starts i (u ∷ us) (s ∷ ss) h = ap suc (same_count starts (i + 1) us ss h.1)

pub length-starts_after : (place : ℕ) (us : List Unit) (ss : List Shape) → length ss ≡ length us → length (starts_after place us ss) ≡ length us
length-starts_after place [] ss h = refl
length-starts_after place (u ∷ us) [] h = absurd (omega (arith, h))
length-starts_after place (u ∷ us) (s ∷ ss) h = ap suc (length-starts_after (place + spelled_length u s) us ss (omega (arith, h)))

-- each template ends within the long spelling
ends_within : (place k : ℕ) (us : List Unit) (ss : List Shape) (u : Unit) (s : Shape) → slice_get us k ≡ Some u → slice_get ss k ≡ Some s
    → get_or (starts_after place us ss) k 0 + spelled_length u s ≤ place + long_length us
ends_within place k [] ss u s at by = cc
ends_within place k (v ∷ us) [] u s at by = cc
ends_within place zero (v ∷ us) (r ∷ ss) u s at by =
    let same : v ≡ u = cc in
    let shape : r ≡ s = cc in
    let long = ap (λ x. spelled_length x Long) same in
    omega (arith, sum_by-cons (λ x. spelled_length x Long) v us, spelled-least u s, long)
ends_within place (suc k) (v ∷ us) (r ∷ ss) u s at by =
    omega (arith, sum_by-cons (λ x. spelled_length x Long) v us, spelled-least v r, ends_within (place + spelled_length v r) k us ss u s at by)

-- each start lies within the long spelling, and 0 stands for one past the last
starts_within : (place k bound : ℕ) (us : List Unit) (ss : List Shape) → place + long_length us ≤ bound → 0 < bound → get_or (starts_after place us ss) k 0 < bound
starts_within place k bound [] ss h some = omega arith
starts_within place k bound (u ∷ us) [] h some = omega arith
starts_within place zero bound (u ∷ us) (s ∷ ss) h some =
    omega (arith, sum_by-cons (λ x. spelled_length x Long) u us, spelled-some u Long)
starts_within place (suc k) bound (u ∷ us) (s ∷ ss) h some =
    starts_within (place + spelled_length u s) k bound us ss (omega (arith, sum_by-cons (λ x. spelled_length x Long) u us, spelled-least u s)) some

pub all_at : {A : Type 0} (P : A → Type 0) (xs : List A) (k : ℕ) (x : A) → AllByRecursion P xs → slice_get xs k ≡ Some x → P x
all_at P [] k x h at = cc
all_at P (y ∷ xs) zero x h at = subst P (same_Some y x at) h.0
all_at P (y ∷ xs) (suc k) x h at = all_at P xs k x h.1 at

two_behind : (us : List Unit) → CanBeSkipped us → 2 ≤ length us
two_behind [] h = absurd h
two_behind (u ∷ []) h = absurd h
two_behind (u ∷ v ∷ us) h = omega arith

skips_below : (us : List Unit) (k count : ℕ) (u : Unit) → SkipsAreSound us → slice_get us k ≡ Some u → k < length us → count ≡ length us → SkipsBelow count k u
skips_below [] k count u h at inside same = absurd (omega (arith, inside))
skips_below (v ∷ us) zero count (Skip x) h at inside same =
    let is : v ≡ Skip x = same_Some v (Skip x) at in
    let P : Unit → Type 0 = λ w. SkipsTo w us in
    omega (arith, two_behind us (subst P is h.0), same)
skips_below (v ∷ us) (suc k) count (Skip x) h at inside same =
    let behind : k + 2 < length us = skips_below us k (length us) (Skip x) h.1 at (omega (arith, inside)) refl in
    omega (arith, behind, same)
skips_below (v ∷ us) k count _ h at inside same = tt

pub may_have_at : (starts : List ℕ) (i k : ℕ) (us : List Unit) (ss : List Shape) (u : Unit) (s : Shape) → AreShapesFrom starts i us ss → slice_get us k ≡ Some u → slice_get ss k ≡ Some s
    → MayHave starts (start_of starts (i + k)) u s
may_have_at starts i k [] ss u s h at by = cc
may_have_at starts i k (v ∷ us) [] u s h at by = cc
may_have_at starts i zero (v ∷ us) (r ∷ ss) u s h at by =
    let P : Unit → Shape → ℕ → Type 0 = λ w t n. MayHave starts (start_of starts n) w t in
    let here : i ≡ i + 0 = omega arith in
    let same : v ≡ u = same_Some v u at in
    let shape : r ≡ s = same_Some r s by in
    subst (λ (n : ℕ). P u s n) here (subst (λ (t : Shape). P u t i) shape (subst (λ (w : Unit). P w r i) same h.0))
may_have_at starts i (suc k) (v ∷ us) (r ∷ ss) u s h at by =
    let there : i + 1 + k ≡ i + suc k = omega arith in
    subst (λ (n : ℕ). MayHave starts (start_of starts n) u s) there (may_have_at starts (i + 1) k us ss u s h.1 at by)

pub placed : (us : List Unit) (ss : List Shape) (starts : List ℕ) (sealed : Bool) (i : ℕ) (u : Unit) (s : Shape) → IsProper us sealed → AreShapesOf us ss
    → starts ≡ starts_of us ss → i < length us → slice_get us i ≡ Some u → slice_get ss i ≡ Some s → IsPlaced starts i u s
placed us ss starts sealed i u s proper shapes are inside at by =
    let count : length ss ≡ length us = same_count (starts_of us ss) 0 us ss shapes in
    let starts_count : length starts ≡ length us = ap length are ∙ length-starts_after 0 us ss count in
    let fits = proper.fits in
    let within : get_or (starts_of us ss) i 0 + spelled_length u s ≤ 0 + long_length us = ends_within 0 i us ss u s at by in
    let same : get_or starts i 0 ≡ get_or (starts_of us ss) i 0 = ap (λ l. get_or l i 0) are in
    record {
      inside = omega (arith, starts_count, inside);
      low = λ k. let e : get_or starts k 0 ≡ get_or (starts_of us ss) k 0 = ap (λ l. get_or l k 0) are in
          let below : get_or (starts_of us ss) k 0 < bank_words = starts_within 0 k bank_words us ss (omega (arith, fits)) (omega arith) in omega (arith, e, below);
      fits = omega (arith, same, within, fits);
      target = subst (λ (n : ℕ). LeadsBelow n u) (sym starts_count) (all_at (LeadsBelow (length us)) us i u proper.targets at);
      skip = skips_below us i (length starts) u proper.skips at inside starts_count;
    }

pub may_have : (us : List Unit) (ss : List Shape) (starts : List ℕ) (i : ℕ) (u : Unit) (s : Shape) → AreShapesOf us ss → starts ≡ starts_of us ss
    → slice_get us i ≡ Some u → slice_get ss i ≡ Some s → MayHave starts (start_of starts i) u s
may_have us ss starts i u s shapes are at by =
    let here : 0 + i ≡ i = omega arith in
    let P : List ℕ → ℕ → Type 0 = λ l n. MayHave l (start_of l n) u s in
    subst (λ (l : List ℕ). P l i) (sym are) (subst (P (starts_of us ss)) here (may_have_at (starts_of us ss) 0 i us ss u s shapes at by))
