-- What may be short may be short after a round, and is read as short.
use Rattle.std.proofs.Common.{◌≡◌, ◌↔◌, ◌⊎◌, ⊎_elim, inl, inr, ℕ, ◌+◌, ◌-◌, ◌<◌, ◌≤◌, ◌&&◌, not, cond, ltb, pos, negsuc, Bool, true, false, List, [], ◌∷◌, length, refl, ap, ap₂, subst, arith}
use Rattle.std.specs.List.{AllByRecursion}
use Rattle.std.proofs.lemmas.Bool.{ltb-true, ltb-false}
use Rattle.std.proofs.lemmas.Int.{ints}
use Rattle.avr_isa.specs.Operands.{IsBranchOffset}
use Rattle.unit_code.specs.declared.unit.Unit.{Unit}
use Rattle.unit_code.specs.declared.unit.Unit.TheVariants as unit
use Rattle.unit_code.specs.declared.unit.Shape.{Shape}
use Rattle.unit_code.specs.declared.unit.Shape.TheVariants.{Long, Short}
use Rattle.unit_code.specs.Proper.{LeadsBelow}
use Rattle.unit_code.specs.Spelled.{offset_to}
use Rattle.unit_code.specs.Spelling.{AreReadSo, AreShapesFrom, AreShapesOf, MayHave, begins_with_jump, begins_with_single, is_single, reads_short, start_of, starts_of}
use Rattle.harbor_short.specs.Rounds.{AreTurned, BecomesShort, IsRound}
use Rattle.harbor_short.proofs.Shorter.{AreShorter, turned_length, turned_shorter}
use Rattle.harbor_short.proofs.Distances.{distances_stay, starts_rise}

-- the offset of a branch as a distance
pub in_reach : (at word : ℕ) → IsBranchOffset (offset_to at word) → (at ≤ word + 63) × (word ≤ at + 64)
in_reach at word = elim (ltb at word) as (λ t. ltb at word ≡ t → IsBranchOffset (cond t (pos (word - at - 1)) (negsuc (at - word))) → (at ≤ word + 63) × (word ≤ at + 64)) [
  | true ↦ λ e h. let l : at < word = ltb-true at word e in (omega arith, grind (arith, ints))
  | false ↦ λ e h. let l : word ≤ at = ltb-false at word e in (grind (arith, ints), omega arith)
] refl

pub reach_in : (at word : ℕ) → at ≤ word + 63 → word ≤ at + 64 → IsBranchOffset (offset_to at word)
reach_in at word low high = elim (ltb at word) as (λ t. ltb at word ≡ t → IsBranchOffset (cond t (pos (word - at - 1)) (negsuc (at - word)))) [
  | true ↦ λ e. let l : at < word = ltb-true at word e in grind (arith, ints)
  | false ↦ λ e. let l : word ≤ at = ltb-false at word e in grind (arith, ints)
] refl

-- a unit reaches at least those that it reached before
abbrev pub Reach : ℕ → List ℕ → List ℕ → Type 0
Reach count starts news = (i j : ℕ) → i < count → j < count → IsBranchOffset (offset_to (start_of starts i) (start_of starts j)) → IsBranchOffset (offset_to (start_of news i) (start_of news j))

pub reach_kept : (us : List Unit) (ss ts : List Shape) → IsRound us ss ts → Reach (length us) (starts_of us ss) (starts_of us ts)
reach_kept us ss ts h i j inside within near =
    let lengths : (length ss ≡ length us) × (length ts ≡ length us) = turned_length (starts_of us ss) 0 us ss ts h in
    let now : (start_of (starts_of us ss) i ≤ start_of (starts_of us ss) j + 63) × (start_of (starts_of us ss) j ≤ start_of (starts_of us ss) i + 64) = in_reach (start_of (starts_of us ss) i) (start_of (starts_of us ss) j) near in
    let order : (i ≤ j) ⊎ (j ≤ i) = grind arith in
    ⊎_elim
    (λ (before : i ≤ j).
    let less = distances_stay us ss ts h i j before within in
    let rise = starts_rise us ts i j lengths.1 before within in
    reach_in (start_of (starts_of us ts) i) (start_of (starts_of us ts) j) (omega (arith, rise)) (omega (arith, less, now.1)))
    (λ (behind : j ≤ i).
    let less = distances_stay us ss ts h j i behind inside in
    let rise = starts_rise us ts j i lengths.1 behind inside in
    reach_in (start_of (starts_of us ts) i) (start_of (starts_of us ts) j) (omega (arith, less, now.0)) (omega (arith, rise)))
    order

became_short : (starts news : List ℕ) (count i : ℕ) (u : Unit) (us : List Unit) (ss : List Shape) → Reach count starts news → i < count → LeadsBelow count u → (MayHave starts (start_of starts i) u Short ⊎ BecomesShort starts (start_of starts i) u us ss) → MayHave news (start_of news i) u Short
became_short starts news count i (unit.Skip x) us ss reach inside below h = tt
became_short starts news count i (unit.Branch set bit u) us ss reach inside below h =
    ⊎_elim (λ may. reach i u inside below may) (λ becomes. reach i u inside below becomes.1) h
became_short starts news count i _ us ss reach inside below h = ⊎_elim (λ may. absurd may) (λ becomes. absurd becomes) h

turned_may : (starts news : List ℕ) (count i : ℕ) (u : Unit) (us : List Unit) (ss : List Shape) (s t : Shape) → Reach count starts news → i < count → LeadsBelow count u → MayHave starts (start_of starts i) u s → ((t ≡ Short) ↔ ((s ≡ Short) ⊎ BecomesShort starts (start_of starts i) u us ss)) → MayHave news (start_of news i) u t
turned_may starts news count i u us ss s Long reach inside below may turned = tt
turned_may starts news count i u us ss s Short reach inside below may turned =
    let P : Shape → Type 0 = λ x. MayHave starts (start_of starts i) u x in
    became_short starts news count i u us ss reach inside below (⊎_elim (λ (e : s ≡ Short). inl (subst P e may)) (λ becomes. inr becomes) (turned.0 refl))

pub shapes_kept : (starts news : List ℕ) (count : ℕ) (us : List Unit) (ss ts : List Shape) (i : ℕ) → Reach count starts news → i + length us ≡ count → AllByRecursion (LeadsBelow count) us → AreShapesFrom starts i us ss → AreTurned starts i us ss ts → AreShapesFrom news i us ts
shapes_kept starts news count [] [] [] i reach e below may h = tt
shapes_kept starts news count [] [] (t ∷ ts) i reach e below may h = absurd h
shapes_kept starts news count [] (s ∷ ss) ts i reach e below may h = absurd h
shapes_kept starts news count (u ∷ us) [] ts i reach e below may h = absurd h
shapes_kept starts news count (u ∷ us) (s ∷ ss) [] i reach e below may h = absurd h
shapes_kept starts news count (u ∷ us) (s ∷ ss) (t ∷ ts) i reach e below may h = (
  turned_may starts news count i u us ss s t reach (omega (arith, e)) below.0 may.0 h.0,
  shapes_kept starts news count us ss ts (i + 1) reach (omega (arith, e)) below.1 may.1 h.1,
)

-- a short template is one instruction where a long one is
single_short : (u : Unit) (s : Shape) → is_single u s ≡ true → is_single u Short ≡ true
single_short (unit.Skip x) s e = refl
single_short (unit.Branch set bit u) s e = refl
single_short (unit.Plain x) s e = e
single_short (unit.Reserve) s e = e
single_short (unit.Jump u) s e = e
single_short (unit.KernelCall n) s e = e
single_short (unit.SlotCall n) s e = e
single_short (unit.SlotIndirect) s e = e
single_short (unit.Return) s e = e
single_short _ s e = e

single_more : (u : Unit) (s t : Shape) → (s ≡ Short → t ≡ Short) → is_single u s ≡ true → is_single u t ≡ true
single_more u s Short h e = single_short u s e
single_more u Long Long h e = e
single_more u Short Long h e = absurd (let k : Long ≡ Short = h refl in cc)

begins_more : (us : List Unit) (ss ts : List Shape) → AreShorter ss ts → begins_with_single us ss ≡ true → begins_with_single us ts ≡ true
begins_more [] ss ts h e = absurd (cc)
begins_more (u ∷ us) [] ts h e = absurd (cc)
begins_more (u ∷ us) (s ∷ ss) [] h e = absurd h
begins_more (u ∷ us) (s ∷ ss) (t ∷ ts) h e = single_more u s t h.0 e

and_more : (a b c : Bool) → (b ≡ true → c ≡ true) → (a && b) ≡ true → (a && c) ≡ true
and_more true b c h e = h e
and_more false b c h e = e

reads_more : (u : Unit) (us : List Unit) (ss ts : List Shape) → AreShorter ss ts → reads_short u us ss ≡ true → reads_short u us ts ≡ true
reads_more (unit.Skip x) us ss ts h e = and_more (not (begins_with_jump us)) (begins_with_single us ss) (begins_with_single us ts) (begins_more us ss ts h) e
reads_more _ us ss ts h e = e

and_both : (a b : Bool) → a ≡ false → b ≡ true → (not a && b) ≡ true
and_both a b e f = ap₂ (λ (x y : Bool). not x && y) e f

becomes_read : (starts : List ℕ) (at : ℕ) (u : Unit) (us : List Unit) (ss : List Shape) → BecomesShort starts at u us ss → reads_short u us ss ≡ true
becomes_read starts at (unit.Skip x) us ss h = and_both (begins_with_jump us) (begins_with_single us ss) h.0 h.1
becomes_read starts at (unit.Branch set bit u) us ss h = ap not h.0
becomes_read starts at _ us ss h = absurd h

read_first : (u : Unit) (s : Shape) (us : List Unit) (ss : List Shape) → AreReadSo (u ∷ us) (s ∷ ss) → s ≡ Short → reads_short u us ss ≡ true
read_first u Long us ss h e = absurd (cc)
read_first u Short us ss h e = h.0

read_rest : (u : Unit) (s : Shape) (us : List Unit) (ss : List Shape) → AreReadSo (u ∷ us) (s ∷ ss) → AreReadSo us ss
read_rest u Long us ss h = h
read_rest u Short us ss h = h.1

pub read_kept : (starts : List ℕ) (i : ℕ) (us : List Unit) (ss ts : List Shape) → AreTurned starts i us ss ts → AreReadSo us ss → AreReadSo us ts
read_kept starts i [] ss ts h read = tt
read_kept starts i (u ∷ us) [] ts h read = absurd h
read_kept starts i (u ∷ us) (s ∷ ss) [] h read = absurd h
read_kept starts i (u ∷ us) (s ∷ ss) (Long ∷ ts) h read = read_kept starts (i + 1) us ss ts h.1 (read_rest u s us ss read)
read_kept starts i (u ∷ us) (s ∷ ss) (Short ∷ ts) h read =
    let before : reads_short u us ss ≡ true = ⊎_elim (λ (e : s ≡ Short). read_first u s us ss read e) (λ (b : BecomesShort starts (start_of starts i) u us ss). becomes_read starts (start_of starts i) u us ss b) (h.0.0 refl) in
    (reads_more u us ss ts (turned_shorter starts (i + 1) us ss ts h.1) before, read_kept starts (i + 1) us ss ts h.1 (read_rest u s us ss read))

pub shapes_after : (us : List Unit) (ss ts : List Shape) → AllByRecursion (LeadsBelow (length us)) us → IsRound us ss ts → AreShapesOf us ss → AreShapesOf us ts
shapes_after us ss ts below h may = shapes_kept (starts_of us ss) (starts_of us ts) (length us) us ss ts 0 (reach_kept us ss ts h) (omega arith) below may h
