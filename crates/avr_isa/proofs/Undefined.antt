-- Words in no line. A word that has some bits can only have the lines that are not apart from them; each of those is ruled out by
-- a bit of its own.
use Rattle.std.proofs.Common.{◌≡◌, ◌≢◌, ℕ, zero, suc, ◌/◌, ◌%◌, ◌^◌, Bool, true, false, List, [], ◌∷◌, Some, refl, subst, if◌then◌else◌, arith}
use Rattle.std.proofs.Common.{inl, inr}
use Rattle.std.proofs.lemmas.Bool.{cases_eq}
use Rattle.std.specs.Prelude.{slice_get}
use Rattle.avr_isa.specs.Pattern.{symbols, Matches}
use Rattle.avr_isa.specs.Table.{Line, table, HasLine, HasNoRow}
use Rattle.avr_isa.proofs.Apart.{apart, apart_no_word}
use Prim.Native.String.{String}

-- the lines that a word of the pattern can have
abbrev rivals : List ℕ → List Line → List Line
rivals p [] = []
rivals p (l ∷ ls) = if apart p (symbols l.pattern) then rivals p ls else l ∷ rivals p ls

-- the word has none of these lines
abbrev HasNone : List Line → ℕ → Type 0
HasNone [] w = Unit {0}
HasNone (l ∷ ls) w = (Matches (symbols l.pattern) w → ⊥) × HasNone ls w

one_more : (p : List ℕ) (w : ℕ) (b : Bool) (l : Line) (ls : List Line) → apart p (symbols l.pattern) ≡ b → Matches p w → HasNone (if b then ls else l ∷ ls) w → (Matches (symbols l.pattern) w → ⊥) × HasNone ls w
one_more p w true l ls e m none = (apart_no_word p (symbols l.pattern) w e m, none)
one_more p w false l ls e m none = none

none_of : (p : List ℕ) (w : ℕ) (ls : List Line) → Matches p w → HasNone (rivals p ls) w → HasNone ls w
none_of p w [] m none = tt
none_of p w (l ∷ ls) m none =
    let here = one_more p w (apart p (symbols l.pattern)) l (rivals p ls) refl m none in
    (here.0, none_of p w ls m here.1)

not_at : (ls : List Line) (w place : ℕ) (l : Line) → HasNone ls w → slice_get ls place ≡ Some l → Matches (symbols l.pattern) w → ⊥
not_at [] w place l none e m = cc
not_at (x ∷ ls) w zero l none e m =
    let same : l ≡ x = cc in
    let P : Line → Type 0 = λ y. Matches (symbols y.pattern) w in
    none.0 (subst P same m)
not_at (x ∷ ls) w (suc place) l none e m = not_at ls w place l none.1 e m

undefined : (pattern : String) (w : ℕ) → Matches (symbols pattern) w → HasNone (rivals (symbols pattern) table) w → HasNoRow w
unfolding HasNoRow HasLine
undefined pattern w m none = λ l has. not_at table w has.0 l (none_of (symbols pattern) w table m none) has.1 has.2

pub no_nop : (w : ℕ) → w / 2 ^ 8 % 2 ^ 8 ≡ 0 → w / 2 ^ 0 % 2 ^ 8 ≢ 0 → HasNoRow w
no_nop w at_1 not_nop = undefined "0000 0000 .... ...." w (grind arith) ((λ m. not_nop (grind arith), tt))

pub no_load : (w : ℕ) → w / 2 ^ 9 % 2 ^ 7 ≡ 72 → w / 2 ^ 0 % 2 ^ 4 ≢ 0 → w / 2 ^ 0 % 2 ^ 4 ≢ 1 → w / 2 ^ 0 % 2 ^ 4 ≢ 2 → w / 2 ^ 0 % 2 ^ 4 ≢ 4 → w / 2 ^ 0 % 2 ^ 4 ≢ 5 → w / 2 ^ 0 % 2 ^ 4 ≢ 6 → w / 2 ^ 0 % 2 ^ 4 ≢ 7 → w / 2 ^ 0 % 2 ^ 4 ≢ 9 → w / 2 ^ 0 % 2 ^ 4 ≢ 10 → w / 2 ^ 0 % 2 ^ 4 ≢ 12 → w / 2 ^ 0 % 2 ^ 4 ≢ 13 → w / 2 ^ 0 % 2 ^ 4 ≢ 14 → w / 2 ^ 0 % 2 ^ 4 ≢ 15 → HasNoRow w
no_load w at_1 not_0 not_1 not_2 not_4 not_5 not_6 not_7 not_9 not_10 not_12 not_13 not_14 not_15 = undefined "1001 000. .... ...." w (grind arith) ((λ m. not_0 (grind arith), (λ m. not_1 (grind arith), (λ m. not_2 (grind arith), (λ m. not_4 (grind arith), (λ m. not_5 (grind arith), (λ m. not_6 (grind arith), (λ m. not_7 (grind arith), (λ m. not_9 (grind arith), (λ m. not_10 (grind arith), (λ m. not_12 (grind arith), (λ m. not_13 (grind arith), (λ m. not_14 (grind arith), (λ m. not_15 (grind arith), tt))))))))))))))

pub no_store : (w : ℕ) → w / 2 ^ 9 % 2 ^ 7 ≡ 73 → w / 2 ^ 0 % 2 ^ 4 ≢ 0 → w / 2 ^ 0 % 2 ^ 4 ≢ 1 → w / 2 ^ 0 % 2 ^ 4 ≢ 2 → w / 2 ^ 0 % 2 ^ 4 ≢ 9 → w / 2 ^ 0 % 2 ^ 4 ≢ 10 → w / 2 ^ 0 % 2 ^ 4 ≢ 12 → w / 2 ^ 0 % 2 ^ 4 ≢ 13 → w / 2 ^ 0 % 2 ^ 4 ≢ 14 → w / 2 ^ 0 % 2 ^ 4 ≢ 15 → HasNoRow w
no_store w at_1 not_0 not_1 not_2 not_9 not_10 not_12 not_13 not_14 not_15 = undefined "1001 001. .... ...." w (grind arith) ((λ m. not_0 (grind arith), (λ m. not_1 (grind arith), (λ m. not_2 (grind arith), (λ m. not_9 (grind arith), (λ m. not_10 (grind arith), (λ m. not_12 (grind arith), (λ m. not_13 (grind arith), (λ m. not_14 (grind arith), (λ m. not_15 (grind arith), tt))))))))))

pub no_control : (w : ℕ) → w / 2 ^ 9 % 2 ^ 7 ≡ 74 → w / 2 ^ 8 % 2 ^ 1 ≡ 1 → w / 2 ^ 0 % 2 ^ 4 ≡ 8 → w / 2 ^ 4 % 2 ^ 5 ≢ 16 → w / 2 ^ 4 % 2 ^ 5 ≢ 17 → w / 2 ^ 4 % 2 ^ 5 ≢ 24 → w / 2 ^ 4 % 2 ^ 5 ≢ 25 → w / 2 ^ 4 % 2 ^ 5 ≢ 26 → w / 2 ^ 4 % 2 ^ 5 ≢ 28 → w / 2 ^ 4 % 2 ^ 5 ≢ 29 → w / 2 ^ 4 % 2 ^ 5 ≢ 30 → HasNoRow w
no_control w at_1 at_2 at_3 not_16 not_17 not_24 not_25 not_26 not_28 not_29 not_30 = undefined "1001 0101 .... 1000" w (grind arith) ((λ m. not_16 (grind arith), (λ m. not_17 (grind arith), (λ m. not_24 (grind arith), (λ m. not_25 (grind arith), (λ m. not_26 (grind arith), (λ m. not_28 (grind arith), (λ m. not_29 (grind arith), (λ m. not_30 (grind arith), tt)))))))))

pub no_indirect : (w : ℕ) → w / 2 ^ 9 % 2 ^ 7 ≡ 74 → w / 2 ^ 0 % 2 ^ 4 ≡ 9 → w / 2 ^ 4 % 2 ^ 5 ≢ 0 → w / 2 ^ 4 % 2 ^ 5 ≢ 16 → HasNoRow w
no_indirect w at_1 at_2 not_0 not_16 = undefined "1001 010. .... 1001" w (grind arith) ((λ m. not_0 (grind arith), (λ m. not_16 (grind arith), tt)))

pub no_register_bit : (w : ℕ) → w / 2 ^ 11 % 2 ^ 5 ≡ 31 → w / 2 ^ 3 % 2 ^ 1 ≡ 1 → HasNoRow w
no_register_bit w at_1 at_2 = undefined "1111 1... .... 1..." w (grind arith) (tt)

pub no_one_register_4 : (w : ℕ) → w / 2 ^ 9 % 2 ^ 7 ≡ 74 → w / 2 ^ 0 % 2 ^ 4 ≡ 4 → HasNoRow w
no_one_register_4 w at_1 at_2 = undefined "1001 010. .... 0100" w (grind arith) (tt)

pub no_one_register_11 : (w : ℕ) → w / 2 ^ 9 % 2 ^ 7 ≡ 74 → w / 2 ^ 0 % 2 ^ 4 ≡ 11 → HasNoRow w
no_one_register_11 w at_1 at_2 = undefined "1001 010. .... 1011" w (grind arith) (tt)

pub no_one_register : (w : ℕ) → w / 2 ^ 9 % 2 ^ 7 ≡ 74 → (w / 2 ^ 0 % 2 ^ 4 ≢ 4 → w / 2 ^ 0 % 2 ^ 4 ≡ 11) → HasNoRow w
no_one_register w at_1 low = elim (cases_eq (w / 2 ^ 0 % 2 ^ 4) 4) [
  | inl four ↦ no_one_register_4 w at_1 four
  | inr more ↦ no_one_register_11 w at_1 (low more)
]

pub ruleset undefined_words = (no_nop, no_load, no_store, no_control, no_indirect, no_register_bit, no_one_register)
