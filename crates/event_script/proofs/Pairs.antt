-- How the bytes of a packet follow pair by pair.
use Rattle.std.specs.Prelude.{ℕ, ◌+◌, ◌*◌, ◌≡◌, ◌<◌, ◌≤◌, ◌&&◌, ◌++◌, nat_lt, nat_le, true, false, List, [], ◌∷◌, length, drop, slice_index, Option, Some, None}
use Rattle.std.proofs.Common.{refl, ap, ◌∙◌, sym, arith, cond, append_assoc, append-nil, length-append, length-drop}
use Rattle.std.proofs.lemmas.Bool.Decides.{nat_tests}
use Rattle.mote_layout.specs.Limits.{payload_limit}
use Rattle.event_script.specs.Bytes.{digit_of, onto_bytes, pairs_of, few_bytes}

-- bytes, and those that come behind them
abbrev pub joined : List ℕ → Option (List ℕ) → Option (List ℕ)
joined bytes None = None
joined bytes (Some more) = Some (bytes ++ more)

pub joined-start : (o : Option (List ℕ)) → joined [] o ≡ o
joined-start None = refl
joined-start (Some more) = refl

joined-onto : (bytes : List ℕ) (h l : ℕ) (o : Option (List ℕ)) → joined bytes (onto_bytes (Some h) (Some l) o) ≡ joined (bytes ++ ((16 * h + l) ∷ [])) o
joined-onto bytes h l None = refl
joined-onto bytes h l (Some more) = ap Some (sym (append_assoc bytes ((16 * h + l) ∷ []) more))

pair_ahead : (bytes behind : List ℕ) (high low h l : ℕ) → digit_of high ≡ Some h → digit_of low ≡ Some l → joined bytes (onto_bytes (digit_of high) (digit_of low) (pairs_of behind)) ≡ joined (bytes ++ ((16 * h + l) ∷ [])) (pairs_of behind)
pair_ahead bytes behind high low h l first second =
    ap (λ o. joined bytes (onto_bytes o (digit_of low) (pairs_of behind))) first
    ∙ ap (λ o. joined bytes (onto_bytes (Some h) o (pairs_of behind))) second
    ∙ joined-onto bytes h l (pairs_of behind)

pub joined-pair : (bytes rest : List ℕ) (h l : ℕ) → 2 ≤ length rest → digit_of (slice_index rest 0) ≡ Some h → digit_of (slice_index rest 1) ≡ Some l → joined bytes (pairs_of rest) ≡ joined (bytes ++ ((16 * h + l) ∷ [])) (pairs_of (drop 2 rest))
joined-pair bytes [] h l p first second = absurd (omega arith)
joined-pair bytes (x ∷ []) h l p first second = absurd (omega arith)
joined-pair bytes (high ∷ low ∷ behind) h l p first second = pair_ahead bytes behind high low h l first second

-- A text that doesn't begin with two digits has no bytes.
pub joined-high : (bytes rest : List ℕ) → 2 ≤ length rest → digit_of (slice_index rest 0) ≡ None → joined bytes (pairs_of rest) ≡ None
joined-high bytes [] p none = absurd (omega arith)
joined-high bytes (x ∷ []) p none = absurd (omega arith)
joined-high bytes (high ∷ low ∷ behind) p none = ap (λ o. joined bytes (onto_bytes o (digit_of low) (pairs_of behind))) none

no_low : (o p : Option ℕ) (q : Option (List ℕ)) → p ≡ None → onto_bytes o p q ≡ None
no_low None p q none = refl
no_low (Some h) None q none = refl
no_low (Some h) (Some l) q none = absurd (cc)

pub joined-low : (bytes rest : List ℕ) → 2 ≤ length rest → digit_of (slice_index rest 1) ≡ None → joined bytes (pairs_of rest) ≡ None
joined-low bytes [] p none = absurd (omega arith)
joined-low bytes (x ∷ []) p none = absurd (omega arith)
joined-low bytes (high ∷ low ∷ behind) p none = ap (joined bytes) (no_low (digit_of high) (digit_of low) (pairs_of behind) none)

-- At the end: nothing is left, or half a pair.
pub joined-end : (bytes rest : List ℕ) → length rest ≡ 0 → joined bytes (pairs_of rest) ≡ Some bytes
joined-end bytes [] none = ap Some (append-nil bytes)
joined-end bytes (x ∷ xs) none = absurd (omega arith)

pub joined-half : (bytes rest : List ℕ) → length rest < 2 → 0 < length rest → joined bytes (pairs_of rest) ≡ None
joined-half bytes [] p q = absurd (omega arith)
joined-half bytes (x ∷ []) p q = refl
joined-half bytes (x ∷ y ∷ ys) p q = absurd (omega arith)

-- Two digits a byte.
onto_length : (o p : Option ℕ) (q : Option (List ℕ)) (n : ℕ) (bytes : List ℕ) → ((more : List ℕ) → q ≡ Some more → n ≡ 2 * length more) → onto_bytes o p q ≡ Some bytes → n + 2 ≡ 2 * length bytes
onto_length (Some h) (Some l) (Some more) n [] each is = absurd (cc)
onto_length (Some h) (Some l) (Some more) n (x ∷ xs) each is =
    let same : more ≡ xs = cc in
    omega (arith, each more refl, ap length same)
onto_length None p q n bytes each is = absurd (cc)
onto_length (Some h) None q n bytes each is = absurd (cc)
onto_length (Some h) (Some l) None n bytes each is = absurd (cc)

pub pairs_length : (text bytes : List ℕ) → pairs_of text ≡ Some bytes → length text ≡ 2 * length bytes
pairs_length [] [] is = refl
pairs_length [] (x ∷ xs) is = absurd (cc)
pairs_length (x ∷ []) bytes is = absurd (cc)
pairs_length (high ∷ low ∷ rest) bytes is =
    let each = onto_length (digit_of high) (digit_of low) (pairs_of rest) (length rest) bytes (λ more so. pairs_length rest more so) is in
    omega (arith, each)

few_or_none : (o : Option (List ℕ)) (n : ℕ) → ((bytes : List ℕ) → o ≡ Some bytes → n ≡ 2 * length bytes) → 2 * payload_limit < n → few_bytes o ≡ None
few_or_none None n each p = refl
few_or_none (Some bytes) n each p =
    let test : (nat_lt 0 (length bytes) && nat_le (length bytes) payload_limit) ≡ false = grind (arith, nat_tests, each bytes refl) in
    ap (λ b. cond b (Some bytes) None) test

pub too_long : (text : List ℕ) → 2 * payload_limit < length text → few_bytes (pairs_of text) ≡ None
too_long text p = few_or_none (pairs_of text) (length text) (λ bytes is. pairs_length text bytes is) p

few_and_some : (o : Option (List ℕ)) (n : ℕ) → ((bytes : List ℕ) → o ≡ Some bytes → n ≡ 2 * length bytes) → 0 < n → n ≤ 2 * payload_limit → few_bytes o ≡ o
few_and_some None n each p q = refl
few_and_some (Some bytes) n each p q =
    let test : (nat_lt 0 (length bytes) && nat_le (length bytes) payload_limit) ≡ true = grind (arith, nat_tests, each bytes refl) in
    ap (λ b. cond b (Some bytes) None) test

pub long_enough : (text : List ℕ) → 0 < length text → length text ≤ 2 * payload_limit → few_bytes (pairs_of text) ≡ pairs_of text
long_enough text p q = few_and_some (pairs_of text) (length text) (λ bytes is. pairs_length text bytes is) p q

pub room_left : (bytes rest : List ℕ) (byte : ℕ) → 2 ≤ length rest → 2 * length bytes + length rest ≤ 2 * payload_limit → 2 * length (bytes ++ (byte ∷ [])) + length (drop 2 rest) ≤ 2 * payload_limit
room_left bytes rest byte p q = omega (arith, p, q, length-append bytes (byte ∷ []), length-drop 2 rest)
