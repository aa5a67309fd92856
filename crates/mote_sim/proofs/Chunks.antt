-- What was read of a file so far is its front.
use Rattle.std.proofs.Common.{◌≡◌, ℕ, ◌+◌, ◌-◌, ◌≤◌, ◌<◌, ◌∙◌, sym, ap, List, [], ◌++◌, length, take, drop, arith, length-append, length-drop}
use Rattle.std.proofs.Math.Seq.{take-add}
use Rattle.std.proofs.lemmas.List.{take_all, length-take-le}

-- with the next bytes
pub length_more : (b bytes chunk new : List ℕ) (n : ℕ) → take n chunk ≡ take n (drop (length bytes) b) → n ≤ length (drop (length bytes) b) → new ≡ bytes ++ take n chunk → length new ≡ length bytes + n
length_more b bytes chunk new n same within is =
    ap length is ∙ length-append bytes (take n chunk) ∙ ap (λ k. length bytes + k) (ap length same ∙ length-take-le n (drop (length bytes) b) within)

pub front_more : (b bytes chunk new : List ℕ) (n : ℕ) → bytes ≡ take (length bytes) b → take n chunk ≡ take n (drop (length bytes) b) → n ≤ length (drop (length bytes) b) → new ≡ bytes ++ take n chunk → new ≡ take (length new) b
front_more b bytes chunk new n front same within is =
    is ∙ ap (λ xs. bytes ++ xs) same ∙ ap (λ xs. xs ++ take n (drop (length bytes) b)) front ∙ sym (take-add (length bytes) n b)
    ∙ ap (λ k. take k b) (sym (length_more b bytes chunk new n same within is))

-- at the end it is all
pub all_read : (b bytes : List ℕ) → bytes ≡ take (length bytes) b → length b ≤ length bytes → bytes ≡ b
all_read b bytes front ends = front ∙ take_all (length bytes) b ends

-- the next bytes pass the limit
pub longer : (b bytes : List ℕ) (limit n : ℕ) → length bytes ≤ limit → n ≤ length (drop (length bytes) b) → limit - length bytes < n → limit < length b
longer b bytes limit n fits within more = omega (arith, fits, within, more, length-drop (length bytes) b)

-- some bytes of a chunk are some, and none are none
pub some_taken : (n : ℕ) (chunk : List ℕ) → 0 < n → n ≤ length chunk → 0 < length (take n chunk)
some_taken n chunk some bound = omega (arith, some, bound, length-take-le n chunk bound)

pub none_taken : (n : ℕ) (chunk : List ℕ) → n ≡ 0 → take n chunk ≡ []
none_taken n chunk none = ap (λ (k : ℕ). take k chunk) none
