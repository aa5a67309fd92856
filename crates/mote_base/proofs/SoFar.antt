-- A text that is put piece by piece: the invariant of a loop that stops at the first put that fails.
use Rattle.std.proofs.Common.{◌≡◌, ℕ, Bool, List, [], ◌++◌, Option, Result, refl, sym, ap, subst, ◌∙◌, append_assoc, append-nil}
use Rattle.mote_base.specs.Written.{Wrote, Broke, Puts}
use Rattle.mote_base.proofs.Puts.{wrote_none, wrote_then, broke_then, broke_wide, puts_then}

-- A front of the whole was written, and this is left.
pub record SoFar {K : Type 0} (written : K → Option (List ℕ)) (faults : K → ℕ) (leads : K → List ℕ → Bool → K → Type 0) (old now : K) (left whole : List ℕ) : Type 0 where
  pub front : List ℕ
  pub wrote : Wrote written faults leads old now front
  pub adds_up : front ++ left ≡ whole

-- before the first put
pub so_far_start : {K : Type 0} {w : K → Option (List ℕ)} {f : K → ℕ} {l : K → List ℕ → Bool → K → Type 0} (k : K) (whole : List ℕ) → SoFar w f l k k whole whole
so_far_start k whole = record { front = []; wrote = wrote_none k; adds_up = refl }

-- one more text was put
pub so_far_more : {K : Type 0} {w : K → Option (List ℕ)} {f : K → ℕ} {l : K → List ℕ → Bool → K → Type 0} {a b c : K} {left whole piece : List ℕ} → SoFar w f l a b left whole → Wrote w f l b c piece → (rest : List ℕ) → left ≡ piece ++ rest → SoFar w f l a c rest whole
so_far_more {piece = piece} so p rest is = record {
  front = so.front ++ piece;
  wrote = wrote_then so.wrote p;
  adds_up = append_assoc so.front piece rest ∙ ap (λ text. so.front ++ text) (sym is) ∙ so.adds_up;
}

-- a put failed in the next text
pub so_far_broke : {K : Type 0} {w : K → Option (List ℕ)} {f : K → ℕ} {l : K → List ℕ → Bool → K → Type 0} {a b c : K} {left whole piece : List ℕ} → SoFar w f l a b left whole → Broke w f l b c piece → (rest : List ℕ) → left ≡ piece ++ rest → Broke w f l a c whole
so_far_broke {w = w} {f = f} {l = l} {a = a} {c = c} {piece = piece} so p rest is =
    let adds_up = append_assoc so.front piece rest ∙ ap (λ text. so.front ++ text) (sym is) ∙ so.adds_up in
    subst (λ text. Broke w f l a c text) adds_up (broke_wide (broke_then so.wrote p) rest)

-- what is left is put by one more call
pub so_far_rest : {K T E : Type 0} {w : K → Option (List ℕ)} {f : K → ℕ} {l : K → List ℕ → Bool → K → Type 0} {a b c : K} {left whole : List ℕ} {r : Result T E} → SoFar w f l a b left whole → Puts w f l b c left r → Puts w f l a c whole r
so_far_rest {w = w} {f = f} {l = l} {a = a} {c = c} {r = r} so p = subst (λ text. Puts w f l a c text r) so.adds_up (puts_then so.wrote p)

-- nothing is left
pub so_far_done : {K : Type 0} {w : K → Option (List ℕ)} {f : K → ℕ} {l : K → List ℕ → Bool → K → Type 0} {a b : K} {left whole : List ℕ} → SoFar w f l a b left whole → left ≡ [] → Wrote w f l a b whole
so_far_done {w = w} {f = f} {l = l} {a = a} {b = b} so is =
    subst (λ text. Wrote w f l a b text) (sym (append-nil so.front) ∙ ap (λ text. so.front ++ text) (sym is) ∙ so.adds_up) so.wrote
