-- Reading entries one after the other, as a loop does.
use Rattle.std.proofs.Common.{◌≡◌, ℕ, suc, ◌-◌, ◌+◌, ◌≤◌, ◌<◌, List, [], ◌∷◌, ◌++◌, Result, Ok, Err, refl, sym, ap, ◌∙◌, append_assoc, arith}
use Rattle.std.proofs.lemmas.List.{append-nil}
use Rattle.module_image.specs.declared.error.ImageError.{ImageError}
use Rattle.module_image.specs.declared.face.Provided.{Provided}
use Rattle.module_image.specs.declared.face.Subscribed.{Subscribed}
use Rattle.module_image.specs.Reading.{◌>>=◌, provided_one, provided_at, subscribed_one, subscribed_at}

abbrev pub Entries : Type 0 → Type 0
Entries T = Result (List T × List ℕ) ImageError

-- the entries that were read, before those that are still to read
abbrev pub with_front : {T : Type 0} → List T → Entries T → Entries T
with_front front reading = reading >>= λ x. Ok (front ++ x.0, x.1)

regroup : {T : Type 0} (front : List T) (entry : T) (reading : Entries T) → with_front front (reading >>= λ x. Ok (entry ∷ x.0, x.1)) ≡ with_front (front ++ entry ∷ []) reading
regroup {T} front entry (Ok x) = ap (λ (list : List T). Ok (list, x.1)) (simp append_assoc)
regroup front entry (Err e) = refl

pub provided_goes_on : (front : List Provided) (count i place next least : ℕ) (bytes : List ℕ) (entry : Provided) (after : List ℕ) (total : Entries Provided)
    → i < count → next ≡ place + 7 → provided_one place least bytes ≡ Ok (entry, after)
    → with_front front (provided_at (count - i) place least bytes) ≡ total → with_front (front ++ entry ∷ []) (provided_at (count - (i + 1)) next (entry.func + 1) after) ≡ total
unfolding provided_at
provided_goes_on front count i place next least bytes entry after total below step one so_far =
    let more : count - i ≡ suc (count - (i + 1)) = omega arith in
    let same : with_front front (provided_at (count - i) place least bytes) ≡ with_front (front ++ entry ∷ []) (provided_at (count - (i + 1)) (place + 7) (entry.func + 1) after) =
    rw (more, one) (regroup front entry (provided_at (count - (i + 1)) (place + 7) (entry.func + 1) after)) in
    rw step (sym same ∙ so_far)

pub provided_ends : (e : ImageError) (front : List Provided) (count i place least : ℕ) (bytes : List ℕ) (total : Entries Provided)
    → i < count → provided_one place least bytes ≡ Err e → with_front front (provided_at (count - i) place least bytes) ≡ total → total ≡ Err e
unfolding provided_at
provided_ends e front count i place least bytes total below one so_far =
    let more : count - i ≡ suc (count - (i + 1)) = omega arith in
    let same : with_front front (provided_at (count - i) place least bytes) ≡ Err e = rw (more, one) refl in
    sym so_far ∙ same

pub provided_done : (front : List Provided) (count i place least : ℕ) (bytes : List ℕ) (total : Entries Provided)
    → count ≤ i → with_front front (provided_at (count - i) place least bytes) ≡ total → total ≡ Ok (front, bytes)
unfolding provided_at
provided_done front count i place least bytes total past so_far =
    let none : count - i ≡ 0 = omega arith in
    let same : with_front front (provided_at (count - i) place least bytes) ≡ Ok (front, bytes) = rw none (ap (λ (list : List Provided). Ok (list, bytes)) (append-nil front)) in
    sym so_far ∙ same

pub subscribed_goes_on : (front : List Subscribed) (count i place next : ℕ) (bytes : List ℕ) (entry : Subscribed) (after : List ℕ) (total : Entries Subscribed)
    → i < count → next ≡ place + 6 → subscribed_one place bytes ≡ Ok (entry, after)
    → with_front front (subscribed_at (count - i) place bytes) ≡ total → with_front (front ++ entry ∷ []) (subscribed_at (count - (i + 1)) next after) ≡ total
unfolding subscribed_at
subscribed_goes_on front count i place next bytes entry after total below step one so_far =
    let more : count - i ≡ suc (count - (i + 1)) = omega arith in
    let same : with_front front (subscribed_at (count - i) place bytes) ≡ with_front (front ++ entry ∷ []) (subscribed_at (count - (i + 1)) (place + 6) after) =
    rw (more, one) (regroup front entry (subscribed_at (count - (i + 1)) (place + 6) after)) in
    rw step (sym same ∙ so_far)

pub subscribed_ends : (e : ImageError) (front : List Subscribed) (count i place : ℕ) (bytes : List ℕ) (total : Entries Subscribed)
    → i < count → subscribed_one place bytes ≡ Err e → with_front front (subscribed_at (count - i) place bytes) ≡ total → total ≡ Err e
unfolding subscribed_at
subscribed_ends e front count i place bytes total below one so_far =
    let more : count - i ≡ suc (count - (i + 1)) = omega arith in
    let same : with_front front (subscribed_at (count - i) place bytes) ≡ Err e = rw (more, one) refl in
    sym so_far ∙ same

pub subscribed_done : (front : List Subscribed) (count i place : ℕ) (bytes : List ℕ) (total : Entries Subscribed)
    → count ≤ i → with_front front (subscribed_at (count - i) place bytes) ≡ total → total ≡ Ok (front, bytes)
unfolding subscribed_at
subscribed_done front count i place bytes total past so_far =
    let none : count - i ≡ 0 = omega arith in
    let same : with_front front (subscribed_at (count - i) place bytes) ≡ Ok (front, bytes) = rw none (ap (λ (list : List Subscribed). Ok (list, bytes)) (append-nil front)) in
    sym so_far ∙ same
