-- A word behind those that are held.
use Rattle.std.proofs.Common.{◌≡◌, ◌∙◌, ◌+◌, ◌≤◌, ℕ, ap, arith, List, [], ◌∷◌, ◌++◌, length, map, take, Bor, set}
use Rattle.std.proofs.Math.ListN.{length-map}
use Rattle.std.proofs.lemmas.List.{map-set, take_more_set, length-take-le}
use Rattle.mote_layout.specs.Limits.{images_limit}

pub pushed : (words : List (Bor (List ℕ))) (count : ℕ) (word : Bor (List ℕ)) (held : List (List ℕ)) → (count ≤ 1 + images_limit) × (length words ≡ 1 + images_limit) → length held ≤ images_limit → take count (map (λ w. w.now) words) ≡ held → take (count + 1) (map (λ w. w.now) (set words count word)) ≡ held ++ word.now ∷ []
pushed words count word held fits few are =
    let all = length-map words (λ (w : Bor (List ℕ)). w.now) in
    let held_are : length (take count (map (λ (w : Bor (List ℕ)). w.now) words)) ≡ count = length-take-le count (map (λ (w : Bor (List ℕ)). w.now) words) (omega (arith, fits.0, fits.1, all)) in
    ap (take (count + 1)) (map-set (λ (w : Bor (List ℕ)). w.now) words count word)
    ∙ take_more_set (map (λ (w : Bor (List ℕ)). w.now) words) count word.now (omega (arith, fits.1, few, held_are, all, ap (λ (ws : List (List ℕ)). length ws) are))
    ∙ ap (λ (ws : List (List ℕ)). ws ++ word.now ∷ []) are
