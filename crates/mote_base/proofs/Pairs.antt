-- The digits of bytes.
use Rattle.std.specs.Prelude.{ℕ, ◌≡◌, ◌++◌, List, [], ◌∷◌}
use Rattle.std.specs.List.{flat_map}
use Rattle.std.proofs.Common.{refl, ap, ◌∙◌}
use Rattle.std.proofs.lemmas.List.Concat.{flat_map-cons}
use Rattle.mote_base.specs.Digits.{byte_digits, pairs_text}

-- the digits of each byte, one after the other
pub pairs_are : (bytes : List ℕ) → flat_map byte_digits bytes ≡ pairs_text bytes
pairs_are [] = refl
pairs_are (b ∷ bs) = flat_map-cons byte_digits b bs ∙ ap (λ text. byte_digits b ++ text) (pairs_are bs)
