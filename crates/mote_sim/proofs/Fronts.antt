-- What stands behind a front of a text.
use Rattle.std.proofs.Common.{◌≡◌, ◌≢◌, ℕ, refl, ap, ◌∙◌, List, [], ◌∷◌, ◌++◌, Option, Some, None, MatchOption, Bor}
use Rattle.std.specs.Prelude.{if◌then◌else◌}
use Rattle.std.proofs.lemmas.Bool.{eq-eqb}
use Rattle.command_line.specs.Command.{behind_front}
use Rattle.command_line.proofs.CommandLaws.{has_front}

stands_behind : (front rest : List ℕ) → behind_front front (front ++ rest) ≡ Some rest
stands_behind [] rest = refl
stands_behind (f ∷ fs) rest = ap (λ b. if b then behind_front fs (fs ++ rest) else None) (eq-eqb f f refl) ∙ stands_behind fs rest

none_behind : (front word : List ℕ) (o : Option (List ℕ)) → behind_front front word ≡ o → ((rest : List ℕ) → word ≢ front ++ rest) → o ≡ None
none_behind front word None is never = refl
none_behind front word (Some rest) is never = absurd (never rest (has_front front word rest is))

pub front_found : (front word : List ℕ) (r : Option (Bor (List ℕ))) → MatchOption r ((rest : List ℕ) → word ≢ front ++ rest) (λ x. word ≡ front ++ x.now) → MatchOption r (behind_front front word ≡ None) (λ text. behind_front front word ≡ Some text.now)
front_found front word None never = none_behind front word (behind_front front word) refl never
front_found front word (Some x) is = ap (behind_front front) is ∙ stands_behind front x.now
