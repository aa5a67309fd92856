-- A word that may not stand where it does.
use Rattle.std.proofs.Common.{◌≡◌, ◌∙◌, ◌<◌, ℕ, sym, ap, suc, List, ◌∷◌, length, drop, get_or, Option, Some, None}
use Rattle.std.proofs.Math.Seq.{drop-cons}
use Rattle.command_line.specs.Command.{Given, with_word, given_by}
use Rattle.command_line.proofs.CommandLaws.{none_given}

pub none_behind : (words : List (List ℕ)) (i : ℕ) (word : List ℕ) (g : Given) (whole : Option Given) → i < length words → word ≡ get_or words i word → with_word g.place word g ≡ None → given_by (drop i words) (Some g) ≡ whole → None ≡ whole
none_behind words i word g whole within is never all =
    sym (none_given (drop (suc i) words))
    ∙ ap (λ (o : Option Given). given_by (drop (suc i) words) o) (sym never)
    ∙ ap (λ (ws : List (List ℕ)). given_by ws (Some g)) (sym (drop-cons words i word within ∙ ap (λ (w : List ℕ). w ∷ drop (suc i) words) (sym is)))
    ∙ all
