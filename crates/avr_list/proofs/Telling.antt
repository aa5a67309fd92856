-- Different units have different lines at one place.
use Rattle.std.proofs.Common.{◌≡◌, ◌∙◌, ℕ, Bool, List, ◌++◌, sym, ap₂}
use Rattle.std.specs.Prelude.{codes, decimal}
use Rattle.std.proofs.lemmas.List.{append_cancel_left, append_cancel_right}
use Rattle.unit_code.specs.declared.unit.Unit.{Unit}
use Rattle.mote_base.specs.Digits.{word_digits}
use Rattle.avr_list.specs.Laws.{MayStand}
use Rattle.avr_list.specs.Lines.{listing_line, unit_text}
use Rattle.avr_list.proofs.Joined.{joined_tells}
use Rattle.avr_list.proofs.Named.{said_tells}
use Rattle.avr_list.proofs.Ranged.{unit_free, unit_ranged}
use Rattle.avr_list.proofs.Said.{Operands, says, unit_is_said, unit_said}

text_of_line : (number place : ℕ) (u v : Unit) → listing_line number place u ≡ listing_line number place v → unit_text u ≡ unit_text v
unfolding listing_line
text_of_line number place u v e =
    let front = decimal number ++ codes " " ++ word_digits place ++ codes " " in
    append_cancel_left front (unit_text u) (unit_text v) (append_cancel_right (front ++ unit_text u) (front ++ unit_text v) (codes "\n") e)

pub lines_tell : (sealed : Bool) (number place : ℕ) (u v : Unit) → MayStand sealed u → MayStand sealed v → listing_line number place u ≡ listing_line number place v → u ≡ v
lines_tell sealed number place u v m n e =
    let same = sym (unit_is_said u) ∙ text_of_line number place u v e ∙ unit_is_said v in
    let parts = joined_tells (unit_said u).name (unit_said v).name (unit_said u).operands (unit_said v).operands (unit_free u) (unit_free v) (unit_ranged sealed u m) (unit_ranged sealed v n) same in
    said_tells sealed u v m n (ap₂ (λ (name : List ℕ) (operands : Operands). says name operands) parts.0 parts.1)
