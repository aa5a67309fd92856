-- How many words templates have.
use Rattle.std.proofs.Common.{◌≡◌, ℕ, ◌≤◌, Bool, true, false, Option, None, Some, ℤ, refl, arith}
use Rattle.avr_isa.specs.Place.{second_word}
use Rattle.avr_isa.specs.Table.{word_count}
use Rattle.avr_isa.specs.declared.instruction.Instr.{Instr}
use Rattle.unit_code.specs.Beside.{form_words}
use Rattle.unit_code.specs.Lengths.{instruction_length, spelled_length}
use Rattle.unit_code.specs.declared.form.Form.TheVariants.{Whole, ShortBranch, LongBranch}
use Rattle.unit_code.specs.declared.unit.Unit.TheVariants as unit
use Rattle.unit_code.specs.declared.unit.Shape.TheVariants.{Long}

two_words : (o : Option ℕ) → word_count o ≤ 2
two_words None = omega arith
two_words (Some k) = omega arith

pub instruction_two : (i : Instr) → instruction_length i ≤ 2
instruction_two i = two_words (second_word i)

pub short_branch : (set : Bool) (bit : ℕ) (k : ℤ) → form_words (ShortBranch set bit k) ≡ 1
short_branch true bit k = refl
short_branch false bit k = refl

pub long_branch : (set : Bool) (bit : ℕ) (k : ℤ) → form_words (LongBranch set bit k) ≡ 2
long_branch true bit k = refl
long_branch false bit k = refl

pub group_words : (with_sreg : Bool) → form_words (Whole (unit.SpGroup with_sreg)) ≡ spelled_length (unit.SpGroup with_sreg) Long
group_words true = refl
group_words false = refl

pub five_words : (with_sreg : Bool) → spelled_length (unit.SpGroup with_sreg) Long ≤ 5
five_words true = omega arith
five_words false = omega arith

pub ruleset instruction_lengths = (instruction_two)

pub ruleset unit_lengths = (group_words, five_words)

pub ruleset lengths = (short_branch, long_branch)
