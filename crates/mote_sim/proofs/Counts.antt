-- How many files a command has.
use Rattle.std.proofs.Common.{◌≡◌, ℕ, ◌+◌, ◌≤◌, suc, arith, refl, Bool, true, false, ◌&&◌, List, length, Some}
use Rattle.std.specs.Prelude.{IsTrue, nat_le, ◌==◌}
use Rattle.std.proofs.lemmas.Bool.{leb-true, eqb-true}
use Rattle.mote_layout.specs.Limits.{images_limit}
use Rattle.command_line.specs.declared.command.Kind.TheVariants as kinds
use Rattle.command_line.specs.Command.{Command, takes, command_of}
use Rattle.command_line.proofs.CommandLaws.{commands_are_by_rules}

-- The command has as many files as its kind may take.
abbrev pub HasItsFiles : Command → Type 0
HasItsFiles c = IsTrue (takes c.kind (length c.files))

pub has_its_files : (words : List (List ℕ)) (c : Command) → command_of words ≡ Some c → HasItsFiles c
has_its_files words c e = ((commands_are_by_rules words c).0 e).number

both_true : (a b : Bool) → (a && b) ≡ true → (a ≡ true) × (b ≡ true)
both_true true true e = (refl, refl)
both_true true false e = absurd (cc)
both_true false b e = absurd (cc)

-- A run has an image, and no more than the limit.
pub one_at_least : (units handler : ℕ) (words : Bool) (n : ℕ) → IsTrue (takes (kinds.Run units handler words) (suc n)) → 1 ≤ n
one_at_least units handler words n is = let low = leb-true 2 (suc n) (both_true (nat_le 2 (suc n)) (nat_le (suc n) (1 + images_limit)) is).0 in omega (arith, low)

pub most_images : (units handler : ℕ) (words : Bool) (n : ℕ) → IsTrue (takes (kinds.Run units handler words) (suc n)) → n ≤ images_limit
most_images units handler words n is =
    let high = leb-true (suc n) (1 + images_limit) (both_true (nat_le 2 (suc n)) (nat_le (suc n) (1 + images_limit)) is).1 in omega (arith, high)

-- A command of one file has no second one.
pub one_alone : (n : ℕ) → IsTrue (suc (suc n) == 1) → ⊥
one_alone n is = let e = eqb-true (suc (suc n)) 1 is in absurd (omega (arith, e))
