-- The code of a module has units.
use Rattle.std.proofs.Common.{◌≡◌, ℕ, ◌+◌, ◌<◌, [], ◌∷◌, Bool, true, false, refl, Option, Some, None, arith}
use Rattle.std.specs.Prelude.{is_none}
use Rattle.std.specs.List.{list_all, range_with_len}
use Rattle.avr_isa.specs.Decoded.{decoded}
use Rattle.mote_layout.specs.Page as layout
use Rattle.unit_code.specs.declared.error.CodeError.{CodeError}
use Rattle.unit_code.specs.Items.{found}
use Rattle.unit_code.specs.Kinds.{standing_of}
use Rattle.unit_code.specs.Law.{NoneHolds}
use Rattle.unit_code.specs.Refusals.{refusal_of_items, refusal_of_units, stray_mark}
use Rattle.unit_code.specs.Targets.{number_of, reached}
use Rattle.unit_code.specs.Units.{refusal}
use Rattle.unit_code.proofs.FirstLaw.{no_refusal_none_holds}
use Rattle.mote_gen.specs.Modules.{code_of, count_bound, receiver_bound}
use Rattle.mote_gen.proofs.Lists.{test_at}

-- Whether no condition refuses the code that counts down from one more than the first and posts to one more than the second.
has_units : ℕ → ℕ → Bool
has_units count receiver = is_none (refusal (code_of (1 + count) (1 + receiver)) (0 ∷ []) false)

have_units : ℕ → Bool
have_units count = list_all (has_units count) (range_with_len 0 receiver_bound)

all_have_units : list_all have_units (range_with_len 0 count_bound) ≡ true
unfolding has_units have_units refusal refusal_of_items refusal_of_units stray_mark number_of reached found decoded standing_of layout.page
all_have_units = refl

none_is : (o : Option CodeError) → is_none o ≡ true → o ≡ None
none_is None is = refl
none_is (Some e) is = absurd (cc)

refuses_none : (count receiver : ℕ) → count < count_bound → receiver < receiver_bound
    → refusal (code_of (1 + count) (1 + receiver)) (0 ∷ []) false ≡ None
unfolding has_units have_units
refuses_none count receiver counts receives =
    let for_count : have_units count ≡ true = test_at have_units 0 count_bound count count all_have_units counts (omega arith) in
    none_is (refusal (code_of (1 + count) (1 + receiver)) (0 ∷ []) false)
    (test_at (has_units count) 0 receiver_bound receiver receiver for_count receives (omega arith))

pub no_condition_holds : (count receiver : ℕ) → count < count_bound → receiver < receiver_bound
    → NoneHolds (code_of (1 + count) (1 + receiver)) (0 ∷ []) false
no_condition_holds count receiver counts receives =
    no_refusal_none_holds (code_of (1 + count) (1 + receiver)) (0 ∷ []) false (omega arith) (refuses_none count receiver counts receives)
