-- A walk once round a queue that takes out the first message that passes a test.
use Rattle.std.proofs.Common.{◌≡◌, ℕ, ◌+◌, ◌<◌, Bool, true, false, List, [], ◌∷◌, ◌++◌, length, drop, slice_get, find, Option, Some, None, is_some, refl, sym, ap, ◌∙◌, arith, append_assoc, append-nil, length-append}
use Rattle.mote_base.specs.Messages.{without_first}
use Rattle.msg_queue.proofs.Taken.{find-back, without-none, without-back, find-left, without-left, some-inj}

module _ {A : Type 0} where
  -- After `steps` steps: `passed` has been passed and stands, but for what was taken, behind what is ahead.
  pub record Round (test : A → Bool) (all : List A) (steps : ℕ) (items : List A) (taken : Option A) : Type 0 where
    pub passed : List A
    pub ahead : List A
    pub has_passed : length passed ≡ steps
    pub parts : all ≡ passed ++ ahead
    pub stand : items ≡ ahead ++ without_first test passed
    pub found : taken ≡ find test passed

  -- before the first step
  pub round_start : (test : A → Bool) (xs : List A) → Round test xs 0 xs None
  round_start test xs =
      record { passed = []; ahead = xs; has_passed = refl; parts = refl; stand = sym (append-nil xs); found = refl }

  -- the step takes the front
  pub round_takes : (test : A → Bool) (all : List A) (steps : ℕ) (items : List A) (m : A) → Round test all steps items None → steps < length all → slice_get items 0 ≡ Some m → test m ≡ true → Round test all (steps + 1) (drop 1 items) (Some m)
  round_takes test all steps items m r more front passes =
      let go : (ahead : List A) → all ≡ r.passed ++ ahead → items ≡ ahead ++ without_first test r.passed → Round test all (steps + 1) (drop 1 items) (Some m) = elim [
        | [] ↦ λ parts _. absurd (omega (arith, ap length parts, ap length (append-nil r.passed), r.has_passed, more))
        | n ∷ ahead ↦ λ parts stand.
            let same : n ≡ m = some-inj (sym (ap (λ xs. slice_get xs 0) stand) ∙ front) in
            let none : is_some (find test r.passed) ≡ false = sym (ap is_some r.found) in
            record {
              passed = r.passed ++ m ∷ [];
              ahead = ahead;
              has_passed = omega (arith, length-append r.passed (m ∷ []), r.has_passed);
              parts = parts ∙ ap (λ x. r.passed ++ (x ∷ ahead)) same ∙ sym (append_assoc r.passed (m ∷ []) ahead);
              stand = ap (λ xs. drop 1 xs) stand ∙ ap (λ xs. ahead ++ xs) (without-none test r.passed none ∙ sym (append-nil r.passed) ∙ sym (without-back test r.passed (m ∷ []) none ∙ ap (λ xs. r.passed ++ xs) (rw passes refl)));
              found = sym (find-back test r.passed (m ∷ []) none ∙ rw passes refl);
            }
      ] in
      go r.ahead r.parts r.stand

  -- the step puts the front back at the end
  pub round_leaves : (test : A → Bool) (all : List A) (steps : ℕ) (items : List A) (taken : Option A) (m : A) → Round test all steps items taken → steps < length all → slice_get items 0 ≡ Some m → (is_some taken ≡ false → test m ≡ false) → Round test all (steps + 1) (drop 1 items ++ m ∷ []) taken
  round_leaves test all steps items taken m r more front fails =
      let go : (ahead : List A) → all ≡ r.passed ++ ahead → items ≡ ahead ++ without_first test r.passed → Round test all (steps + 1) (drop 1 items ++ m ∷ []) taken = elim [
        | [] ↦ λ parts _. absurd (omega (arith, ap length parts, ap length (append-nil r.passed), r.has_passed, more))
        | n ∷ ahead ↦ λ parts stand.
            let same : n ≡ m = some-inj (sym (ap (λ xs. slice_get xs 0) stand) ∙ front) in
            record {
              passed = r.passed ++ m ∷ [];
              ahead = ahead;
              has_passed = omega (arith, length-append r.passed (m ∷ []), r.has_passed);
              parts = parts ∙ ap (λ x. r.passed ++ (x ∷ ahead)) same ∙ sym (append_assoc r.passed (m ∷ []) ahead);
              stand = ap (λ xs. drop 1 xs ++ m ∷ []) stand ∙ append_assoc ahead (without_first test r.passed) (m ∷ []) ∙ ap (λ xs. ahead ++ xs) (sym (without-left test r.passed m (λ none. fails (ap is_some r.found ∙ none))));
              found = r.found ∙ sym (find-left test r.passed m (λ none. fails (ap is_some r.found ∙ none)));
            }
      ] in
      go r.ahead r.parts r.stand

  -- at the end
  pub round_end : (test : A → Bool) (all : List A) (items : List A) (taken : Option A) → Round test all (length all) items taken → (taken ≡ find test all) × (items ≡ without_first test all)
  round_end test all items taken r =
      let go : (ahead : List A) → all ≡ r.passed ++ ahead → items ≡ ahead ++ without_first test r.passed → (taken ≡ find test all) × (items ≡ without_first test all) = elim [
        | [] ↦ λ parts stand.
            let same : all ≡ r.passed = parts ∙ append-nil r.passed in
            (r.found ∙ ap (find test) (sym same), stand ∙ ap (without_first test) (sym same))
        | n ∷ ahead ↦ λ parts _. absurd (omega (arith, ap length parts, length-append r.passed (n ∷ ahead), r.has_passed))
      ] in
      go r.ahead r.parts r.stand
