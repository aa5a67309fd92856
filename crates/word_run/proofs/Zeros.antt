-- Bytes that become 0 in memories that are the same but for free bytes.
use Rattle.std.proofs.Common.{◌≡◌, ◌∙◌, ℕ, ◌+◌, ◌-◌, ◌<◌, ◌≤◌, Bool, List, ◌++◌, length, replicate, take, drop, get_or, sym, ap, arith, inl, inr}
use Rattle.std.specs.Prelude.{slice_index}
use Rattle.std.proofs.lemmas.Bool.{cases_lt}
use Rattle.std.proofs.lemmas.List.{get_or-append_right, get_or-drop, get_or-replicate, get_or-take, get_or_append_left, length-replicate, length-take-le}
use Rattle.domain_model.specs.State.{with_zeros}
use Rattle.domain_model.proofs.BlockLaws.{zeros_length}
use Rattle.domain_model.proofs.ByteLists.{zeros_bytes}
use Rattle.word_run.proofs.Same.{IsBut}

module _ (xs : List ℕ) (place n j : ℕ) (fits : place ≤ length xs) where
  pub zeros_before : j < place → slice_index (with_zeros xs place n) j ≡ slice_index xs j
  zeros_before low =
      get_or_append_left (take place xs) (replicate n 0 ++ drop (place + n) xs) 0 j (omega (arith, low, length-take-le place xs fits))
      ∙ get_or-take place xs j 0 low

  pub zeros_there : place ≤ j → j < place + n → slice_index (with_zeros xs place n) j ≡ 0
  zeros_there low high =
      get_or-append_right (take place xs) (replicate n 0 ++ drop (place + n) xs) place j 0 (length-take-le place xs fits) low
      ∙ get_or_append_left (replicate n 0) (drop (place + n) xs) 0 (j - place) (omega (arith, low, high, length-replicate {A = ℕ} n 0))
      ∙ get_or-replicate n (j - place) 0 0 (omega (arith, low, high))

  pub zeros_past : place + n ≤ j → slice_index (with_zeros xs place n) j ≡ slice_index xs j
  zeros_past past =
      let at : place + n + (j - place - n) ≡ j = omega (arith, past) in
      get_or-append_right (take place xs) (replicate n 0 ++ drop (place + n) xs) place j 0 (length-take-le place xs fits) (omega (arith, past))
      ∙ get_or-append_right (replicate n 0) (drop (place + n) xs) n (j - place) 0 (length-replicate {A = ℕ} n 0) (omega (arith, past))
      ∙ get_or-drop (place + n) xs (j - place - n) 0
      ∙ ap (λ m. get_or xs m 0) at

pub but_zeros : (free : ℕ → Bool) (want got : List ℕ) (place n : ℕ) → place + n ≤ length want → IsBut free want got → IsBut free (with_zeros want place n) (with_zeros got place n)
but_zeros free want got place n fits h =
    let long = h.same_length in
    let got_fits : place + n ≤ length got = omega (arith, fits, long) in
    record {
      same_length = zeros_length got place n got_fits ∙ long ∙ sym (zeros_length want place n fits);
      same = λ j kept. elim (cases_lt j place) [
        | inl low ↦ zeros_before got place n j (omega (arith, got_fits)) low ∙ h.same j kept ∙ sym (zeros_before want place n j (omega (arith, fits)) low)
        | inr from ↦ elim (cases_lt j (place + n)) [
          | inl within ↦ zeros_there got place n j (omega (arith, got_fits)) from within ∙ sym (zeros_there want place n j (omega (arith, fits)) from within)
          | inr past ↦ zeros_past got place n j (omega (arith, got_fits)) past ∙ h.same j kept ∙ sym (zeros_past want place n j (omega (arith, fits)) past)
        ]
      ];
      bytes = zeros_bytes got place n h.bytes;
    }
