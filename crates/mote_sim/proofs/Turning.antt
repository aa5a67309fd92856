-- Turns one after the other: they lead to one end, and what they wrote before stands in front of all that they write.
use Rattle.std.proofs.Common.{◌≡◌, ◌≢◌, ◌∙◌, ◌⊎◌, inl, inr, ℕ, zero, suc, ◌≤◌, List, [], ◌++◌, refl, sym, ap, subst, arith, append_assoc, append-nil}
use Rattle.std.proofs.lemmas.Bool.{cases_lt}
use Rattle.domain_model.specs.declared.event.Choice.{Choice}
use Rattle.domain_model.specs.declared.event.Choice.TheVariants.{Stays}
use Rattle.domain_model.specs.declared.event.Turned.{Turned}
use Rattle.domain_model.specs.declared.event.Turned.TheVariants.{More, EndIdle, EndBudget}
use Rattle.domain_model.specs.declared.line.TraceLine.{TraceLine}
use Rattle.domain_model.specs.State.{State}
use Rattle.domain_model.specs.Turn.{choose_ended}
use Rattle.mote_core.specs.Exact.{Turning, Workings, turned, turned_by}
use Rattle.mote_core.specs.Value.{MoteValue, state_of}
use Rattle.mote_sim.specs.Turns.{EndsAt, LeadsTo, one_more, turns}

-- a run goes on or has ended
pub stands : (t : Turned) → (t ≡ More) ⊎ (t ≢ More)
stands More = inl refl
stands EndIdle = inr (λ e. absurd (cc))
stands EndBudget = inr (λ e. absurd (cc))

-- after the end no turn comes
none_comes : (t : Turned) (s : State) → t ≢ More → choose_ended t s ≡ Stays
none_comes More s over = absurd (over refl)
none_comes EndIdle s over = refl
none_comes EndBudget s over = refl

module _ {R : Type 0} (w : Workings R) where
  -- After the end a turn changes nothing and writes nothing.
  pub turn_stays : (m : MoteValue R) → m.ended ≢ More → turned w m ≡ record { value = m; lines = [] }
  turn_stays m over = ap (λ (c : Choice). turned_by w c m) (none_comes m.ended (state_of w.part m) over)

  pub more_stays : (t : Turning R) → t.value.ended ≢ More → one_more w t ≡ t
  more_stays t over =
      ap (λ (n : Turning R). record { value = n.value; lines = t.lines ++ n.lines }) (turn_stays t.value over)
      ∙ ap (λ (ls : List TraceLine). record { value = t.value; lines = ls }) (append-nil t.lines)

  -- Turns beyond the end are as the end.
  same_past : (n b : ℕ) (m : MoteValue R) → (turns w n m).value.ended ≢ More → n ≤ b → turns w b m ≡ turns w n m
  same_past n zero m over le = ap (λ k. turns w k m) (let none : zero ≡ n = omega (arith, le) in none)
  same_past n (suc b) m over le =
      elim (cases_lt b n) [
        | inr within ↦ ap (one_more w) (same_past n b m over within) ∙ more_stays (turns w n m) over
        | inl past ↦ ap (λ k. turns w k m) (let last : suc b ≡ n = omega (arith, le, past) in last)
      ]

  -- Two ends of one mote's turns are one.
  ends_alike : (m : MoteValue R) (a b : Turning R) (n k : ℕ) → turns w n m ≡ a → turns w k m ≡ b → a.value.ended ≢ More → b.value.ended ≢ More → a ≡ b
  ends_alike m a b n k first second over_a over_b =
      elim (cases_lt k n) [
        | inr low ↦ sym first ∙ sym (same_past n k m (subst (λ (t : Turning R). t.value.ended ≢ More) (sym first) over_a) low) ∙ second
        | inl high ↦
            let le : k ≤ n = omega (arith, high) in
            sym first ∙ same_past k n m (subst (λ (t : Turning R). t.value.ended ≢ More) (sym second) over_b) le ∙ second
      ]

  pub one_end : (m : MoteValue R) (lines others : List TraceLine) (last other : MoteValue R) → EndsAt w m lines last → EndsAt w m others other → ◌≡◌ {A = Turning R} (record { value = last; lines = lines }) (record { value = other; lines = others })
  one_end m lines others last other a b =
      ends_alike m (record { value = last; lines = lines }) (record { value = other; lines = others }) a.leads.count b.leads.count a.leads.are b.leads.are a.ended b.ended

  -- What turns wrote stands in front of what more turns write.
  front_of : (n b : ℕ) (m : MoteValue R) → n ≤ b → (rest : List TraceLine) × ((turns w b m).lines ≡ (turns w n m).lines ++ rest)
  front_of n zero m le =
      let none : zero ≡ n = omega (arith, le) in
      ([], ap (λ k. (turns w k m).lines) none ∙ sym (append-nil (turns w n m).lines))
  front_of n (suc b) m le =
      elim (cases_lt b n) [
        | inr within ↦
            let before = front_of n b m within in
            let next : List TraceLine = (turned w (turns w b m).value).lines in
            (before.0 ++ next, ap (λ ls. ls ++ next) before.1 ∙ append_assoc (turns w n m).lines before.0 next)
        | inl past ↦
            let last : suc b ≡ n = omega (arith, le, past) in
            ([], ap (λ k. (turns w k m).lines) last ∙ sym (append-nil (turns w n m).lines))
      ]

  told_first : (m : MoteValue R) (told whole : Turning R) (n k : ℕ) → turns w n m ≡ told → turns w k m ≡ whole → whole.value.ended ≢ More → (rest : List TraceLine) × (whole.lines ≡ told.lines ++ rest)
  told_first m told whole n k first second over =
      elim (cases_lt k n) [
        | inr low ↦
            let front = front_of n k m low in
            (front.0, ap (λ (t : Turning R). t.lines) (sym second) ∙ front.1 ∙ ap (λ (t : Turning R). t.lines ++ front.0) first)
        | inl high ↦
            let le : k ≤ n = omega (arith, high) in
            let same : told ≡ whole = sym first ∙ same_past k n m (subst (λ (t : Turning R). t.value.ended ≢ More) (sym second) over) le ∙ second in
            ([], ap (λ (t : Turning R). t.lines) (sym same) ∙ sym (append-nil told.lines))
      ]

  pub front_of_end : (m : MoteValue R) (told whole : List TraceLine) (now last : MoteValue R) → LeadsTo w m told now → EndsAt w m whole last → (rest : List TraceLine) × (whole ≡ told ++ rest)
  front_of_end m told whole now last a b =
      told_first m (record { value = now; lines = told }) (record { value = last; lines = whole }) a.count b.leads.count a.are b.leads.are b.ended

  -- before the first turn, and behind one more
  pub leads_start : (m : MoteValue R) → LeadsTo w m [] m
  leads_start m = record { count = zero; are = refl }

  pub leads_more : (m here there : MoteValue R) (told lines : List TraceLine) → LeadsTo w m told here → record { value = there; lines = lines } ≡ turned w here → LeadsTo w m (told ++ lines) there
  leads_more m here there told lines so_far is = record {
    count = suc so_far.count;
    are = ap (one_more w) so_far.are ∙ ap (λ (t : Turning R). record { value = t.value; lines = told ++ t.lines }) (sym is);
  }
