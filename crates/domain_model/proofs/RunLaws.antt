-- Every run from a good state ends.
use Rattle.std.proofs.Common.{◌≡◌, ◌≢◌, ℕ, zero, suc, ◌+◌, ◌<◌, ◌⊎◌, inl, inr, List, [], ◌++◌, append_assoc, refl, sym, subst, arith}
use Rattle.domain_model.specs.declared.event.Turned.{Turned}
use Rattle.domain_model.specs.declared.event.Turned.TheVariants.{More, EndIdle, EndBudget}
use Rattle.domain_model.specs.declared.line.TraceLine.{TraceLine}
use Rattle.domain_model.specs.State.{State}
use Rattle.domain_model.specs.Act.{act}
use Rattle.domain_model.specs.Turn.{choice, made, Made, Turn, RunFrom, over, more}
use Rattle.domain_model.specs.Good.{Good}
use Rattle.domain_model.specs.Laws.{RunsEnd}
use Rattle.domain_model.specs.Remaining.{remaining}
use Rattle.domain_model.proofs.TurnLaws.{turn_made, turn_good}
use Rattle.domain_model.proofs.FewerLaws.{remaining_falls}

-- a run stands on or has ended
stands : (t : Turned) → (t ≡ More) ⊎ (t ≢ More)
stands More = inl refl
stands EndIdle = inr (λ e. absurd (cc))
stands EndBudget = inr (λ e. absurd (cc))

-- the state and the lines of the next turn, where no free byte changes
abbrev next : State → Made
next s = made (choice s) s (act s.kernel s.runner)

ends_within : (n : ℕ) (s : State) → Good s → remaining s < n → (lines : List TraceLine) × RunFrom s lines
ends_within zero s g h = absurd (omega (arith, h))
ends_within (suc n) s g h =
    elim (stands s.ended) [
      | inr ended ↦ ([], over ended)
      | inl live ↦
          let fewer = remaining_falls s (next s).state (next s).lines g live (turn_made s g) in
          let rest = ends_within n (next s).state (turn_good s (next s).state (next s).lines g (turn_made s g)) (omega (arith, fewer, h)) in
          ((next s).lines ++ rest.0, more (next s).state (next s).lines rest.0 live (turn_made s g) rest.1)
    ]

pub runs_end : RunsEnd
runs_end s g = ends_within (remaining s + 1) s g (omega arith)

-- A run so far leads from the first state to a later one: what runs on from there is a run from the first.
pub run_on : (first s t : State) (told lines : List TraceLine) → ((rest : List TraceLine) → RunFrom s rest → RunFrom first (told ++ rest)) → s.ended ≡ More → Turn s t lines → (rest : List TraceLine) → RunFrom t rest → RunFrom first ((told ++ lines) ++ rest)
run_on first s t told lines so_far live turn rest run =
    subst (RunFrom first) (sym (append_assoc told lines rest)) (so_far (lines ++ rest) (more t lines rest live turn run))
