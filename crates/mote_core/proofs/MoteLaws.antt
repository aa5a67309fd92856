-- The turns of a mote that is seen as a state, with any unit that the machine's step leaves open.
use Rattle.std.proofs.Common.{◌≡◌, ◌∙◌, sym, ap, subst, List, slice_get}
use Rattle.domain_model.specs.declared.event.Choice.{Choice}
use Rattle.domain_model.specs.declared.line.TraceLine.{TraceLine}
use Rattle.domain_model.specs.State.{State}
use Rattle.domain_model.specs.Act.{Acted}
use Rattle.domain_model.specs.Turn.{choice, made, May, Leaves, Turn}
use Rattle.domain_model.specs.Facts.{Facts}
use Rattle.domain_model.specs.Good.{Good}
use Rattle.domain_model.specs.Runners.{without_ran, without_ran_lines}
use Rattle.mote_core.specs.Exact.{Turning}
use Rattle.mote_core.specs.Value.{MoteValue}
use Rattle.domain_model.proofs.ChoiceLaws.{choice_facts}
use Rattle.domain_model.proofs.RanLaws.{state_without_ran, lines_without_ran}
use Rattle.domain_model.proofs.TurnLaws.{made_good, leaves_itself, turn_by}

-- what a choice that comes next says
pub facts_of : (c : Choice) (s : State) → choice s ≡ c → Facts c s
facts_of c s next = subst (λ (x : Choice). Facts x s) next (choice_facts s)

-- what the turn makes, in the words of the machine
same_state : (c : Choice) (s t : State) (got : Acted) → t ≡ (made c s got).state → t ≡ (made c s (without_ran_lines got)).state
same_state c s t got is = is ∙ state_without_ran c s got

-- it is good
pub good_of : (c : Choice) (s t : State) (got : Acted) → Good s → choice s ≡ c → May c s (without_ran_lines got) → t ≡ (made c s got).state → Good t
good_of c s t got good next may is =
    subst Good (sym (same_state c s t got is)) (made_good c s (without_ran_lines got) good (facts_of c s next) may)

-- and a turn, without the lines of instructions
pub turn_of : (c : Choice) (s t : State) (got : Acted) (lines : List TraceLine) → Good s → choice s ≡ c → May c s (without_ran_lines got) → t ≡ (made c s got).state → lines ≡ (made c s got).lines → Turn s t (without_ran lines)
turn_of c s t got lines good next may is tells =
    let want : State = (made c s (without_ran_lines got)).state in
    let left = leaves_itself c want (made_good c s (without_ran_lines got) good (facts_of c s next) may) in
    turn_by c s t (without_ran_lines got) (without_ran lines) next may
    (subst (λ (x : State). Leaves c want x) (sym (same_state c s t got is)) left) (ap without_ran tells ∙ lines_without_ran c s got)

-- a mote's first event
pub same_first : {R : Type 0} {m n : MoteValue R} → m ≡ n → slice_get m.events 0 ≡ slice_get n.events 0
same_first {R} e = ap (λ (m : MoteValue R). slice_get m.events 0) e

-- a mote and lines that are those of a turn
pub turning_is : {R : Type 0} (t : Turning R) (m : MoteValue R) (lines : List TraceLine) → m ≡ t.value → lines ≡ t.lines → record { value = m; lines = lines } ≡ t
turning_is {R} t m lines is tells =
    ap (λ (x : MoteValue R). record { value = x; lines = lines }) is ∙ ap (λ (ls : List TraceLine). record { value = t.value; lines = ls }) tells
