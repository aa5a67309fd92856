-- A run whose lines were counted up to a state.
use Rattle.std.proofs.Common.{◌≡◌, ◌≢◌, ℕ, ◌+◌, ◌*◌, ◌≤◌, ◌<◌, ◌^◌, suc, Bool, true, false, List, [], ◌∷◌, ◌++◌, ◌∙◌, refl, sym, ap, subst, arith, length, drop, get_or, length-append, Option, Some, None}
use Rattle.std.proofs.Math.Seq.{drop-cons}
use Rattle.std.specs.List.{count_by}
use Rattle.std.proofs.lemmas.List.Sums.{sum_by-append, count_by-le-length}
use Rattle.mote_layout.specs.Limits.{turn_lines, unit_limit, event_limit}
use Rattle.domain_model.specs.declared.event.Turned.{Turned}
use Rattle.domain_model.specs.declared.event.Turned.TheVariants.{More, EndIdle, EndBudget}
use Rattle.domain_model.specs.declared.event.LoaderEvent.{LoaderEvent}
use Rattle.domain_model.specs.declared.event.Packet.{Packet}
use Rattle.domain_model.specs.declared.line.TraceLine.{TraceLine}
use Rattle.domain_model.specs.declared.script.Event.{Event}
use Rattle.domain_model.specs.Events.{packets_in, loader_events, onto_packets, onto_events, packet_of, loader_event}
use Rattle.domain_model.specs.Remaining.{remaining, one_if, is_quiet, goes_on}
use Rattle.domain_model.specs.State.{State, Input, start}
use Rattle.word_run.specs.FlashValue.{FlashValue, part}
use Rattle.mote_core.specs.Exact.{turned}
use Rattle.mote_core.specs.Value.{MoteValue, state_of}
use Rattle.mote_sim.specs.declared.summary.Summary.{Summary}
use Rattle.mote_sim.specs.declared.tally.Tally.{Tally}
use Rattle.mote_sim.specs.Generating.{SumsUpFrom}
use Rattle.mote_sim.specs.Summary.{is_load, is_run, is_queued, is_drop, is_fault, tally_of, with_lines, IsKept}
use Rattle.mote_sim.specs.Turns.{LeadsTo}
use Rattle.mote_sim.specs.WordRun.{by_words}
use Rattle.mote_sim.proofs.Turning.{leads_more, leads_start}

abbrev tally_with : ℕ → ℕ → ℕ → ℕ → ℕ → Tally
tally_with loads runs queued drops faults = record { loads = loads; runs = runs; queued = queued; drops = drops; faults = faults }

same_tally : (l r q d f l' r' q' d' f' : ℕ) → l ≡ l' → r ≡ r' → q ≡ q' → d ≡ d' → f ≡ f' → tally_with l r q d f ≡ tally_with l' r' q' d' f'
same_tally l r q d f l' r' q' d' f' loads runs queued drops faults =
    ap (λ n. tally_with n r q d f) loads ∙ ap (λ n. tally_with l' n q d f) runs ∙ ap (λ n. tally_with l' r' n d f) queued
    ∙ ap (λ n. tally_with l' r' q' n f) drops ∙ ap (λ n. tally_with l' r' q' d' n) faults

-- Lines, and those behind them.
count_both : (p : TraceLine → Bool) (front back : List TraceLine) → count_by p (front ++ back) ≡ count_by p front + count_by p back
count_both p front back = sum_by-append _ front back

count_more : (p : TraceLine → Bool) (n : ℕ) (front back : List TraceLine) → n + count_by p front + count_by p back ≡ n + count_by p (front ++ back)
count_more p n front back = omega (arith, count_both p front back)

pub with_more : (t : Tally) (front back : List TraceLine) → with_lines (with_lines t front) back ≡ with_lines t (front ++ back)
with_more t front back =
    same_tally _ _ _ _ _ _ _ _ _ _ (count_more is_load t.loads front back) (count_more is_run t.runs front back) (count_more is_queued t.queued front back)
    (count_more is_drop t.drops front back) (count_more is_fault t.faults front back)

pub with_none : (t : Tally) → with_lines t [] ≡ t
with_none t =
    let none : (n : ℕ) → n + 0 ≡ n = λ n. omega arith in
    same_tally _ _ _ _ _ _ _ _ _ _ (none t.loads) (none t.runs) (none t.queued) (none t.drops) (none t.faults)

tally_more : (front back : List TraceLine) → with_lines (tally_of front) back ≡ tally_of (front ++ back)
tally_more front back =
    same_tally _ _ _ _ _ _ _ _ _ _ (sym (count_both is_load front back)) (sym (count_both is_run front back)) (sym (count_both is_queued front back))
    (sym (count_both is_drop front back)) (sym (count_both is_fault front back))

-- With fewer lines its numbers can be kept too.
less : (p : TraceLine → Bool) (n : ℕ) (front back : List TraceLine) → n + count_by p (front ++ back) < 2 ^ 64 → n + count_by p front < 2 ^ 64
less p n front back few = omega (arith, count_both p front back, few)

pub kept_front : (t : Tally) (front back : List TraceLine) → IsKept (with_lines t (front ++ back)) → IsKept (with_lines t front)
kept_front t front back kept = record {
  loads = less is_load t.loads front back kept.loads;
  runs = less is_run t.runs front back kept.runs;
  queued = less is_queued t.queued front back kept.queued;
  drops = less is_drop t.drops front back kept.drops;
  faults = less is_fault t.faults front back kept.faults;
}

-- The line at a place, and those behind it.
pub line_at : (told : List TraceLine) (i : ℕ) (line : TraceLine) → i < length told → line ≡ get_or told i line → drop i told ≡ (line ∷ []) ++ drop (i + 1) told
line_at told i line within is =
    drop-cons told i line within ∙ ap (λ x. x ∷ drop (suc i) told) (sym is)
    ∙ ap (λ k. line ∷ drop k told) (let next : suc i ≡ i + 1 = omega arith in next)

-- Turns led to here; the tally is that of their lines, and there are no more of them than the turns have left room for.
pub record Counted (first here : MoteValue FlashValue) (tally : Tally) : Type 0 where
  pub told : List TraceLine
  pub turns : LeadsTo by_words first told here
  pub is : tally ≡ tally_of told
  pub few : length told + turn_lines * remaining (state_of part here) ≤ turn_lines * remaining (state_of part first)

-- before the first turn
pub counted_start : (first : MoteValue FlashValue) (tally : Tally) → tally ≡ tally_of [] → Counted first first tally
counted_start first tally is = record { told = []; turns = leads_start by_words first; is = is; few = omega arith }

-- The lines of a turn can be counted, where all lines that may come can be.
one_kept : (p : TraceLine → Bool) (n : ℕ) (told lines : List TraceLine) (before now all : ℕ) → n ≡ count_by p told → length told + turn_lines * before ≤ turn_lines * all → now < before → length lines ≤ turn_lines → turn_lines * all < 2 ^ 64 → n + count_by p lines < 2 ^ 64
one_kept p n told lines before now all is few falls short room =
    omega (arith, is, few, falls, short, room, count_by-le-length p told, count_by-le-length p lines)

pub counted_kept : {first here : MoteValue FlashValue} {tally : Tally} → Counted first here tally → (there : MoteValue FlashValue) (lines items : List TraceLine) → remaining (state_of part there) < remaining (state_of part here) → length lines ≤ turn_lines → items ≡ lines → turn_lines * remaining (state_of part first) < 2 ^ 64 → IsKept (with_lines tally items)
counted_kept {first = first} {here = here} {tally = tally} c there lines items falls short are room =
    subst (λ ls. IsKept (with_lines tally ls)) (sym are) (record {
      loads = one_kept is_load tally.loads c.told lines (remaining (state_of part here)) (remaining (state_of part there)) (remaining (state_of part first)) (ap (λ (t : Tally). t.loads) c.is) c.few falls short room;
      runs = one_kept is_run tally.runs c.told lines (remaining (state_of part here)) (remaining (state_of part there)) (remaining (state_of part first)) (ap (λ (t : Tally). t.runs) c.is) c.few falls short room;
      queued = one_kept is_queued tally.queued c.told lines (remaining (state_of part here)) (remaining (state_of part there)) (remaining (state_of part first)) (ap (λ (t : Tally). t.queued) c.is) c.few falls short room;
      drops = one_kept is_drop tally.drops c.told lines (remaining (state_of part here)) (remaining (state_of part there)) (remaining (state_of part first)) (ap (λ (t : Tally). t.drops) c.is) c.few falls short room;
      faults = one_kept is_fault tally.faults c.told lines (remaining (state_of part here)) (remaining (state_of part there)) (remaining (state_of part first)) (ap (λ (t : Tally). t.faults) c.is) c.few falls short room;
    })

-- a turn whose lines were counted
pub counted_turn : {first here : MoteValue FlashValue} {tally : Tally} → Counted first here tally → (there : MoteValue FlashValue) (lines items : List TraceLine) (now : Tally) → record { value = there; lines = lines } ≡ turned by_words here → remaining (state_of part there) < remaining (state_of part here) → length lines ≤ turn_lines → items ≡ lines → now ≡ with_lines tally items → Counted first there now
counted_turn {first = first} {here = here} {tally = tally} c there lines items now turn falls short are counts = record {
  told = c.told ++ lines;
  turns = leads_more by_words first here there c.told lines c.turns turn;
  is = counts ∙ ap (λ t. with_lines t items) c.is ∙ ap (λ ls. with_lines (tally_of c.told) ls) are ∙ tally_more c.told lines;
  few = omega (arith, c.few, falls, short, length-append c.told lines);
}

abbrev summary_with : ℕ → Tally → Turned → Summary
summary_with units tally ended = record { units = units; tally = tally; ended = ended }

same_summary : (u u' : ℕ) (t t' : Tally) (e e' : Turned) → u ≡ u' → t ≡ t' → e ≡ e' → summary_with u t e ≡ summary_with u' t' e'
same_summary u u' t t' e e' units tally ended = ap (λ n. summary_with n t e) units ∙ ap (λ x. summary_with u' x e) tally ∙ ap (λ x. summary_with u' t' x) ended

-- the run has ended
pub counted_over : {first here : MoteValue FlashValue} {tally : Tally} → Counted first here tally → here.ended ≢ More → (units : ℕ) (turned : Turned) → units ≡ here.total → turned ≡ here.ended → SumsUpFrom first here (record { units = units; tally = tally; ended = turned })
counted_over {here = here} {tally = tally} c ended units turned total same = record {
  lines = c.told;
  run = record { leads = c.turns; ended = ended };
  is = same_summary units here.total tally (tally_of c.told) turned here.ended total c.is same;
}

-- A run goes on or has ended.
pub live_by : (t : Turned) → goes_on t ≡ true → t ≡ More
live_by More is = refl
live_by EndIdle is = absurd (cc)
live_by EndBudget is = absurd (cc)

pub ended_by : (t : Turned) → goes_on t ≡ false → t ≢ More
ended_by More is = absurd (cc)
ended_by EndIdle is = λ e. absurd (cc)
ended_by EndBudget is = λ e. absurd (cc)

-- How many lines may come, where a run begins.
onto_few : (p : Option Packet) (packets : List Packet) → length (onto_packets p packets) ≤ length packets + 1
onto_few None packets = omega arith
onto_few (Some packet) packets = omega arith

few_packets : (events : List Event) → length (packets_in events) ≤ length events
few_packets [] = omega arith
few_packets (e ∷ events) = omega (arith, onto_few (packet_of e) (packets_in events), few_packets events)

onto_less : (l : Option LoaderEvent) (events : List LoaderEvent) → length (onto_events l events) ≤ length events + 1
onto_less None events = omega arith
onto_less (Some event) events = omega arith

few_events : (events : List Event) → length (loader_events events) ≤ length events
few_events [] = omega arith
few_events (e ∷ events) = omega (arith, onto_less (loader_event e) (loader_events events), few_events events)

one_at_most : (b : Bool) → one_if b ≤ 1
one_at_most true = omega arith
one_at_most false = omega arith

first_remaining : (i : Input) → remaining (start i) ≤ 68 * i.unit_limit + 35 * length (packets_in i.events) + 35 * length (loader_events i.events) + 34
unfolding remaining
first_remaining i = omega (arith, one_at_most (is_quiet (start i)))

pub room_at_start : (s : State) (i : Input) → s ≡ start i → i.unit_limit ≤ unit_limit → length i.events ≤ event_limit → turn_lines * remaining s < 2 ^ 64
room_at_start s i starts units few =
    omega (arith, units, few, first_remaining i, few_packets i.events, few_events i.events, ap remaining starts)
