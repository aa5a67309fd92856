-- What a prepared mote says of its input, and what its run answers.
use Rattle.std.proofs.Common.{◌≡◌, ◌∙◌, ℕ, refl, sym, ap, subst, Bool, true, false, List, Option}
use Rattle.std.specs.List.{AllByRecursion}
use Rattle.mote_base.specs.declared.fault.Status.TheVariants.{Done}
use Rattle.domain_model.specs.declared.event.Turned.TheVariants.{More}
use Rattle.domain_model.specs.declared.line.TraceLine.{TraceLine}
use Rattle.domain_model.specs.Events.{loader_events, packets_in}
use Rattle.domain_model.specs.Free.{SameState}
use Rattle.domain_model.specs.Good.{Good}
use Rattle.domain_model.specs.Laws.{LawfulRunFrom}
use Rattle.domain_model.specs.Prepared.{Prep}
use Rattle.domain_model.specs.Runners.{without_ran}
use Rattle.domain_model.specs.State.{State, Input, begins, start}
use Rattle.domain_model.specs.Turn.{RunFrom, is_unstated, more, over}
use Rattle.trace_text.specs.Text.{texts}
use Rattle.word_run.specs.FlashValue.{FlashValue, part}
use Rattle.unit_run.specs.FlashRunners.{KeepsWords}
use Rattle.unit_run.proofs.Placing.{nothing_placed}
use Rattle.mod_loader.specs.Banks.{AreSpelled}
use Rattle.mote_core.specs.Value.{MoteValue, state_of}
use Rattle.mote_sim.specs.Ending.{Answered, CutOff}
use Rattle.mote_sim.specs.declared.summary.Summary.{Summary}
use Rattle.mote_sim.specs.Generating.{SumsUp, SumsUpFrom}
use Rattle.mote_sim.specs.Outcome.{Answers, Runs}
use Rattle.mote_sim.specs.Playing.{StandsAt, Played, Stopped}
use Rattle.mote_sim.specs.Summary.{summary_of}
use Rattle.mote_sim.specs.Trace.{IsLawfulRun, IsTraceOf}
use Rattle.mote_sim.specs.Turns.{EndsAt}
use Rattle.mote_sim.specs.WordRun.{IsWordRun, by_words}
use Rattle.mote_sim.proofs.Keeping.{words_are_kept}
use Rattle.mote_sim.proofs.Readied.{prepared_all, spelled_all}
use Rattle.mote_sim.proofs.Sound.{IsSound, RunsTo, comes_to_end, lawful_end}
use Rattle.mote_sim.proofs.Untelling.{none_told}

-- A state agrees with itself.
same_state : (free : ℕ → Bool) (s : State) → Good s → SameState free s s
same_state free s good = record {
  kernel = record {
    rest = refl;
    memory = record { same_length = refl; same = λ i is. refl; bytes = λ i is. good.machine.processor.memory_bytes i };
  };
  rest = refl;
}

-- A lawful run is a run.
lawful_is_run : {s : State} {lines : List TraceLine} → LawfulRunFrom s lines → RunFrom s lines
lawful_is_run (over ended) = over ended
lawful_is_run (more t lines rest live turn run) = more t lines rest live turn.turn (lawful_is_run run)

-- One from where a run begins is a run of the input.
abbrev lawful_run : (s : State) (i : Input) (lines : List TraceLine) → s ≡ start i → Good s → LawfulRunFrom s lines → IsLawfulRun i lines
lawful_run s i lines starts good run = record {
  run = record {
    first = s;
    begins = record { same = subst (λ t. SameState is_unstated (start i) t) (sym starts) (same_state is_unstated (start i) (subst Good starts good)) };
    turns = lawful_is_run run;
  };
  lawful = run;
}

-- What the machine sees of where the word run begins is where its own runs do.
pub state_starts : (m : MoteValue FlashValue) (i : Input) (words : Bool) → StandsAt m i words → state_of part m ≡ start i
state_starts m i words stands =
    ap (λ (x : MoteValue FlashValue). state_of part x) stands.starts
    ∙ ap (λ (images : List Prep). begins images (packets_in i.events) (loader_events i.events) i.unit_limit i.handler_limit) (prepared_all i.images stands.images stands.readied)

pub goes_on : {m : MoteValue FlashValue} {i : Input} {words : Bool} → StandsAt m i words → m.ended ≡ More
goes_on stands = ap (λ (x : MoteValue FlashValue). x.ended) stands.starts

-- The mote is sound there, so that its run ends and is lawful.
sound_there : (m : MoteValue FlashValue) (i : Input) (words : Bool) → StandsAt m i words → IsSound by_words KeepsWords m
sound_there m i words stands = record {
  good = stands.good;
  held = subst KeepsWords (sym (ap (λ (x : MoteValue FlashValue). x.runner) stands.starts)) (nothing_placed words);
  spelled = subst (λ (x : MoteValue FlashValue). AllByRecursion AreSpelled x.images) (sym stands.starts) (spelled_all i.images stands.images stands.readied);
}

none_where : (words : Bool) (i : Input) (lines : List TraceLine) → IsWordRun i words lines → words ≡ false → without_ran lines ≡ lines
none_where true i lines exact is = absurd (cc)
none_where false i lines exact is = none_told i exact.images exact.last lines exact.ends

word_run : (m last : MoteValue FlashValue) (i : Input) (words : Bool) (lines : List TraceLine) → StandsAt m i words → EndsAt by_words m lines last → IsWordRun i words lines
word_run m last i words lines stands ends = record {
  images = stands.images;
  readied = stands.readied;
  last = last;
  ends = subst (λ (x : MoteValue FlashValue). EndsAt by_words x lines last) stands.starts ends;
}

trace_of : (m last : MoteValue FlashValue) (i : Input) (words : Bool) (lines : List TraceLine) → StandsAt m i words → EndsAt by_words m lines last → IsTraceOf i words (texts lines)
trace_of m last i words lines stands ends =
    let exact : IsWordRun i words lines = word_run m last i words lines stands ends in
    record {
      lines = lines;
      exact = exact;
      run = lawful_run (state_of part m) i (without_ran lines) (state_starts m i words stands) stands.good
          (lawful_end by_words KeepsWords words_are_kept m lines last (sound_there m i words stands) ends).run;
      plain = none_where words i lines exact;
      spelled = refl;
    }

pub played_answers : {K : Type 0} {w : K → Option (List ℕ)} {f : K → ℕ} {l : K → List ℕ → Bool → K → Type 0} {a b : K} {m now : MoteValue FlashValue} (i : Input) (words : Bool) → StandsAt m i words → Played w f l a b m now → Answered w f l a b 0 0 (Answers (Runs i words)) Done
played_answers {m = m} {now = now} i words stands p = record {
  text = texts p.lines;
  answer = (refl, trace_of m now i words p.lines stands p.run);
  wrote = p.wrote;
  calm = refl;
}

pub stopped_cuts : {K : Type 0} {w : K → Option (List ℕ)} {f : K → ℕ} {l : K → List ℕ → Bool → K → Type 0} {a b : K} {m now : MoteValue FlashValue} (i : Input) (words : Bool) → StandsAt m i words → Stopped w f l a b m now → CutOff w f l a b 0 0 (Answers (Runs i words))
stopped_cuts {m = m} i words stands p =
    let whole = comes_to_end by_words KeepsWords words_are_kept m (sound_there m i words stands) in
    record {
      status = Done;
      text = texts whole.0;
      answer = (refl, trace_of m whole.1 i words whole.0 stands whole.2);
      broke = p.within whole.0 whole.1 whole.2;
      calm = refl;
    }

-- What sums up a run from there sums up one of the input.
pub sums_up : {m last : MoteValue FlashValue} {summary : Summary} (i : Input) → StandsAt m i false → SumsUpFrom m last summary → SumsUp i summary
sums_up {m = m} {last = last} i stands s =
    let exact : IsWordRun i false s.lines = word_run m last i false s.lines stands s.run in
    let whole : RunsTo (state_of part m) s.lines (state_of part last) =
    subst (λ ls. RunsTo (state_of part m) ls (state_of part last)) (none_told i exact.images exact.last s.lines exact.ends)
    (lawful_end by_words KeepsWords words_are_kept m s.lines last (sound_there m i false stands) s.run) in
    record {
      lines = s.lines;
      exact = exact;
      run = lawful_run (state_of part m) i s.lines (state_starts m i false stands) stands.good whole.run;
      is = s.is ∙ ap (λ (x : State). summary_of s.lines x) (sym whole.to);
    }
