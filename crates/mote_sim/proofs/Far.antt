-- A run whose lines were told up to where a mote stands.
use Rattle.std.proofs.Common.{◌≡◌, ◌≢◌, ◌∙◌, ℕ, Bool, List, [], ◌++◌, sym, ap, subst, append_assoc, append-nil, Option, Result, Ok, Err}
use Rattle.std.specs.Prelude.{IsErr}
use Rattle.std.proofs.lemmas.List.Concat.{flat_map-append}
use Rattle.mote_base.specs.Written.{Wrote, Broke, Puts}
use Rattle.mote_base.proofs.Puts.{broke_wide}
use Rattle.mote_base.proofs.SoFar.{SoFar, so_far_start, so_far_more, so_far_broke, so_far_rest}
use Rattle.domain_model.specs.declared.event.Turned.TheVariants.{More}
use Rattle.domain_model.specs.declared.line.TraceLine.{TraceLine}
use Rattle.trace_text.specs.Text.{text, texts}
use Rattle.word_run.specs.FlashValue.{FlashValue}
use Rattle.mote_core.specs.Exact.{turned}
use Rattle.mote_core.specs.Value.{MoteValue}
use Rattle.mote_sim.specs.Playing.{Stopped, Plays}
use Rattle.mote_sim.specs.Turns.{LeadsTo}
use Rattle.mote_sim.specs.WordRun.{by_words}
use Rattle.mote_sim.proofs.Turning.{front_of_end, leads_more, leads_start}

-- Turns led to here; of their lines a front was put, and the rest is gathered.
pub record Far {K : Type 0} (written : K → Option (List ℕ)) (faults : K → ℕ) (leads : K → List ℕ → Bool → K → Type 0) (old now : K) (gathered : List ℕ) (first here : MoteValue FlashValue) : Type 0 where
  pub told : List TraceLine
  pub turns : LeadsTo by_words first told here
  pub so_far : SoFar written faults leads old now gathered (texts told)

-- before the first turn
pub far_start : {K : Type 0} {w : K → Option (List ℕ)} {f : K → ℕ} {l : K → List ℕ → Bool → K → Type 0} (k : K) (first : MoteValue FlashValue) → Far w f l k k [] first first
far_start k first = record { told = []; turns = leads_start by_words first; so_far = so_far_start k [] }

-- more text, and none of it put yet
so_far_wide : {K : Type 0} {w : K → Option (List ℕ)} {f : K → ℕ} {l : K → List ℕ → Bool → K → Type 0} {a b : K} {left whole : List ℕ} → SoFar w f l a b left whole → (rest : List ℕ) → SoFar w f l a b (left ++ rest) (whole ++ rest)
so_far_wide {left = left} so rest = record {
  front = so.front;
  wrote = so.wrote;
  adds_up = sym (append_assoc so.front left rest) ∙ ap (λ text. text ++ rest) so.adds_up;
}

-- a turn whose lines were told
pub far_turn : {K : Type 0} {w : K → Option (List ℕ)} {f : K → ℕ} {l : K → List ℕ → Bool → K → Type 0} {a b c : K} {gathered left : List ℕ} {first here : MoteValue FlashValue} {items : List TraceLine} → Far w f l a b gathered first here → (there : MoteValue FlashValue) (lines : List TraceLine) → record { value = there; lines = lines } ≡ turned by_words here → items ≡ lines → (front : List ℕ) × Wrote w f l b c front × (front ++ left ≡ gathered ++ texts items) → Far w f l a c left first there
far_turn {w = w} {f = f} {l = l} {a = a} {c = c} {gathered = gathered} {left = left} {first = first} {here = here} far there lines turn are moved = record {
  told = far.told ++ lines;
  turns = leads_more by_words first here there far.told lines far.turns turn;
  so_far = subst (λ t. SoFar w f l a c left t) (sym (flat_map-append text far.told lines)) (so_far_more (so_far_wide far.so_far (texts lines)) moved.1 left
      (ap (λ ls. gathered ++ texts ls) (sym are) ∙ sym moved.2));
}

-- A put failed among the lines told.
stopped_at : {K : Type 0} {w : K → Option (List ℕ)} {f : K → ℕ} {l : K → List ℕ → Bool → K → Type 0} {a c : K} (first now : MoteValue FlashValue) (told : List TraceLine) → LeadsTo by_words first told now → Broke w f l a c (texts told) → Stopped w f l a c first now
stopped_at {w = w} {f = f} {l = l} {a = a} {c = c} first now told turns broke = record {
  lines = told;
  turns = turns;
  broke = broke;
  within = λ whole last ends.
      let front = front_of_end by_words first told whole now last turns ends in
      let joined : texts told ++ texts front.0 ≡ texts whole = sym (flat_map-append text told front.0) ∙ ap (λ ls. texts ls) (sym front.1) in
      subst (λ t. Broke w f l a c t) joined (broke_wide broke (texts front.0));
}

-- the run has ended, and what is left was put by one more call
pub far_over : {K T E : Type 0} {w : K → Option (List ℕ)} {f : K → ℕ} {l : K → List ℕ → Bool → K → Type 0} {a b c : K} {gathered : List ℕ} {first here : MoteValue FlashValue} {r : Result T E} → Far w f l a b gathered first here → here.ended ≢ More → Puts w f l b c gathered r → Plays w f l a c first here r
far_over {r = Ok x} far ended puts = record {
  played = record { lines = far.told; run = record { leads = far.turns; ended = ended }; wrote = (so_far_rest far.so_far puts).wrote };
  stopped = tt;
}
far_over {first = first} {here = here} {r = Err e} far ended puts = record {
  played = tt;
  stopped = stopped_at first here far.told far.turns (so_far_rest far.so_far puts).broke;
}

-- A put failed among the lines of a turn.
pub far_stopped : {K : Type 0} {w : K → Option (List ℕ)} {f : K → ℕ} {l : K → List ℕ → Bool → K → Type 0} {a b c : K} {gathered : List ℕ} {first here : MoteValue FlashValue} {items : List TraceLine} → Far w f l a b gathered first here → (there : MoteValue FlashValue) (lines : List TraceLine) → record { value = there; lines = lines } ≡ turned by_words here → items ≡ lines → Broke w f l b c (gathered ++ texts items) → Stopped w f l a c first there
far_stopped {w = w} {f = f} {l = l} {a = a} {c = c} {gathered = gathered} {first = first} {here = here} {items = items} far there lines turn are broke =
    let wide = so_far_wide far.so_far (texts lines) in
    let same : gathered ++ texts lines ≡ (gathered ++ texts items) ++ [] =
    ap (λ ls. gathered ++ texts ls) (sym are) ∙ sym (append-nil (gathered ++ texts items)) in
    stopped_at first there (far.told ++ lines) (leads_more by_words first here there far.told lines far.turns turn)
    (subst (λ t. Broke w f l a c t) (sym (flat_map-append text far.told lines)) (so_far_broke wide broke [] same))

-- What stopped is an answer that is an Err.
pub plays_err : {K T E : Type 0} {w : K → Option (List ℕ)} {f : K → ℕ} {l : K → List ℕ → Bool → K → Type 0} {a b : K} {first now : MoteValue FlashValue} {r : Result T E} → IsErr r → Stopped w f l a b first now → Plays w f l a b first now r
plays_err {r = Ok x} err stopped = cc
plays_err {r = Err e} err stopped = record { played = tt; stopped = stopped }
