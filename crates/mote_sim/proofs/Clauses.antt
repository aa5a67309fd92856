-- The clauses of the top call, each from what its ending says.
use Rattle.std.proofs.Common.{◌≡◌, ◌⊎◌, inl, inr, ℕ, refl, subst, Bool, List, ◌++◌, Option, Some, None}
use Rattle.mote_base.specs.Causes.{Rose}
use Rattle.mote_base.specs.Files.{Named}
use Rattle.mote_base.specs.Written.{Grows}
use Rattle.mote_base.specs.declared.fault.Status.{Status}
use Rattle.mote_base.specs.declared.fault.Status.TheVariants.{Done, Usage, Refused, ReadFault, WriteFault, NoMemory}
use Rattle.command_line.specs.declared.command.Kind.TheVariants as kinds
use Rattle.command_line.specs.declared.command.Tool.{Tool}
use Rattle.command_line.specs.Command.{Command}
use Rattle.mote_sim.specs.Clauses.{WritesRun, WritesTool, WritesSummary, RefusesFiles, HasStatus, WritesFront}
use Rattle.mote_sim.specs.Ending.{Ends, Answered, CutOff, IsAnswer}
use Rattle.mote_sim.specs.Generating.{IsSummaryOf}
use Rattle.mote_sim.specs.Reading.{Gathered}
use Rattle.mote_sim.specs.Outcome.{Outcome, outcome, Answers, MayFind, AnswersOver, usage_line}
use Rattle.mote_sim.proofs.Counts.{HasItsFiles}
use Rattle.mote_sim.proofs.Inversion.{over_told, writes_run, generated_by, usage_answers, refuses, has_status}
use Rattle.mote_sim.proofs.OneFile.{writes_tool}

-- What Done says where the shelf tells its files and the sink its bytes.
record IsDone (command : Option Command) (fs : List Named) (before : List ℕ) (new : Option (List ℕ)) : Type 0 where
  pub text : List ℕ
  pub answer : Answers (outcome command fs) Done text
  pub written : new ≡ Some (before ++ text)

done : {K : Type 0} (w : K → Option (List ℕ)) (f : K → ℕ) (l : K → List ℕ → Bool → K → Type 0) (a b : K) (m n : ℕ) (files : Option (List Named)) (came : Command → Gathered → Type 0) (command : Option Command) (s : Status) → Ends w f l a b m n (AnswersOver files came command) s → s ≡ Done → (fs : List Named) (before : List ℕ) → files ≡ Some fs → w a ≡ Some before → IsDone command fs before (w b)
done w f l a b m n files came command s ends is fs before told known =
    let e = subst (λ r. Ends w f l a b m n (AnswersOver files came command) r) is ends in
    record {
      text = e.text;
      answer = over_told files came command fs Done e.text told e.answer;
      written = e.wrote.grows before known;
    }

pub headline : {K : Type 0} (w : K → Option (List ℕ)) (f : K → ℕ) (l : K → List ℕ → Bool → K → Type 0) (a b : K) (m n : ℕ) (files : Option (List Named)) (came : Command → Gathered → Type 0) (command : Option Command) (s : Status) → ((c : Command) → command ≡ Some c → HasItsFiles c) → Ends w f l a b m n (AnswersOver files came command) s → s ≡ Done → (units handler : ℕ) (words : Bool) (names : List (List ℕ)) (fs : List Named) (before : List ℕ) → command ≡ Some (record { kind = kinds.Run units handler words; files = names }) → files ≡ Some fs → w a ≡ Some before → WritesRun units handler words names fs before (w b)
headline w f l a b m n files came command s few ends is units handler words names fs before asks told known =
    let e = done w f l a b m n files came command s ends is fs before told known in
    writes_run units handler words fs names e.text before (w b) (few _ asks) (subst (λ c. Answers (outcome c fs) Done e.text) asks e.answer) e.written

pub tools : {K : Type 0} (w : K → Option (List ℕ)) (f : K → ℕ) (l : K → List ℕ → Bool → K → Type 0) (a b : K) (m n : ℕ) (files : Option (List Named)) (came : Command → Gathered → Type 0) (command : Option Command) (s : Status) → ((c : Command) → command ≡ Some c → HasItsFiles c) → Ends w f l a b m n (AnswersOver files came command) s → s ≡ Done → (tool : Tool) (names : List (List ℕ)) (fs : List Named) (before : List ℕ) → command ≡ Some (record { kind = kinds.Tool tool; files = names }) → files ≡ Some fs → w a ≡ Some before → WritesTool tool names fs before (w b)
tools w f l a b m n files came command s few ends is tool names fs before asks told known =
    let e = done w f l a b m n files came command s ends is fs before told known in
    writes_tool tool fs names e.text before (w b) (few _ asks) (subst (λ c. Answers (outcome c fs) Done e.text) asks e.answer) e.written

-- The answer of `gen` asks for no file, so it is there also where the shelf tells none.
summary_found : (files : Option (List Named)) (came : Command → Gathered → Type 0) (seed : ℕ) (names : List (List ℕ)) (found : Outcome) (text : List ℕ) → MayFind files came (Some (record { kind = kinds.Generation seed; files = names })) found → Answers found Done text → IsSummaryOf seed text
summary_found files came seed names found text may a = generated_by seed may.bytes text (subst (λ o. Answers o Done text) may.is a)

pub generator : {K : Type 0} (w : K → Option (List ℕ)) (f : K → ℕ) (l : K → List ℕ → Bool → K → Type 0) (a b : K) (m n : ℕ) (files : Option (List Named)) (came : Command → Gathered → Type 0) (command : Option Command) (s : Status) → Ends w f l a b m n (AnswersOver files came command) s → s ≡ Done → (seed : ℕ) (names : List (List ℕ)) (before : List ℕ) → command ≡ Some (record { kind = kinds.Generation seed; files = names }) → w a ≡ Some before → WritesSummary seed before (w b)
generator w f l a b m n files came command s ends is seed names before asks known =
    let e = subst (λ r. Ends w f l a b m n (AnswersOver files came command) r) is ends in
    record {
      text = e.text;
      sums_up = summary_found files came seed names e.answer.found e.text (subst (λ c. MayFind files came c e.answer.found) asks e.answer.may) e.answer.answer;
      written = e.wrote.grows before known;
    }

pub usage : {K : Type 0} (w : K → Option (List ℕ)) (f : K → ℕ) (l : K → List ℕ → Bool → K → Type 0) (a b : K) (m n : ℕ) (files : Option (List Named)) (came : Command → Gathered → Type 0) (command : Option Command) (s : Status) → Ends w f l a b m n (AnswersOver files came command) s → s ≡ Usage → (command ≡ None) × Grows (w a) (w b) usage_line
usage w f l a b m n files came command s ends is =
    let e = subst (λ r. Ends w f l a b m n (AnswersOver files came command) r) is ends in
    let u = usage_answers files came command e.text e.answer in (u.0, subst (λ t. Grows (w a) (w b) t) u.1 e.wrote.grows)

pub refused : {K : Type 0} (w : K → Option (List ℕ)) (f : K → ℕ) (l : K → List ℕ → Bool → K → Type 0) (a b : K) (m n : ℕ) (files : Option (List Named)) (came : Command → Gathered → Type 0) (command : Option Command) (s : Status) → Ends w f l a b m n (AnswersOver files came command) s → s ≡ Refused → (fs : List Named) → files ≡ Some fs → RefusesFiles (outcome command fs) (w a) (w b)
refused w f l a b m n files came command s ends is fs told =
    let e = subst (λ r. Ends w f l a b m n (AnswersOver files came command) r) is ends in
    refuses (outcome command fs) e.text (w a) (w b) (over_told files came command fs Refused e.text told e.answer) e.wrote.grows

status_of : {K : Type 0} (w : K → Option (List ℕ)) (f : K → ℕ) (l : K → List ℕ → Bool → K → Type 0) (a b : K) (m n : ℕ) (files : Option (List Named)) (came : Command → Gathered → Type 0) (command : Option Command) (s : Status) (fs : List Named) → files ≡ Some fs → Answered w f l a b m n (AnswersOver files came command) s → HasStatus (outcome command fs) s ⊎ (s ≡ NoMemory)
status_of w f l a b m n files came command s fs told e = inl (has_status (outcome command fs) s e.text (over_told files came command fs s e.text told e.answer))

pub complete : {K : Type 0} (w : K → Option (List ℕ)) (f : K → ℕ) (l : K → List ℕ → Bool → K → Type 0) (a b : K) (m n : ℕ) (files : Option (List Named)) (came : Command → Gathered → Type 0) (command : Option Command) (s : Status) → Ends w f l a b m n (AnswersOver files came command) s → (fs : List Named) → files ≡ Some fs → ¬ Rose m n → ¬ Rose (f a) (f b) → HasStatus (outcome command fs) s ⊎ (s ≡ NoMemory)
complete w f l a b m n files came command Done e fs told no_read no_write = status_of w f l a b m n files came command Done fs told e
complete w f l a b m n files came command Usage e fs told no_read no_write = status_of w f l a b m n files came command Usage fs told e
complete w f l a b m n files came command Refused e fs told no_read no_write = status_of w f l a b m n files came command Refused fs told e
complete w f l a b m n files came command ReadFault e fs told no_read no_write = absurd (no_read e.rose)
complete w f l a b m n files came command WriteFault e fs told no_read no_write = absurd (no_write e.broke.rose)
complete w f l a b m n files came command NoMemory e fs told no_read no_write = inr refl

pub answered : {K : Type 0} (w : K → Option (List ℕ)) (f : K → ℕ) (l : K → List ℕ → Bool → K → Type 0) (a b : K) (m n : ℕ) (A : Status → List ℕ → Type 0) (s : Status) → Ends w f l a b m n A s → IsAnswer s → Answered w f l a b m n A s
answered w f l a b m n A Done e is = e
answered w f l a b m n A Usage e is = e
answered w f l a b m n A Refused e is = e
answered w f l a b m n A ReadFault e is = absurd is
answered w f l a b m n A WriteFault e is = absurd is
answered w f l a b m n A NoMemory e is = absurd is

pub cut : {K : Type 0} (w : K → Option (List ℕ)) (f : K → ℕ) (l : K → List ℕ → Bool → K → Type 0) (a b : K) (m n : ℕ) (A : Status → List ℕ → Type 0) (s : Status) → Ends w f l a b m n A s → s ≡ WriteFault → CutOff w f l a b m n A
cut w f l a b m n A s ends is = subst (λ r. Ends w f l a b m n A r) is ends

pub front : {K : Type 0} (w : K → Option (List ℕ)) (f : K → ℕ) (l : K → List ℕ → Bool → K → Type 0) (a b : K) (m n : ℕ) (files : Option (List Named)) (came : Command → Gathered → Type 0) (command : Option Command) (s : Status) → Ends w f l a b m n (AnswersOver files came command) s → s ≡ WriteFault → (fs : List Named) (before : List ℕ) → files ≡ Some fs → w a ≡ Some before → WritesFront (outcome command fs) before (w b)
front w f l a b m n files came command s ends is fs before told known =
    let e = cut w f l a b m n (AnswersOver files came command) s ends is in
    let part = e.broke.grows before known in
    record {
      status = e.status;
      text = e.text;
      answer = over_told files came command fs e.status e.text told e.answer;
      front = part.0;
      is_front = part.2;
      written = part.1;
    }
