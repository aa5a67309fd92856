use Rattle.std.proofs.Common.{◌≡◌, ◌≤◌, ◌<◌, ◌-◌, ℕ, Bool, Vec, sym, subst, List, [], ◌∷◌, length, take, drop, get_or, arith}
use Rattle.std.specs.declared.alloc.Global.{Global}
use Rattle.std.proofs.Math.ListN.{length-map}
use Rattle.std.proofs.lemmas.List.{take_all}
use Rattle.mote_base.specs.declared.fault.Status.{Status}
use Rattle.event_script.specs.Refusals.{refusal_of, events_of}
use Rattle.command_line.specs.declared.command.Kind.TheVariants as kinds
use Rattle.mote_sim.specs.Outcome.{Answers, outcome_by, outcome_of_script}
use Rattle.mote_sim.specs.Reading.{bytes_of}
use Rattle.mote_sim.proofs.Ends.{ends_as}
use Rattle.mote_sim.proofs.answer.perform.Goals as goal

first_and_others : {X : Type 0} (xs : List X) (a : X) → 1 ≤ length xs → a ≡ get_or xs 0 a → a ∷ take (length xs - 1) (drop 1 xs) ≡ xs
first_and_others [] a low is = absurd (omega (arith, low))
first_and_others (x ∷ xs) a low is =
    let all : take (length (x ∷ xs) - 1) xs ≡ xs = take_all (length (x ∷ xs) - 1) xs (omega arith) in cc

first_alone : {X : Type 0} (xs : List X) (a : X) → 1 ≤ length xs → length xs < 2 → a ≡ get_or xs 0 a → a ∷ [] ≡ xs
first_alone [] a low high is = absurd (omega (arith, low))
first_alone (x ∷ []) a low high is = cc
first_alone (x ∷ y ∷ xs) a low high is = absurd (omega (arith, high))

pub returns-in-len1 : goal.returns-in-len1
returns-in-len1 g c =
    let files : c.file-item.result ∷ [] ≡ c.args.files.now = first_alone c.args.files.now c.file-item.result c.in-len1.len_at_least c.in-len1.len_below c.file-item.is in
    ends_as _ _ _ _ _ _ (Answers (outcome_by c.args.kind (bytes_of c.args.files.now)))
    (λ s t a. subst (λ kind. Answers (outcome_by kind (bytes_of c.args.files.now)) s t) (sym c.in-Tool.is)
    (subst (λ xs. Answers (outcome_by (kinds.Tool c.in-Tool.tool) (bytes_of xs)) s t) files (rw (← c.deref-in-len1.ensures.value) a))) c.make.result c.make.ensures

counted : (units handler : ℕ) (words : Bool) (script : List ℕ) (images : List (Vec ℕ Global)) (s : Status) (t : List ℕ) → Answers (outcome_of_script units handler words (refusal_of (length images) script) (events_of script) (bytes_of images)) s t → Answers (outcome_of_script units handler words (refusal_of (length (bytes_of images)) script) (events_of script) (bytes_of images)) s t
counted units handler words script images s t a =
    subst (λ n. Answers (outcome_of_script units handler words (refusal_of n script) (events_of script) (bytes_of images)) s t) (sym (length-map images (λ (v : Vec ℕ Global). v.items))) a

pub returns-in-len1-up : goal.returns-in-len1-up
returns-in-len1-up g c =
    let files : c.script-item.result ∷ take (length c.args.files.now - 1) (drop 1 c.args.files.now) ≡ c.args.files.now = first_and_others c.args.files.now c.script-item.result c.in-len1-up.len_at_least c.script-item.is in
    ends_as _ _ _ _ _ _ (Answers (outcome_by c.args.kind (bytes_of c.args.files.now)))
    (λ s t a. subst (λ kind. Answers (outcome_by kind (bytes_of c.args.files.now)) s t) (sym c.in-Run.is)
    (subst (λ xs. Answers (outcome_by (kinds.Run c.in-Run.units c.in-Run.handler c.in-Run.words) (bytes_of xs)) s t) files (rw (← c.deref.ensures.value) (counted c.in-Run.units c.in-Run.handler c.in-Run.words c.deref.result.now (take (length c.args.files.now - 1) (drop 1 c.args.files.now)) s t a)))) c.run.result c.run.ensures
