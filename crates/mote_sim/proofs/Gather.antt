-- The first file that is longer than its limit.
use Rattle.std.proofs.Common.{◌≡◌, ◌∙◌, ℕ, ◌+◌, ◌<◌, refl, sym, ap, subst, suc, List, ◌∷◌, length, drop, get_or, Option, Some, None, if◌then◌else◌}
use Rattle.std.specs.Prelude.{IsSome}
use Rattle.std.proofs.Math.Seq.{drop-cons}
use Rattle.std.proofs.lemmas.Bool.{lt-ltb}
use Rattle.mote_base.specs.Causes.{Rose}
use Rattle.mote_base.specs.Files.{Named, held}
use Rattle.command_line.specs.declared.command.Kind.{Kind}
use Rattle.command_line.specs.Command.{limit_of}
use Rattle.mote_sim.specs.declared.reading.ReadStop.{ReadStop}
use Rattle.mote_sim.specs.declared.reading.ReadStop.TheVariants.{TooLong, Fault, Memory}
use Rattle.mote_sim.specs.Reading.{Gathered, Longer, gathered_from, gathered_file, with_first, with_front, StopsAt, IsLonger, GatherStops}

first_longer : (front : List (List ℕ)) (i limit : ℕ) (o : Option (List ℕ)) (others : Gathered) → IsSome o → ((b : List ℕ) → o ≡ Some b → limit < length b) → with_front front (gathered_file i limit o others) ≡ Longer i
first_longer front i limit None others some more = cc
first_longer front i limit (Some b) others some more = ap (λ t. with_front front (if t then Longer i else with_first b others)) (lt-ltb limit (length b) (more b refl))

longer_at : (kind : Kind) (fs : List Named) (names : List (List ℕ)) (i : ℕ) (name : List ℕ) (front : List (List ℕ)) (limit : ℕ) → i < length names → name ≡ get_or names i name → limit ≡ limit_of kind i → IsSome (held fs name) → ((b : List ℕ) → held fs name ≡ Some b → limit < length b) → with_front front (gathered_from kind i fs (drop i names)) ≡ Longer i
longer_at kind fs names i name front limit within is limited some more =
    let split : drop i names ≡ name ∷ drop (suc i) names = drop-cons names i name within ∙ ap (λ x. x ∷ drop (suc i) names) (sym is) in
    ap (λ xs. with_front front (gathered_from kind i fs xs)) split
    ∙ first_longer front i (limit_of kind i) (held fs name) (gathered_from kind (i + 1) fs (drop (suc i) names)) some (λ b h. subst (λ n. n < length b) limited (more b h))

pub gather_stops : (files now_files : Option (List Named)) (kind : Kind) (names : List (List ℕ)) (i : ℕ) (name : List ℕ) (limit : ℕ) (front : List (List ℕ)) (before mid now : ℕ) (s : ReadStop) → now_files ≡ files → i < length names → name ≡ get_or names i name → limit ≡ limit_of kind i → ((fs : List Named) → files ≡ Some fs → with_front front (gathered_from kind i fs (drop i names)) ≡ gathered_from kind 0 fs names) → mid ≡ before → StopsAt now_files name i limit mid now s → GatherStops files (record { kind = kind; files = names }) before now s
gather_stops files now_files kind names i name limit front before mid now (TooLong k) same within is limited so kept (at, long) = record {
  is = λ fs told_fs.
      let known : now_files ≡ Some fs = same ∙ told_fs in
      let long' : IsLonger (Some fs) name limit mid now = subst (λ o. IsLonger o name limit mid now) known long in
      sym (so fs told_fs) ∙ longer_at kind fs names i name front limit within is limited long'.held long'.more ∙ ap Longer (sym at);
  kept = long.kept ∙ kept;
}
gather_stops files now_files kind names i name limit front before mid now Fault same within is limited so kept rose = subst (λ n. Rose n now) kept rose
gather_stops files now_files kind names i name limit front before mid now Memory same within is limited so kept u = tt
