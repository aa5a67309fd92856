-- A command without files asks the shelf for nothing.
use Rattle.std.proofs.Common.{◌≡◌, ℕ, suc, refl, arith, Bool, true, false, List, [], ◌∷◌, length, Option, Some, None}
use Rattle.std.proofs.lemmas.Bool.{eqb-true}
use Rattle.mote_base.specs.Asked.{Asked}
use Rattle.mote_base.specs.Files.{Named}
use Rattle.mote_base.specs.Written.{Calls}
use Rattle.mote_base.specs.declared.fault.Status.{Status}
use Rattle.mote_base.specs.declared.fault.Status.TheVariants.{Done, Usage, Refused, ReadFault, WriteFault, NoMemory}
use Rattle.command_line.specs.declared.command.Kind.{Kind}
use Rattle.command_line.specs.declared.command.Kind.TheVariants as kinds
use Rattle.command_line.specs.Command.{Command}
use Rattle.mote_sim.specs.Asking.{Asks, AsksBy, Came, ComesBy}
use Rattle.mote_sim.specs.Ending.{Ends}
use Rattle.mote_sim.specs.Outcome.{AnswersOver}
use Rattle.mote_sim.specs.Reading.{Gathered}
use Rattle.mote_sim.proofs.Counts.{HasItsFiles}

none_made : {F : Type 0} (leads : F → Asked → Bool → F → Type 0) (old new : F) (kind : Kind) (ok : Bool) (came : Option Gathered) (calls : List Asked) → Calls leads old calls ok new → ComesBy kind 0 None [] calls came → new ≡ old
none_made leads old new kind ok came [] made comes = made.1
none_made leads old new kind ok came (asked ∷ calls) made comes = absurd comes

same_shelf : {F : Type 0} (leads : F → Asked → Bool → F → Type 0) (old new : F) (kind : Kind) (ok : Bool) (came : Option Gathered) → Asks leads old new kind [] ok came → new ≡ old
same_shelf leads old new kind ok came asks = none_made leads old new kind ok came asks.calls asks.made asks.comes

pub no_names : (seed : ℕ) (names : List (List ℕ)) → HasItsFiles (record { kind = kinds.Generation seed; files = names }) → names ≡ []
no_names seed [] few = refl
no_names seed (name ∷ names) few = let e = eqb-true (suc (length names)) 0 few in absurd (omega (arith, e))

abbrev without_files : Kind → Command
without_files kind = record { kind = kind; files = [] }

pub unasked : {K F : Type 0} (w : K → Option (List ℕ)) (f : K → ℕ) (l : K → List ℕ → Bool → K → Type 0) (a b : K) (m n : ℕ) (files : Option (List Named)) (leads : F → Asked → Bool → F → Type 0) (old new : F) (kind : Kind) (s : Status) → Ends w f l a b m n (AnswersOver files (Came leads old new) (Some (without_files kind))) s → AsksBy leads old new (Some (without_files kind)) s → new ≡ old
unasked w f l a b m n files leads old new kind Done ends asks = same_shelf leads old new kind true (Some ends.answer.may.bytes) ends.answer.may.read
unasked w f l a b m n files leads old new kind Usage ends asks = same_shelf leads old new kind true (Some ends.answer.may.bytes) ends.answer.may.read
unasked w f l a b m n files leads old new kind Refused ends asks = same_shelf leads old new kind true (Some ends.answer.may.bytes) ends.answer.may.read
unasked w f l a b m n files leads old new kind ReadFault ends asks = same_shelf leads old new kind false asks.0 asks.1
unasked w f l a b m n files leads old new kind WriteFault ends asks = same_shelf leads old new kind true (Some ends.answer.may.bytes) ends.answer.may.read
unasked w f l a b m n files leads old new kind NoMemory ends asks = same_shelf leads old new kind true asks.0 asks.1
