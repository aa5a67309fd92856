-- What each status says of the shelf and of the sink.
use Rattle.std.specs.Prelude.{◌≡◌, ℕ, ◌≤◌, Bool, List, Option, ⊤}
use Rattle.mote_base.specs.Causes.{Rose}
use Rattle.mote_base.specs.Written.{Wrote, Broke}
use Rattle.mote_base.specs.declared.fault.Status.{Status}
use Rattle.mote_base.specs.declared.fault.Status.TheVariants.{Done, Usage, Refused, ReadFault, WriteFault, NoMemory}

-- The statuses that tell of no fault.
abbrev pub IsAnswer : Status → Type 0
IsAnswer Done = ⊤
IsAnswer Usage = ⊤
IsAnswer Refused = ⊤
IsAnswer ReadFault = ⊥
IsAnswer WriteFault = ⊥
IsAnswer NoMemory = ⊥

-- The whole output of an answer was written, and no call failed. The counts of the shelf's faults are those
-- before the call and after it.
pub record Answered {K : Type 0} (written : K → Option (List ℕ)) (faults : K → ℕ) (leads : K → List ℕ → Bool → K → Type 0) (old new : K) (before now : ℕ) (answers : Status → List ℕ → Type 0) (status : Status) : Type 0 where
  pub text : List ℕ
  pub answer : answers status text
  pub wrote : Wrote written faults leads old new text
  pub calm : now ≡ before

-- A put failed, and none follows it; what was added is a front of an answer's output.
pub record CutOff {K : Type 0} (written : K → Option (List ℕ)) (faults : K → ℕ) (leads : K → List ℕ → Bool → K → Type 0) (old new : K) (before now : ℕ) (answers : Status → List ℕ → Type 0) : Type 0 where
  pub status : Status
  pub text : List ℕ
  pub answer : answers status text
  pub broke : Broke written faults leads old new text
  pub calm : now ≡ before

-- A call of the shelf failed, and nothing was put.
pub record Unread {K : Type 0} (old new : K) (before now : ℕ) : Type 0 where
  pub same : new ≡ old
  pub later : before ≤ now
  pub rose : Rose before now

-- Memory ran out, and nothing was put.
pub record Unput {K : Type 0} (old new : K) (before now : ℕ) : Type 0 where
  pub same : new ≡ old
  pub later : before ≤ now

abbrev pub Ends : {K : Type 0} → (K → Option (List ℕ)) → (K → ℕ) → (K → List ℕ → Bool → K → Type 0) → K → K → ℕ → ℕ → (Status → List ℕ → Type 0) → Status → Type 0
Ends written faults leads old new before now answers Done = Answered written faults leads old new before now answers Done
Ends written faults leads old new before now answers Usage = Answered written faults leads old new before now answers Usage
Ends written faults leads old new before now answers Refused = Answered written faults leads old new before now answers Refused
Ends written faults leads old new before now answers ReadFault = Unread old new before now
Ends written faults leads old new before now answers WriteFault = CutOff written faults leads old new before now answers
Ends written faults leads old new before now answers NoMemory = Unput old new before now
