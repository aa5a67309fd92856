-- What the machine sees of a mote's turns.
use Rattle.std.specs.Prelude.{◌≡◌, ℕ}
use Rattle.unit_code.specs.Listing.{BankListing}
use Rattle.domain_model.specs.Runners.{without_ran, without_ran_lines}
use Rattle.domain_model.specs.State.{RunnerState}
use Rattle.domain_model.specs.Turn.{Made, choice, emptied, entered, made, placed}
use Rattle.mote_core.specs.Exact.{Turning, Workings, turned}
use Rattle.mote_core.specs.Value.{MoteValue, acted, state_of}

-- Workings that keep the laws of runners: where one is placed, cleared or entered, the machine sees its own runner with
-- code put in, with code taken out, or with another unit next.
pub record AreLawful {R : Type 0} (w : Workings R) : Type 0 where
  pub placed_law : (r : R) (domain : ℕ) (code : BankListing) → w.part (w.placed_by r domain code) ≡ placed (w.part r) domain code.units
  pub cleared_law : (r : R) (domain : ℕ) → w.part (w.cleared_by r domain) ≡ emptied (w.part r) domain
  pub entered_law : (r : R) (domain unit : ℕ) → w.part (w.entered_by r domain unit) ≡ entered (w.part r) unit

-- the state of the machine behind a turn, and the turn's lines without those of instructions
abbrev pub seen : {R : Type 0} → (R → RunnerState) → Turning R → Made
seen part t = record { state = state_of part t.value; lines = without_ran t.lines }

-- What the machine sees of a turn is its own turn, with what it sees of the runner's unit.
abbrev pub TurnsAreSeen : Type 0 → Type 0
TurnsAreSeen R =
    (w : Workings R) → AreLawful w → (m : MoteValue R)
    → seen w.part (turned w m) ≡ made (choice (state_of w.part m)) (state_of w.part m) (without_ran_lines (acted w.part w.acts m))
