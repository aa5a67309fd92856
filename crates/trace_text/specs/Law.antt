-- The text of a line tells the line.
use Rattle.std.specs.Prelude.{◌≡◌, ℕ, ◌<◌, ◌^◌, ⊤, Option, Some, None}
use Rattle.std.specs.List.{AllByRecursion}
use Rattle.domain_model.specs.declared.line.TraceLine.{TraceLine}
use Rattle.domain_model.specs.declared.line.TraceLine.TheVariants.{Load, Refused, Run, Call, Unbound, Say, Send, Queued, Dropped, Done, Fault, Unload, Absent, Dump, DumpModule, DumpBlock, DumpMsg, DumpTimer, DumpEnd, EndIdle, EndBudget, Ran}
use Rattle.trace_text.specs.Text.{text}

-- The numbers of a line are in the ranges of their types.
abbrev pub IsClock : ℕ → Type 0
IsClock n = n < 2 ^ 64

abbrev pub IsLong : ℕ → Type 0
IsLong n = n < 2 ^ 32

abbrev pub IsWord : ℕ → Type 0
IsWord n = n < 2 ^ 16

abbrev pub IsByte : ℕ → Type 0
IsByte n = n < 2 ^ 8

abbrev pub OwnerFits : Option ℕ → Type 0
OwnerFits None = ⊤
OwnerFits (Some id) = IsByte id

abbrev pub Fits : TraceLine → Type 0
Fits (Load t id d s) = IsClock t × IsByte id × IsByte d × IsWord s
Fits (Refused t i n k p q) = IsClock t × IsByte i × IsByte n × IsByte k × IsLong p × IsByte q
Fits (Run t id sort from) = IsClock t × IsByte id × IsByte sort × IsByte from
Fits (Call t id slot to func) = IsClock t × IsByte id × IsByte slot × IsByte to × IsByte func
Fits (Unbound t id slot) = IsClock t × IsByte id × IsByte slot
Fits (Say t id b) = IsClock t × IsByte id × IsByte b
Fits (Send t id dest sort bytes) = IsClock t × IsByte id × IsWord dest × IsByte sort × AllByRecursion IsByte bytes
Fits (Queued t id sort) = IsClock t × IsByte id × IsByte sort
Fits (Dropped t reason id sort) = IsClock t × IsByte id × IsByte sort
Fits (Done t id) = IsClock t × IsByte id
Fits (Fault t broken id u a) = IsClock t × IsByte id × IsWord u × IsWord a
Fits (Unload t id) = IsClock t × IsByte id
Fits (Absent t id) = IsClock t × IsByte id
Fits (Dump t) = IsClock t
Fits (DumpModule id d s) = IsByte id × IsByte d × IsWord s
Fits (DumpBlock a bytes owner) = IsWord a × IsWord bytes × OwnerFits owner
Fits (DumpMsg high from to sort a) = IsByte from × IsByte to × IsByte sort × IsWord a
Fits (DumpTimer m id due) = IsByte m × IsByte id × IsClock due
Fits DumpEnd = ⊤
Fits (EndIdle t) = IsClock t
Fits (EndBudget t) = IsClock t
Fits (Ran pc word sp sreg) = IsWord pc × IsWord word × IsWord sp × IsByte sreg

-- Different lines have different texts.
abbrev pub LinesTell : Type 0
LinesTell = (a b : TraceLine) → Fits a → Fits b → text a ≡ text b → a ≡ b
