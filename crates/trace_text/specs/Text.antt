-- The bytes of a trace.
use Rattle.std.specs.Prelude.{ℕ, Bool, true, false, List, [], ◌∷◌, ◌++◌, codes, decimal, Option, Some, None}
use Rattle.std.specs.List.{flat_map}
use Rattle.mote_base.specs.Digits.{word_digits, byte_digits, bytes_text}
use Rattle.mote_base.specs.Spaced.{spaced}
use Rattle.domain_model.specs.declared.fault.Rule.{Rule}
use Rattle.domain_model.specs.declared.fault.Rule.TheVariants as rule
use Rattle.domain_model.specs.declared.line.Why.{Why}
use Rattle.domain_model.specs.declared.line.Why.TheVariants as why
use Rattle.domain_model.specs.declared.line.TraceLine.{TraceLine}
use Rattle.domain_model.specs.declared.line.TraceLine.TheVariants.{Load, Refused, Run, Call, Unbound, Say, Send, Queued, Dropped, Done, Fault, Unload, Absent, Dump, DumpModule, DumpBlock, DumpMsg, DumpTimer, DumpEnd, EndIdle, EndBudget, Ran}

abbrev pub rule_text : Rule → List ℕ
rule_text rule.Store = codes "store"
rule_text rule.Load = codes "load"
rule_text rule.StackOver = codes "stackover"
rule_text rule.StackUnder = codes "stackunder"
rule_text rule.Depth = codes "depth"
rule_text rule.Balance = codes "balance"
rule_text rule.Watchdog = codes "watchdog"
rule_text rule.Owner = codes "owner"
rule_text rule.Target = codes "target"

abbrev pub why_text : Why → List ℕ
why_text why.Module = codes "module"
why_text why.Queue = codes "queue"
why_text why.Room = codes "room"

-- The owner of a block: a module by its id, or the kernel.
abbrev pub owner_text : Option ℕ → List ℕ
owner_text None = codes "k"
owner_text (Some id) = decimal id

abbrev pub queue_text : Bool → List ℕ
queue_text true = codes "high"
queue_text false = codes "low"

-- The words of a line. An event's line has the clock, its word and its fields; a dump's lines begin with `d`, and those
-- of the instructions that run with `w`. Addresses and words are hexadecimal, all other numbers decimal.
abbrev pub line_words : TraceLine → List (List ℕ)
line_words (Load t id d s) = decimal t ∷ codes "load" ∷ decimal id ∷ decimal d ∷ word_digits s ∷ []
line_words (Refused t i n k p q) = decimal t ∷ codes "refused" ∷ decimal i ∷ decimal n ∷ decimal k ∷ decimal p ∷ decimal q ∷ []
line_words (Run t id sort from) = decimal t ∷ codes "run" ∷ decimal id ∷ decimal sort ∷ decimal from ∷ []
line_words (Call t id slot to func) = decimal t ∷ codes "call" ∷ decimal id ∷ decimal slot ∷ decimal to ∷ decimal func ∷ []
line_words (Unbound t id slot) = decimal t ∷ codes "unbound" ∷ decimal id ∷ decimal slot ∷ []
line_words (Say t id b) = decimal t ∷ codes "say" ∷ decimal id ∷ decimal b ∷ []
line_words (Send t id dest sort bytes) = decimal t ∷ codes "send" ∷ decimal id ∷ decimal dest ∷ decimal sort ∷ bytes_text bytes ∷ []
line_words (Queued t id sort) = decimal t ∷ codes "queued" ∷ decimal id ∷ decimal sort ∷ []
line_words (Dropped t reason id sort) = decimal t ∷ codes "drop" ∷ why_text reason ∷ decimal id ∷ decimal sort ∷ []
line_words (Done t id) = decimal t ∷ codes "done" ∷ decimal id ∷ []
line_words (Fault t broken id u a) = decimal t ∷ codes "fault" ∷ rule_text broken ∷ decimal id ∷ decimal u ∷ word_digits a ∷ []
line_words (Unload t id) = decimal t ∷ codes "unload" ∷ decimal id ∷ []
line_words (Absent t id) = decimal t ∷ codes "absent" ∷ decimal id ∷ []
line_words (Dump t) = decimal t ∷ codes "dump" ∷ []
line_words (DumpModule id d s) = codes "d" ∷ codes "module" ∷ decimal id ∷ decimal d ∷ word_digits s ∷ []
line_words (DumpBlock a bytes owner) = codes "d" ∷ codes "block" ∷ word_digits a ∷ decimal bytes ∷ owner_text owner ∷ []
line_words (DumpMsg high from to sort a) = codes "d" ∷ queue_text high ∷ decimal from ∷ decimal to ∷ decimal sort ∷ word_digits a ∷ []
line_words (DumpTimer «module» id due) = codes "d" ∷ codes "timer" ∷ decimal «module» ∷ decimal id ∷ decimal due ∷ []
line_words DumpEnd = codes "d" ∷ codes "end" ∷ []
line_words (EndIdle t) = decimal t ∷ codes "end" ∷ codes "idle" ∷ []
line_words (EndBudget t) = decimal t ∷ codes "end" ∷ codes "budget" ∷ []
line_words (Ran pc word sp sreg) = codes "w" ∷ word_digits pc ∷ word_digits word ∷ word_digits sp ∷ byte_digits sreg ∷ []

-- A line is its words with single spaces, and ends with a line feed.
unfoldable pub text : TraceLine → List ℕ
text line = spaced (line_words line) ++ codes "\n"

-- The text of a trace is that of its lines.
abbrev pub texts : List TraceLine → List ℕ
texts lines = flat_map text lines
