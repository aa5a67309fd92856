use Rattle.std.proofs.Common.{◌≡◌, ℕ, take}
use Rattle.jump_table.specs.Entries.{unit_at}
use Rattle.kernel_call.specs.Tables.{with_entries}
use Rattle.kernel_call.proofs.modules.enter_all.Given as goal

-- the first entries are set
abbrev pub invariant-loop-place : goal.invariant-loop-place
invariant-loop-place l = (d place : ℕ) → unit_at l.table d place ≡ with_entries l.domain (take l.place l.units) l.fn.table d place
