use Rattle.std.proofs.Common.{◌≡◌, length}
use Rattle.domain_model.specs.State.{bytes_at, without_counter}
use Rattle.kernel_call.proofs.serve.bytes_at.Given as goal

-- the bytes read so far are those from the address on
abbrev pub invariant-loop-place : goal.invariant-loop-place
invariant-loop-place l = (l.bytes ≡ bytes_at (without_counter l.cpu) l.address l.place) × (length l.bytes ≡ l.place)
