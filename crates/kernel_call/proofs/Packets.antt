-- What a packet does has nothing to do with the time at which it was due.
use Rattle.std.proofs.Common.{◌≡◌, refl, ℕ, ◌==◌, List, length, Bool, true, false, Option, Some, None}
use Rattle.std.specs.Prelude.{nat_lt}
use Rattle.mote_base.specs.Messages.{queue_limit}
use Rattle.mote_layout.specs.Memory.{kernel}
use Rattle.domain_model.specs.State.{KernelState}
use Rattle.domain_model.specs.Modules.{is_loaded}
use Rattle.domain_model.specs.Given.{Given, given}
use Rattle.domain_model.specs.Radio.{heard, heard_by, heard_where, heard_bytes, heard_given}
use Rattle.kernel_call.specs.Values.{packet}

module _ (time to sort : ℕ) (bytes : List ℕ) (k : KernelState) where
  at_given : (o : Option Given) → heard_given o (packet time to sort bytes) k ≡ heard_given o (packet 0 to sort bytes) k
  at_given None = refl
  at_given (Some g) = refl

  at_bytes : (b : Bool) → heard_bytes b (packet time to sort bytes) k ≡ heard_bytes b (packet 0 to sort bytes) k
  at_bytes true = refl
  at_bytes false = at_given (given k kernel (length bytes))

  at_room : (b : Bool) → heard_where b (packet time to sort bytes) k ≡ heard_where b (packet 0 to sort bytes) k
  at_room true = at_bytes (length bytes == 0)
  at_room false = refl

  at_loaded : (b : Bool) → heard_by b (packet time to sort bytes) k ≡ heard_by b (packet 0 to sort bytes) k
  at_loaded true = at_room (nat_lt (length k.queues.low) queue_limit)
  at_loaded false = refl

  pub heard_at : heard (packet time to sort bytes) k ≡ heard (packet 0 to sort bytes) k
  heard_at = at_loaded (is_loaded k.modules to)
