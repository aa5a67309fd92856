use Rattle.sos_heap.proofs.Purged.{HasPurged}
use Rattle.sos_heap.proofs.held.clear_owner.Given as goal

abbrev pub invariant-loop-block : goal.invariant-loop-block
invariant-loop-block l = HasPurged l.d l.initial.blocks l.blocks l.block
