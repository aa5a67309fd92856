use Rattle.std.proofs.Common.{◌<◌, ◌++◌, length, drop}
use Rattle.trace_text.specs.Text.{texts}
use Rattle.mote_base.proofs.SoFar.{SoFar}
use Rattle.mote_sim.specs.Pieces.{LeadsBySome, piece_bytes}
use Rattle.mote_sim.proofs.playing.tell_lines.Given as goal

-- What is gathered and the lines to come are left of the whole.
abbrev pub invariant-loop-line : goal.invariant-loop-line
invariant-loop-line g l = record {
  room : length l.gathered.items < piece_bytes;
  so_far : SoFar g.K.Sink.written g.K.Sink.faults (LeadsBySome g.K.Sink.leads) l.fn.out l.out (l.gathered.items ++ texts (drop l.line-index l.told)) (l.fn.gathered.items ++ texts l.told);
}
