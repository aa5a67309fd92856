use Rattle.std.proofs.Common.{◌<◌, length}
use Rattle.domain_model.specs.Remaining.{remaining}
use Rattle.word_run.specs.FlashValue.{part}
use Rattle.mote_core.specs.Value.{state_of}
use Rattle.mote_sim.specs.Pieces.{LeadsBySome, piece_bytes}
use Rattle.mote_sim.proofs.Far.{Far}
use Rattle.mote_sim.proofs.playing.play.Given as goal

-- the run goes on from here
abbrev pub invariant-turns : goal.invariant-turns
invariant-turns g l = record {
  room : length l.gathered.items < piece_bytes;
  far : Far g.K.Sink.written g.K.Sink.faults (LeadsBySome g.K.Sink.leads) l.fn.out l.out l.gathered.items l.fn.mote l.mote;
}

abbrev pub decreases-turns : goal.decreases-turns
decreases-turns g l = remaining (state_of part l.mote)
