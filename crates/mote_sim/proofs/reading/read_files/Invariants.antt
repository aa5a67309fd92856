use Rattle.std.proofs.Common.{◌≡◌, List, Some, drop, length}
use Rattle.mote_base.specs.Files.{Named}
use Rattle.mote_sim.specs.Reading.{AdmitsEach, gathered_from, with_front, bytes_of}
use Rattle.mote_sim.proofs.Calls.{FilesSoFar}
use Rattle.mote_sim.proofs.reading.read_files.Given as goal

-- the files so far, and what the others come to
abbrev pub invariant-loop-number : goal.invariant-loop-number
invariant-loop-number g l = record {
  count : length l.files.items ≡ l.number;
  names : AdmitsEach (g.F.Shelf.admits l.shelf) (drop l.number l.names);
  gathered : (fs : List Named) → g.F.Shelf.files l.fn.shelf ≡ Some fs → with_front (bytes_of l.files.items) (gathered_from l.kind l.number fs (drop l.number l.names)) ≡ gathered_from l.kind 0 fs l.names;
  kept : g.F.Shelf.faults l.shelf ≡ g.F.Shelf.faults l.fn.shelf;
  files : g.F.Shelf.files l.shelf ≡ g.F.Shelf.files l.fn.shelf;
  asks : FilesSoFar g.F.Shelf.leads l.fn.shelf l.shelf l.kind l.names l.number (bytes_of l.files.items);
}
