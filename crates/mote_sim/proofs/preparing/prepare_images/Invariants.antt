use Rattle.std.proofs.Common.{map, take}
use Rattle.std.specs.List.{AllByRecursion}
use Rattle.domain_model.specs.Good.{IsGoodImage}
use Rattle.mod_loader.specs.Banks.{prepared_of}
use Rattle.mote_sim.specs.Reading.{bytes_of}
use Rattle.mote_sim.specs.WordRun.{AreReadied}
use Rattle.mote_sim.proofs.preparing.prepare_images.Given as goal

-- the images so far are ready
abbrev pub invariant-loop-file : goal.invariant-loop-file
invariant-loop-file l = record {
  readied : AreReadied (bytes_of (take l.file-index l.files)) l.images.items;
  good : AllByRecursion IsGoodImage (map prepared_of l.images.items);
}
