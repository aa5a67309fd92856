use Rattle.std.proofs.Common.{map}
use Rattle.std.specs.List.{AllByRecursion}
use Rattle.domain_model.specs.Good.{IsGoodImage}
use Rattle.mod_loader.specs.Banks.{prepared_of}
use Rattle.mote_tests.proofs.turns.readied.Given as goal

-- the images so far are good
abbrev pub invariant-loop-image : goal.invariant-loop-image
invariant-loop-image l = AllByRecursion IsGoodImage (map prepared_of l.ready.items)
