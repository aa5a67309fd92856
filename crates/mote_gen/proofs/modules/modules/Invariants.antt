use Rattle.std.proofs.Common.{◌≡◌, ◌*◌}
use Rattle.std.specs.Prelude.{map}
use Rattle.module_image.specs.Spelling.{spelling}
use Rattle.mote_gen.specs.Bundle.{files_of}
use Rattle.mote_gen.specs.Numbers.{module_draws, number, numbers_of}
use Rattle.mote_gen.specs.Modules.{first_modules}
use Rattle.mote_gen.proofs.modules.modules.Given as goal

abbrev pub invariant-loop-place : goal.invariant-loop-place
invariant-loop-place l = record {
  last : l.numbers.last ≡ number l.fn.numbers.last (module_draws * l.place);
  images : files_of l.images.items ≡ map spelling (first_modules (numbers_of l.fn.numbers.last) l.place);
}
