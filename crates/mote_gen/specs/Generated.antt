-- The run that a seed makes.
use Rattle.std.specs.Prelude.{ℕ}
use Rattle.domain_model.specs.State.{Input}
use Rattle.mote_gen.specs.Numbers.{numbers_of}
use Rattle.mote_gen.specs.Bundle.{images_of}
use Rattle.mote_gen.specs.Packets.{events_of}

-- How many units the run has at most, and how many of them one handler has.
abbrev pub generated_units : ℕ
generated_units = 10000000

abbrev pub generated_handler : ℕ
generated_handler = 10000

-- It is given the seed's images and events, within these limits.
abbrev pub generated : ℕ → Input
generated seed = record {
  images = images_of (numbers_of seed);
  events = events_of (numbers_of seed);
  unit_limit = generated_units;
  handler_limit = generated_handler;
}
