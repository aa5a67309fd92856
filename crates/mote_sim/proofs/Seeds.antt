-- What a seed makes, as the input of a run.
use Rattle.std.proofs.Common.{◌≡◌, ◌∙◌, ℕ, ap, List}
use Rattle.domain_model.specs.declared.script.Event.{Event}
use Rattle.mote_gen.specs.Bundle.{images_of}
use Rattle.mote_gen.specs.Generated.{generated, generated_units, generated_handler}
use Rattle.mote_gen.specs.Numbers.{numbers_of}
use Rattle.mote_gen.specs.Packets.{events_of}
use Rattle.mote_sim.specs.Trace.{run_input}

pub made_input : (seed : ℕ) (images : List (List ℕ)) (events : List Event) → images ≡ images_of (numbers_of seed) → events ≡ events_of (numbers_of seed) → run_input generated_units generated_handler images events ≡ generated seed
made_input seed images events images_are events_are =
    ap (λ xs. run_input generated_units generated_handler xs events) images_are
    ∙ ap (λ es. run_input generated_units generated_handler (images_of (numbers_of seed)) es) events_are
