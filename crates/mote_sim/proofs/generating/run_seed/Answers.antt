use Rattle.std.proofs.Common.{◌∙◌, ap, arith, subst, false}
use Rattle.mote_gen.specs.Generated.{generated_units, generated_handler}
use Rattle.word_run.specs.FlashValue.{part}
use Rattle.mote_core.specs.Value.{state_of}
use Rattle.mote_sim.specs.Generating.{SumsUp}
use Rattle.mote_sim.specs.Reading.{bytes_of}
use Rattle.mote_sim.specs.Trace.{run_input}
use Rattle.mote_sim.proofs.Counting.{room_at_start}
use Rattle.mote_sim.proofs.Prepared.{goes_on, state_starts, sums_up}
use Rattle.mote_sim.proofs.Seeds.{made_input}
use Rattle.mote_sim.proofs.generating.run_seed.Goals as goal

pub sum_up-requires-clause-going : goal.sum_up-requires-clause-going
sum_up-requires-clause-going c = goes_on c.in_ok-mote.ensures

pub sum_up-requires-clause-few : goal.sum_up-requires-clause-few
sum_up-requires-clause-few c =
    let i = run_input generated_units generated_handler (bytes_of c.deref.result.now) c.in_ok-bundle.bundle.script.events.items in
    room_at_start (state_of part c.in_ok-mote.mote) i (state_starts c.in_ok-mote.mote i false c.in_ok-mote.ensures) (omega arith) c.in_ok-bundle.ensures.few

pub returns : goal.returns
returns c =
    let images = bytes_of c.deref.result.now in
    let events = c.in_ok-bundle.bundle.script.events.items in
    subst (λ i. SumsUp i c.sum_up.result)
    (made_input c.args.seed images events (ap bytes_of c.deref.ensures.value ∙ c.in_ok-bundle.ensures.images) c.in_ok-bundle.ensures.events)
    (sums_up (run_input generated_units generated_handler images events) c.in_ok-mote.ensures c.sum_up.ensures)
