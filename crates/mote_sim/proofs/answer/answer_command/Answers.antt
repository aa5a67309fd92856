use Rattle.std.proofs.Common.{refl}
use Rattle.mote_sim.specs.Outcome.{Refuses, outcome_by}
use Rattle.mote_sim.specs.Refusal.{TooLong}
use Rattle.mote_sim.specs.Reading.{Whole, Longer, bytes_of}
use Rattle.mote_sim.proofs.Calls.{asks_by}
use Rattle.mote_sim.proofs.Ends.{ends_map}
use Rattle.mote_sim.proofs.answer.answer_command.Goals as goal

pub returns-in-Ok-clause-ends : goal.returns-in-Ok-clause-ends
returns-in-Ok-clause-ends g c =
    ends_map _ _ _ _ _ _ _ _ _
    (λ s t a. record {
      found = outcome_by c.args.kind (bytes_of c.in-Ok.files.items);
      may = record { bytes = Whole (bytes_of c.in-Ok.files.items); read = c.in-Ok.ensures.asks; is = refl; told = c.in-Ok.ensures.gathers.is };
      answer = rw (← c.deref.ensures.value) a;
    }) c.in-Ok.ensures.gathers.kept c.perform.result c.perform.ensures

pub returns-in-Err-TooLong-clause-ends : goal.returns-in-Err-TooLong-clause-ends
returns-in-Err-TooLong-clause-ends g c =
    let stops = rw c.in-Err-TooLong.field-0-is at c.in-Err-TooLong.ensures.gathers in
    let asks = rw c.in-Err-TooLong.field-0-is at c.in-Err-TooLong.ensures.asks in
    ends_map _ _ _ _ _ _ _ _ _
    (λ s t a. record {
      found = Refuses (TooLong c.in-Err-TooLong.number);
      may = record { bytes = Longer c.in-Err-TooLong.number; read = asks; is = refl; told = stops.is };
      answer = (a.0, cc);
    }) stops.kept c.put_size.result c.put_size.ensures

pub returns-in-Ok-clause-asks : goal.returns-in-Ok-clause-asks
returns-in-Ok-clause-asks g c = asks_by _ _ _ _ _ _ _ _ _ _ _ _ c.perform.result c.perform.ensures c.in-Ok.ensures.asks

pub returns-in-Err-TooLong-clause-asks : goal.returns-in-Err-TooLong-clause-asks
returns-in-Err-TooLong-clause-asks g c =
    let asks = rw c.in-Err-TooLong.field-0-is at c.in-Err-TooLong.ensures.asks in
    asks_by _ _ _ _ _ _ _ _ _ _ _ _ c.put_size.result c.put_size.ensures asks
