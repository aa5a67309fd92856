use Rattle.std.proofs.Common.{◌+◌, refl, arith}
use Rattle.std.proofs.lemmas.Result.{err_from_is_err_and}
use Rattle.module_image.specs.Reading.{provided_at}
use Rattle.module_image.proofs.Loop.{provided_goes_on, provided_ends, provided_done}
use Rattle.module_image.proofs.reading.provided_list.Goals as goal

pub returns-in_err-entry : goal.returns-in_err-entry
returns-in_err-entry c =
    let p = err_from_is_err_and c.from_residual.result c.from_residual.ensures.1 in
    rw (p.1, p.2) (provided_ends c.in_err-entry.field-0.0 c.loop.list.items c.args.count c.loop.counter c.loop.at c.loop.least c.loop.rest.now (provided_at c.args.count c.args.start 0 c.args.bytes.now) c.loop-test.true c.in_err-entry.ensures c.loop.invariant.so_far)

pub loop-preserved : goal.loop-preserved
loop-preserved c =
    record {
      so_far = rw (c.push.ensures.items, c.from-least.ensures) (provided_goes_on c.loop.list.items c.args.count c.loop.counter c.loop.at (c.loop.at + 7) c.loop.least c.loop.rest.now c.in_ok-entry.entry c.in_ok-entry.after.now (provided_at c.args.count c.args.start 0 c.args.bytes.now) c.loop-test.true refl c.in_ok-entry.ensures c.loop.invariant.so_far);
      held = omega (arith, c.push.ensures.len);
      place = omega arith;
      bound = omega arith;
    }

pub returns : goal.returns
returns c = provided_done c.loop.list.items c.args.count c.loop.counter c.loop.at c.loop.least c.loop.rest.now (provided_at c.args.count c.args.start 0 c.args.bytes.now) c.loop-test.false c.loop.invariant.so_far
