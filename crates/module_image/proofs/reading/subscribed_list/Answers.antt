use Rattle.std.proofs.Common.{◌+◌, refl, arith}
use Rattle.std.proofs.lemmas.Result.{err_from_is_err_and}
use Rattle.module_image.specs.Reading.{subscribed_at}
use Rattle.module_image.proofs.Loop.{subscribed_goes_on, subscribed_ends, subscribed_done}
use Rattle.module_image.proofs.reading.subscribed_list.Goals as goal

pub returns-in_err-entry : goal.returns-in_err-entry
returns-in_err-entry c =
    let p = err_from_is_err_and c.from_residual.result c.from_residual.ensures.1 in
    rw (p.1, p.2) (subscribed_ends c.in_err-entry.field-0.0 c.loop.list.items c.args.count c.loop.counter c.loop.at c.loop.rest.now (subscribed_at c.args.count c.args.start c.args.bytes.now) c.loop-test.true c.in_err-entry.ensures c.loop.invariant.so_far)

pub loop-preserved : goal.loop-preserved
loop-preserved c =
    record {
      so_far = rw (c.push.ensures.items) (subscribed_goes_on c.loop.list.items c.args.count c.loop.counter c.loop.at (c.loop.at + 6) c.loop.rest.now c.in_ok-entry.entry c.in_ok-entry.after.now (subscribed_at c.args.count c.args.start c.args.bytes.now) c.loop-test.true refl c.in_ok-entry.ensures c.loop.invariant.so_far);
      held = omega (arith, c.push.ensures.len);
      place = omega arith;
      bound = omega arith;
    }

pub returns : goal.returns
returns c = subscribed_done c.loop.list.items c.args.count c.loop.counter c.loop.at c.loop.rest.now (subscribed_at c.args.count c.args.start c.args.bytes.now) c.loop-test.false c.loop.invariant.so_far
