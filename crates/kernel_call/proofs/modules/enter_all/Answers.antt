use Rattle.std.proofs.Common.{◌≡◌, ◌+◌, suc, arith, get_or}
use Rattle.kernel_call.proofs.Tables.{one_entered, got_at}
use Rattle.kernel_call.proofs.modules.enter_all.Goals as goal

pub loop-place-preserved : goal.loop-place-preserved
loop-place-preserved c = λ d place.
    let n = c.loop-place.place in
    let next : n + 1 ≡ suc n = omega arith in
    rw next
    (one_entered c.args.units.now c.args.domain n (get_or c.args.units.now n 0) c.args.table.now c.loop-place.table c.set.new.self
    (got_at c.args.units.now n c.loop-place-test.true) c.loop-place.invariant c.set.ensures d place)
