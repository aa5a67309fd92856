use Rattle.unit_run.proofs.Placing.{nothing_kept}
use Rattle.unit_run.proofs.flash.FlashRunner.new.Goals as goal

pub invariant_of-result : goal.invariant_of-result
invariant_of-result c =
    nothing_kept c.in_ok-units.units c.in_ok-flash.flash c.in_ok-starts.starts.items c.args.words
    c.in_ok-units.ensures c.in_ok-flash.ensures.empty c.in_ok-starts.ensures
