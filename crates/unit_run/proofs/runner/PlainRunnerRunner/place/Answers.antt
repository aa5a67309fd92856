use Rattle.std.proofs.Common.{◌≤◌, length, subst, sym}
use Rattle.mote_layout.specs.Memory.{bank_words}
use Rattle.unit_code.specs.Listing.{BankListing}
use Rattle.domain_model.proofs.UnitLaws.{proper_fits}
use Rattle.unit_run.proofs.runner.PlainRunnerRunner.place.Goals as goal

pub fill-requires-clause-fits : goal.fill-requires-clause-fits
fill-requires-clause-fits c =
    rw c.deref.ensures.value
    (subst (λ (b : BankListing). length b.units ≤ bank_words) (sym c.code.view_is) (proper_fits c.args.code.now.units c.requires.placeable.spelled.proper))
