use Rattle.std.proofs.Common.{◌≤◌, length, subst, sym}
use Rattle.mote_layout.specs.Memory.{bank_words}
use Rattle.unit_code.specs.Listing.{BankListing}
use Rattle.unit_run.specs.FlashRunners.{IsBank}
use Rattle.unit_run.proofs.Placing.{few_starts, few_units, placeable_bank}
use Rattle.unit_run.proofs.flash_run.FlashRunnerRunner.place.Goals as goal

pub fill-requires-clause-units : goal.fill-requires-clause-units
fill-requires-clause-units c =
    rw c.deref.ensures.value
    (subst (λ (b : BankListing). length b.units ≤ bank_words) (sym c.code.view_is) (few_units c.args.code.now c.requires.placeable))

pub fill-requires-clause-starts : goal.fill-requires-clause-starts
fill-requires-clause-starts c =
    rw c.deref-3.ensures.value
    (subst (λ (b : BankListing). length b.starts ≤ bank_words) (sym c.code.view_is) (few_starts c.args.code.now c.requires.placeable))

pub fill-requires-clause-bank : goal.fill-requires-clause-bank
fill-requires-clause-bank c =
    rw (c.deref.ensures.value, c.deref-2.ensures.value, c.deref-3.ensures.value)
    (subst (λ (b : BankListing). IsBank b.units b.words b.starts) (sym c.code.view_is) (placeable_bank c.args.code.now c.requires.placeable))
