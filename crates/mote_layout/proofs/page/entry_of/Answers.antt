-- The answer stands at the address, or nothing does: so it is the page's entry.
use Rattle.mote_layout.proofs.EntryPage.{entry_at-answer}
use Rattle.mote_layout.proofs.page.entry_of.Goals as goal

pub returns-clause-value : goal.returns-clause-value
returns-clause-value c =
    entry_at-answer c.row_of.result c.args.address c.row_of.ensures.standing c.row_of.ensures.empty
