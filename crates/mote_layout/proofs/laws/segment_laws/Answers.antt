-- Each law is a lemma on the one segment.
use Rattle.mote_layout.proofs.OneSegment.{segment_at-starting_at, starting_at-segment_at, Fits-without, handed_over-inserted, without_owner-without}
use Rattle.mote_layout.proofs.laws.segment_laws.Goals as goal

pub returns-clause-at_its_start : goal.returns-clause-at_its_start
returns-clause-at_its_start c = segment_at-starting_at

pub returns-clause-from_its_start : goal.returns-clause-from_its_start
returns-clause-from_its_start c = starting_at-segment_at

pub returns-clause-free_again : goal.returns-clause-free_again
returns-clause-free_again c = Fits-without

pub returns-clause-put_back : goal.returns-clause-put_back
returns-clause-put_back c = handed_over-inserted

pub returns-clause-one_fewer : goal.returns-clause-one_fewer
returns-clause-one_fewer c = without_owner-without
