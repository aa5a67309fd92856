-- Each law is a lemma on lists of segments.
use Rattle.mote_layout.proofs.BlockLists.{AreBlocks-inserted, AreBlocks-without, AreBlocks-without_owner, AreBlocks-handed_over}
use Rattle.mote_layout.proofs.Owners.{Owns-segment_at, segment_at-none, owns-true, may_store-true, holds-true, Owns-inserted, Owns-without_owner}
use Rattle.mote_layout.proofs.laws.blocks_laws.Goals as goal

pub returns-clause-inserted : goal.returns-clause-inserted
returns-clause-inserted c = AreBlocks-inserted

pub returns-clause-without : goal.returns-clause-without
returns-clause-without c = AreBlocks-without

pub returns-clause-without_owner : goal.returns-clause-without_owner
returns-clause-without_owner c = AreBlocks-without_owner

pub returns-clause-handed_over : goal.returns-clause-handed_over
returns-clause-handed_over c = AreBlocks-handed_over

pub returns-clause-owner : goal.returns-clause-owner
returns-clause-owner c = Owns-segment_at

pub returns-clause-free : goal.returns-clause-free
returns-clause-free c = segment_at-none

pub returns-clause-owns : goal.returns-clause-owns
returns-clause-owns c = owns-true

pub returns-clause-may_store : goal.returns-clause-may_store
returns-clause-may_store c = may_store-true

pub returns-clause-holds : goal.returns-clause-holds
returns-clause-holds c = holds-true

pub returns-clause-owner_inserted : goal.returns-clause-owner_inserted
returns-clause-owner_inserted c = Owns-inserted

pub returns-clause-owner_gone : goal.returns-clause-owner_gone
returns-clause-owner_gone c = Owns-without_owner
