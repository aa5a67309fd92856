-- The owner that the map gives decides for a domain, and the owner of the segment at the address for the kernel.
use Rattle.std.proofs.Common.{rules, eqb, ap}
use Rattle.store_check.proofs.Owners.{owner_tells, domain_tells, owner_test-is_owns}
use Rattle.store_check.proofs.store.owns.Goals as goal

pub returns-then-d-lt-KERNEL-clause-owned : goal.returns-then-d-lt-KERNEL-clause-owned
returns-then-d-lt-KERNEL-clause-owned c =
    domain_tells c.args.map.now c.args.d c.args.a _ c.owner_at.ensures.blocks c.if-d-lt-KERNEL.true (ap (λ o. eqb o c.args.d) c.owner_at.ensures.owner)

pub returns-then-d-lt-KERNEL-clause-value : goal.returns-then-d-lt-KERNEL-clause-value
returns-then-d-lt-KERNEL-clause-value c = owner_test-is_owns c.args.map.now c.args.d c.args.a _ (returns-then-d-lt-KERNEL-clause-owned c)

pub returns-else-d-lt-KERNEL-clause-owned : goal.returns-else-d-lt-KERNEL-clause-owned
returns-else-d-lt-KERNEL-clause-owned c =
    owner_tells c.args.map.now c.args.d c.args.a c.segment_at.result c.is_some_and.result c.segment_at.ensures.blocks c.segment_at.ensures.segment (search rules)

pub returns-else-d-lt-KERNEL-clause-value : goal.returns-else-d-lt-KERNEL-clause-value
returns-else-d-lt-KERNEL-clause-value c = owner_test-is_owns c.args.map.now c.args.d c.args.a _ (returns-else-d-lt-KERNEL-clause-owned c)
