use Rattle.avr_asm.proofs.Sources.{subscribed_step}
use Rattle.avr_asm.proofs.sourcing.put_subscribed.Goals as goal

pub loop-entry-preserved : goal.loop-entry-preserved
loop-entry-preserved c = subscribed_step c.args.subscribed.now c.loop-entry.entry-index _ c.loop-entry.out.items c.put_subscribed_line.new.out.items _ c.loop-entry-test.true c.in_ok-put_subscribed_line.ensures c.loop-entry.invariant
