use Rattle.std.proofs.Common.{◌∙◌, ap, sym, length, length-append, arith, ℕ}
use Rattle.mote_gen.proofs.Drawn.{number-zero, number-next}
use Rattle.mote_gen.proofs.Events.{bytes_more}
use Rattle.mote_gen.proofs.packets.payload.Goals as goal

pub loop-place-init : goal.loop-place-init
loop-place-init c = record {
  last = sym (number-zero c.args.numbers.now.last);
  bytes = c.new-bytes.ensures;
  held = ap length c.new-bytes.ensures;
}

pub loop-place-preserved : goal.loop-place-preserved
loop-place-preserved c = record {
  last = number-next _ _ c.loop-place.place _ c.loop-place.invariant.last c.draw.ensures.last;
  bytes = c.push.ensures.added ∙ bytes_more _ _ c.loop-place.place _ _ c.loop-place.invariant.last c.loop-place.invariant.bytes c.draw.ensures.drawn;
  held = omega (arith, ap length c.push.ensures.added, length-append {A = ℕ}, c.loop-place.invariant.held);
}
