use Rattle.std.proofs.Common.{◌∙◌, ap, sym, ◌++◌, ◌∷◌, []}
use Rattle.mote_gen.specs.Packets.{load_of}
use Rattle.mote_gen.proofs.Events.{first_loads-zero, first_loads_more}
use Rattle.mote_gen.proofs.packets.loads.Goals as goal

pub loop-image-init : goal.loop-image-init
loop-image-init c = c.new-events.ensures.items ∙ sym first_loads-zero

pub loop-image-preserved : goal.loop-image-preserved
loop-image-preserved c =
    c.in_ok-push.ensures.items
    ∙ (ap (λ es. es ++ load_of c.loop-image.image ∷ []) c.loop-image.invariant
    ∙ sym (first_loads_more c.loop-image.image))
