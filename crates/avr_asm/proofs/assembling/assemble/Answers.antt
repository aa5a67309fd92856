use Rattle.std.proofs.Common.{◌∙◌, ap, map, sym}
use Rattle.avr_asm.specs.Refusals.{refused}
use Rattle.avr_asm.specs.Seen.{row_seen}
use Rattle.avr_asm.specs.Text.{lines_in}
use Rattle.avr_asm.proofs.Images.{clear_rows}
use Rattle.avr_asm.proofs.assembling.assemble.Goals as goal

pub image_of-requires-clause-clear : goal.image_of-requires-clause-clear
image_of-requires-clause-clear c =
    clear_rows c.in_ok-rows.end (lines_in c.args.text.now) (map row_seen c.deref-in-None.result.now)
    (ap (map row_seen) c.deref-in-None.ensures.value ∙ c.in_ok-rows.ensures.rows)
    (ap (λ rows. refused c.in_ok-rows.end (map row_seen rows)) (c.deref-in-None.ensures.value ∙ sym c.deref-3.ensures.value) ∙ sym c.refused.ensures ∙ c.in-None.is)
