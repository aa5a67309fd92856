use Rattle.std.proofs.Common.{◌∙◌, sym, arith}
use Rattle.module_image.proofs.Images.{is_image, image_read}
use Rattle.module_image.proofs.Refusals.{image_short}
use Rattle.module_image.proofs.reading.parse.Goals as goal

pub returns-clause-image : goal.returns-clause-image
returns-clause-image c = is_image c.args.file.now c.view.result (λ i. omega (arith, c.type_inv.file i)) c.view.ensures

pub returns-clause-only : goal.returns-clause-only
returns-clause-only c = λ contents image. image_read c.args.file.now c.view.result contents c.view.ensures image

pub returns-clause-short : goal.returns-clause-short
returns-clause-short c = λ at e. image_short c.args.file.now at (sym c.view.ensures ∙ e)
