use Rattle.std.proofs.Common.{arith}
use Rattle.module_image.proofs.Images.{image_takes}
use Rattle.module_image.proofs.reading.view.Goals as goal

pub new-requires-clause-rules : goal.new-requires-clause-rules
new-requires-clause-rules c = (image_takes c.args.file.now _ (λ i. omega (arith, c.type_inv.file i)) c.in_ok-settings.ensures.exact).rules
