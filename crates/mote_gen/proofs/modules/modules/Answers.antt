use Rattle.std.proofs.Common.{◌≡◌, ◌+◌, ◌*◌, ◌∙◌, ap, map, sym, arith}
use Rattle.module_image.specs.Spelling.{spelling}
use Rattle.mote_gen.specs.Bundle.{files_of}
use Rattle.mote_gen.specs.Numbers.{module_draws, number, numbers_of}
use Rattle.mote_gen.proofs.Drawn.{number-zero, number_later}
use Rattle.mote_gen.proofs.Images.{files_of-push, first_modules-zero, images_more}
use Rattle.mote_gen.proofs.modules.modules.Goals as goal

pub loop-place-init : goal.loop-place-init
loop-place-init c = record {
  last = sym (number-zero c.args.numbers.now.last);
  images = ap files_of c.new-images.ensures.items ∙ sym (ap (map spelling) (first_modules-zero (numbers_of c.args.numbers.now.last)));
}

pub loop-place-preserved : goal.loop-place-preserved
loop-place-preserved c = record {
  last = number_later _ _ (module_draws * c.loop-place.place) module_draws _ c.loop-place.invariant.last c.module.ensures.last
      ∙ ap (number c.args.numbers.now.last) (let at : module_draws * c.loop-place.place + module_draws ≡ module_draws * (c.loop-place.place + 1) = omega arith in at);
  images = ap files_of c.in_ok-push.ensures.items ∙ (files_of-push c.loop-place.images.items c.in_ok-module.field-0
      ∙ images_more _ _ c.loop-place.place _ _ (omega arith) c.loop-place.invariant.last c.loop-place.invariant.images c.in_ok-module.ensures.image);
}
