use Rattle.std.proofs.Common.{arith, rules, inr, refl}
use Rattle.module_image.proofs.PartLemmas.{flags_back}
use Rattle.module_image.proofs.Written.{image_ok, words_fit}
use Rattle.module_image.proofs.writing.write_image2.Goals as goal

pub returns : goal.returns
returns c = record {
  image = image_ok c.write.result _ c.args.flags (flags_back c.args.flags c.requires.flags) c.write.ensures (record {
    face = c.requires.face;
    version = inr refl;
    plain = λ first. absurd (omega (arith, first));
    state_size = search rules;
    handler = search rules;
    code_count = c.requires.code;
    code = words_fit c.args.code.now (λ i. omega (arith, c.type_inv.code i));
    constants_count = c.requires.constants;
  });
}
