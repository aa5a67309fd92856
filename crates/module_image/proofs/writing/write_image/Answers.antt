use Rattle.std.proofs.Common.{arith, rules, inl, refl, sym}
use Rattle.module_image.proofs.Written.{image_ok, words_fit}
use Rattle.module_image.proofs.writing.write_image.Goals as goal

pub returns : goal.returns
returns c = record {
  image = image_ok c.write.result _ _ (sym c.plain_flags-flags.ensures) c.write.ensures (record {
    face = c.requires.face;
    version = inl refl;
    plain = λ first. (refl, refl);
    state_size = search rules;
    handler = search rules;
    code_count = c.requires.code;
    code = words_fit c.args.code.now (λ i. omega (arith, c.type_inv.code i));
    constants_count = omega arith;
  });
}
