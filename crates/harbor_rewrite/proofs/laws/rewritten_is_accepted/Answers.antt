use Rattle.std.proofs.Common.{◌≡◌, None, arith, subst}
use Rattle.module_image.specs.Contents.{Contents}
use Rattle.harbor_verify.specs.Verdict.{refusal, units_in}
use Rattle.harbor_rewrite.specs.Rewritten.{listing_of, marks_of}
use Rattle.harbor_rewrite.proofs.laws.rewritten_is_accepted.Goals as goal

pub returns : goal.returns
returns c = λ o r file made image.
    let read = c.words_are_judged.ensures.read made.0.code (marks_of made.0) made.0.sealed (listing_of o).units made.1 (omega (arith, made.2.rules.code_count)) made.2.rules.code made.3 in
    subst (λ (x : Contents). (refusal x.code (marks_of x) x.sealed ≡ None) × (units_in x.code ≡ (listing_of o).units)) (c.one_reading.ensures.one file made.0 r made.2 image) (read.0, read.1)
