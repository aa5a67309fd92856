use Rattle.std.proofs.Common.{◌∙◌, ap, arith, length, sym}
use Rattle.harbor_verify.specs.Verdict.{units_in}
use Rattle.harbor_verify.proofs.FirstLaw.{refusal_is_first}
use Rattle.harbor_verify.proofs.Straight.{few_starts, is_told, refused_spells_none}
use Rattle.harbor_verify.proofs.verdict.verify.Goals as goal

pub returns-in-Some-clause-first : goal.returns-in-Some-clause-first
returns-in-Some-clause-first c =
    refusal_is_first c.args.sealed c.args.code.now c.args.marks.now c.requires c.len-count.ensures.words c.in-Some.e (sym c.refused.ensures.value ∙ c.in-Some.is)

pub returns-in-Some-clause-only : goal.returns-in-Some-clause-only
returns-in-Some-clause-only c =
    refused_spells_none c.args.sealed c.args.code.now c.args.marks.now c.in-Some.e c.requires c.len-count.ensures.words (sym c.refused.ensures.value ∙ c.in-Some.is)

pub overflow_cast-result : goal.overflow_cast-result
overflow_cast-result c =
    let told = is_told c.args.sealed c.args.code.now c.args.marks.now c.refused.new.starts (length c.as_slice.result.now) c.requires c.len-count.ensures.words (sym c.refused.ensures.value ∙ c.in-None.is) c.in-None.ensures.starts (ap length c.as_slice.ensures) in
    let same = ap length c.as_slice.ensures in
    omega (arith, same, few_starts c.args.sealed c.args.code.now c.args.marks.now c.refused.new.starts (length c.as_slice.result.now) c.requires c.len-count.ensures.words told)

pub returns-in-None-clause-ok : goal.returns-in-None-clause-ok
returns-in-None-clause-ok c =
    let told = is_told c.args.sealed c.args.code.now c.args.marks.now c.refused.new.starts (length c.as_slice.result.now) c.requires c.len-count.ensures.words (sym c.refused.ensures.value ∙ c.in-None.is) c.in-None.ensures.starts (ap length c.as_slice.ensures) in
    (units_in c.args.code.now, told.spells, told.many)

pub returns-in-None-clause-accepted : goal.returns-in-None-clause-accepted
returns-in-None-clause-accepted c =
    let told = is_told c.args.sealed c.args.code.now c.args.marks.now c.refused.new.starts (length c.as_slice.result.now) c.requires c.len-count.ensures.words (sym c.refused.ensures.value ∙ c.in-None.is) c.in-None.ensures.starts (ap length c.as_slice.ensures) in
    record { sealed = c.args.sealed; marks = c.args.marks.now; units = units_in c.args.code.now; spells = told.spells }

pub returns-in-None-clause-only : goal.returns-in-None-clause-only
returns-in-None-clause-only c =
    let told = is_told c.args.sealed c.args.code.now c.args.marks.now c.refused.new.starts (length c.as_slice.result.now) c.requires c.len-count.ensures.words (sym c.refused.ensures.value ∙ c.in-None.is) c.in-None.ensures.starts (ap length c.as_slice.ensures) in
    λ units places h. told.only units places h

pub returns-in-None-clause-value : goal.returns-in-None-clause-value
returns-in-None-clause-value c =
    let told = is_told c.args.sealed c.args.code.now c.args.marks.now c.refused.new.starts (length c.as_slice.result.now) c.requires c.len-count.ensures.words (sym c.refused.ensures.value ∙ c.in-None.is) c.in-None.ensures.starts (ap length c.as_slice.ensures) in
    (sym c.refused.ensures.value ∙ c.in-None.is, c.in-None.ensures.starts, told.many)
