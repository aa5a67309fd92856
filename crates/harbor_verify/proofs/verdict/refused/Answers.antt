use Rattle.std.proofs.Common.{◌∙◌, sym}
use Rattle.harbor_verify.proofs.Chained.{by_parts, by_templates, by_words}
use Rattle.harbor_verify.proofs.Walking.{none_left}
use Rattle.harbor_verify.proofs.verdict.refused.Goals as goal

pub returns-in-Some-clause-value : goal.returns-in-Some-clause-value
returns-in-Some-clause-value c = sym (by_words c.args.code.now c.args.marks.now c.args.sealed c.in-Some.place (sym c.first_unfit.ensures ∙ c.in-Some.is))

pub returns-in-Some-note_starts-clause-value : goal.returns-in-Some-note_starts-clause-value
returns-in-Some-note_starts-clause-value c =
    sym (by_templates c.args.code.now c.args.marks.now c.args.sealed c.in-Some-note_starts.place (sym c.first_unfit.ensures ∙ none_left c.first_unfit.result c.in_default.not-Some) (sym c.note_starts.ensures.gap ∙ c.in-Some-note_starts.is))

pub refused_parts-requires : goal.refused_parts-requires
refused_parts-requires c =
    record {
      sealed = c.args.sealed;
      small = c.requires.small;
      few = c.requires.few;
      fit = sym c.first_unfit.ensures ∙ none_left c.first_unfit.result c.in_default.not-Some;
      stand = sym c.note_starts.ensures.gap ∙ none_left c.note_starts.result c.in_default-note_starts.not-Some;
      starts_are = c.as_slice.ensures ∙ c.in_default-note_starts.ensures.starts;
    }

pub returns-clause-value : goal.returns-clause-value
returns-clause-value c =
    c.refused_parts.ensures
    ∙ sym (by_parts c.args.code.now c.args.marks.now c.args.sealed (sym c.first_unfit.ensures ∙ none_left c.first_unfit.result c.in_default.not-Some) (sym c.note_starts.ensures.gap ∙ none_left c.note_starts.result c.in_default-note_starts.not-Some))
