use Rattle.std.proofs.Common.{◌∙◌, ◌++◌, ◌-◌, ap, sym, append_assoc}
use Rattle.std.proofs.lemmas.List.{append-nil}
use Rattle.word_run.specs.WordRun.{WordsActed, begun_lines, one_step, run_from}
use Rattle.unit_run.specs.Ways.{way_of}
use Rattle.unit_run.proofs.Rounds.{domain_there, round_ended, round_landed, round_more}
use Rattle.unit_run.proofs.flash.FlashRunner.+run_words.Goals as goal

pub unit_at-requires : goal.unit_at-requires
unit_at-requires t c =
    domain_there c.args.left c.args.self.now c.args.run.now c.args.k.now c.args.address c.if-left-eq0.false c.run_one.new.k c.in-Going.address c.in-Some.run'
    c.run_one.ensures.kernel (sym c.run_one.ensures.way ∙ ap way_of c.in-Going.is) (sym c.handler.ensures ∙ c.in-Some.is) c.requires.can

pub returns-in-Stopped-clause-kernel : goal.returns-in-Stopped-clause-kernel
returns-in-Stopped-clause-kernel t c =
    let end = round_ended c.args.left c.args.self.now c.args.run.now c.args.k.now c.args.address c.if-left-eq0.false c.in-Stopped.ending (sym c.run_one.ensures.way ∙ ap way_of c.in-Stopped.is) in
    c.run_one.ensures.kernel ∙ ap (λ (x : WordsActed). x.kernel) (sym end)

pub returns-in-Stopped-clause-runner : goal.returns-in-Stopped-clause-runner
returns-in-Stopped-clause-runner t c =
    let end = round_ended c.args.left c.args.self.now c.args.run.now c.args.k.now c.args.address c.if-left-eq0.false c.in-Stopped.ending (sym c.run_one.ensures.way ∙ ap way_of c.in-Stopped.is) in
    ap (λ (x : WordsActed). x.runner) (sym end)

pub returns-in-Stopped-clause-ending : goal.returns-in-Stopped-clause-ending
returns-in-Stopped-clause-ending t c =
    let end = round_ended c.args.left c.args.self.now c.args.run.now c.args.k.now c.args.address c.if-left-eq0.false c.in-Stopped.ending (sym c.run_one.ensures.way ∙ ap way_of c.in-Stopped.is) in
    ap (λ (x : WordsActed). x.ending) (sym end)

pub returns-in-Stopped-clause-lines : goal.returns-in-Stopped-clause-lines
returns-in-Stopped-clause-lines t c =
    let old = c.args.lines.now in
    let begun = begun_lines c.args.self.now c.args.k.now c.args.address in
    let more = (one_step c.args.self.now c.args.run.now c.args.k.now c.args.address).lines in
    let end = round_ended c.args.left c.args.self.now c.args.run.now c.args.k.now c.args.address c.if-left-eq0.false c.in-Stopped.ending (sym c.run_one.ensures.way ∙ ap way_of c.in-Stopped.is) in
    c.run_one.ensures.lines
    ∙ ap (λ ls. ls ++ more) c.tell.ensures.lines
    ∙ append_assoc old begun more
    ∙ ap (λ ls. old ++ (begun ++ ls)) (sym (append-nil more))
    ∙ ap (λ (x : WordsActed). old ++ x.lines) (sym end)

pub returns-in-Some-unit_at-clause-lines : goal.returns-in-Some-unit_at-clause-lines
returns-in-Some-unit_at-clause-lines t c =
    let old = c.args.lines.now in
    let begun = begun_lines c.args.self.now c.args.k.now c.args.address in
    let more = (one_step c.args.self.now c.args.run.now c.args.k.now c.args.address).lines in
    let end = round_landed c.args.left c.args.self.now c.args.run.now c.args.k.now c.args.address c.if-left-eq0.false c.run_one.new.k c.in-Going.address c.in-Some.run'
    c.run_one.ensures.kernel (sym c.run_one.ensures.way ∙ ap way_of c.in-Going.is) (sym c.handler.ensures ∙ c.in-Some.is) c.in-Some-unit_at.unit (sym c.unit_at.ensures ∙ c.in-Some-unit_at.is) in
    c.run_one.ensures.lines
    ∙ ap (λ ls. ls ++ more) c.tell.ensures.lines
    ∙ append_assoc old begun more
    ∙ ap (λ ls. old ++ (begun ++ ls)) (sym (append-nil more))
    ∙ ap (λ (x : WordsActed). old ++ x.lines) (sym end)

pub returns-in-None-clause-lines : goal.returns-in-None-clause-lines
returns-in-None-clause-lines t c =
    let old = c.args.lines.now in
    let begun = begun_lines c.args.self.now c.args.k.now c.args.address in
    let more = (one_step c.args.self.now c.args.run.now c.args.k.now c.args.address).lines in
    let rest = (run_from (c.args.left - 1) c.args.self.now c.in-Some.run' c.run_one.new.k c.in-Going.address).lines in
    let end = round_more c.args.left c.args.self.now c.args.run.now c.args.k.now c.args.address c.if-left-eq0.false c.run_one.new.k c.in-Going.address c.in-Some.run'
    c.run_one.ensures.kernel (sym c.run_one.ensures.way ∙ ap way_of c.in-Going.is) (sym c.handler.ensures ∙ c.in-Some.is) (sym c.unit_at.ensures ∙ c.in-None.is) in
    c.run_words.ensures.lines
    ∙ ap (λ ls. ls ++ rest) (c.run_one.ensures.lines ∙ ap (λ ls. ls ++ more) c.tell.ensures.lines)
    ∙ append_assoc (old ++ begun) more rest
    ∙ append_assoc old begun (more ++ rest)
    ∙ ap (λ (x : WordsActed). old ++ x.lines) (sym end)
