use Rattle.std.proofs.Common.{◌∙◌, ◌+◌, drop, rules, sym}
use Rattle.unit_code.specs.Spelling.{start_of}
use Rattle.harbor_verify.specs.Walks.{forms_in}
use Rattle.harbor_verify.proofs.NthForm.{first_words, long_last, long_more}
use Rattle.harbor_verify.proofs.targets.long_branch.Goals as goal

pub returns-then-no_more : goal.returns-then-no_more
returns-then-no_more c =
    long_last c.args.starts.now c.args.n (start_of c.args.starts.now c.args.n) c.args.set c.args.bit c.args.offset (drop (c.args.n + 1) (forms_in c.args.code.now)) (sym c.no_more.ensures ∙ c.if-no_more.true)

pub branch_to-requires : goal.branch_to-requires
branch_to-requires c = first_words c.args.code.now c.args.starts.now c.requires.parts

pub returns : goal.returns
returns c =
    long_more c.args.starts.now c.args.n (start_of c.args.starts.now c.args.n) c.args.set c.args.bit c.args.offset (drop (c.args.n + 1) (forms_in c.args.code.now)) c.branch_to.result
    (sym c.no_more.ensures ∙ c.if-no_more.false) (search rules)
