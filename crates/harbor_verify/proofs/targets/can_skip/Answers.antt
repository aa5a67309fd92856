use Rattle.std.proofs.Common.{◌∙◌, ◌+◌, ap, length, not, sym}
use Rattle.std.proofs.lemmas.Bool.{le-ltb}
use Rattle.harbor_verify.proofs.NthForm.{can_few, can_more}
use Rattle.harbor_verify.proofs.targets.can_skip.Goals as goal

pub returns-then-n-starts : goal.returns-then-n-starts
returns-then-n-starts c =
    ap not c.is_group.ensures ∙ sym (can_more c.args.code.now c.args.starts.now c.requires.parts c.args.n c.nth_form.result c.nth_form.ensures.form c.if-n-starts.true)

pub returns-else-n-starts : goal.returns-else-n-starts
returns-else-n-starts c =
    le-ltb (c.args.n + 1) (length c.args.starts.now) c.if-n-starts.false ∙ sym (can_few c.args.code.now c.args.starts.now c.requires.parts c.args.n c.if-n-starts.false)
