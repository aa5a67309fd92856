use Rattle.std.proofs.Common.{◌≡◌, List, ℕ, map, subst, rules}
use Rattle.unit_code.specs.Spelling.{start_of}
use Rattle.module_image.specs.Spelling.{Image}
use Rattle.harbor_rewrite.specs.Rewritten.{entered_at, with_code}
use Rattle.harbor_rewrite.proofs.Images.{spells_original}
use Rattle.harbor_rewrite.proofs.image.rewrite.Goals as goal

pub returns-clause-spelled : goal.returns-clause-spelled
returns-clause-spelled c =
    let marks : c.deref.result.now ≡ c.in_ok-list.list.marks = search rules in
    let P : List ℕ → Type 0 = λ l. Image c.in_ok-write.field-0.items (with_code (entered_at c.args.image.now (map (start_of c.in_ok-code.code.starts) l)) c.in_ok-code.code.words) in
    spells_original c.args.image.now c.in_ok-list.list c.in_ok-code.code.words c.in_ok-code.code.starts c.in_ok-write.field-0.items
    c.in_ok-list.ensures.listed c.in_ok-list.ensures.together c.in_ok-list.ensures.proper c.in_ok-code.ensures.emitted c.in_ok-code.ensures.placed (subst P marks c.in_ok-write.ensures)
