use Rattle.std.proofs.Common.{◌≡◌, sym, subst, rules}
use Rattle.module_image.specs.declared.face.Face.{Face}
use Rattle.module_image.specs.Contents.{FaceRules}
use Rattle.harbor_rewrite.specs.Rewritten.{with_entries}
use Rattle.harbor_rewrite.proofs.Entries.{face_with_entries}
use Rattle.harbor_rewrite.proofs.image.moved_face.Goals as goal

pub returns-clause-rules : goal.returns-clause-rules
returns-clause-rules c =
    let made : Face = record { id = c.face-id.result.id; provided = c.moved-provided.result; subscribed = c.face-id.result.subscribed } in
    let e : made ≡ with_entries c.args.image.now.face c.args.words.now = search rules in
    let P : Face → Type 0 = λ f. FaceRules f in
    subst P (sym e) (face_with_entries c.args.image.now.face c.args.words.now c.requires c.are_words.ensures c.face-id.ensures.rules.face)
