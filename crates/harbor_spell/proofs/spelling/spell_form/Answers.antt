use Rattle.std.proofs.Common.{ℤ, subst, sym}
use Rattle.std.specs.List.{AllByRecursion}
use Rattle.avr_isa.specs.Operands.{IsEncodable}
use Rattle.unit_code.specs.declared.form.Form.{Form}
use Rattle.unit_code.specs.declared.form.Form.TheVariants.{LongSkip}
use Rattle.unit_code.specs.Templates.{template}
use Rattle.unit_code.specs.Beside.{AreWordsOf}
use Rattle.harbor_spell.proofs.Encodes.{branch_offset_kept, jump_offset_kept, offset_of_branch}
use Rattle.harbor_spell.proofs.spelling.spell_form.Goals as goal

pub branch-set-requires : goal.branch-set-requires
branch-set-requires c =
    let P : Form → Type 0 = λ f. AllByRecursion IsEncodable (template f) in
    let all = subst P c.in-ShortBranch.is c.requires.encodable in
    branch_offset_kept c.in-ShortBranch.offset (offset_of_branch c.in-ShortBranch.set c.in-ShortBranch.bit c.in-ShortBranch.offset all.0)

pub returns-in-LongSkip : goal.returns-in-LongSkip
returns-in-LongSkip c =
    let E : Form → Type 0 = λ f. AllByRecursion IsEncodable (template f) in
    let all = subst E c.in-LongSkip.is c.requires.encodable in
    let P : Form → Type 0 = λ f. AreWordsOf (template f) c.spell-in-LongSkip.new.out.items in
    let Q : ℤ → Type 0 = λ k. P (LongSkip c.in-LongSkip.skip k) in
    subst P (sym c.in-LongSkip.is) (subst Q (jump_offset_kept c.in-LongSkip.offset all.1.1.0) c.spell-in-LongSkip.ensures)
