use Rattle.std.proofs.Common.{subst, sym, arith}
use Rattle.std.proofs.lemmas.Option.{get_or_from_slice_get}
use Rattle.avr_isa.specs.declared.instruction.Instr.TheVariants.{Nop}
use Rattle.unit_code.specs.declared.form.Form.{Form}
use Rattle.unit_code.specs.declared.unit.Shape.{Shape}
use Rattle.unit_code.specs.declared.unit.Shape.TheVariants.{Long}
use Rattle.unit_code.specs.declared.unit.Unit.{Unit}
use Rattle.unit_code.specs.declared.unit.Unit.TheVariants.{Plain}
use Rattle.unit_code.specs.Beside.{AreWordsOf}
use Rattle.unit_code.specs.Spelling.{form_of, start_of, starts_of}
use Rattle.unit_code.specs.Templates.{template}
use Rattle.harbor_spell.proofs.Encodes.{IsSpellable, shape_in, spelled_at}
use Rattle.harbor_spell.proofs.Placed.{same_count}
use Rattle.harbor_spell.proofs.spelling.spell_unit.Goals as goal

pub bounds-shapes-i : goal.bounds-shapes-i
bounds-shapes-i c =
    omega (arith, same_count (starts_of c.args.units.now c.args.shapes.now) 0 c.args.units.now c.args.shapes.now c.requires.shapes, c.requires.inside)

pub form_of-form-requires : goal.form_of-form-requires
form_of-form-requires c =
    (spelled_at c.args.units.now c.args.shapes.now c.args.starts.now c.requires.proper.0 c.args.i c.requires.proper.1 c.requires.shapes c.requires.starts c.requires.inside).0

pub spell_form-requires : goal.spell_form-requires
spell_form-requires c =
    let at = spelled_at c.args.units.now c.args.shapes.now c.args.starts.now c.requires.proper.0 c.args.i c.requires.proper.1 c.requires.shapes c.requires.starts c.requires.inside in
    let form = subst IsSpellable (sym c.form_of-form.ensures) at.1 in
    record { kind = form.0; encodable = form.1; room = form.2 }

pub returns : goal.returns
returns c = λ unit shape at by.
    let i = c.args.i in
    let spelled = λ (u : Unit) (s : Shape). AreWordsOf (template (form_of c.args.starts.now i (start_of c.args.starts.now i) u s)) c.spell_form.new.out.items in
    let here = subst (λ (f : Form). AreWordsOf (template f) c.spell_form.new.out.items) c.form_of-form.ensures c.spell_form.ensures in
    let of_unit = subst (λ (u : Unit). spelled u (shape_in c.args.shapes.now i)) (get_or_from_slice_get c.args.units.now i unit (Plain Nop) at) here in
    subst (spelled unit) (get_or_from_slice_get c.args.shapes.now i shape Long by) of_unit
