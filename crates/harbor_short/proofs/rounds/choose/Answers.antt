use Rattle.std.proofs.Common.{◌≡◌, ◌∙◌, ◌++◌, ℕ, List, length, sym, subst, rules}
use Rattle.harbor_short.proofs.Chosen.{chosen_read, chosen_shapes}
use Rattle.unit_code.specs.Spelling.{AreReadSo, AreShapesOf}
use Rattle.std.proofs.lemmas.List.{take_at}
use Rattle.harbor_short.specs.Rounds.{AreChosen}
use Rattle.unit_code.specs.declared.unit.Shape.{Shape}
use Rattle.harbor_short.proofs.rounds.choose.Goals as goal
use Rattle.std.proofs.Common.{take, drop}

kept : {A : Type 0} (n : ℕ) (new old : List A) → length old ≡ n → length new ≡ length old → take n (new ++ drop (length new) old) ≡ new
kept n new old e h = take_at new (drop (length new) old) n (h ∙ e)

pub returns-clause-shapes : goal.returns-clause-shapes
returns-clause-shapes c =
    let h : AreChosen c.args.units.now c.make_rounds.new.shapes = c.make_rounds.ensures in
    let P : List Shape → Type 0 = λ l. AreShapesOf c.args.units.now l in
    subst P (sym (kept c.in_ok-shapes.shapes.len c.make_rounds.new.shapes c.in_ok-shapes.shapes.items (search rules) (search rules))) (chosen_shapes c.args.units.now c.make_rounds.new.shapes c.requires.1.targets h)

pub returns-clause-read : goal.returns-clause-read
returns-clause-read c =
    let h : AreChosen c.args.units.now c.make_rounds.new.shapes = c.make_rounds.ensures in
    let P : List Shape → Type 0 = λ l. AreReadSo c.args.units.now l in
    subst P (sym (kept c.in_ok-shapes.shapes.len c.make_rounds.new.shapes c.in_ok-shapes.shapes.items (search rules) (search rules))) (chosen_read c.args.units.now c.make_rounds.new.shapes h)
