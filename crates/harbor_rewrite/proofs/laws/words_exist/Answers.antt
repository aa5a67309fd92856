use Rattle.std.proofs.Common.{◌++◌, ℕ, ◌<◌, ◌^◌, List, [], ◌∷◌, refl, arith, rules}
use Rattle.std.specs.List.{AllByRecursion}
use Rattle.harbor_short.proofs.Chosen.{chosen_shapes}
use Rattle.harbor_rewrite.proofs.Joining.{joined_all, joined_first, joined_next}
use Rattle.harbor_rewrite.proofs.laws.words_exist.Goals as goal

both_small : (a b : List ℕ) → AllByRecursion (λ word. word < 2 ^ 16) a → AllByRecursion (λ word. word < 2 ^ 16) b → AllByRecursion (λ word. word < 2 ^ 16) (a ++ b)
both_small [] b h k = k
both_small (w ∷ a) b h k = (h.0, both_small a b h.1 k)

pub loop-i-init : goal.loop-i-init
loop-i-init c = ([], tt, joined_first c.args.units.now c.args.shapes.now c.args.starts.now)

pub spell_unit-requires-clause-shapes : goal.spell_unit-requires-clause-shapes
spell_unit-requires-clause-shapes c = chosen_shapes c.args.units.now c.args.shapes.now c.requires.proper.1.targets c.requires.chosen

pub loop-i-preserved : goal.loop-i-preserved
loop-i-preserved c =
    let was = c.loop-i.invariant in
    let small : AllByRecursion (λ word. word < 2 ^ 16) c.spell_unit.new.out.items = search rules in (
      was.0 ++ c.spell_unit.new.out.items,
      both_small was.0 c.spell_unit.new.out.items was.1 small,
      joined_next c.args.units.now c.args.shapes.now c.args.starts.now was.0 (was.0 ++ c.spell_unit.new.out.items) c.spell_unit.new.out.items c.loop-i.i
          (chosen_shapes c.args.units.now c.args.shapes.now c.requires.proper.1.targets c.requires.chosen) c.requires.starts c.loop-i-test.true c.spell_unit.ensures refl was.2,
    )

pub returns : goal.returns
returns c =
    let all = c.loop-i.invariant in (
      all.0,
      record {
        shapes = c.args.shapes.now;
        chosen = c.requires.chosen;
        places = c.requires.starts;
        templates = joined_all c.args.units.now c.args.shapes.now c.args.starts.now all.0 c.loop-i.i c.requires.starts (omega arith) all.2;
        small = all.1;
      },
    )
