use Rattle.std.proofs.Common.{◌≡◌, ◌∷◌, map, take}
use Rattle.module_image.proofs.view.ImageView.marks.Given as goal

abbrev pub invariant-loop-provided : goal.invariant-loop-provided
invariant-loop-provided l = l.marks.items ≡ l.self.handler ∷ map (λ p. p.word) (take l.provided-index l.provided-items)
