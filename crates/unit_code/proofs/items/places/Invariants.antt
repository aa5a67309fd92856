use Rattle.std.proofs.Common.{◌≡◌, ◌++◌, drop, map}
use Rattle.unit_code.proofs.items.places.Given as goal

-- the places so far, and those of what is left
abbrev pub invariant-loop-item : goal.invariant-loop-item
invariant-loop-item l = l.places.items ++ map (λ item. item.place) (drop l.item-index l.items) ≡ map (λ item. item.place) l.items
