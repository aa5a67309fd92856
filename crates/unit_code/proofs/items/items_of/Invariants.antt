use Rattle.std.proofs.Common.{◌≡◌, ◌++◌, drop}
use Rattle.unit_code.specs.Items.{items_from, items_of}
use Rattle.unit_code.specs.Sound.{AreSound}
use Rattle.unit_code.proofs.items.items_of.Given as goal

-- the items so far, and those of what is left
abbrev pub invariant-loop-place : goal.invariant-loop-place
invariant-loop-place l = record {
  told : l.items.items ++ items_from l.over l.place (drop l.place l.code) ≡ items_of l.code;
  sound : AreSound l.items.items;
}
