use Rattle.std.proofs.Common.{take}
use Rattle.unit_code.specs.Beside.{AreWordsOf}
use Rattle.harbor_spell.proofs.spelling.spell.Given as goal

-- the words are those of what was passed
abbrev pub invariant-loop-instruction : goal.invariant-loop-instruction
invariant-loop-instruction l = AreWordsOf (take l.instruction-index l.instructions) l.out.items
