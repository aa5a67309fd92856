use Rattle.std.proofs.Common.{◌≡◌, ◌≤◌, ◌+◌, ◌++◌, drop, sum_by}
use Rattle.mote_layout.specs.Memory.{bank_words}
use Rattle.avr_asm.specs.Encoding.{places_from}
use Rattle.avr_asm.specs.Rows.{unit_words}
use Rattle.avr_asm.proofs.encoding.first_words.Given as goal

abbrev pub invariant-loop-unit : goal.invariant-loop-unit
invariant-loop-unit l = (l.firsts.items ++ places_from l.place (drop l.unit-index l.units) ≡ places_from 0 l.units) × (l.place + sum_by unit_words (drop l.unit-index l.units) ≤ bank_words)
