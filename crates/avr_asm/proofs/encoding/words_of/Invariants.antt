use Rattle.std.proofs.Common.{◌≤◌, ◌+◌, drop, sum_by}
use Rattle.mote_layout.specs.Memory.{bank_words}
use Rattle.avr_asm.specs.Encoding.{AreEncodable}
use Rattle.avr_asm.specs.Rows.{unit_words}
use Rattle.avr_asm.proofs.Encoded.{Ahead}
use Rattle.avr_asm.proofs.encoding.words_of.Given as goal

abbrev pub invariant-loop-unit : goal.invariant-loop-unit
invariant-loop-unit l =
    Ahead l.firsts l.units l.place l.words.items (drop l.unit-index l.units)
    × AreEncodable l.firsts l.place (drop l.unit-index l.units)
    × (l.place + sum_by unit_words (drop l.unit-index l.units) ≤ bank_words)
