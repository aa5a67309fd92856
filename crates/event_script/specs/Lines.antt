-- The lines of a text.
use Rattle.std.specs.Prelude.{ℕ, ◌==◌, Bool, true, false, List, [], ◌∷◌, if◌then◌else◌}

-- A line: its bytes without its line feed, and whether it has one.
pub record TextLine : Type 0 where
  pub bytes : List ℕ
  pub ended : Bool

-- The lines of a text, of which each ends with a line feed (10). What stands behind the last line feed is a line
-- without its end, where it has a byte at all.
abbrev pub onto_line : ℕ → List TextLine → List TextLine
onto_line byte [] = record { bytes = byte ∷ []; ended = false } ∷ []
onto_line byte (line ∷ lines) = record { bytes = byte ∷ line.bytes; ended = line.ended } ∷ lines

abbrev pub lines_of : List ℕ → List TextLine
lines_of [] = []
lines_of (byte ∷ bytes) = if byte == 10 then record { bytes = []; ended = true } ∷ lines_of bytes else onto_line byte (lines_of bytes)
