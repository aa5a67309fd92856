-- Laws of the word run of an input.
use Rattle.std.specs.Prelude.{◌≡◌, ℕ, ◌==◌, ◌&&◌, Bool, true, false, not, List, [], ◌∷◌, if◌then◌else◌}
use Rattle.domain_model.specs.declared.line.TraceLine.{TraceLine}
use Rattle.domain_model.specs.Runners.{without_ran}
use Rattle.domain_model.specs.State.{Input}
use Rattle.trace_text.specs.Text.{texts}
use Rattle.mote_sim.specs.WordRun.{IsWordRun}

-- An input has one word run, whether its instructions are told or not.
abbrev pub RunsAreOne : Type 0
RunsAreOne = (i : Input) (words : Bool) (lines others : List TraceLine) → IsWordRun i words lines → IsWordRun i words others → lines ≡ others

-- The lines where the instructions are told are those where they aren't, with theirs between them.
abbrev pub LinesAreLeftOut : Type 0
LinesAreLeftOut = (i : Input) (all lines : List TraceLine) → IsWordRun i true all → IsWordRun i false lines → without_ran all ≡ lines

-- The text begins with `w` (119) and a space (32).
abbrev pub begins_told : List ℕ → Bool
begins_told (first ∷ second ∷ rest) = (first == 119) && (second == 32)
begins_told _ = false

abbrev pub put_if : Bool → ℕ → List ℕ → List ℕ
put_if true byte rest = byte ∷ rest
put_if false byte rest = rest

-- A text, the rest of whose first line is left out or not. A line ends with a line feed (10), and the one behind it is left out where it
-- begins with `w` and a space.
abbrev pub left : Bool → List ℕ → List ℕ
left keeps [] = []
left keeps (byte ∷ bytes) = put_if keeps byte (left (if byte == 10 then not (begins_told bytes) else keeps) bytes)

-- The text without the lines that begin so.
abbrev pub without_word_lines : List ℕ → List ℕ
without_word_lines text = left (not (begins_told text)) text

-- So it is with the texts: the one that tells no instructions is the other without its lines that begin with `w` and a space.
abbrev pub TextsAreLeft : Type 0
TextsAreLeft = (i : Input) (all lines : List TraceLine) → IsWordRun i true all → IsWordRun i false lines → without_word_lines (texts all) ≡ texts lines
