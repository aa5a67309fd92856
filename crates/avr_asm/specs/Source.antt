-- The canonical text: of an image, and of a text.
use Rattle.std.specs.Prelude.{ℕ, Bool, true, false, if◌then◌else◌, List, [], ◌∷◌, ◌++◌, Option, Some, None, decimal}
use Rattle.unit_code.specs.declared.unit.Unit.{Unit}
use Rattle.unit_code.specs.declared.unit.Unit.TheVariants.{Load, Plain, Branch, Jump, LocalCall}
use Rattle.unit_code.specs.Units.{listed}
use Rattle.unit_code.specs.Listing.{Listing}
use Rattle.mote_base.specs.Digits.{pairs_text}
use Rattle.module_image.specs.declared.face.Provided.{Provided}
use Rattle.module_image.specs.declared.face.Subscribed.{Subscribed}
use Rattle.module_image.specs.Contents.{Contents}
use Rattle.avr_asm.specs.Text.{is_blank, is_none, lines_in}
use Rattle.avr_asm.specs.Line.{Line, Module, Version, State, Handler, Sealed, Provides, Subscribes, Const, Code, Label, Item, ended}
use Rattle.avr_asm.specs.Reading.{said}
use Rattle.avr_asm.specs.Rows.{Row, rows_of}
use Rattle.avr_asm.specs.Refusals.{resolved}
use Rattle.avr_asm.specs.Assembly.{marks_of}

-- a unit as a line says it: without its target, and a load as it stands in any image
abbrev pub bare : Unit → Unit
bare (Load i) = Plain i
bare (Branch set bit u) = Branch set bit 0
bare (Jump u) = Jump 0
bare (LocalCall u) = LocalCall 0
bare u = u

-- the number of its target
abbrev pub aim : Unit → List ℕ
aim (Branch set bit u) = decimal u
aim (Jump u) = decimal u
aim (LocalCall u) = decimal u
aim u = []

abbrev pub unit_lines : List Unit → List Line
unit_lines [] = []
unit_lines (u ∷ us) = Item (bare u) (aim u) ∷ unit_lines us

abbrev pub seal_lines : Bool → List Line
seal_lines true = Sealed ∷ []
seal_lines false = []

-- Each provided function with the unit at which it begins.
abbrev pub provided_lines : List Provided → List ℕ → List Line
provided_lines [] numbers = []
provided_lines (p ∷ ps) [] = []
provided_lines (p ∷ ps) (number ∷ numbers) = Provides p.func p.proto (decimal number) ∷ provided_lines ps numbers

abbrev pub subscribed_lines : List Subscribed → List Line
subscribed_lines [] = []
subscribed_lines (s ∷ ss) = Subscribes s.module s.func s.proto ∷ subscribed_lines ss

abbrev pub constant_lines : List ℕ → List Line
constant_lines [] = []
constant_lines (c ∷ cs) = Const (pairs_text (c ∷ cs)) ∷ []

-- the lines up to the handler's, which begins at the unit with that number
abbrev pub opening_lines : Contents → ℕ → List Line
opening_lines c handler = Module c.face.id ∷ Version c.version ∷ State c.state_size ∷ Handler (decimal handler) ∷ []

-- the lines behind the handler's
abbrev pub lines_behind : Contents → List ℕ → List Unit → List Line
lines_behind c numbers us =
    seal_lines c.sealed ++ (provided_lines c.face.provided.items numbers ++ (subscribed_lines c.face.subscribed.items
    ++ (constant_lines c.constants ++ (Code ∷ unit_lines us))))

-- The lines of an image with these units, entered at the units with these numbers: the handler's is the first.
abbrev pub lines_with : Contents → List ℕ → List Unit → List Line
lines_with c [] us = []
lines_with c (handler ∷ numbers) us = opening_lines c handler ++ lines_behind c numbers us

abbrev pub text_of : List Line → List ℕ
text_of [] = []
text_of (l ∷ ls) = ended l ++ text_of ls

-- the lines of an image whose code has this listing
abbrev pub lines_from : Contents → Listing → List Line
lines_from c l = lines_with c l.marks l.units

-- The canonical text of an image: its fields and its units, a line each.
unfoldable pub source_of : Contents → List ℕ
source_of c = text_of (lines_from c (listed c.code (marks_of c) c.sealed))

abbrev pub numbered : Option ℕ → List ℕ
numbered None = []
numbered (Some k) = decimal k

-- A line of a text stays as it is, but a label goes, and a target is the number of its unit.
abbrev pub canon_line : List Row → List ℕ → Option Line → List ℕ
canon_line all t (Some (Label name)) = []
canon_line all t (Some (Handler goal)) = ended (Handler (numbered (resolved all goal)))
canon_line all t (Some (Provides func proto goal)) = ended (Provides func proto (numbered (resolved all goal)))
canon_line all t (Some (Item u goal)) = if is_none goal then t else ended (Item u (numbered (resolved all goal)))
canon_line all t _ = t

abbrev pub canon_from : List Row → List (List ℕ) → List ℕ
canon_from all [] = []
canon_from all (t ∷ ts) = if is_blank t then canon_from all ts else canon_line all t (said t) ++ canon_from all ts

-- The canonical text of a text: no empty line, remark or label, and every target as the number of its unit.
unfoldable pub canon : List ℕ → List ℕ
canon text = canon_from (rows_of (lines_in text)) (lines_in text)
