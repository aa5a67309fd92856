-- Why a command refuses its files, and the line that says so.
use Rattle.std.specs.Prelude.{ℕ, List, ◌++◌, codes, unwrap_or}
use Rattle.module_image.specs.declared.error.ImageError.{ImageError}
use Rattle.module_image.specs.Refusal.{number_of, value_of}
use Rattle.unit_code.specs.declared.error.CodeError.{CodeError}
use Rattle.unit_code.specs.Errors.{error_number, error_kind}
use Rattle.unit_code.specs.Errors.{error_word as code_word}
use Rattle.harbor_verify.specs.declared.error.VerifyError.{VerifyError}
use Rattle.harbor_verify.specs.Law.{order, error_word}
use Rattle.event_script.specs.declared.error.ScriptError.{ScriptError}
use Rattle.event_script.specs.Law.{kind_number, line_number}
use Rattle.avr_asm.specs.declared.error.AsmError.{AsmError}
use Rattle.avr_asm.specs.Errors.{kind_number as asm_number, line_number as asm_line}
use Rattle.mote_sim.specs.Fields.{field}

-- The file with that number is longer than its limit; the first file is no script; the file is no image; its code has
-- no units; its words spell none; the image to upgrade is of the second version; the image is rewritten, or sealed,
-- already; it is an original one, of which no words are verified; or the text is no module.
pub data Refusal : Type 0 where
  TooLong : ℕ → Refusal
  BadScript : ScriptError → Refusal
  BadImage : ImageError → Refusal
  BadCode : CodeError → Refusal
  IsUpgraded : Refusal
  IsAlready : Refusal
  BadWords : VerifyError → Refusal
  IsOriginal : Refusal
  BadText : AsmError → Refusal

abbrev pub upgraded_line : List ℕ
upgraded_line = codes "refused upgraded\n"

abbrev pub already_line : List ℕ
already_line = codes "refused already\n"

abbrev pub original_line : List ℕ
original_line = codes "refused original\n"

abbrev pub size_line : ℕ → List ℕ
size_line number = codes "refused size" ++ field number ++ codes "\n"

-- The number of what refuses the script, and the line. (Want of memory refuses none.)
abbrev pub script_line : ScriptError → List ℕ
script_line e = codes "refused script" ++ field (kind_number e) ++ field (line_number e) ++ codes "\n"

-- the number of what refuses the file, and its place or version
abbrev pub image_line : ImageError → List ℕ
image_line e = codes "refused image" ++ field (number_of e) ++ field (value_of e) ++ codes "\n"

-- The number of what refuses the code, the word or the count that it names, and the kind of a refused instruction.
-- (Want of memory has no number, and refuses no code.)
abbrev pub code_line : CodeError → List ℕ
code_line e =
    codes "refused code" ++ field (unwrap_or (error_number e) 0) ++ field (code_word e) ++ field (error_kind e) ++ codes "\n"

-- the number of what refuses the words, and the word or the count that it names
abbrev pub words_line : VerifyError → List ℕ
words_line e = codes "refused verify" ++ field (order e) ++ field (error_word e) ++ codes "\n"

-- the number of what refuses the text, and the line (want of memory refuses none)
abbrev pub text_line : AsmError → List ℕ
text_line e = codes "refused asm" ++ field (asm_number e) ++ field (asm_line e) ++ codes "\n"

abbrev pub line_of : Refusal → List ℕ
line_of (TooLong number) = size_line number
line_of (BadScript e) = script_line e
line_of (BadImage e) = image_line e
line_of (BadCode e) = code_line e
line_of IsUpgraded = upgraded_line
line_of IsAlready = already_line
line_of (BadWords e) = words_line e
line_of IsOriginal = original_line
line_of (BadText e) = text_line e
