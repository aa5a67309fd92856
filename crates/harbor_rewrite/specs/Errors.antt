-- Why an image is not rewritten.
use Rattle.std.specs.Prelude.{◌≡◌, ◌≢◌, true, false, Some, ⊤}
use Rattle.unit_code.specs.declared.error.CodeError.TheVariants as code
use Rattle.unit_code.specs.Units.{refusal}
use Rattle.module_image.specs.Contents.{Contents}
use Rattle.harbor_rewrite.specs.declared.error.RewriteError.{RewriteError}
use Rattle.harbor_rewrite.specs.declared.error.RewriteError.TheVariants.{Already, Code, NoMemory}
use Rattle.harbor_rewrite.specs.Rewritten.{marks_of}

-- The error holds of the image: its code is a rewriter's, or it is not and has no units. Want of memory is always
-- possible.
abbrev pub IsRefused : Contents → RewriteError → Type 0
IsRefused c Already = c.rewritten ≡ true
IsRefused c (Code e) = (c.rewritten ≡ false) × (refusal c.code (marks_of c) c.sealed ≡ Some e) × (e ≢ code.NoMemory)
IsRefused c NoMemory = ⊤
