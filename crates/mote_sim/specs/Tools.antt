-- What each tool makes of its file: its refusals in their order, and else its output.
use Rattle.std.specs.Prelude.{◌≡◌, ◌⊎◌, ℕ, ◌||◌, ◌==◌, Bool, true, false, List, [], ◌++◌, codes, length, Option, Some, None, Result, Ok, Err}
use Rattle.mote_base.specs.declared.fault.Status.{Status}
use Rattle.mote_base.specs.declared.fault.Status.TheVariants.{Done, Refused}
use Rattle.module_image.specs.declared.error.ImageError.{ImageError}
use Rattle.module_image.specs.Contents.{Contents, first_version, second_version}
use Rattle.module_image.specs.Reading.{image_of}
use Rattle.module_image.specs.Spelling.{Image}
use Rattle.unit_code.specs.declared.error.CodeError.{CodeError}
use Rattle.unit_code.specs.declared.unit.Unit.{Unit}
use Rattle.unit_code.specs.Listing.{Listing}
use Rattle.unit_code.specs.Spelling.{Spells}
use Rattle.unit_code.specs.Units.{refusal, listed}
use Rattle.harbor_rewrite.specs.Rewritten.{IsRewritten, SpellsOriginal}
use Rattle.harbor_verify.specs.declared.error.VerifyError.{VerifyError}
use Rattle.harbor_verify.specs.Law.{IsFirst}
use Rattle.command_line.specs.declared.command.Tool.{Tool}
use Rattle.command_line.specs.declared.command.Tool.TheVariants as tools
use Rattle.domain_model.specs.Prepared.{marks_of}
use Rattle.avr_asm.specs.declared.error.AsmError.{AsmError}
use Rattle.avr_asm.specs.Assembly.{IsImageOf}
use Rattle.avr_asm.specs.Refusals.{refusal_of}
use Rattle.avr_asm.specs.Source.{source_of}
use Rattle.mote_sim.specs.Fields.{field}
use Rattle.mote_sim.specs.Listing.{listing_text}
use Rattle.mote_sim.specs.Refusal.{Refusal, BadImage, BadCode, BadWords, IsUpgraded, IsAlready, IsOriginal, BadText, line_of}

-- What is written: the lines of these units, with their places, the file of the image of these contents, of that image
-- rewritten, a verdict, that so many units are spelled, the image of this text of a module, or this text.
pub data Output : Type 0 where
  Lists : List Unit → List ℕ → Output
  Writes : Contents → Output
  Rewrites : Contents → Output
  Counts : ℕ → Output
  Assembles : List ℕ → Output
  Says : List ℕ → Output

abbrev pub verdict_line : ℕ → List ℕ
verdict_line count = codes "ok" ++ field count ++ codes "\n"

abbrev pub IsOutput : Output → List ℕ → Type 0
IsOutput (Lists units places) text = text ≡ listing_text units places
IsOutput (Writes c) text = Image text c
IsOutput (Rewrites c) text = IsRewritten c text × SpellsOriginal c text
IsOutput (Counts count) text = text ≡ verdict_line count
IsOutput (Assembles source) text = IsImageOf source text
IsOutput (Says said) text = text ≡ said

-- the units of a listing, with their places
abbrev pub lists : Listing → Output
lists l = Lists l.units l.places

-- The words of a rewriter's image, entered at its marks, come to an output of the units that they spell and of the starts
-- of their templates; or the first condition that stands against them refuses them.
abbrev pub AreRead : Contents → (List Unit → List ℕ → Output) → Result Output Refusal → Type 0
AreRead c output made =
    ((units : List Unit) × (starts : List ℕ) × Spells c.code (marks_of c) c.sealed units starts × (made ≡ Ok (output units starts)))
    ⊎ ((e : VerifyError) × IsFirst c.code (marks_of c) c.sealed e × (made ≡ Err (BadWords e)))

-- `list` lists the units of the code, with their first words.
abbrev pub list_with : Contents → Option CodeError → Result Output Refusal
list_with c (Some e) = Err (BadCode e)
list_with c None = Ok (lists (listed c.code (marks_of c) c.sealed))

-- Of a rewriter's image it lists the units that the words spell, with the starts of their templates.
abbrev pub IsListWhere : Bool → Contents → Result Output Refusal → Type 0
IsListWhere true c made = AreRead c (λ units starts. Lists units starts) made
IsListWhere false c made = made ≡ list_with c (refusal c.code (marks_of c) c.sealed)

abbrev pub IsListBy : Result Contents ImageError → Result Output Refusal → Type 0
IsListBy (Err e) made = made ≡ Err (BadImage e)
IsListBy (Ok c) made = IsListWhere c.rewritten c made

-- `rewrite` takes an image that no rewriter made and whose code is not refused, and writes the image that spells its units.
abbrev pub rewrite_with : Contents → Option CodeError → Result Output Refusal
rewrite_with c (Some e) = Err (BadCode e)
rewrite_with c None = Ok (Rewrites c)

abbrev pub rewrite_where : Bool → Contents → Result Output Refusal
rewrite_where true c = Err IsAlready
rewrite_where false c = rewrite_with c (refusal c.code (marks_of c) c.sealed)

abbrev pub rewrite_by : Result Contents ImageError → Result Output Refusal
rewrite_by (Err e) = Err (BadImage e)
rewrite_by (Ok c) = rewrite_where c.rewritten c

-- `verify` takes a rewriter's image, and says how many units its words spell.
abbrev pub IsVerdictWhere : Bool → Contents → Result Output Refusal → Type 0
IsVerdictWhere true c made = AreRead c (λ units starts. Counts (length units)) made
IsVerdictWhere false c made = made ≡ Err IsOriginal

abbrev pub IsVerdictBy : Result Contents ImageError → Result Output Refusal → Type 0
IsVerdictBy (Err e) made = made ≡ Err (BadImage e)
IsVerdictBy (Ok c) made = IsVerdictWhere c.rewritten c made

-- The same image in the second version of the format, but for the seal and the constants.
abbrev pub in_second : Contents → Bool → List ℕ → Contents
in_second c sealed constants =
    record {
      face = c.face;
      version = second_version;
      rewritten = c.rewritten;
      sealed = sealed;
      state_size = c.state_size;
      handler = c.handler;
      code = c.code;
      constants = constants;
    }

-- `upgrade` takes an image of the first version, and writes it with the same flags and no constants.
abbrev pub upgraded : Contents → Contents
upgraded c = in_second c c.sealed []

abbrev pub upgrade_where : Bool → Contents → Result Output Refusal
upgrade_where true c = Ok (Writes (upgraded c))
upgrade_where false c = Err IsUpgraded

abbrev pub upgrade_by : Result Contents ImageError → Result Output Refusal
upgrade_by (Err e) = Err (BadImage e)
upgrade_by (Ok c) = upgrade_where (c.version == first_version) c

-- `seal` takes an image that is neither rewritten nor sealed, and writes it with the seal and the same constants.
abbrev pub with_seal : Contents → Contents
with_seal c = in_second c true c.constants

abbrev pub seal_where : Bool → Contents → Result Output Refusal
seal_where true c = Err IsAlready
seal_where false c = Ok (Writes (with_seal c))

abbrev pub seal_by : Result Contents ImageError → Result Output Refusal
seal_by (Err e) = Err (BadImage e)
seal_by (Ok c) = seal_where (c.rewritten || c.sealed) c

-- `asm` takes the text of a module, and writes its image.
abbrev pub asm_by : List ℕ → Option AsmError → Result Output Refusal
asm_by text (Some e) = Err (BadText e)
asm_by text None = Ok (Assembles text)

-- `source` takes an image that no rewriter made and whose code is not refused, and writes its canonical text.
abbrev pub source_with : Contents → Option CodeError → Result Output Refusal
source_with c (Some e) = Err (BadCode e)
source_with c None = Ok (Says (source_of c))

abbrev pub source_where : Bool → Contents → Result Output Refusal
source_where true c = Err IsAlready
source_where false c = source_with c (refusal c.code (marks_of c) c.sealed)

abbrev pub source_by : Result Contents ImageError → Result Output Refusal
source_by (Err e) = Err (BadImage e)
source_by (Ok c) = source_where c.rewritten c

-- A tool makes this of the bytes of its file: it writes an output, or refuses the file.
abbrev pub IsMadeBy : Tool → List ℕ → Result Output Refusal → Type 0
IsMadeBy tools.Listing file made = IsListBy (image_of file) made
IsMadeBy tools.Upgrade file made = made ≡ upgrade_by (image_of file)
IsMadeBy tools.Seal file made = made ≡ seal_by (image_of file)
IsMadeBy tools.Rewriting file made = made ≡ rewrite_by (image_of file)
IsMadeBy tools.Verdict file made = IsVerdictBy (image_of file) made
IsMadeBy tools.Assembly file made = made ≡ asm_by file (refusal_of file)
IsMadeBy tools.Source file made = made ≡ source_by (image_of file)

-- The status and the whole output that tell what was made.
abbrev pub Tells : Result Output Refusal → Status → List ℕ → Type 0
Tells (Ok output) status text = (status ≡ Done) × IsOutput output text
Tells (Err refusal) status text = (status ≡ Refused) × (text ≡ line_of refusal)

-- They tell something that is made so.
pub record TellsBy (is_made_so : Result Output Refusal → Type 0) (status : Status) (text : List ℕ) : Type 0 where
  pub made : Result Output Refusal
  pub is_made : is_made_so made
  pub told : Tells made status text

-- They tell what a tool makes of its file.
abbrev pub TellsOf : Tool → List ℕ → Status → List ℕ → Type 0
TellsOf tool file status text = TellsBy (IsMadeBy tool file) status text
