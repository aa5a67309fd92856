-- Contents of images.
use Rattle.std.proofs.Common.{◌≡◌, ◌∙◌, ℕ, ◌<◌, Bool, true, false, List, [], ◌∷◌, length, map, refl, sym, subst, arith}
use Rattle.std.specs.List.{AllByRecursion, Contains}
use Rattle.std.proofs.lemmas.List.{length-map}
use Rattle.unit_code.specs.Listing.{FitsTogether, Listing}
use Rattle.unit_code.specs.Proper.{IsProper}
use Rattle.unit_code.specs.Spelling.{Spells, start_of}
use Rattle.module_image.specs.Spelling.{Image}
use Rattle.harbor_rewrite.specs.Emit.{AreEmitted}
use Rattle.harbor_rewrite.specs.Rewritten.{SpellsOriginal, entered_at, listing_of, marks_of, with_code}
use Rattle.harbor_rewrite.proofs.Emission.{emitted_spell}
use Rattle.harbor_rewrite.proofs.Entries.{entered_marks, entries_are_starts}
use Rattle.module_image.specs.declared.face.Face.{Face}
use Rattle.module_image.specs.Contents.{Contents, Rules, first_version}

no_items : (xs : List ℕ) → length xs ≡ 0 → xs ≡ []
no_items [] e = refl
no_items (x ∷ xs) e = absurd (omega (arith, e))

-- an image of the first version has neither seal nor constants
pub first_is : (c : Contents) (f : Face) (handler : ℕ) (words : List ℕ) → Rules c → c.version ≡ first_version
    → record { face = f; version = first_version; rewritten = true; sealed = false; state_size = c.state_size; handler = handler; code = words; constants = [] }
    ≡ record c { face = f; handler = handler; rewritten = true; code = words }
first_is c f handler words h e =
    let plain = h.plain e in
    let none : c.constants ≡ [] = no_items c.constants plain.1 in
    let P : Contents = record c { face = f; handler = handler; rewritten = true; code = words } in cc

pub sealed_as_before : (c : Contents) (entries words : List ℕ) → (with_code (entered_at c entries) words).sealed ≡ c.sealed
sealed_as_before c [] words = refl
sealed_as_before c (handler ∷ entries) words = refl

pub spells_original : (c : Contents) (list : Listing) (words starts file : List ℕ) → list ≡ listing_of c → FitsTogether list (marks_of c) → IsProper list.units c.sealed
    → AreEmitted list.units words starts → length starts ≡ length list.units → Image file (with_code (entered_at c (map (start_of starts) list.marks)) words) → SpellsOriginal c file
spells_original c list words starts file e fits proper emitted placed image =
    let entries = map (start_of starts) list.marks in
    let r = with_code (entered_at c entries) words in
    let P : Bool → Type 0 = λ sealed. Spells words (marks_of r) sealed list.units starts in
    let Q : List ℕ → Type 0 = λ marks. Spells words marks c.sealed list.units starts in
    let R : Listing → Type 0 = λ l. Spells words (marks_of r) r.sealed l.units starts in
    let S : ℕ → Type 0 = λ n. AllByRecursion (λ number. number < n) list.marks in
    let as_many : length entries ≡ length (marks_of c) = length-map list.marks (start_of starts) ∙ fits.marked in
    let inside : AllByRecursion (λ mark. Contains starts mark) entries = entries_are_starts starts list.marks (subst S (sym placed) fits.entered) in
    let spells : Spells words entries c.sealed list.units starts = emitted_spell list.units words entries starts c.sealed proper emitted inside in
    (r, starts, image, subst R e (subst P (sym (sealed_as_before c entries words)) (subst Q (sym (entered_marks c entries words as_many)) spells)))
