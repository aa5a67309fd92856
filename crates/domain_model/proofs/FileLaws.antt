-- Each file is what `prepared` makes of it.
use Rattle.std.proofs.Common.{◌≡◌, ℕ, zero, suc, ◌<◌, ◌≤◌, inl, inr, List, [], ◌∷◌, length, drop, get_or, slice_index, Bool, true, false, refl, arith, Option, Some, None, Result, Ok, Err}
use Rattle.std.specs.Prelude.{option_map}
use Rattle.std.specs.List.{AllByRecursion, Contains, cons_option, filter_map}
use Rattle.unit_code.specs.declared.error.CodeError.{CodeError}
use Rattle.unit_code.specs.declared.error.CodeError.TheVariants.{Entry}
use Rattle.unit_code.specs.Listing.{Listing}
use Rattle.unit_code.specs.Refusals.{stray_mark, least_stray}
use Rattle.unit_code.specs.Targets.{number_of}
use Rattle.unit_code.specs.Units.{places_of, units_of, refusal, listed}
use Rattle.unit_code.proofs.FirstLaw.{refusal_is_first, no_refusal_none_holds}
use Rattle.unit_code.proofs.Numbers.{number_of-some}
use Rattle.unit_code.proofs.ProperUnits.{no_refusal}
use Rattle.unit_code.proofs.Strays.{least_stray-none}
use Rattle.harbor_verify.specs.declared.error.VerifyError.{VerifyError}
use Rattle.harbor_verify.specs.declared.error.VerifyError.TheVariants.{Entry as EntryVerdict}
use Rattle.harbor_verify.specs.Verdict.{or_else, refusal as verify_refusal, refusal_of_targets, refusal_of_templates, refusal_of_units, refusal_of_words, stray_mark as stray_verdict, units_in}
use Rattle.harbor_verify.specs.Walks.{starts_in}
use Rattle.harbor_verify.proofs.FirstLaw.{refusal_is_first as verdict_is_first}
use Rattle.harbor_verify.proofs.NoRefusal.{neither, no_refusal_spells, none_of}
use Rattle.harbor_verify.proofs.Straight.{judged}
use Rattle.module_image.specs.declared.error.ImageError.{ImageError}
use Rattle.module_image.specs.Contents.{Contents}
use Rattle.module_image.specs.Reading.{image_of}
use Rattle.module_image.specs.Spelling.{Image}
use Rattle.module_image.proofs.Images.{image_takes, image_read}
use Rattle.domain_model.specs.Prepared.{marks_of, module_of, prepared_code, prepared_contents, prepared_image, prepared_words, spelled}
use Rattle.domain_model.specs.Files.{AreReadFrom, AreSpelledIn, AreUnitsOf, BeginAt, ComesTo, FilesAreAsPrepared}
use Rattle.domain_model.proofs.Kept.{contained_first, contained_later}

-- The units of marks begin at the marks.

one_begins : (places : List ℕ) (m : ℕ) (ms numbers : List ℕ) (o : Option ℕ) → number_of places m ≡ o → (number_of places m ≡ None → ⊥) → BeginAt places ms numbers → BeginAt places (m ∷ ms) (cons_option o numbers)
one_begins places m ms numbers None is some rest = absurd (some is)
one_begins places m ms numbers (Some n) is some rest = let at = number_of-some places m n is in (at.0, at.1, rest)

all_begin : (places marks : List ℕ) → ((mark : ℕ) → Contains marks mark → number_of places mark ≡ None → ⊥) → BeginAt places marks (filter_map (number_of places) marks)
all_begin places [] some = tt
all_begin places (m ∷ ms) some =
    one_begins places m ms (filter_map (number_of places) ms) (number_of places m) refl (some m (contained_first ms m))
    (all_begin places ms (λ mark c. some mark (contained_later m ms mark c)))

none_stray : (o : Option ℕ) → option_map Entry o ≡ None → o ≡ None
none_stray None e = refl
none_stray (Some w) e = absurd (cc)

no_stray : (places marks : List ℕ) → stray_mark places marks ≡ None → (mark : ℕ) → Contains marks mark → number_of places mark ≡ None → ⊥
unfolding stray_mark
no_stray places marks e = least_stray-none places marks (none_stray (least_stray places marks) e)

-- the first of them and the others
parted : (places words numbers : List ℕ) (word : ℕ) → BeginAt places (word ∷ words) numbers → BeginAt places (word ∷ words) (slice_index numbers 0 ∷ drop 1 numbers)
parted places words [] word h = absurd h
parted places words (n ∷ ns) word h = h

marks_begin : (words marks : List ℕ) (sealed : Bool) → refusal words marks sealed ≡ None → BeginAt (places_of words) marks (filter_map (number_of (places_of words)) marks)
marks_begin words marks sealed h = all_begin (places_of words) marks (no_stray (places_of words) marks (no_refusal words marks sealed h).2)

-- No mark of rewritten words that are not refused is astray.
no_stray_verdict : (words marks : List ℕ) (sealed : Bool) → verify_refusal words marks sealed ≡ None → (mark : ℕ) → Contains marks mark → number_of (starts_in words) mark ≡ None → ⊥
unfolding verify_refusal stray_verdict
no_stray_verdict words marks sealed h =
    let ends = or_else (refusal_of_units words (units_in words)) (stray_verdict (starts_in words) marks) in
    let parts = or_else (refusal_of_targets words) ends in
    let read = neither (refusal_of_words sealed words) (or_else (refusal_of_templates sealed words) parts) h in
    let stand = neither (refusal_of_templates sealed words) parts read.1 in
    let aims = neither (refusal_of_targets words) ends stand.1 in
    let last = neither (refusal_of_units words (units_in words)) (stray_verdict (starts_in words) marks) aims.1 in
    least_stray-none (starts_in words) marks (none_of (least_stray (starts_in words) marks) (λ mark. EntryVerdict mark) last.1)

pub starts_begin : (words marks : List ℕ) (sealed : Bool) → verify_refusal words marks sealed ≡ None → BeginAt (starts_in words) marks (filter_map (number_of (starts_in words)) marks)
starts_begin words marks sealed h = all_begin (starts_in words) marks (no_stray_verdict words marks sealed h)

-- The file, part by part.

module _ (file : List ℕ) (c : Contents) (image : Image file c) where
  short : length c.code ≤ 65535
  short = omega (arith, image.rules.code_count)

  units_come : (l : Listing) → AreUnitsOf l.units (slice_index l.marks 0 ∷ drop 1 l.marks) c → ComesTo (Ok (module_of c l)) file
  units_come l code = record {
    contents = c;
    image = image;
    holds = record { code = code; face = refl; state_size = refl; constants = refl; sealed = refl };
  }

  code_comes : (o : Option CodeError) → c.rewritten ≡ false → refusal c.code (marks_of c) c.sealed ≡ o → ComesTo (prepared_code c o) file
  unfolding listed
  code_comes (Some e) original is = record {
    contents = c;
    image = image;
    holds = record { original = original; first = refusal_is_first c.code (marks_of c) c.sealed e short is };
  }
  code_comes None original is =
      let units : AreReadFrom (units_of c.code c.sealed) _ c = record {
        original = original;
        accepted = no_refusal_none_holds c.code (marks_of c) c.sealed short is;
        are = refl;
        entered = parted (places_of c.code) _ _ c.handler (marks_begin c.code (marks_of c) c.sealed is);
      } in
      units_come (listed c.code (marks_of c) c.sealed) (inl units)

  words_come : (o : Option VerifyError) → c.rewritten ≡ true → verify_refusal c.code (marks_of c) c.sealed ≡ o → ComesTo (prepared_words c o) file
  unfolding spelled
  words_come (Some e) rewritten is = record {
    contents = c;
    image = image;
    holds = record { rewritten = rewritten; first = verdict_is_first c.sealed c.code (marks_of c) short image.rules.code e is };
  }
  words_come None rewritten is =
      let units : AreSpelledIn (units_in c.code) _ c = record {
        rewritten = rewritten;
        starts = starts_in c.code;
        spells = no_refusal_spells c.sealed c.code (marks_of c) image.rules.code is;
        only = λ others places h. let read = judged c.sealed c.code (marks_of c) short image.rules.code others places h in (read.1, read.2);
        entered = parted (starts_in c.code) _ _ c.handler (starts_begin c.code (marks_of c) c.sealed is);
      } in
      units_come (spelled c.code (marks_of c)) (inr units)

  contents_come : (b : Bool) → c.rewritten ≡ b → ComesTo (prepared_contents b c) file
  contents_come true rewritten = words_come (verify_refusal c.code (marks_of c) c.sealed) rewritten refl
  contents_come false original = code_comes (refusal c.code (marks_of c) c.sealed) original refl

file_comes : (file : List ℕ) (r : Result Contents ImageError) → ((i : ℕ) → get_or file i 0 < 256) → image_of file ≡ r → ComesTo (prepared_image r) file
file_comes file (Err e) bytes is = λ c image. let read = image_read file (image_of file) c refl image in cc
file_comes file (Ok c) bytes is = contents_come file c (image_takes file c bytes is) c.rewritten refl

byte_below : (file : List ℕ) → AllByRecursion (λ b. b < 256) file → (i : ℕ) → get_or file i 0 < 256
byte_below [] h i = omega arith
byte_below (b ∷ bs) h zero = h.0
byte_below (b ∷ bs) h (suc i) = byte_below bs h.1 i

pub files_are_as_prepared : FilesAreAsPrepared
files_are_as_prepared file h = file_comes file (image_of file) (byte_below file h) refl
