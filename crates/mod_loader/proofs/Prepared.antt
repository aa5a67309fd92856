-- A module whose units are proper and built can be loaded.
use Rattle.std.proofs.Common.{◌≡◌, ℕ, zero, suc, ◌+◌, ◌^◌, ◌<◌, ◌≤◌, List, [], ◌∷◌, length, drop, slice_index, Bool, true, Ok, Option, None, refl, sym, ◌∙◌, ap, subst, arith}
use Rattle.std.specs.List.{AllByRecursion, filter_map}
use Rattle.std.proofs.Math.ListN.{length-map}
use Rattle.unit_code.specs.declared.unit.Unit.{Unit}
use Rattle.unit_code.specs.Listing.{BankListing, FitsTogether, Listing}
use Rattle.unit_code.specs.Units.{listed, refusal}
use Rattle.unit_code.specs.Proper.{IsProper}
use Rattle.unit_code.specs.Targets.{AreFirstWords, number_of}
use Rattle.harbor_spell.proofs.OneSpelling.{starts_count}
use Rattle.harbor_verify.specs.Parts.{IsAccepted}
use Rattle.harbor_verify.specs.Verdict.{refusal as verify_refusal, units_in}
use Rattle.harbor_verify.specs.Walks.{starts_in}
use Rattle.harbor_verify.proofs.Accepted.{accepted_parts}
use Rattle.harbor_verify.proofs.NoRefusal.{no_refusal_spells}
use Rattle.harbor_verify.proofs.NthForm.{first_words}
use Rattle.module_image.specs.Contents.{Contents, FaceRules, constants_limit}
use Rattle.domain_model.specs.Bytes.{AreBytes}
use Rattle.domain_model.specs.Prepared.{Prep, marks_of, module_of, prepared_code, prepared_words, spelled}
use Rattle.domain_model.specs.Files.{BeginAt}
use Rattle.domain_model.specs.Good.{GoodImage}
use Rattle.domain_model.proofs.FileLaws.{starts_begin}
use Rattle.mod_loader.specs.Banks.{SpellUnits}
use Rattle.mod_loader.specs.Listed.{AreNumbersOf, listing_of}

-- the first mark is the handler's, and the others are those of the functions
first_is_below : (bound : ℕ) (marks : List ℕ) → 0 < length marks → AllByRecursion (λ n. n < bound) marks → slice_index marks 0 < bound
first_is_below bound [] some h = absurd (omega (arith, some))
first_is_below bound (m ∷ ms) some h = h.0

others_are_below : (bound : ℕ) (marks : List ℕ) → AllByRecursion (λ n. n < bound) marks → AllByRecursion (λ n. n < bound) (drop 1 marks)
others_are_below bound [] h = tt
others_are_below bound (m ∷ ms) h = h.1

one_fewer : (marks : List ℕ) (n : ℕ) → length marks ≡ n + 1 → length (drop 1 marks) ≡ n
one_fewer [] n e = absurd (omega (arith, e))
one_fewer (m ∷ ms) n e = omega (arith, e)

-- bytes, looked up by their places
are_bytes : (bytes : List ℕ) → AllByRecursion (λ byte. byte < 256) bytes → AreBytes bytes
are_bytes [] each i = omega arith
are_bytes (b ∷ bs) each zero = each.0
are_bytes (b ∷ bs) each (suc i) = are_bytes bs each.1 i

pub as_many_marks : (c : Contents) (numbers : List ℕ) (units : List Unit) → AreNumbersOf numbers units (marks_of c) → length numbers ≡ length c.face.provided.items + 1
as_many_marks c numbers units together = omega (arith, together.marked, length-map c.face.provided.items (λ p. p.word))

pub good_prepared : (c : Contents) (l : Listing) → FaceRules c.face → AllByRecursion (λ byte. byte < 256) c.constants → length c.constants ≤ constants_limit → IsProper l.units c.sealed → AreNumbersOf l.marks l.units (marks_of c) → GoodImage (module_of c l)
good_prepared c l face bytes few proper together =
    let count = as_many_marks c l.marks l.units together in
    record {
      face = face;
      constants = (are_bytes c.constants bytes, few);
      units = proper;
      entered = record {
        handler = first_is_below (length l.units) l.marks (omega (arith, count)) together.entered;
        entries = others_are_below (length l.units) l.marks together.entered;
        provided = one_fewer l.marks (length c.face.provided.items) count;
      };
    }

-- The numbers of marks at which units begin.

begin_count : (places marks numbers : List ℕ) → BeginAt places marks numbers → length numbers ≡ length marks
begin_count places [] [] h = refl
begin_count places [] (n ∷ ns) h = absurd h
begin_count places (m ∷ ms) [] h = absurd h
begin_count places (m ∷ ms) (n ∷ ns) h = ap suc (begin_count places ms ns h.2)

begin_below : (places marks numbers : List ℕ) → BeginAt places marks numbers → AllByRecursion (λ n. n < length places) numbers
begin_below places [] [] h = tt
begin_below places [] (n ∷ ns) h = absurd h
begin_below places (m ∷ ms) [] h = absurd h
begin_below places (m ∷ ms) (n ∷ ns) h = (h.0, begin_below places ms ns h.2)

-- Words that are not refused are read so: their units are proper, and the units at the marks have numbers.
pub record AreRead (words marks : List ℕ) (sealed : Bool) : Type 0 where
  pub proper : IsProper (units_in words) sealed
  pub numbers : AreNumbersOf (filter_map (number_of (starts_in words)) marks) (units_in words) marks

pub words_read : (words marks : List ℕ) (sealed : Bool) → AllByRecursion (λ w. w < 2 ^ 16) words → verify_refusal words marks sealed ≡ None → AreRead words marks sealed
words_read words marks sealed small none =
    let spelled = no_refusal_spells sealed words marks small none in
    let begin = starts_begin words marks sealed none in
    let numbers = filter_map (number_of (starts_in words)) marks in
    let count = starts_count words sealed spelled.lays.0 (units_in words) (starts_in words) spelled.lays.1 in
    let P : ℕ → Type 0 = λ n. AllByRecursion (λ number. number < n) numbers in
    record {
      proper = spelled.proper;
      numbers = record {
        marked = begin_count (starts_in words) marks numbers begin;
        entered = subst P count (begin_below (starts_in words) marks numbers begin);
      };
    }

pub starts_rise : (words starts places : List ℕ) → length words ≤ 65535 → AllByRecursion (λ w. w < 2 ^ 16) words → IsAccepted words starts → places ≡ starts → AreFirstWords places
starts_rise words starts places few small accepted is =
    subst AreFirstWords (sym is) (first_words words starts (accepted_parts words starts few small accepted))

-- the words that were accepted are those of the bank
pub spelled_units : (words marks starts : List ℕ) (sealed : Bool) (code : BankListing) → AllByRecursion (λ w. w < 2 ^ 16) words → verify_refusal words marks sealed ≡ None → code.units ≡ units_in words → code.words ≡ words → code.starts ≡ starts → starts ≡ starts_in words → SpellUnits code sealed
spelled_units words marks starts sealed code small none units same kept are =
    let spells = no_refusal_spells sealed words marks small none in
    let plain : SpellUnits (record { units = units_in words; words = words; starts = starts_in words }) sealed = record { lays = spells.lays; entered = tt; proper = spells.proper } in
    subst (λ (c : BankListing). SpellUnits c sealed) (cc) plain

pub spelled_numbers : (words marks starts numbers : List ℕ) (sealed : Bool) (units : List Unit) → AllByRecursion (λ w. w < 2 ^ 16) words → verify_refusal words marks sealed ≡ None → units ≡ units_in words → starts ≡ starts_in words → numbers ≡ filter_map (number_of starts) marks → AreNumbersOf numbers units marks
spelled_numbers words marks starts numbers sealed units small none is are numbered =
    let P : List Unit → Type 0 = λ us. AreNumbersOf numbers us marks in
    let Q : List ℕ → Type 0 = λ ns. AreNumbersOf ns (units_in words) marks in
    subst P (sym is) (subst Q (sym (numbered ∙ ap (λ l. filter_map (number_of l) marks) are)) (words_read words marks sealed small none).numbers)

abbrev ok_module : Contents → Listing → Prep
ok_module c l = Ok (module_of c l)

-- what the image comes to, by what was read
pub spelled_prepared : (c : Contents) (code : BankListing) (starts numbers : List ℕ) → verify_refusal c.code (marks_of c) c.sealed ≡ None → code.units ≡ units_in c.code → code.starts ≡ starts → starts ≡ starts_in c.code → numbers ≡ filter_map (number_of starts) (marks_of c) → Ok (module_of c (listing_of code numbers)) ≡ prepared_words c (verify_refusal c.code (marks_of c) c.sealed)
unfolding spelled
spelled_prepared c code starts numbers none units kept are numbered =
    let marks : numbers ≡ filter_map (number_of (starts_in c.code)) (marks_of c) = numbered ∙ ap (λ l. filter_map (number_of l) (marks_of c)) are in
    let same : listing_of code numbers ≡ spelled c.code (marks_of c) = cc in
    ap (λ (l : Listing). Ok (module_of c l)) same ∙ sym (ap (prepared_words c) none)

pub listed_numbers : (l : Listing) (units : List Unit) (numbers marks : List ℕ) → FitsTogether l marks → numbers ≡ l.marks → units ≡ l.units → AreNumbersOf numbers units marks
listed_numbers l units numbers marks together same are =
    let P : List ℕ → Type 0 = λ ns. AreNumbersOf ns units marks in
    let Q : List Unit → Type 0 = λ us. AreNumbersOf l.marks us marks in
    subst P (sym same) (subst Q (sym are) (record { marked = together.marked; entered = together.entered }))

pub listed_prepared : (c : Contents) (l : Listing) (code : BankListing) (numbers : List ℕ) → refusal c.code (marks_of c) c.sealed ≡ None → l ≡ listed c.code (marks_of c) c.sealed → code.units ≡ l.units → numbers ≡ l.marks → Ok (module_of c (listing_of code numbers)) ≡ prepared_code c (refusal c.code (marks_of c) c.sealed)
listed_prepared c l code numbers none is units same =
    sym (ap (prepared_code c) none ∙ ap (λ (x : Listing). Ok (module_of c x)) (sym is) ∙ prepared_alike c l.units code.units l.marks numbers l.places code.starts (sym units) (sym same))
  where
    prepared_alike : (x : Contents) (us vs : List Unit) (ms ns ps qs : List ℕ) → us ≡ vs → ms ≡ ns → ok_module x (record { units = us; places = ps; marks = ms }) ≡ ok_module x (record { units = vs; places = qs; marks = ns })
    prepared_alike x us vs ms ns ps qs u m = cc

pub ruleset spelled_words = (starts_rise)
