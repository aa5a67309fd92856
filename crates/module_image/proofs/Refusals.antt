-- What each refusal of a file says.
use Rattle.std.proofs.Common.{◌≡◌, ◌≢◌, ◌↔◌, ◌<◌, ℕ, ◌+◌, ◌*◌, ◌||◌, true, false, cond, ltb, eqb, List, [], ◌∷◌, ◌++◌, length, take, drop, Result, Ok, Err, refl, sym, ap, subst, ◌∙◌, inl, inr, append-nil, arith}
use Rattle.std.proofs.lemmas.Bool.{cases_Bool, false≢true, ltb-false, le-ltb, eqb-true}
use Rattle.std.proofs.lemmas.List.{take-append-drop}
use Rattle.std.specs.Cmp.Lexicographic.{pointwise, same_text}
use Rattle.module_image.specs.declared.error.ImageError.{ImageError}
use Rattle.module_image.specs.declared.error.ImageError.TheVariants.{Short, Magic, Version, Field, Long}
use Rattle.module_image.specs.Contents.{Contents, IsVersion, first_version, second_version}
use Rattle.module_image.specs.Spelling.{opening}
use Rattle.module_image.specs.Reading.{◌>>=◌, magic_at, version_at, opening_at, settings_at, counts_at, provided_at, subscribed_at, bytes_at, entries_at, after_provided, after_entries, after_code, after_constants, ends_at, contents_of, image_of}
use Rattle.module_image.specs.Laws.{BreaksAt, EndsBefore, magic, IsOther, HasOtherVersion}
use Rattle.module_image.proofs.Fields.{bind_ok, guard_ok, pass_ok, ok_is, either, opening_again}
use Rattle.module_image.proofs.Readers.{Whole, Breaks, Behind, Fault, Part, push, part_then, err_is, bytes_reader}
use Rattle.module_image.proofs.PartReaders.{count_bytes, settings_reader, counts_reader, provided_reader, subscribed_reader}
use Rattle.module_image.proofs.Images.{with_opening, with_settings, with_counts, with_provided, with_subscribed, with_code, with_constants}

-- ---- behind the opening

ends_part : (place : ℕ) (c : Contents) → Part place (λ b. ends_at place b >>= λ behind. Ok c)
ends_part place c [] e is = absurd cc
ends_part place c (b ∷ rest) e is =
    subst (λ (d : ImageError). Fault place (λ b. ends_at place b >>= λ behind. Ok c) (b ∷ rest) d) (err_is {A = Contents} (Long place) e is)
    (record { front = []; rest = b ∷ rest; parts = refl; at_is = omega arith; some = omega arith; whole = refl })

entries_are : (v : ℕ) → entries_at v ≡ 11 + (4 + count_bytes (eqb v first_version))
entries_are v = elim (cases_Bool (eqb v first_version)) [ inl first ↦ rw first refl | inr second ↦ rw second refl ]

rest_part : (v : ℕ) → Part 5 (λ b. with_opening (v, b))
rest_part v =
    part_then 5 6 11 (settings_at v) (with_settings v) refl (settings_reader v) (λ s.
    part_then 11 (4 + count_bytes (eqb v first_version)) (entries_at v) (counts_at v) (with_counts v s) (entries_are v) (counts_reader v) (λ n.
    part_then (entries_at v) (7 * n.provided) (after_provided v n) (provided_at n.provided (entries_at v) 0) (with_provided v s n) refl (provided_reader n.provided (entries_at v) 0) (λ ps.
    part_then (after_provided v n) (6 * n.subscribed) (after_entries v n) (subscribed_at n.subscribed (after_provided v n)) (with_subscribed v s n ps) refl (subscribed_reader n.subscribed (after_provided v n)) (λ ss.
    part_then (after_entries v n) (2 * n.words) (after_code v n) (bytes_at (2 * n.words) (after_entries v n)) (with_code v s n ps ss) refl (bytes_reader (2 * n.words) (after_entries v n)) (λ code.
    part_then (after_code v n) n.constants (after_constants v n) (bytes_at n.constants (after_code v n)) (with_constants v s n ps ss code) refl (bytes_reader n.constants (after_code v n)) (λ ks.
    ends_part (after_constants v n) (contents_of s ps ss code ks)))))))

-- ---- the opening

abbrev pub ImageFault : List ℕ → ImageError → Type 0
ImageFault file (Short at) = at ≡ length file
ImageFault file (Field at) = Breaks 0 image_of file at
ImageFault file (Long at) = Behind 0 image_of file at
ImageFault file Magic = IsOther file
ImageFault file (Version v) = HasOtherVersion file v

apart : (file : List ℕ) → pointwise eqb (take 4 file) magic ≡ false → take 4 file ≢ magic
apart file differs same = let agrees : pointwise eqb (take 4 file) magic ≡ true = rw same refl in false≢true (sym differs ∙ agrees)

magic_whole : (file rest : List ℕ) → magic_at file ≡ Ok rest → file ≡ magic ++ rest
magic_whole file rest is =
    let g = guard_ok (ltb (length file) 4) (Short (length file)) (cond (pointwise eqb (take 4 file) magic) (Ok (drop 4 file)) (Err Magic)) rest is in
    let p = pass_ok (pointwise eqb (take 4 file) magic) Magic (Ok (drop 4 file)) rest g.1 in
    let front : take 4 file ≡ magic = same_text (take 4 file) magic (sym p.0) in
    sym (take-append-drop 4 file) ∙ ap (λ (t : List ℕ). t ++ drop 4 file) front ∙ ap (λ (t : List ℕ). magic ++ t) (ok_is (drop 4 file) rest p.1)

magic_fails : (file : List ℕ) (e : ImageError) → magic_at file ≡ Err e → ImageFault file e
magic_fails file e is =
    elim (cases_Bool (ltb (length file) 4)) [
      | inl short ↦
          let stops : ◌≡◌ {A = Result (List ℕ) ImageError} (Err (Short (length file))) (Err e) = rw short at is in
          subst (λ (d : ImageError). ImageFault file d) (err_is {A = List ℕ} (Short (length file)) e stops) refl
      | inr long ↦
          elim (cases_Bool (pointwise eqb (take 4 file) magic)) [
            | inl agrees ↦ let none : ◌≡◌ {A = Result (List ℕ) ImageError} (Ok (drop 4 file)) (Err e) = rw (long, agrees) at is in absurd cc
            | inr differs ↦
                let stops : ◌≡◌ {A = Result (List ℕ) ImageError} (Err Magic) (Err e) = rw (long, differs) at is in
                subst (λ (d : ImageError). ImageFault file d) (err_is {A = List ℕ} Magic e stops) (ltb-false _ _ long, apart file differs)
          ]
    ]

unknown : (v : ℕ) → (eqb v first_version || eqb v second_version) ≡ false → ¬ IsVersion v
unknown v differs known =
    elim known [
      | inl one ↦ let agrees : (eqb v first_version || eqb v second_version) ≡ true = rw one refl in false≢true (sym differs ∙ agrees)
      | inr two ↦ let agrees : (eqb v first_version || eqb v second_version) ≡ true = rw two refl in false≢true (sym differs ∙ agrees)
    ]

version_fails : (file rest : List ℕ) (e : ImageError) → file ≡ magic ++ rest → version_at rest ≡ Err e → ImageFault file e
version_fails file [] e whole is = subst (λ (d : ImageError). ImageFault file d) (err_is {A = ℕ × List ℕ} (Short 4) e is) (sym (ap length whole))
version_fails file (v ∷ rest) e whole is =
    elim (cases_Bool (eqb v first_version || eqb v second_version)) [
      | inl agrees ↦ let none : ◌≡◌ {A = Result (ℕ × List ℕ) ImageError} (Ok (v, rest)) (Err e) = rw agrees at is in absurd cc
      | inr differs ↦
          let stops : ◌≡◌ {A = Result (ℕ × List ℕ) ImageError} (Err (Version v)) (Err e) = rw differs at is in
          subst (λ (d : ImageError). ImageFault file d) (err_is {A = ℕ × List ℕ} (Version v) e stops) (record { rest = rest; parts = whole; other = unknown v differs })
    ]

version_whole : (rest : List ℕ) (x : ℕ × List ℕ) → version_at rest ≡ Ok x → (rest ≡ x.0 ∷ x.1) × IsVersion x.0
version_whole [] x is = absurd cc
version_whole (v ∷ rest) x is =
    let p = pass_ok (eqb v first_version || eqb v second_version) (Version v) (Ok (v, rest)) x is in
    let known : IsVersion v = elim (either _ _ p.0) [ inl one ↦ inl (eqb-true v first_version one) | inr two ↦ inr (eqb-true v second_version two) ] in
    subst (λ (y : ℕ × List ℕ). (v ∷ rest ≡ y.0 ∷ y.1) × IsVersion y.0) (ok_is (v, rest) x p.1) (refl, known)

opening_fails : (file : List ℕ) (e : ImageError) → opening_at file ≡ Err e → ImageFault file e
unfolding opening_at
opening_fails file e is = go (magic_at file) refl is
  where
    go : (r : Result (List ℕ) ImageError) → magic_at file ≡ r → (r >>= version_at) ≡ Err e → ImageFault file e
    go (Err d) here stops = subst (λ (d' : ImageError). ImageFault file d') (err_is {A = ℕ × List ℕ} d e stops) (magic_fails file d here)
    go (Ok rest) here stops = version_fails file rest e (magic_whole file rest here) stops

opening_whole : (file : List ℕ) (x : ℕ × List ℕ) → opening_at file ≡ Ok x → Whole opening_at file x.0 x.1 × (length file ≡ 5 + length x.1)
unfolding opening_at
opening_whole file x is =
    let a = bind_ok (magic_at file) version_at x is in
    let v = version_whole a.0 x a.2 in
    let parts : file ≡ opening x.0 ++ x.1 = magic_whole file a.0 a.1 ∙ ap (λ (t : List ℕ). magic ++ t) v.0 in
    (record { text = opening x.0; parts = parts; again = λ other. opening_again x.0 other v.1 }, ap length parts ∙ omega arith)

-- ---- the whole

pub image_fault : (file : List ℕ) (e : ImageError) → image_of file ≡ Err e → ImageFault file e
unfolding image_of
image_fault file e is = go (opening_at file) refl is
  where
    seen : (d : ImageError) → Fault 0 (λ b. opening_at b >>= with_opening) file d → ImageFault file d
    seen (Short at) fault = omega (arith, fault)
    seen (Field at) fault = fault
    seen (Long at) fault = fault
    seen Magic fault = absurd fault
    seen (Version v) fault = absurd fault

    go : (r : Result (ℕ × List ℕ) ImageError) → opening_at file ≡ r → (r >>= with_opening) ≡ Err e → ImageFault file e
    go (Err d) here stops = subst (λ (d' : ImageError). ImageFault file d') (err_is {A = Contents} d e stops) (opening_fails file d here)
    go (Ok x) here stops =
        let whole = opening_whole file x here in
        seen e (push 0 5 opening_at with_opening file x.0 x.1 e whole.0 whole.1 (rest_part x.0 x.1 e stops))

pub image_short : (file : List ℕ) (at : ℕ) → image_of file ≡ Err (Short at) → at ≡ length file
image_short file at is = image_fault file (Short at) is

pub image_field : (file : List ℕ) (at : ℕ) → image_of file ≡ Err (Field at) → BreaksAt file at
image_field file at is =
    let b : Breaks 0 image_of file at = image_fault file (Field at) is in
    let some : 0 < length b.field = elim b.size [ inl one ↦ omega (arith, one) | inr two ↦ omega (arith, two.0) ] in
    let first : image_of (b.front ++ []) ≡ Err (Short (at + 0)) = b.cut 0 some in
    let zero : at + 0 ≡ at = omega arith in
    record {
      front = b.front;
      field = b.field;
      rest = b.rest;
      parts = b.parts;
      place = omega (arith, b.at_is);
      size = b.size;
      alone = ap image_of (sym (append-nil b.front)) ∙ first ∙ ap (λ (n : ℕ). short n) zero;
      cut = b.cut;
      same = b.same;
    }
  where
    short : ℕ → Result Contents ImageError
    short n = Err (Short n)

pub image_long : (file : List ℕ) (at : ℕ) → image_of file ≡ Err (Long at) → EndsBefore file at
image_long file at is =
    let b : Behind 0 image_of file at = image_fault file (Long at) is in
    record { front = b.front; rest = b.rest; parts = b.parts; place = omega (arith, b.at_is); some = b.some; image = b.whole }

pub image_magic : (file : List ℕ) → (image_of file ≡ Err Magic) ↔ IsOther file
unfolding image_of opening_at
image_magic file = (λ is. image_fault file Magic is, λ other. back other)
  where
    back : IsOther file → image_of file ≡ Err Magic
    back other =
        let long : ltb (length file) 4 ≡ false = le-ltb _ _ other.0 in
        elim (cases_Bool (pointwise eqb (take 4 file) magic)) [
          | inl agrees ↦ absurd (other.1 (same_text (take 4 file) magic (sym agrees)))
          | inr differs ↦ rw (long, differs) refl
        ]

pub image_version : (file : List ℕ) (v : ℕ) → (image_of file ≡ Err (Version v)) ↔ HasOtherVersion file v
unfolding image_of opening_at
image_version file v = (λ is. image_fault file (Version v) is, λ other. ap image_of other.parts ∙ back other.rest other.other)
  where
    back : (rest : List ℕ) → ¬ IsVersion v → image_of (magic ++ v ∷ rest) ≡ Err (Version v)
    back rest other =
        let long : ltb (length (magic ++ v ∷ rest)) 4 ≡ false = le-ltb _ _ (omega arith) in
        elim (cases_Bool (eqb v first_version || eqb v second_version)) [
          | inl agrees ↦ absurd (other (elim (either _ _ agrees) [ inl one ↦ inl (eqb-true v first_version one) | inr two ↦ inr (eqb-true v second_version two) ]))
          | inr differs ↦ rw (long, differs) refl
        ]
