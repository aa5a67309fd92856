-- The refusal of words is the first condition that holds, at its least word; without one, none holds.
use Rattle.std.proofs.Common.{◌≡◌, ◌∙◌, ℕ, ◌+◌, ◌<◌, ◌≤◌, min, cond, ltb, Bool, true, false, List, [], ◌∷◌, length, drop, Option, Some, None, sym, refl, ap, subst, inl, inr, ⊎_elim, ◌⊎◌, arith}
use Rattle.std.specs.Prelude.{IfErr, IfOk, MatchResult, Result, Ok, Err, option_map}
use Rattle.std.proofs.lemmas.Bool.{cases_lt, lt-ltb, ltb-true}
use Rattle.mote_layout.specs.Memory.{bank_words}
use Rattle.unit_code.specs.declared.error.CodeError.{CodeError}
use Rattle.unit_code.specs.declared.error.CodeError.TheVariants.{Undefined, Refused, Target, FallsOff, Empty, TooLong, Entry, NoMemory}
use Rattle.unit_code.specs.declared.kinds.Standing.{Standing}
use Rattle.unit_code.specs.declared.kinds.Standing.TheVariants.{NoInstruction, Barred, Part}
use Rattle.unit_code.specs.declared.kinds.Piece.{Piece}
use Rattle.unit_code.specs.declared.items.Item.{Item}
use Rattle.unit_code.specs.declared.refusals.Condition.{Condition}
use Rattle.unit_code.specs.declared.refusals.Condition.TheVariants as condition
use Rattle.unit_code.specs.Ends.{goes_on, long_length}
use Rattle.unit_code.specs.Errors.{error_word}
use Rattle.unit_code.specs.Items.{items_of}
use Rattle.unit_code.specs.Law.{Holds, IsFirst, LeadsAstray, NoneHolds, order}
use Rattle.unit_code.specs.Refusals.{first_refused, is_empty, leads, least_stray, or_else, refused_by, refusal_of_items, refusal_of_units, stray_mark}
use Rattle.unit_code.specs.Targets.{AreFirstWords}
use Rattle.unit_code.specs.Units.{places_of, refusal, units_of}
use Rattle.unit_code.proofs.Astray.{astray_told, astray_tested, no_start, start_less}
use Rattle.unit_code.proofs.FirstItem.{first_at, least_word, nowhere}
use Rattle.unit_code.proofs.Places.{places_are_first_words}
use Rattle.unit_code.proofs.ProperUnits.{neither, no_refusal, refused_when}
use Rattle.unit_code.proofs.Strays.{IsLeastStray, least_stray-none, least_stray-some}

-- What holds of the words comes at this place of the order or later.
Clear : List ℕ → List ℕ → Bool → ℕ → Type 0
Clear words marks sealed n = (other : CodeError) → Holds words marks sealed other → n ≤ order other

clear_more : (words marks : List ℕ) (sealed : Bool) (n : ℕ) → Clear words marks sealed n → ((other : CodeError) → Holds words marks sealed other → order other ≡ n → ⊥) → Clear words marks sealed (n + 1)
unfolding Clear
clear_more words marks sealed n clear not_here = λ other holds.
    ⊎_elim (λ (below : n < order other). omega (arith, below))
    (λ (past : order other ≤ n). absurd (not_here other holds (omega (arith, past, clear other holds))))
    (cases_lt n (order other))

first_from : (words marks : List ℕ) (sealed : Bool) (n : ℕ) (e : CodeError) → Clear words marks sealed n → order e ≡ n → Holds words marks sealed e → ((other : CodeError) → Holds words marks sealed other → order other ≡ n → error_word e ≤ error_word other) → IsFirst words marks sealed e
unfolding Clear
first_from words marks sealed n e clear here holds least = record {
  holds = holds;
  first = λ other h.
      ⊎_elim (λ (below : n < order other). inl (omega (arith, below, here)))
      (λ (past : order other ≤ n). let same : order other ≡ n = omega (arith, past, clear other h) in inr (omega (arith, same, here), least other h same))
      (cases_lt n (order other));
}

some_order : (words marks : List ℕ) (sealed : Bool) (other : CodeError) → Holds words marks sealed other → 1 ≤ order other
some_order words marks sealed NoMemory h = absurd h
some_order words marks sealed _ h = omega arith

clear_1 : (words marks : List ℕ) (sealed : Bool) → Clear words marks sealed 1
unfolding Clear
clear_1 words marks sealed = some_order words marks sealed

true_false : (b : Bool) → b ≡ true → b ≡ false → ⊥
true_false b t f = let both : true ≡ false = sym t ∙ f in cc

some_none : (e : CodeError) (o : Option CodeError) → o ≡ Some e → o ≡ None → ⊥
some_none e o some none = let both : Some e ≡ None = sym some ∙ none in cc

none_some : (e : CodeError) → None ≡ Some e → ⊥
none_some e h = cc

no_words : (words : List ℕ) → is_empty words ≡ true → words ≡ []
no_words [] h = refl
no_words (w ∷ ws) h = cc

-- what stands where a condition holds
stands : (condition : Condition) (places : List ℕ) (xs : List Item) (e : CodeError) → refused_by condition places xs ≡ Some e → (x : Item) × (behind : List Item) × (xs ≡ x ∷ behind)
stands condition places [] e h = cc
stands condition places (x ∷ behind) e h = (x, behind, refl)

told_1 : (places : List ℕ) (place : ℕ) (standing : Standing) (behind : List Item) (e : CodeError) → refused_by condition.NoInstruction places (record { place = place; standing = standing } ∷ behind) ≡ Some e → (standing ≡ NoInstruction) × (e ≡ Undefined place)
told_1 places place NoInstruction behind e h = (refl, cc)
told_1 places place (Barred kind) behind e h = cc
told_1 places place (Part piece) behind e h = cc

told_2 : (places : List ℕ) (place : ℕ) (standing : Standing) (behind : List Item) (e : CodeError) → refused_by condition.Barred places (record { place = place; standing = standing } ∷ behind) ≡ Some e → (kind : ℕ) × (standing ≡ Barred kind) × (e ≡ Refused place kind)
told_2 places place NoInstruction behind e h = cc
told_2 places place (Barred kind) behind e h = (kind, refl, cc)
told_2 places place (Part piece) behind e h = cc

by_leads : (b : Bool) (place : ℕ) (e : CodeError) → cond b None (Some (Target place)) ≡ Some e → (b ≡ false) × (e ≡ Target place)
by_leads true place e h = cc
by_leads false place e h = (refl, cc)

told_3 : (places : List ℕ) (place : ℕ) (standing : Standing) (behind : List Item) (e : CodeError) → refused_by condition.Misaimed places (record { place = place; standing = standing } ∷ behind) ≡ Some e → (piece : Piece) × (standing ≡ Part piece) × (leads piece place places behind ≡ false) × (e ≡ Target place)
told_3 places place NoInstruction behind e h = cc
told_3 places place (Barred kind) behind e h = cc
told_3 places place (Part piece) behind e h = let by = by_leads (leads piece place places behind) place e h in (piece, refl, by.0, by.1)

astray_refused : (places : List ℕ) (word : ℕ) (piece : Piece) (behind : List Item) → LeadsAstray places word piece behind → refused_by condition.Misaimed places (record { place = word; standing = Part piece } ∷ behind) ≡ Some (Target word)
astray_refused places word piece behind h = ap (λ b. cond b None (Some (Target word))) (astray_tested places word piece behind h)

module _ (words marks : List ℕ) (sealed : Bool) where
  abbrev test_1 : List Item → Option CodeError
  test_1 = refused_by condition.NoInstruction (places_of words)

  abbrev test_2 : List Item → Option CodeError
  test_2 = refused_by condition.Barred (places_of words)

  abbrev test_3 : List Item → Option CodeError
  test_3 = refused_by condition.Misaimed (places_of words)

  -- Undefined
  not_1 : first_refused test_1 (items_of words) ≡ None → (other : CodeError) → Holds words marks sealed other → order other ≡ 1 → ⊥
  not_1 none (Undefined w) h same = let t = nowhere test_1 (items_of words) none h.1.0 (record { place = w; standing = NoInstruction }) h.0 h.1.1 in some_none (Undefined w) (Some (Undefined w)) refl t
  not_1 none NoMemory h same = h
  not_1 none _ h same = absurd (omega (arith, same))

  least_1 : (k : ℕ) → ((j : ℕ) → j < k → test_1 (drop j (items_of words)) ≡ None) → (x : Item) (xs : List Item) → drop k (items_of words) ≡ x ∷ xs → (other : CodeError) → Holds words marks sealed other → order other ≡ 1 → x.place ≤ error_word other
  least_1 k before x xs here (Undefined w) h same = least_word words test_1 k before x xs here h.1.0 (record { place = w; standing = NoInstruction }) h.0 (Undefined w) h.1.1 refl
  least_1 k before x xs here NoMemory h same = absurd h
  least_1 k before x xs here _ h same = absurd (omega (arith, same))

  first_1 : (e : CodeError) → first_refused test_1 (items_of words) ≡ Some e → IsFirst words marks sealed e
  first_1 e is =
      let f = first_at test_1 (items_of words) e is in
      let s = stands condition.NoInstruction (places_of words) (drop f.0 (items_of words)) e f.1 in
      let t = told_1 (places_of words) s.0.place s.0.standing s.1 e (ap test_1 (sym s.2) ∙ f.1) in
      let there : drop f.0 (items_of words) ≡ record { place = s.0.place; standing = NoInstruction } ∷ s.1 = s.2 ∙ ap (λ st. record { place = s.0.place; standing = st } ∷ s.1) t.0 in
      let P : CodeError → Type 0 = IsFirst words marks sealed in
      subst P (sym t.1) (first_from words marks sealed 1 (Undefined s.0.place) (clear_1 words marks sealed) refl (s.1, (f.0, there)) (least_1 f.0 f.2 s.0 s.1 s.2))

  clear_2 : first_refused test_1 (items_of words) ≡ None → Clear words marks sealed 2
  clear_2 none = clear_more words marks sealed 1 (clear_1 words marks sealed) (not_1 none)

  -- Refused
  not_2 : first_refused test_2 (items_of words) ≡ None → (other : CodeError) → Holds words marks sealed other → order other ≡ 2 → ⊥
  not_2 none (Refused w kind) h same = let t = nowhere test_2 (items_of words) none h.1.0 (record { place = w; standing = Barred kind }) h.0 h.1.1 in some_none (Refused w kind) (Some (Refused w kind)) refl t
  not_2 none NoMemory h same = h
  not_2 none _ h same = absurd (omega (arith, same))

  least_2 : (k : ℕ) → ((j : ℕ) → j < k → test_2 (drop j (items_of words)) ≡ None) → (x : Item) (xs : List Item) → drop k (items_of words) ≡ x ∷ xs → (other : CodeError) → Holds words marks sealed other → order other ≡ 2 → x.place ≤ error_word other
  least_2 k before x xs here (Refused w kind) h same = least_word words test_2 k before x xs here h.1.0 (record { place = w; standing = Barred kind }) h.0 (Refused w kind) h.1.1 refl
  least_2 k before x xs here NoMemory h same = absurd h
  least_2 k before x xs here _ h same = absurd (omega (arith, same))

  first_2 : (e : CodeError) → Clear words marks sealed 2 → first_refused test_2 (items_of words) ≡ Some e → IsFirst words marks sealed e
  first_2 e clear is =
      let f = first_at test_2 (items_of words) e is in
      let s = stands condition.Barred (places_of words) (drop f.0 (items_of words)) e f.1 in
      let t = told_2 (places_of words) s.0.place s.0.standing s.1 e (ap test_2 (sym s.2) ∙ f.1) in
      let there : drop f.0 (items_of words) ≡ record { place = s.0.place; standing = Barred t.0 } ∷ s.1 = s.2 ∙ ap (λ st. record { place = s.0.place; standing = st } ∷ s.1) t.1 in
      let P : CodeError → Type 0 = IsFirst words marks sealed in
      subst P (sym t.2) (first_from words marks sealed 2 (Refused s.0.place t.0) clear refl (s.1, (f.0, there)) (least_2 f.0 f.2 s.0 s.1 s.2))

  clear_3 : Clear words marks sealed 2 → first_refused test_2 (items_of words) ≡ None → Clear words marks sealed 3
  clear_3 clear none = clear_more words marks sealed 2 clear (not_2 none)

  -- Target
  not_3 : first_refused test_3 (items_of words) ≡ None → (other : CodeError) → Holds words marks sealed other → order other ≡ 3 → ⊥
  not_3 none (Target w) h same =
      let t = nowhere test_3 (items_of words) none h.2.0 (record { place = w; standing = Part h.0 }) h.1 h.2.1 in
      some_none (Target w) (test_3 (record { place = w; standing = Part h.0 } ∷ h.1)) (astray_refused (places_of words) w h.0 h.1 h.3) t
  not_3 none NoMemory h same = h
  not_3 none _ h same = absurd (omega (arith, same))

  least_3 : (k : ℕ) → ((j : ℕ) → j < k → test_3 (drop j (items_of words)) ≡ None) → (x : Item) (xs : List Item) → drop k (items_of words) ≡ x ∷ xs → (other : CodeError) → Holds words marks sealed other → order other ≡ 3 → x.place ≤ error_word other
  least_3 k before x xs here (Target w) h same = least_word words test_3 k before x xs here h.2.0 (record { place = w; standing = Part h.0 }) h.1 (Target w) h.2.1 (astray_refused (places_of words) w h.0 h.1 h.3)
  least_3 k before x xs here NoMemory h same = absurd h
  least_3 k before x xs here _ h same = absurd (omega (arith, same))

  first_3 : (e : CodeError) → AreFirstWords (places_of words) → Clear words marks sealed 3 → first_refused test_3 (items_of words) ≡ Some e → IsFirst words marks sealed e
  first_3 e first clear is =
      let f = first_at test_3 (items_of words) e is in
      let s = stands condition.Misaimed (places_of words) (drop f.0 (items_of words)) e f.1 in
      let t = told_3 (places_of words) s.0.place s.0.standing s.1 e (ap test_3 (sym s.2) ∙ f.1) in
      let there : drop f.0 (items_of words) ≡ record { place = s.0.place; standing = Part t.0 } ∷ s.1 = s.2 ∙ ap (λ st. record { place = s.0.place; standing = st } ∷ s.1) t.1 in
      let P : CodeError → Type 0 = IsFirst words marks sealed in
      let astray = astray_told (places_of words) s.0.place t.0 s.1 first t.2 in
      subst P (sym t.3) (first_from words marks sealed 3 (Target s.0.place) clear refl (t.0, s.1, (f.0, there), astray) (least_3 f.0 f.2 s.0 s.1 s.2))

  clear_4 : Clear words marks sealed 3 → first_refused test_3 (items_of words) ≡ None → Clear words marks sealed 4
  clear_4 clear none = clear_more words marks sealed 3 clear (not_3 none)

  -- FallsOff
  not_4 : goes_on (units_of words sealed) ≡ false → (other : CodeError) → Holds words marks sealed other → order other ≡ 4 → ⊥
  not_4 ends FallsOff h same = true_false (goes_on (units_of words sealed)) h ends
  not_4 ends NoMemory h same = h
  not_4 ends _ h same = absurd (omega (arith, same))

  first_4 : Clear words marks sealed 4 → goes_on (units_of words sealed) ≡ true → IsFirst words marks sealed FallsOff
  first_4 clear runs = first_from words marks sealed 4 FallsOff clear refl runs (λ other h same. omega arith)

  clear_5 : Clear words marks sealed 4 → goes_on (units_of words sealed) ≡ false → Clear words marks sealed 5
  clear_5 clear ends = clear_more words marks sealed 4 clear (not_4 ends)

  -- Empty
  not_5 : is_empty words ≡ false → (other : CodeError) → Holds words marks sealed other → order other ≡ 5 → ⊥
  not_5 some Empty h same = true_false (is_empty words) (ap is_empty h) some
  not_5 some NoMemory h same = h
  not_5 some _ h same = absurd (omega (arith, same))

  first_5 : Clear words marks sealed 5 → is_empty words ≡ true → IsFirst words marks sealed Empty
  first_5 clear none = first_from words marks sealed 5 Empty clear refl (no_words words none) (λ other h same. omega arith)

  clear_6 : Clear words marks sealed 5 → is_empty words ≡ false → Clear words marks sealed 6
  clear_6 clear some = clear_more words marks sealed 5 clear (not_5 some)

  -- TooLong
  abbrev long : ℕ
  long = long_length (units_of words sealed)

  not_6 : ltb bank_words long ≡ false → (other : CodeError) → Holds words marks sealed other → order other ≡ 6 → ⊥
  not_6 fits (TooLong count) h same = true_false (ltb bank_words long) (lt-ltb bank_words long h.0) fits
  not_6 fits NoMemory h same = h
  not_6 fits _ h same = absurd (omega (arith, same))

  least_6 : (other : CodeError) → Holds words marks sealed other → order other ≡ 6 → min long 65535 ≤ error_word other
  least_6 (TooLong count) h same = let e : count ≡ min long 65535 = h.1 in omega (arith, e)
  least_6 NoMemory h same = absurd h
  least_6 _ h same = absurd (omega (arith, same))

  first_6 : Clear words marks sealed 6 → ltb bank_words long ≡ true → IsFirst words marks sealed (TooLong (min long 65535))
  first_6 clear more = first_from words marks sealed 6 (TooLong (min long 65535)) clear refl (ltb-true bank_words long more, refl) least_6

  clear_7 : Clear words marks sealed 6 → ltb bank_words long ≡ false → Clear words marks sealed 7
  clear_7 clear fits = clear_more words marks sealed 6 clear (not_6 fits)

  -- Entry
  not_7 : least_stray (places_of words) marks ≡ None → (other : CodeError) → Holds words marks sealed other → order other ≡ 7 → ⊥
  not_7 none (Entry w) h same = least_stray-none (places_of words) marks none w h.0 (start_less (places_of words) w h.1)
  not_7 none NoMemory h same = h
  not_7 none _ h same = absurd (omega (arith, same))

  least_7 : (w : ℕ) → IsLeastStray (places_of words) marks (Some w) → (other : CodeError) → Holds words marks sealed other → order other ≡ 7 → w ≤ error_word other
  least_7 w all (Entry m) h same = all.2 m h.0 (start_less (places_of words) m h.1)
  least_7 w all NoMemory h same = absurd h
  least_7 w all _ h same = absurd (omega (arith, same))

  first_7 : (w : ℕ) → AreFirstWords (places_of words) → Clear words marks sealed 7 → least_stray (places_of words) marks ≡ Some w → IsFirst words marks sealed (Entry w)
  first_7 w first clear is =
      let all = least_stray-some (places_of words) marks w is in
      first_from words marks sealed 7 (Entry w) clear refl (all.0, no_start (places_of words) w first all.1) (least_7 w all)

  clear_8 : Clear words marks sealed 7 → least_stray (places_of words) marks ≡ None → Clear words marks sealed 8
  clear_8 clear none = clear_more words marks sealed 7 clear (not_7 none)

  over : (other : CodeError) → 8 ≤ order other → ⊥
  over NoMemory h = omega (arith, h)
  over _ h = omega (arith, h)

  none_holds : Clear words marks sealed 8 → NoneHolds words marks sealed
  unfolding Clear
  none_holds clear = record { none = λ e holds. over e (clear e holds) }

-- of two refusals the first, or else the second
which : (a b : Option CodeError) (e : CodeError) → or_else a b ≡ Some e → (a ≡ Some e) ⊎ ((a ≡ None) × (b ≡ Some e))
which (Some d) b e h = inl h
which None b e h = inr (refl, h)

choice : (t : Bool) (d : CodeError) (other : Option CodeError) (e : CodeError) → cond t (Some d) other ≡ Some e → ((t ≡ true) × (d ≡ e)) ⊎ ((t ≡ false) × (other ≡ Some e))
choice true d other e h = inl (refl, cc)
choice false d other e h = inr (refl, h)

module _ (words marks : List ℕ) (sealed : Bool) (small : length words ≤ 65535) where
  first_words : AreFirstWords (places_of words)
  first_words = places_are_first_words words small

  first_of_items : (e : CodeError) → refusal_of_items (places_of words) (items_of words) ≡ Some e → IsFirst words marks sealed e
  unfolding refusal_of_items
  first_of_items e is =
      let items = items_of words in
      let one = test_1 words marks sealed in
      let two = test_2 words marks sealed in
      let three = test_3 words marks sealed in
      ⊎_elim (λ here. first_1 words marks sealed e here)
      (λ past. ⊎_elim (λ here. first_2 words marks sealed e (clear_2 words marks sealed past.0) here)
      (λ last. first_3 words marks sealed e first_words (clear_3 words marks sealed (clear_2 words marks sealed past.0) last.0) last.1)
      (which (first_refused two items) (first_refused three items) e past.1))
      (which (first_refused one items) (or_else (first_refused two items) (first_refused three items)) e is)

  clear_items : refusal_of_items (places_of words) (items_of words) ≡ None → Clear words marks sealed 4
  unfolding refusal_of_items
  clear_items none =
      let items = items_of words in
      let one = test_1 words marks sealed in
      let two = test_2 words marks sealed in
      let three = test_3 words marks sealed in
      let first = neither (first_refused one items) (or_else (first_refused two items) (first_refused three items)) none in
      let second = neither (first_refused two items) (first_refused three items) first.1 in
      clear_4 words marks sealed (clear_3 words marks sealed (clear_2 words marks sealed first.0) second.0) second.1

  first_of_units : (e : CodeError) → Clear words marks sealed 4 → refusal_of_units words (units_of words sealed) ≡ Some e → IsFirst words marks sealed e
  unfolding refusal_of_units
  first_of_units e clear is =
      let us = units_of words sealed in
      let P : CodeError → Type 0 = IsFirst words marks sealed in
      let third = cond (ltb bank_words (long_length us)) (Some (TooLong (min (long_length us) 65535))) None in
      let second = cond (is_empty words) (Some Empty) third in
      ⊎_elim (λ here. subst P here.1 (first_4 words marks sealed clear here.0))
      (λ past. let clear_5 = clear_5 words marks sealed clear past.0 in
      ⊎_elim (λ here. subst P here.1 (first_5 words marks sealed clear_5 here.0))
      (λ rest. let clear_6 = clear_6 words marks sealed clear_5 rest.0 in
      ⊎_elim (λ here. subst P here.1 (first_6 words marks sealed clear_6 here.0))
      (λ last. absurd (none_some e last.1))
      (choice (ltb bank_words (long_length us)) (TooLong (min (long_length us) 65535)) None e rest.1))
      (choice (is_empty words) Empty third e past.1))
      (choice (goes_on us) FallsOff second e is)

  clear_units : Clear words marks sealed 4 → refusal_of_units words (units_of words sealed) ≡ None → Clear words marks sealed 7
  unfolding refusal_of_units
  clear_units clear none =
      let us = units_of words sealed in
      let third = cond (ltb bank_words (long_length us)) (Some (TooLong (min (long_length us) 65535))) None in
      let one = refused_when (goes_on us) FallsOff (cond (is_empty words) (Some Empty) third) none in
      let two = refused_when (is_empty words) Empty third one.1 in
      let three = refused_when (ltb bank_words (long_length us)) (TooLong (min (long_length us) 65535)) None two.1 in
      clear_7 words marks sealed (clear_6 words marks sealed (clear_5 words marks sealed clear one.0) two.0) three.0

  first_of_marks : (e : CodeError) → Clear words marks sealed 7 → stray_mark (places_of words) marks ≡ Some e → IsFirst words marks sealed e
  unfolding stray_mark
  first_of_marks e clear is =
      let P : CodeError → Type 0 = IsFirst words marks sealed in
      elim (least_stray (places_of words) marks) as (λ o. least_stray (places_of words) marks ≡ o → option_map Entry o ≡ Some e → IsFirst words marks sealed e) [
        | None ↦ λ at so. absurd (none_some e so)
        | Some w ↦ λ at so. let same : Entry w ≡ e = cc in subst P same (first_7 words marks sealed w first_words clear at)
      ] refl is

  clear_marks : Clear words marks sealed 7 → stray_mark (places_of words) marks ≡ None → Clear words marks sealed 8
  unfolding stray_mark
  clear_marks clear none =
      elim (least_stray (places_of words) marks) as (λ o. least_stray (places_of words) marks ≡ o → option_map Entry o ≡ None → Clear words marks sealed 8) [
        | None ↦ λ at so. clear_8 words marks sealed clear at
        | Some w ↦ λ at so. absurd (none_some (Entry w) (sym so))
      ] refl none

-- the refusal is the first condition that holds
pub refusal_is_first : (words marks : List ℕ) (sealed : Bool) (e : CodeError) → length words ≤ 65535 → refusal words marks sealed ≡ Some e → IsFirst words marks sealed e
unfolding refusal
refusal_is_first words marks sealed e small is =
    let rest = or_else (refusal_of_units words (units_of words sealed)) (stray_mark (places_of words) marks) in
    ⊎_elim (λ here. first_of_items words marks sealed small e here)
    (λ past. let clear = clear_items words marks sealed small past.0 in
    ⊎_elim (λ here. first_of_units words marks sealed small e clear here)
    (λ last. first_of_marks words marks sealed small e (clear_units words marks sealed small clear last.0) last.1)
    (which (refusal_of_units words (units_of words sealed)) (stray_mark (places_of words) marks) e past.1))
    (which (refusal_of_items (places_of words) (items_of words)) rest e is)

-- where there is no refusal no condition holds
pub no_refusal_none_holds : (words marks : List ℕ) (sealed : Bool) → length words ≤ 65535 → refusal words marks sealed ≡ None → NoneHolds words marks sealed
no_refusal_none_holds words marks sealed small h =
    let parts = no_refusal words marks sealed h in
    none_holds words marks sealed (clear_marks words marks sealed small (clear_units words marks sealed small (clear_items words marks sealed small parts.0) parts.1) parts.2)

-- both, of an answer
pub first_told : {A : Type 0} (words marks : List ℕ) (sealed : Bool) (r : Result A CodeError) (P : A → Type 0) → length words ≤ 65535 → IfOk r (λ list. (refusal words marks sealed ≡ None) × P list) → IfErr r (λ e. (e ≡ NoMemory) ⊎ (refusal words marks sealed ≡ Some e)) → MatchResult r (λ _. NoneHolds words marks sealed) (λ e. (e ≡ NoMemory) ⊎ IsFirst words marks sealed e)
first_told words marks sealed (Ok list) P small ok err = no_refusal_none_holds words marks sealed small ok.0
first_told words marks sealed (Err e) P small ok err = ⊎_elim inl (λ is. inr (refusal_is_first words marks sealed e small is)) err
