-- The command that is read from the words is the one that the rules give, and there is no other.
use Rattle.std.specs.Prelude.{IsTrue, unwrap_or, codes, nat_le, nat_lt, ◌&&◌, ◌==◌}
use Rattle.std.specs.List.{AllByRecursion}
use Rattle.std.specs.Option.{option_map}
use Rattle.std.specs.Str.{bytes_eq}
use Rattle.std.proofs.Common.{◌≡◌, ◌∙◌, ℕ, ◌+◌, ◌≤◌, refl, sym, ap, subst, arith, Bool, true, false, if◌then◌else◌, List, [], ◌∷◌, ◌++◌, length, Option, Some, None, append_assoc, append-nil, length-append}
use Rattle.std.proofs.lemmas.Bool.Decides.{nat_tests}
use Rattle.std.proofs.lemmas.Slice.Eq.{bytes_eq-Decides}
use Rattle.mote_base.specs.Numbers.{number_in, is_number}
use Rattle.mote_base.specs.Numbers.{value_of as decimal_value}
use Rattle.mote_layout.specs.Limits.{images_limit, unit_limit, default_units, handler_limit, default_handler_units}
use Rattle.command_line.specs.declared.command.Kind.{Kind}
use Rattle.command_line.specs.declared.command.Kind.TheVariants as kinds
use Rattle.command_line.specs.declared.command.Tool.{Tool}
use Rattle.command_line.specs.declared.command.Setting.{Setting}
use Rattle.command_line.specs.declared.command.Setting.TheVariants.{Units, Handler}
use Rattle.command_line.specs.declared.command.Place.{Place}
use Rattle.command_line.specs.declared.command.Place.TheVariants.{Options, Value, Operands}
use Rattle.command_line.specs.Command.{Command, Item, Operand, Flag, Joined, Apart, IsItem, IsCommand, Given, CommandsAreByRules, CommandsAreWithinLimits, IsWithinLimits, greatest, without_options, tool_of, takes, kind_of, is_option, end_of_options, name_of, front_of, flag, value_of, written, operands, value_for, values, none_or_one, flags, zero_or_one, ended, nothing_given, units_given, handler_given, flag_given, with_value, with_operand, with_place, behind_front, with_joined, with_option, with_any, with_word, given_by, with_files, command_at, command_with, command_of, files_of, all_operands, generation, greatest_seed}

-- Texts that are the same, and texts that are not.
same_text : (xs ys : List ℕ) → bytes_eq xs ys ≡ true → xs ≡ ys
same_text xs ys e = (bytes_eq-Decides xs ys).0 e

-- What stands behind a front stands behind it.
front_where : (b : Bool) (f c : ℕ) (fs cs text : List ℕ) → (f == c) ≡ b → (if b then behind_front fs cs else None) ≡ Some text → (behind_front fs cs ≡ Some text → cs ≡ fs ++ text) → c ∷ cs ≡ f ∷ (fs ++ text)
front_where true f c fs cs text test e rest =
    let same : c ≡ f = grind (arith, nat_tests) in
    ap (λ x. x ∷ cs) same ∙ ap (λ xs. f ∷ xs) (rest e)
front_where false f c fs cs text test e rest = absurd (cc)

pub has_front : (front word text : List ℕ) → behind_front front word ≡ Some text → word ≡ front ++ text
has_front [] word text e = cc
has_front (f ∷ fs) [] text e = absurd (cc)
has_front (f ∷ fs) (c ∷ cs) text e = front_where (f == c) f c fs cs text refl e (λ h. has_front fs cs text h)

-- Where nothing may stand, nothing may stand behind it.
pub none_given : (words : List (List ℕ)) → given_by words None ≡ None
none_given [] = refl
none_given (word ∷ words) = none_given words

stuck : (words : List (List ℕ)) (t : Given) → given_by words None ≡ Some t → ⊥
stuck words t e = let none : None ≡ Some t = sym (none_given words) ∙ e in cc

-- From the words to the rules.

record Sorted (words : List (List ℕ)) (g t : Given) : Type 0 where
  items : List Item
  behind : Option (List (List ℕ))
  words_are : words ≡ written items ++ ended behind
  each : AllByRecursion IsItem items
  units : none_or_one t.units ≡ none_or_one g.units ++ values Units items
  handler : none_or_one t.handler ≡ none_or_one g.handler ++ values Handler items
  flagged : zero_or_one t.words ≡ zero_or_one g.words + flags items
  files : t.operands ≡ g.operands ++ (operands items ++ unwrap_or behind [])

-- The text is the value of that option, and then come these words.
record Took (setting : Setting) (text : List ℕ) (words : List (List ℕ)) (g t : Given) : Type 0 where
  value : ℕ
  gives : value_of setting text ≡ Some value
  items : List Item
  behind : Option (List (List ℕ))
  words_are : words ≡ written items ++ ended behind
  each : AllByRecursion IsItem items
  units : none_or_one t.units ≡ none_or_one g.units ++ (value_for Units setting value ++ values Units items)
  handler : none_or_one t.handler ≡ none_or_one g.handler ++ (value_for Handler setting value ++ values Handler items)
  flagged : zero_or_one t.words ≡ zero_or_one g.words + flags items
  files : t.operands ≡ g.operands ++ (operands items ++ unwrap_or behind [])

record Valued (setting : Setting) (words : List (List ℕ)) (g t : Given) : Type 0 where
  text : List ℕ
  rest : List (List ℕ)
  are : words ≡ text ∷ rest
  took : Took setting text rest g t

record Behind (words : List (List ℕ)) (g t : Given) : Type 0 where
  units : t.units ≡ g.units
  handler : t.handler ≡ g.handler
  flagged : t.words ≡ g.words
  files : t.operands ≡ g.operands ++ words

abbrev From : Place → List (List ℕ) → Given → Given → Type 0
From Options words g t = Sorted words g t
From (Value setting) words g t = Valued setting words g t
From Operands words g t = Behind words g t

abbrev IsOver : Place → Type 0
IsOver Options = Unit {0}
IsOver (Value setting) = ⊥
IsOver Operands = Unit {0}

abbrev Tells : List (List ℕ) → Given → Type 0
Tells words t = (g : Given) → given_by words (Some g) ≡ Some t → From g.place words g t

sorted_start : (g : Given) → Sorted [] g g
sorted_start g = record {
  items = [];
  behind = None;
  words_are = refl;
  each = tt;
  units = sym (append-nil (none_or_one g.units));
  handler = sym (append-nil (none_or_one g.handler));
  flagged = omega arith;
  files = sym (append-nil g.operands);
}

ends : (p : Place) (g : Given) → IsOver p → From p [] g g
ends Options g over = sorted_start g
ends (Value setting) g over = absurd over
ends Operands g over = record { units = refl; handler = refl; flagged = refl; files = sym (append-nil g.operands) }

module _ (word : List ℕ) (words : List (List ℕ)) (t : Given) (ih : Tells words t) where
  abbrev more : Given → Given
  more g = record { place = g.place; units = g.units; handler = g.handler; words = g.words; operands = g.operands ++ word ∷ [] }

  operand : (b : Bool) (g : Given) → given_by words (if b then Some (more g) else None) ≡ Some t → From g.place words (more g) t
  operand true g e = ih (more g) e
  operand false g e = absurd (stuck words t e)

  took_units : (o : Option ℕ) (text : List ℕ) (value : ℕ) (g : Given) → g.units ≡ o → value_of Units text ≡ Some value → given_by words (units_given o value g) ≡ Some t → Took Units text words g t
  took_units None text value g is gives e =
      let s = ih (record { place = Options; units = Some value; handler = g.handler; words = g.words; operands = g.operands }) e in
      record {
        value = value;
        gives = gives;
        items = s.items;
        behind = s.behind;
        words_are = s.words_are;
        each = s.each;
        units = s.units ∙ ap (λ (o : Option ℕ). none_or_one o ++ (value ∷ values Units s.items)) (sym is);
        handler = s.handler;
        flagged = s.flagged;
        files = s.files;
      }
  took_units (Some before) text value g is gives e = absurd (stuck words t e)

  took_handler : (o : Option ℕ) (text : List ℕ) (value : ℕ) (g : Given) → g.handler ≡ o → value_of Handler text ≡ Some value → given_by words (handler_given o value g) ≡ Some t → Took Handler text words g t
  took_handler None text value g is gives e =
      let s = ih (record { place = Options; units = g.units; handler = Some value; words = g.words; operands = g.operands }) e in
      record {
        value = value;
        gives = gives;
        items = s.items;
        behind = s.behind;
        words_are = s.words_are;
        each = s.each;
        units = s.units;
        handler = s.handler ∙ ap (λ (o : Option ℕ). none_or_one o ++ (value ∷ values Handler s.items)) (sym is);
        flagged = s.flagged;
        files = s.files;
      }
  took_handler (Some before) text value g is gives e = absurd (stuck words t e)

  took : (setting : Setting) (o : Option ℕ) (text : List ℕ) (g : Given) → value_of setting text ≡ o → given_by words (with_value setting o g) ≡ Some t → Took setting text words g t
  took Units None text g gives e = absurd (stuck words t e)
  took Handler None text g gives e = absurd (stuck words t e)
  took Units (Some value) text g gives e = took_units g.units text value g refl gives e
  took Handler (Some value) text g gives e = took_handler g.handler text value g refl gives e

  with_item : (item : Item) (g : Given) (s : Sorted words (more g) t) → item ≡ Operand word → is_option word ≡ false → Sorted (word ∷ words) g t
  with_item item g s is plain = record {
    items = Operand word ∷ s.items;
    behind = s.behind;
    words_are = ap (λ (ws : List (List ℕ)). word ∷ ws) s.words_are;
    each = (plain, s.each);
    units = s.units;
    handler = s.handler;
    flagged = omega (arith, s.flagged);
    files = s.files ∙ append_assoc g.operands (word ∷ []) (operands s.items ++ unwrap_or s.behind []);
  }

  apart : (setting : Setting) (g : Given) → word ≡ name_of setting → Valued setting words (with_place (Value setting) g) t → Sorted (word ∷ words) g t
  apart setting g is v = record {
    items = Apart setting v.text v.took.value ∷ v.took.items;
    behind = v.took.behind;
    words_are =
        ap (λ (w : List ℕ). w ∷ words) is ∙ ap (λ (ws : List (List ℕ)). name_of setting ∷ ws) v.are
        ∙ ap (λ (ws : List (List ℕ)). name_of setting ∷ v.text ∷ ws) v.took.words_are;
    each = (v.took.gives, v.took.each);
    units = v.took.units;
    handler = v.took.handler;
    flagged = omega (arith, v.took.flagged);
    files = v.took.files;
  }

  joined : (setting : Setting) (text : List ℕ) (g : Given) → word ≡ front_of setting ++ text → Took setting text words g t → Sorted (word ∷ words) g t
  joined setting text g is v = record {
    items = Joined setting text v.value ∷ v.items;
    behind = v.behind;
    words_are = ap (λ (w : List ℕ). w ∷ words) is ∙ ap (λ (ws : List (List ℕ)). (front_of setting ++ text) ∷ ws) v.words_are;
    each = (v.gives, v.each);
    units = v.units;
    handler = v.handler;
    flagged = omega (arith, v.flagged);
    files = v.files;
  }

  by_front : (a b : Option (List ℕ)) (g : Given) → behind_front (front_of Units) word ≡ a → behind_front (front_of Handler) word ≡ b → given_by words (with_joined a b g) ≡ Some t → Sorted (word ∷ words) g t
  by_front (Some text) b g units handler e =
      joined Units text g (has_front (front_of Units) word text units) (took Units (value_of Units text) text g refl e)
  by_front None (Some text) g units handler e =
      joined Handler text g (has_front (front_of Handler) word text handler) (took Handler (value_of Handler text) text g refl e)
  by_front None None g units handler e = absurd (stuck words t e)

  by_flag : (b : Bool) (g : Given) → word ≡ flag → g.words ≡ b → given_by words (flag_given b g) ≡ Some t → Sorted (word ∷ words) g t
  by_flag false g is none e =
      let s = ih (record { place = Options; units = g.units; handler = g.handler; words = true; operands = g.operands }) e in
      record {
        items = Flag ∷ s.items;
        behind = s.behind;
        words_are = ap (λ (w : List ℕ). w ∷ words) is ∙ ap (λ (ws : List (List ℕ)). flag ∷ ws) s.words_are;
        each = (tt, s.each);
        units = s.units;
        handler = s.handler;
        flagged = omega (arith, s.flagged, ap zero_or_one none);
        files = s.files;
      }
  by_flag true g is none e = absurd (stuck words t e)

  by_word : (b : Bool) (g : Given) → bytes_eq word flag ≡ b → given_by words (if b then flag_given g.words g else with_joined (behind_front (front_of Units) word) (behind_front (front_of Handler) word) g) ≡ Some t → Sorted (word ∷ words) g t
  by_word true g is e = by_flag g.words g (same_text word flag is) refl e
  by_word false g is e = by_front (behind_front (front_of Units) word) (behind_front (front_of Handler) word) g refl refl e

  by_name : (a b : Bool) (g : Given) → bytes_eq word (name_of Units) ≡ a → bytes_eq word (name_of Handler) ≡ b → given_by words (if a then Some (with_place (Value Units) g) else (if b then Some (with_place (Value Handler) g) else (if bytes_eq word flag then flag_given g.words g else with_joined (behind_front (front_of Units) word) (behind_front (front_of Handler) word) g))) ≡ Some t → Sorted (word ∷ words) g t
  by_name true b g units handler e = apart Units g (same_text word (name_of Units) units) (ih (with_place (Value Units) g) e)
  by_name false true g units handler e = apart Handler g (same_text word (name_of Handler) handler) (ih (with_place (Value Handler) g) e)
  by_name false false g units handler e = by_word (bytes_eq word flag) g refl e

  by_sort : (a b : Bool) (g : Given) → g.place ≡ Options → bytes_eq word end_of_options ≡ a → is_option word ≡ b → given_by words (if a then Some (with_place Operands g) else (if b then with_option word g else with_operand word g)) ≡ Some t → Sorted (word ∷ words) g t
  by_sort true b g at is plain e =
      let v : Behind words (with_place Operands g) t = ih (with_place Operands g) e in
      record {
        items = [];
        behind = Some words;
        words_are = ap (λ (w : List ℕ). w ∷ words) (same_text word end_of_options is);
        each = tt;
        units = ap none_or_one v.units ∙ sym (append-nil (none_or_one g.units));
        handler = ap none_or_one v.handler ∙ sym (append-nil (none_or_one g.handler));
        flagged = omega (arith, ap zero_or_one v.flagged);
        files = v.files;
      }
  by_sort false true g at is plain e = by_name (bytes_eq word (name_of Units)) (bytes_eq word (name_of Handler)) g refl refl e
  by_sort false false g at is plain e =
      let s : Sorted words (more g) t = subst (λ (p : Place). From p words (more g) t) at (operand (nat_le (length g.operands) images_limit) g e) in
      with_item (Operand word) g s refl plain

  by_place : (p : Place) (g : Given) → g.place ≡ p → given_by words (with_word p word g) ≡ Some t → From p (word ∷ words) g t
  by_place Options g at e = by_sort (bytes_eq word end_of_options) (is_option word) g at refl refl e
  by_place (Value setting) g at e = record { text = word; rest = words; are = refl; took = took setting (value_of setting word) word g refl e }
  by_place Operands g at e =
      let s : Behind words (more g) t = subst (λ (p : Place). From p words (more g) t) at (operand (nat_le (length g.operands) images_limit) g e) in
      record { units = s.units; handler = s.handler; flagged = s.flagged; files = s.files ∙ append_assoc g.operands (word ∷ []) words }

tells : (t : Given) → IsOver t.place → (words : List (List ℕ)) → Tells words t
tells t over [] g e =
    let same : t ≡ g = cc in
    subst (λ (x : Given). From g.place [] g x) (sym same) (ends g.place g (subst (λ (x : Given). IsOver x.place) same over))
tells t over (word ∷ words) g e = by_place word words t (tells t over words) g.place g refl e

-- Words that are read to their end are the command that the rules give.
record Taken (kind : Option Kind) (given : List (List ℕ)) (command : Command) : Type 0 where
  named : kind ≡ Some command.kind
  files_are : command.files ≡ files_of command.kind given
  number : IsTrue (takes command.kind (length command.files))

taken_where : (b : Bool) (kind : Kind) (given : List (List ℕ)) (command : Command) → takes kind (length (files_of kind given)) ≡ b → (if b then Some (record { kind = kind; files = files_of kind given }) else None) ≡ Some command → Taken (Some kind) given command
taken_where true kind given command test e =
    let made : Command = record { kind = kind; files = files_of kind given } in
    let same : made ≡ command = cc in
    record {
      named = ap (λ (c : Command). Some c.kind) same;
      files_are = subst (λ (c : Command). c.files ≡ files_of c.kind given) same refl;
      number = subst (λ (c : Command). IsTrue (takes c.kind (length c.files))) same test;
    }
taken_where false kind given command test e = absurd (cc)

taken : (kind : Option Kind) (given : List (List ℕ)) (command : Command) → with_files kind given ≡ Some command → Taken kind given command
taken None given command e = absurd (cc)
taken (Some kind) given command e = taken_where (takes kind (length (files_of kind given))) kind given command refl e

over_where : (p : Place) (verb : List ℕ) (g : Given) (command : Command) → command_at p verb g ≡ Some command → IsOver p × Taken (kind_of verb g.units g.handler g.words g.operands) g.operands command
over_where Options verb g command e = (tt, taken (kind_of verb g.units g.handler g.words g.operands) g.operands command e)
over_where (Value setting) verb g command e = absurd (cc)
over_where Operands verb g command e = (tt, taken (kind_of verb g.units g.handler g.words g.operands) g.operands command e)

ruled_where : (o : Option Given) (verb : List ℕ) (words : List (List ℕ)) (command : Command) → given_by words (Some nothing_given) ≡ o → command_with verb o ≡ Some command → IsCommand (verb ∷ words) command
ruled_where None verb words command read e = absurd (cc)
ruled_where (Some t) verb words command read e =
    let over = over_where t.place verb t command e in
    let s : Sorted words nothing_given t = tells t over.0 words nothing_given read in
    record {
      verb = verb;
      items = s.items;
      behind = s.behind;
      words_are = ap (λ (ws : List (List ℕ)). verb ∷ ws) s.words_are;
      each = s.each;
      units = t.units;
      units_once = s.units;
      handler = t.handler;
      handler_once = s.handler;
      flagged = t.words;
      flagged_once = omega (arith, s.flagged);
      named = ap (λ (words : List (List ℕ)). kind_of verb t.units t.handler t.words words) (sym s.files) ∙ over.1.named;
      files_are = over.1.files_are ∙ ap (λ (words : List (List ℕ)). files_of command.kind words) s.files;
      number = over.1.number;
    }

ruled : (words : List (List ℕ)) (command : Command) → command_of words ≡ Some command → IsCommand words command
ruled [] command e = absurd (cc)
ruled (verb ∷ words) command e = ruled_where (given_by words (Some nothing_given)) verb words command refl e

-- From the rules to the words.

abbrev at : Place → Option ℕ → Option ℕ → Bool → List (List ℕ) → Given
at place units handler flagged files = record { place = place; units = units; handler = handler; words = flagged; operands = files }

-- A word that does not look like an option ends none.
not_true : (b : Bool) → (b ≡ true → ⊥) → b ≡ false
not_true true never = absurd (never refl)
not_true false never = refl

no_end : (word : List ℕ) → is_option word ≡ false → bytes_eq word end_of_options ≡ false
no_end word plain =
    not_true (bytes_eq word end_of_options) (λ e.
    let looks : is_option word ≡ true = subst (λ (w : List ℕ). is_option w ≡ true) (sym (same_text word end_of_options e)) refl in
    let both : true ≡ false = sym looks ∙ plain in
    cc)

-- A word behind two of `-` looks like an option.
looks_so : (rest : List ℕ) → is_option (45 ∷ 45 ∷ rest) ≡ true
looks_so rest = let long : nat_lt 1 (length (45 ∷ 45 ∷ rest)) ≡ true = grind (arith, nat_tests) in rw long refl

-- A value may stand where none stood, and then it is the one.
same_option : (a b : Option ℕ) → none_or_one a ≡ none_or_one b → a ≡ b
same_option None None e = refl
same_option None (Some n) e = absurd (cc)
same_option (Some m) None e = absurd (cc)
same_option (Some m) (Some n) e = let same : m ≡ n = cc in ap (λ k. Some k) same

none_stood : (now before : Option ℕ) (value : ℕ) (rest : List ℕ) → none_or_one now ≡ none_or_one before ++ (value ∷ rest) → before ≡ None
none_stood now None value rest e = refl
none_stood None (Some m) value rest e = absurd (cc)
none_stood (Some n) (Some m) value rest e = absurd (cc)

-- The flag may stand where it didn't, and then it stands.
same_flag : (a b : Bool) → zero_or_one a ≡ zero_or_one b → a ≡ b
same_flag false false e = refl
same_flag false true e = absurd (omega (arith, e))
same_flag true false e = absurd (omega (arith, e))
same_flag true true e = refl

no_flag_stood : (now before : Bool) (rest : ℕ) → zero_or_one now ≡ zero_or_one before + (1 + rest) → before ≡ false
no_flag_stood now false rest e = refl
no_flag_stood false true rest e = absurd (omega (arith, e))
no_flag_stood true true rest e = absurd (omega (arith, e))

-- One more operand may stand.
room : (files : List (List ℕ)) (word : List ℕ) (rest : List (List ℕ)) → length files + length (word ∷ rest) ≤ images_limit + 1 → nat_le (length files) images_limit ≡ true
room files word rest few = let less : length files ≤ images_limit = omega (arith, few) in grind (arith, nat_tests, less)

more_room : (files : List (List ℕ)) (word : List ℕ) (rest : List (List ℕ)) → length files + length (word ∷ rest) ≤ images_limit + 1 → length (files ++ word ∷ []) + length rest ≤ images_limit + 1
more_room files word rest few = omega (arith, few, length-append files (word ∷ []))

-- the operands behind the end of the options
makes_behind : (words : List (List ℕ)) (units handler : Option ℕ) (flagged : Bool) (files : List (List ℕ)) → length files + length words ≤ images_limit + 1 → given_by words (Some (at Operands units handler flagged files)) ≡ Some (at Operands units handler flagged (files ++ words))
makes_behind [] units handler flagged files few = ap (λ (fs : List (List ℕ)). Some (at Operands units handler flagged fs)) (sym (append-nil files))
makes_behind (word ∷ words) units handler flagged files few =
    ap (λ (b : Bool). given_by words (if b then Some (at Operands units handler flagged (files ++ word ∷ [])) else None)) (room files word words few)
    ∙ makes_behind words units handler flagged (files ++ word ∷ []) (more_room files word words few)
    ∙ ap (λ (fs : List (List ℕ)). Some (at Operands units handler flagged fs)) (append_assoc files (word ∷ []) words)

abbrev place_behind : Option (List (List ℕ)) → Place
place_behind None = Options
place_behind (Some words) = Operands

-- What stands behind two of `-` is an option.
as_option : (rest : List ℕ) (g : Given) → bytes_eq (45 ∷ 45 ∷ rest) end_of_options ≡ false → with_any (45 ∷ 45 ∷ rest) g ≡ with_option (45 ∷ 45 ∷ rest) g
as_option rest g other = rw (other, looks_so rest) refl

joined_is : (setting : Setting) (text : List ℕ) (value : ℕ) (g : Given) → value_of setting text ≡ Some value → with_any (front_of setting ++ text) g ≡ with_value setting (Some value) g
joined_is Units text value g gives = as_option (codes "units=" ++ text) g refl ∙ ap (λ (o : Option ℕ). with_value Units o g) gives
joined_is Handler text value g gives = as_option (codes "handler=" ++ text) g refl ∙ ap (λ (o : Option ℕ). with_value Handler o g) gives

apart_is : (setting : Setting) (g : Given) → with_any (name_of setting) g ≡ Some (with_place (Value setting) g)
apart_is Units g = as_option (codes "units") g refl
apart_is Handler g = as_option (codes "handler") g refl

flag_is : (g : Given) → with_any flag g ≡ flag_given g.words g
flag_is g = as_option (codes "words") g refl

-- The value is taken, since none stood there.
value_is : (setting : Setting) (value : ℕ) (place : Place) (units handler now_units now_handler : Option ℕ) (flagged : Bool) (files : List (List ℕ)) (items : List Item) → none_or_one now_units ≡ none_or_one units ++ (value_for Units setting value ++ values Units items) → none_or_one now_handler ≡ none_or_one handler ++ (value_for Handler setting value ++ values Handler items) → (u h : Option ℕ) × (with_value setting (Some value) (at place units handler flagged files) ≡ Some (at Options u h flagged files)) × (none_or_one now_units ≡ none_or_one u ++ values Units items) × (none_or_one now_handler ≡ none_or_one h ++ values Handler items)
value_is Units value place units handler now_units now_handler flagged files items is_units is_handler =
    let none = none_stood now_units units value (values Units items) is_units in (
      Some value,
      handler,
      ap (λ (o : Option ℕ). units_given o value (at place units handler flagged files)) none,
      subst (λ (o : Option ℕ). none_or_one now_units ≡ none_or_one o ++ (value ∷ values Units items)) none is_units,
      is_handler,
    )
value_is Handler value place units handler now_units now_handler flagged files items is_units is_handler =
    let none = none_stood now_handler handler value (values Handler items) is_handler in (
      units,
      Some value,
      ap (λ (o : Option ℕ). handler_given o value (at place units handler flagged files)) none,
      is_units,
      subst (λ (o : Option ℕ). none_or_one now_handler ≡ none_or_one o ++ (value ∷ values Handler items)) none is_handler,
    )

makes : (items : List Item) (behind : Option (List (List ℕ))) (units handler now_units now_handler : Option ℕ) (flagged now_flagged : Bool) (files : List (List ℕ)) → AllByRecursion IsItem items → none_or_one now_units ≡ none_or_one units ++ values Units items → none_or_one now_handler ≡ none_or_one handler ++ values Handler items → zero_or_one now_flagged ≡ zero_or_one flagged + flags items → length files + length (all_operands items behind) ≤ images_limit + 1 → given_by (written items ++ ended behind) (Some (at Options units handler flagged files)) ≡ Some (at (place_behind behind) now_units now_handler now_flagged (files ++ all_operands items behind))
makes [] None units handler now_units now_handler flagged now_flagged files each is_units is_handler is_flagged few =
    let same_units = same_option now_units units (is_units ∙ append-nil (none_or_one units)) in
    let same_handler = same_option now_handler handler (is_handler ∙ append-nil (none_or_one handler)) in
    let same_flagged = same_flag now_flagged flagged (omega (arith, is_flagged)) in
    ap (λ (o : Option ℕ). Some (at Options o handler flagged files)) (sym same_units)
    ∙ ap (λ (o : Option ℕ). Some (at Options now_units o flagged files)) (sym same_handler)
    ∙ ap (λ (b : Bool). Some (at Options now_units now_handler b files)) (sym same_flagged)
    ∙ ap (λ (fs : List (List ℕ)). Some (at Options now_units now_handler now_flagged fs)) (sym (append-nil files))
makes [] (Some words) units handler now_units now_handler flagged now_flagged files each is_units is_handler is_flagged few =
    let same_units = same_option now_units units (is_units ∙ append-nil (none_or_one units)) in
    let same_handler = same_option now_handler handler (is_handler ∙ append-nil (none_or_one handler)) in
    let same_flagged = same_flag now_flagged flagged (omega (arith, is_flagged)) in
    makes_behind words units handler flagged files few
    ∙ ap (λ (o : Option ℕ). Some (at Operands o handler flagged (files ++ words))) (sym same_units)
    ∙ ap (λ (o : Option ℕ). Some (at Operands now_units o flagged (files ++ words))) (sym same_handler)
    ∙ ap (λ (b : Bool). Some (at Operands now_units now_handler b (files ++ words))) (sym same_flagged)
makes (Operand word ∷ items) behind units handler now_units now_handler flagged now_flagged files each is_units is_handler is_flagged few =
    let words = written items ++ ended behind in
    let g = at Options units handler flagged files in
    ap (λ (b : Bool). given_by words (if b then Some (with_place Operands g) else (if is_option word then with_option word g else with_operand word g))) (no_end word each.0)
    ∙ ap (λ (b : Bool). given_by words (if b then with_option word g else with_operand word g)) each.0
    ∙ ap (λ (b : Bool). given_by words (if b then Some (at Options units handler flagged (files ++ word ∷ [])) else None)) (room files word (all_operands items behind) few)
    ∙ makes items behind units handler now_units now_handler flagged now_flagged (files ++ word ∷ []) each.1 is_units is_handler (omega (arith, is_flagged)) (more_room files word (all_operands items behind) few)
    ∙ ap (λ (fs : List (List ℕ)). Some (at (place_behind behind) now_units now_handler now_flagged fs)) (append_assoc files (word ∷ []) (all_operands items behind))
makes (Flag ∷ items) behind units handler now_units now_handler flagged now_flagged files each is_units is_handler is_flagged few =
    let words = written items ++ ended behind in
    let none = no_flag_stood now_flagged flagged (flags items) is_flagged in
    let is_flagged_now : zero_or_one now_flagged ≡ zero_or_one true + flags items = omega (arith, is_flagged, ap zero_or_one none) in
    ap (given_by words) (flag_is (at Options units handler flagged files) ∙ ap (λ (b : Bool). flag_given b (at Options units handler flagged files)) none)
    ∙ makes items behind units handler now_units now_handler true now_flagged files each.1 is_units is_handler is_flagged_now few
makes (Joined setting text value ∷ items) behind units handler now_units now_handler flagged now_flagged files each is_units is_handler is_flagged few =
    let words = written items ++ ended behind in
    let v = value_is setting value Options units handler now_units now_handler flagged files items is_units is_handler in
    ap (given_by words) (joined_is setting text value (at Options units handler flagged files) each.0 ∙ v.2)
    ∙ makes items behind v.0 v.1 now_units now_handler flagged now_flagged files each.1 v.3 v.4 (omega (arith, is_flagged)) few
makes (Apart setting text value ∷ items) behind units handler now_units now_handler flagged now_flagged files each is_units is_handler is_flagged few =
    let words = written items ++ ended behind in
    let v = value_is setting value (Value setting) units handler now_units now_handler flagged files items is_units is_handler in
    ap (λ (o : Option Given). given_by (text ∷ words) o) (apart_is setting (at Options units handler flagged files))
    ∙ ap (λ (o : Option ℕ). given_by words (with_value setting o (at (Value setting) units handler flagged files))) each.0
    ∙ ap (λ (o : Option Given). given_by words o) v.2
    ∙ makes items behind v.0 v.1 now_units now_handler flagged now_flagged files each.1 v.3 v.4 (omega (arith, is_flagged)) few

-- No command takes more files than a run, and none has more operands.
few_files : (kind : Kind) (n : ℕ) → IsTrue (takes kind n) → n ≤ images_limit + 1
few_files (kinds.Run units handler words) n is = grind (arith, nat_tests)
few_files (kinds.Tool tool) n is = grind (arith, nat_tests)
few_files (kinds.Generation seed) n is = grind (arith, nat_tests)

one_seed : (units handler : Option ℕ) (words : Bool) (given : List (List ℕ)) (kind : Kind) → generation units handler words given ≡ Some kind → length given ≡ 1
one_seed None None false [] kind e = absurd (cc)
one_seed None None false (seed ∷ []) kind e = refl
one_seed None None false (seed ∷ other ∷ given) kind e = absurd (cc)
one_seed None None true given kind e = absurd (cc)
one_seed None (Some h) words given kind e = absurd (cc)
one_seed (Some u) handler words given kind e = absurd (cc)

no_tool : (tool : Option Tool) (units handler : Option ℕ) (words : Bool) (seed : ℕ) → without_options tool units handler words ≡ Some (kinds.Generation seed) → ⊥
no_tool (Some tool) None None false seed e = cc
no_tool None units handler words seed e = cc
no_tool (Some tool) None None true seed e = cc
no_tool (Some tool) None (Some h) words seed e = cc
no_tool (Some tool) (Some u) handler words seed e = cc

one_operand : (a b : Bool) (verb : List ℕ) (units handler : Option ℕ) (words : Bool) (given : List (List ℕ)) (seed : ℕ) → (if a then Some (kinds.Run (unwrap_or units default_units) (unwrap_or handler default_handler_units) words) else (if b then generation units handler words given else without_options (tool_of verb) units handler words)) ≡ Some (kinds.Generation seed) → length given ≡ 1
one_operand true b verb units handler words given seed e = absurd (cc)
one_operand false true verb units handler words given seed e = one_seed units handler words given (kinds.Generation seed) e
one_operand false false verb units handler words given seed e = absurd (no_tool (tool_of verb) units handler words seed e)

few_operands : (kind : Kind) (verb : List ℕ) (units handler : Option ℕ) (words : Bool) (given : List (List ℕ)) → kind_of verb units handler words given ≡ Some kind → IsTrue (takes kind (length (files_of kind given))) → length given ≤ images_limit + 1
few_operands (kinds.Run most bound told) verb units handler words given named is = few_files (kinds.Run most bound told) (length given) is
few_operands (kinds.Tool tool) verb units handler words given named is = few_files (kinds.Tool tool) (length given) is
few_operands (kinds.Generation seed) verb units handler words given named is =
    omega (arith, one_operand (bytes_eq verb (codes "run")) (bytes_eq verb (codes "gen")) verb units handler words given seed named)

command_with_files : (given : List (List ℕ)) (command : Command) → command.files ≡ files_of command.kind given → IsTrue (takes command.kind (length command.files)) → with_files (Some command.kind) given ≡ Some command
command_with_files given command files_are number =
    ap (λ fs. if takes command.kind (length fs) then Some (record { kind = command.kind; files = fs }) else None) (sym files_are)
    ∙ ap (λ b. if b then Some (record { kind = command.kind; files = command.files }) else None) number

command_is : (behind : Option (List (List ℕ))) (verb : List ℕ) (units handler : Option ℕ) (flagged : Bool) (given : List (List ℕ)) (command : Command) → kind_of verb units handler flagged given ≡ Some command.kind → command.files ≡ files_of command.kind given → IsTrue (takes command.kind (length command.files)) → command_at (place_behind behind) verb (at (place_behind behind) units handler flagged given) ≡ Some command
command_is None verb units handler flagged given command named files_are number = ap (λ k. with_files k given) named ∙ command_with_files given command files_are number
command_is (Some words) verb units handler flagged given command named files_are number = ap (λ k. with_files k given) named ∙ command_with_files given command files_are number

taken_from : (words : List (List ℕ)) (command : Command) → IsCommand words command → command_of words ≡ Some command
taken_from words command r =
    let given = all_operands r.items r.behind in
    let number : IsTrue (takes command.kind (length (files_of command.kind given))) = subst (λ (fs : List (List ℕ)). IsTrue (takes command.kind (length fs))) r.files_are r.number in
    let few : length given ≤ images_limit + 1 = few_operands command.kind r.verb r.units r.handler r.flagged given r.named number in
    ap command_of r.words_are
    ∙ ap (λ (o : Option Given). command_with r.verb o) (makes r.items r.behind None None r.units r.handler false r.flagged [] r.each r.units_once r.handler_once (omega (arith, r.flagged_once)) (omega (arith, few)))
    ∙ command_is r.behind r.verb r.units r.handler r.flagged given command r.named r.files_are r.number

pub commands_are_by_rules : CommandsAreByRules
commands_are_by_rules words command = (ruled words command, taken_from words command)

-- Limits are in their ranges.

in_range_where : (a b c : Bool) (n m : ℕ) → (if a && (b && c) then Some n else None) ≡ Some m → (b ≡ true) × (c ≡ true) × (n ≡ m)
in_range_where true true true n m is = (refl, refl, cc)
in_range_where true true false n m is = absurd (cc)
in_range_where true false c n m is = absurd (cc)
in_range_where false b c n m is = absurd (cc)

in_range : (least most : ℕ) (text : List ℕ) (n : ℕ) → number_in least most text ≡ Some n → (least ≤ n) × (n ≤ most)
in_range least most text n is =
    let parts = in_range_where (is_number text) (nat_le least (decimal_value text)) (nat_le (decimal_value text) most) (decimal_value text) n is in
    (grind (arith, nat_tests, parts.0, parts.2), grind (arith, nat_tests, parts.1, parts.2))

abbrev IsGiven : Setting → Option ℕ → Type 0
IsGiven setting o = (n : ℕ) → o ≡ Some n → (1 ≤ n) × (n ≤ greatest setting)

first_is : (n m : ℕ) (rest : List ℕ) → n ∷ [] ≡ m ∷ rest → m ≡ n
first_is n m rest e = cc

given_values : (setting : Setting) (items : List Item) (n : ℕ) → AllByRecursion IsItem items → n ∷ [] ≡ values setting items → (1 ≤ n) × (n ≤ greatest setting)
given_values setting [] n each e = absurd (cc)
given_values setting (Operand word ∷ items) n each e = given_values setting items n each.1 e
given_values setting (Flag ∷ items) n each e = given_values setting items n each.1 e
given_values Units (Joined Units text value ∷ items) n each e = subst (λ (k : ℕ). (1 ≤ k) × (k ≤ unit_limit)) (first_is n value (values Units items) e) (in_range 1 unit_limit text value each.0)
given_values Units (Joined Handler text value ∷ items) n each e = given_values Units items n each.1 e
given_values Handler (Joined Units text value ∷ items) n each e = given_values Handler items n each.1 e
given_values Handler (Joined Handler text value ∷ items) n each e = subst (λ (k : ℕ). (1 ≤ k) × (k ≤ handler_limit)) (first_is n value (values Handler items) e) (in_range 1 handler_limit text value each.0)
given_values Units (Apart Units text value ∷ items) n each e = subst (λ (k : ℕ). (1 ≤ k) × (k ≤ unit_limit)) (first_is n value (values Units items) e) (in_range 1 unit_limit text value each.0)
given_values Units (Apart Handler text value ∷ items) n each e = given_values Units items n each.1 e
given_values Handler (Apart Units text value ∷ items) n each e = given_values Handler items n each.1 e
given_values Handler (Apart Handler text value ∷ items) n each e = subst (λ (k : ℕ). (1 ≤ k) × (k ≤ handler_limit)) (first_is n value (values Handler items) e) (in_range 1 handler_limit text value each.0)

given_option : (setting : Setting) (items : List Item) (o : Option ℕ) → AllByRecursion IsItem items → none_or_one o ≡ values setting items → IsGiven setting o
given_option setting items None each e n is = absurd (cc)
given_option setting items (Some m) each e n is =
    let same : m ≡ n = cc in subst (λ (k : ℕ). (1 ≤ k) × (k ≤ greatest setting)) same (given_values setting items m each e)

or_default : (o : Option ℕ) (own most : ℕ) → ((n : ℕ) → o ≡ Some n → (1 ≤ n) × (n ≤ most)) → 1 ≤ own → own ≤ most → (1 ≤ unwrap_or o own) × (unwrap_or o own ≤ most)
or_default None own most given least high = (least, high)
or_default (Some n) own most given least high = given n refl

alone_within : (tool : Option Tool) (units handler : Option ℕ) (words : Bool) (kind : Kind) → without_options tool units handler words ≡ Some kind → IsWithinLimits kind
alone_within (Some tool) None None false kind e = let same : kinds.Tool tool ≡ kind = cc in subst IsWithinLimits same tt
alone_within None units handler words kind e = absurd (cc)
alone_within (Some tool) None None true kind e = absurd (cc)
alone_within (Some tool) None (Some h) words kind e = absurd (cc)
alone_within (Some tool) (Some u) handler words kind e = absurd (cc)

seed_within : (o : Option ℕ) (kind : Kind) → ((n : ℕ) → o ≡ Some n → n ≤ greatest_seed) → option_map (λ n. kinds.Generation n) o ≡ Some kind → IsWithinLimits kind
seed_within None kind within e = absurd (cc)
seed_within (Some n) kind within e = let same : kinds.Generation n ≡ kind = cc in subst IsWithinLimits same (within n refl)

generation_within : (units handler : Option ℕ) (words : Bool) (given : List (List ℕ)) (kind : Kind) → generation units handler words given ≡ Some kind → IsWithinLimits kind
generation_within None None false [] kind e = absurd (cc)
generation_within None None false (seed ∷ []) kind e = seed_within (number_in 0 greatest_seed seed) kind (λ n is. (in_range 0 greatest_seed seed n is).1) e
generation_within None None false (seed ∷ other ∷ given) kind e = absurd (cc)
generation_within None None true given kind e = absurd (cc)
generation_within None (Some h) words given kind e = absurd (cc)
generation_within (Some u) handler words given kind e = absurd (cc)

named_within : (a b : Bool) (verb : List ℕ) (units handler : Option ℕ) (words : Bool) (given : List (List ℕ)) (kind : Kind) → IsGiven Units units → IsGiven Handler handler → (if a then Some (kinds.Run (unwrap_or units default_units) (unwrap_or handler default_handler_units) words) else (if b then generation units handler words given else without_options (tool_of verb) units handler words)) ≡ Some kind → IsWithinLimits kind
named_within true b verb units handler words given kind given_units given_handler e =
    let u = or_default units default_units unit_limit given_units (omega arith) (omega arith) in
    let h = or_default handler default_handler_units handler_limit given_handler (omega arith) (omega arith) in
    let same : kinds.Run (unwrap_or units default_units) (unwrap_or handler default_handler_units) words ≡ kind = cc in
    subst IsWithinLimits same (u.0, u.1, h.0, h.1)
named_within false true verb units handler words given kind given_units given_handler e = generation_within units handler words given kind e
named_within false false verb units handler words given kind given_units given_handler e = alone_within (tool_of verb) units handler words kind e

pub commands_are_within_limits : CommandsAreWithinLimits
commands_are_within_limits words command e =
    let r = ruled words command e in
    named_within (bytes_eq r.verb (codes "run")) (bytes_eq r.verb (codes "gen")) r.verb r.units r.handler r.flagged (all_operands r.items r.behind) command.kind
    (given_option Units r.items r.units r.each r.units_once)
    (given_option Handler r.items r.handler r.each r.handler_once) r.named
