-- The lines of instructions in a text: those that begin with `w` and a space.
use Rattle.std.proofs.Common.{◌≡◌, ◌∙◌, ℕ, zero, suc, ◌+◌, ◌/◌, ◌%◌, ◌<◌, ◌≤◌, ◌≢◌, List, [], ◌∷◌, ◌++◌, Bool, true, false, Option, Some, None, refl, sym, ap, arith, cond, append_assoc}
use Rattle.std.specs.Prelude.{◌==◌, ◌&&◌, not, nat_lt, codes, decimal}
use Rattle.std.specs.List.{AllByRecursion, list_all}
use Rattle.std.specs.Char.{digit_char}
use Rattle.std.specs.Fmt.{digits, digits_onto, digit_glyph}
use Rattle.std.proofs.lemmas.Bool.Decides.{nat_tests}
use Rattle.std.proofs.lemmas.List.Concat.{flat_map-cons}
use Rattle.mote_base.specs.Digits.{byte_digits, bytes_text, pairs_text, word_digits}
use Rattle.mote_base.specs.Spaced.{spaced}
use Rattle.domain_model.specs.declared.fault.Rule.{Rule}
use Rattle.domain_model.specs.declared.fault.Rule.TheVariants as rule
use Rattle.domain_model.specs.declared.line.Why.{Why}
use Rattle.domain_model.specs.declared.line.Why.TheVariants as why
use Rattle.domain_model.specs.declared.line.TraceLine.{TraceLine}
use Rattle.domain_model.specs.declared.line.TraceLine.TheVariants.{Load, Refused, Run, Call, Unbound, Say, Send, Queued, Dropped, Done, Fault, Unload, Absent, Dump, DumpModule, DumpBlock, DumpMsg, DumpTimer, DumpEnd, EndIdle, EndBudget, Ran}
use Rattle.domain_model.specs.Runners.{is_ran, without_ran}
use Rattle.trace_text.specs.Text.{text, texts, line_words, rule_text, why_text, owner_text, queue_text}
use Rattle.mote_sim.specs.WordLaws.{TextsAreLeft, begins_told, left, without_word_lines}
use Rattle.mote_sim.proofs.WordRuns.{left_out}

-- a byte within a line
abbrev is_within : ℕ → Bool
is_within byte = not (byte == 10)

abbrev IsWithin : List ℕ → Type 0
IsWithin bytes = AllByRecursion (λ byte. is_within byte ≡ true) bytes

-- The words of a line have no line feed.
within_append : (xs ys : List ℕ) → IsWithin xs → IsWithin ys → IsWithin (xs ++ ys)
within_append [] ys a b = b
within_append (x ∷ xs) ys a b = (a.0, within_append xs ys a.1 b)

above : (byte : ℕ) → 10 < byte → is_within byte ≡ true
above byte high = let other : (byte == 10) ≡ false = grind (arith, nat_tests, high) in ap not other

glyph_where : (b : Bool) (d : ℕ) → 10 < cond b (48 + d) (87 + d)
glyph_where true d = omega arith
glyph_where false d = omega arith

char_within : (d : ℕ) → is_within (digit_char d) ≡ true
char_within d = above (digit_char d) (glyph_where (nat_lt d 10) d)

glyph_within : (d : ℕ) → is_within (digit_glyph false d) ≡ true
glyph_within d = above (digit_glyph false d) (glyph_where (nat_lt d 10) d)

onto_where : (b : Bool) (one more : List ℕ) → IsWithin one → IsWithin more → IsWithin (cond b one more)
onto_where true one more a h = a
onto_where false one more a h = h

onto_within : (k n : ℕ) (acc : List ℕ) → IsWithin acc → IsWithin (digits_onto k 10 false n acc)
onto_within zero n acc h = h
onto_within (suc k) n acc h =
    onto_where (n / 10 == 0) (digit_glyph false (n % 10) ∷ acc) (digits_onto k 10 false (n / 10) (digit_glyph false (n % 10) ∷ acc))
    (glyph_within (n % 10), h) (onto_within k (n / 10) (digit_glyph false (n % 10) ∷ acc) (glyph_within (n % 10), h))

number_within : (n : ℕ) → IsWithin (decimal n)
unfolding digits
number_within n = onto_within 64 n [] tt

word_within : (w : ℕ) → IsWithin (word_digits w)
word_within w = (char_within (w / 4096), (char_within (w / 256 % 16), (char_within (w / 16 % 16), (char_within (w % 16), tt))))

byte_within : (b : ℕ) → IsWithin (byte_digits b)
byte_within b = (char_within (b / 16), (char_within (b % 16), tt))

pairs_within : (bytes : List ℕ) → IsWithin (pairs_text bytes)
pairs_within [] = tt
pairs_within (b ∷ bs) = (char_within (b / 16), (char_within (b % 16), pairs_within bs))

bytes_within : (bytes : List ℕ) → IsWithin (bytes_text bytes)
bytes_within [] = (refl, tt)
bytes_within (b ∷ bs) = pairs_within (b ∷ bs)

-- a word whose bytes are known
both_true : (a b : Bool) → (a && b) ≡ true → (a ≡ true) × (b ≡ true)
both_true true b h = (refl, h)
both_true false b h = absurd (cc)

known : (xs : List ℕ) → list_all is_within xs ≡ true → IsWithin xs
known [] h = tt
known (x ∷ xs) h =
    let both = both_true (is_within x) (list_all is_within xs) h in
    (both.0, known xs both.1)

rule_within : (r : Rule) → list_all is_within (rule_text r) ≡ true
rule_within rule.Store = refl
rule_within rule.Load = refl
rule_within rule.StackOver = refl
rule_within rule.StackUnder = refl
rule_within rule.Depth = refl
rule_within rule.Balance = refl
rule_within rule.Watchdog = refl
rule_within rule.Owner = refl
rule_within rule.Target = refl

why_within : (w : Why) → list_all is_within (why_text w) ≡ true
why_within why.Module = refl
why_within why.Queue = refl
why_within why.Room = refl

queue_within : (high : Bool) → list_all is_within (queue_text high) ≡ true
queue_within true = refl
queue_within false = refl

owner_within : (owner : Option ℕ) → IsWithin (owner_text owner)
owner_within None = (refl, tt)
owner_within (Some id) = number_within id

abbrev AreWithin : List (List ℕ) → Type 0
AreWithin words = AllByRecursion IsWithin words

infixr 60 ◌▸◌
◌▸◌ : {A B : Type 0} → A → B → A × B
a ▸ b = (a, b)

words_within : (t : TraceLine) → AreWithin (line_words t)
words_within (Load t id d s) = number_within t ▸ known (codes "load") refl ▸ number_within id ▸ number_within d ▸ word_within s ▸ tt
words_within (Refused t i n k p q) = number_within t ▸ known (codes "refused") refl ▸ number_within i ▸ number_within n ▸ number_within k ▸ number_within p ▸ number_within q ▸ tt
words_within (Run t id sort from) = number_within t ▸ known (codes "run") refl ▸ number_within id ▸ number_within sort ▸ number_within from ▸ tt
words_within (Call t id slot to func) = number_within t ▸ known (codes "call") refl ▸ number_within id ▸ number_within slot ▸ number_within to ▸ number_within func ▸ tt
words_within (Unbound t id slot) = number_within t ▸ known (codes "unbound") refl ▸ number_within id ▸ number_within slot ▸ tt
words_within (Say t id b) = number_within t ▸ known (codes "say") refl ▸ number_within id ▸ number_within b ▸ tt
words_within (Send t id dest sort bytes) = number_within t ▸ known (codes "send") refl ▸ number_within id ▸ number_within dest ▸ number_within sort ▸ bytes_within bytes ▸ tt
words_within (Queued t id sort) = number_within t ▸ known (codes "queued") refl ▸ number_within id ▸ number_within sort ▸ tt
words_within (Dropped t reason id sort) = number_within t ▸ known (codes "drop") refl ▸ known (why_text reason) (why_within reason) ▸ number_within id ▸ number_within sort ▸ tt
words_within (Done t id) = number_within t ▸ known (codes "done") refl ▸ number_within id ▸ tt
words_within (Fault t broken id u a) = number_within t ▸ known (codes "fault") refl ▸ known (rule_text broken) (rule_within broken) ▸ number_within id ▸ number_within u ▸ word_within a ▸ tt
words_within (Unload t id) = number_within t ▸ known (codes "unload") refl ▸ number_within id ▸ tt
words_within (Absent t id) = number_within t ▸ known (codes "absent") refl ▸ number_within id ▸ tt
words_within (Dump t) = number_within t ▸ known (codes "dump") refl ▸ tt
words_within (DumpModule id d s) = known (codes "d") refl ▸ known (codes "module") refl ▸ number_within id ▸ number_within d ▸ word_within s ▸ tt
words_within (DumpBlock a bytes owner) = known (codes "d") refl ▸ known (codes "block") refl ▸ word_within a ▸ number_within bytes ▸ owner_within owner ▸ tt
words_within (DumpMsg high from to sort a) = known (codes "d") refl ▸ known (queue_text high) (queue_within high) ▸ number_within from ▸ number_within to ▸ number_within sort ▸ word_within a ▸ tt
words_within (DumpTimer m id due) = known (codes "d") refl ▸ known (codes "timer") refl ▸ number_within m ▸ number_within id ▸ number_within due ▸ tt
words_within DumpEnd = known (codes "d") refl ▸ known (codes "end") refl ▸ tt
words_within (EndIdle t) = number_within t ▸ known (codes "end") refl ▸ known (codes "idle") refl ▸ tt
words_within (EndBudget t) = number_within t ▸ known (codes "end") refl ▸ known (codes "budget") refl ▸ tt
words_within (Ran pc word sp sreg) = known (codes "w") refl ▸ word_within pc ▸ word_within word ▸ word_within sp ▸ byte_within sreg ▸ tt

spaced_within : (words : List (List ℕ)) → AreWithin words → IsWithin (spaced words)
spaced_within [] h = tt
spaced_within (w ∷ []) h = h.0
spaced_within (w ∷ next ∷ words) h = within_append w (32 ∷ spaced (next ∷ words)) h.0 (refl, spaced_within (next ∷ words) h.1)

-- A line is kept or left out whole.
not_true : (b : Bool) → not b ≡ true → b ≡ false
not_true true h = absurd (cc)
not_true false h = refl

line_left : (body rest : List ℕ) (keeps : Bool) → IsWithin body → left keeps (body ++ (10 ∷ rest)) ≡ (cond keeps (body ++ (10 ∷ [])) []) ++ left (not (begins_told rest)) rest
line_left [] rest true h = refl
line_left [] rest false h = refl
line_left (x ∷ xs) rest true h =
    ap (λ b. x ∷ left (cond b (not (begins_told (xs ++ (10 ∷ rest)))) true) (xs ++ (10 ∷ rest))) (not_true (x == 10) h.0)
    ∙ ap (λ ys. x ∷ ys) (line_left xs rest true h.1)
line_left (x ∷ xs) rest false h =
    ap (λ b. left (cond b (not (begins_told (xs ++ (10 ∷ rest)))) false) (xs ++ (10 ∷ rest))) (not_true (x == 10) h.0)
    ∙ line_left xs rest false h.1

-- It begins with `w` and a space exactly where it is of an instruction.
other_first : (c : ℕ) (xs : List ℕ) → c ≢ 119 → begins_told (c ∷ xs) ≡ false
other_first c [] other = refl
other_first c (d ∷ xs) other = let test : (c == 119) ≡ false = grind (arith, nat_tests, other) in ap (λ b. b && (d == 32)) test

-- the first byte is a digit
abbrev HasDigitFirst : List ℕ → Type 0
HasDigitFirst [] = ⊥
HasDigitFirst (c ∷ xs) = c < 58

first_append : (xs ys : List ℕ) → HasDigitFirst xs → HasDigitFirst (xs ++ ys)
first_append [] ys h = absurd h
first_append (x ∷ xs) ys h = h

first_told : (xs rest : List ℕ) → HasDigitFirst xs → begins_told (xs ++ rest) ≡ false
first_told [] rest h = absurd h
first_told (c ∷ xs) rest h = let low : c < 58 = h in other_first c (xs ++ rest) (λ e. omega (arith, low, e))

glyph_low : (b : Bool) (d : ℕ) → nat_lt d 10 ≡ b → d < 10 → cond b (48 + d) (87 + d) < 58
glyph_low true d is low = omega (arith, low)
glyph_low false d is low = let not_low : 10 ≤ d = grind (arith, nat_tests, is) in absurd (omega (arith, low, not_low))

digit_low : (n : ℕ) → digit_glyph false (n % 10) < 58
digit_low n = glyph_low (nat_lt (n % 10) 10) (n % 10) refl (omega arith)

first_where : (b : Bool) (one more : List ℕ) → HasDigitFirst one → HasDigitFirst more → HasDigitFirst (cond b one more)
first_where true one more a h = a
first_where false one more a h = h

first_onto : (k n : ℕ) (acc : List ℕ) → HasDigitFirst acc → HasDigitFirst (digits_onto k 10 false n acc)
first_onto zero n acc h = h
first_onto (suc k) n acc h =
    first_where (n / 10 == 0) (digit_glyph false (n % 10) ∷ acc) (digits_onto k 10 false (n / 10) (digit_glyph false (n % 10) ∷ acc))
    (digit_low n) (first_onto k (n / 10) (digit_glyph false (n % 10) ∷ acc) (digit_low n))

first_some : (k n : ℕ) → HasDigitFirst (digits_onto (suc k) 10 false n [])
first_some k n =
    first_where (n / 10 == 0) (digit_glyph false (n % 10) ∷ []) (digits_onto k 10 false (n / 10) (digit_glyph false (n % 10) ∷ []))
    (digit_low n) (first_onto k (n / 10) (digit_glyph false (n % 10) ∷ []) (digit_low n))

number_first : (n : ℕ) → HasDigitFirst (decimal n)
unfolding digits
number_first n = first_some 63 n

number_told : (n : ℕ) (words ends rest : List ℕ) → begins_told (((decimal n ++ words) ++ ends) ++ rest) ≡ false
number_told n words ends rest =
    first_told ((decimal n ++ words) ++ ends) rest (first_append (decimal n ++ words) ends (first_append (decimal n) words (number_first n)))

begins : (t : TraceLine) (rest : List ℕ) → begins_told (text t ++ rest) ≡ is_ran t
unfolding text
begins (Load t id d s) rest = number_told t _ _ rest
begins (Refused t i n k p q) rest = number_told t _ _ rest
begins (Run t id sort from) rest = number_told t _ _ rest
begins (Call t id slot to func) rest = number_told t _ _ rest
begins (Unbound t id slot) rest = number_told t _ _ rest
begins (Say t id b) rest = number_told t _ _ rest
begins (Send t id dest sort bytes) rest = number_told t _ _ rest
begins (Queued t id sort) rest = number_told t _ _ rest
begins (Dropped t reason id sort) rest = number_told t _ _ rest
begins (Done t id) rest = number_told t _ _ rest
begins (Fault t broken id u a) rest = number_told t _ _ rest
begins (Unload t id) rest = number_told t _ _ rest
begins (Absent t id) rest = number_told t _ _ rest
begins (Dump t) rest = number_told t _ _ rest
begins (DumpModule id d s) rest = refl
begins (DumpBlock a bytes owner) rest = refl
begins (DumpMsg high from to sort a) rest = refl
begins (DumpTimer m id due) rest = refl
begins DumpEnd rest = refl
begins (EndIdle t) rest = number_told t _ _ rest
begins (EndBudget t) rest = number_told t _ _ rest
begins (Ran pc word sp sreg) rest = refl

-- So of a text the lines of instructions are left out.
text_left : (t : TraceLine) (rest : List ℕ) (keeps : Bool) → left keeps (text t ++ rest) ≡ (cond keeps (text t) []) ++ left (not (begins_told rest)) rest
unfolding text
text_left t rest keeps =
    ap (λ ys. left keeps ys) (append_assoc (spaced (line_words t)) (10 ∷ []) rest)
    ∙ line_left (spaced (line_words t)) rest keeps (spaced_within (line_words t) (words_within t))

kept : (b : Bool) (t : TraceLine) (ts : List TraceLine) → is_ran t ≡ b → (cond (not b) (text t) []) ++ texts (without_ran ts) ≡ texts (without_ran (t ∷ ts))
kept true t ts is = rw is refl
kept false t ts is = rw is (sym (flat_map-cons text t (without_ran ts)))

texts_left : (lines : List TraceLine) → without_word_lines (texts lines) ≡ texts (without_ran lines)
texts_left [] = refl
texts_left (t ∷ ts) =
    ap (λ ys. left (not (begins_told ys)) ys) (flat_map-cons text t ts)
    ∙ ap (λ b. left (not b) (text t ++ texts ts)) (begins t (texts ts))
    ∙ text_left t (texts ts) (not (is_ran t))
    ∙ ap (λ ys. (cond (not (is_ran t)) (text t) []) ++ ys) (texts_left ts)
    ∙ kept (is_ran t) t ts refl

pub texts_are_left : TextsAreLeft
texts_are_left i all lines a b = texts_left all ∙ ap (λ ls. texts ls) (left_out i all lines a b)
