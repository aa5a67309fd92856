-- Lines are read back from their words.
use Rattle.std.specs.Prelude.{◌≡◌, ◌≢◌, ℕ, ◌+◌, ◌-◌, ◌*◌, ◌/◌, ◌%◌, ◌<◌, ◌≤◌, ◌^◌, ◌==◌, ◌&&◌, ◌++◌, Bool, true, false, not, nat_lt, if◌then◌else◌, ⊤, List, [], ◌∷◌, length, take, Option, Some, None, codes, decimal}
use Rattle.std.specs.Char.{digit_char}
use Rattle.std.specs.List.{AllByRecursion}
use Rattle.std.specs.Str.{bytes_eq}
use Rattle.std.specs.Str.Parse.{AllDigits, digits_value}
use Rattle.std.proofs.Common.{refl, sym, ap, ◌∙◌, subst, arith, cond, zero, suc, length-append}
use Rattle.std.proofs.lemmas.Bool.Decides.{nat_tests}
use Rattle.std.proofs.lemmas.Fmt.{decimal_is_IsNumeral}
use Rattle.std.proofs.lemmas.Str.Parse.{digit_from_value}
use Rattle.std.proofs.Math.Seq.{take-append_seam}
use Rattle.mote_base.specs.Digits.{word_digits, byte_digits, pairs_text, bytes_text}
use Rattle.mote_base.specs.Spaced.{onto_word, words_of, spaced}
use Rattle.domain_model.specs.declared.fault.Rule.{Rule}
use Rattle.domain_model.specs.declared.fault.Rule.TheVariants as rule
use Rattle.domain_model.specs.declared.line.Why.{Why}
use Rattle.domain_model.specs.declared.line.Why.TheVariants as why
use Rattle.domain_model.specs.declared.line.TraceLine.{TraceLine}
use Rattle.domain_model.specs.declared.line.TraceLine.TheVariants.{Load, Refused, Run, Call, Unbound, Say, Send, Queued, Dropped, Done, Fault, Unload, Absent, Dump, DumpModule, DumpBlock, DumpMsg, DumpTimer, DumpEnd, EndIdle, EndBudget, Ran}
use Rattle.trace_text.specs.Text.{text, line_words, rule_text, why_text, owner_text, queue_text}
use Rattle.trace_text.specs.Law.{Fits, IsByte, LinesTell, OwnerFits}

-- Numbers from their digits.

abbrev value : List ℕ → ℕ
value text = digits_value 10 text

value_is : (n : ℕ) → n < 2 ^ 64 → value (decimal n) ≡ n
value_is n h = (decimal_is_IsNumeral n h).1

abbrev digit : ℕ → ℕ
digit c = if nat_lt c 58 then c - 48 else c - 87

digit_where : (d : ℕ) → d < 16 → (b : Bool) → nat_lt d 10 ≡ b → digit (cond b (48 + d) (87 + d)) ≡ d
digit_where d p true is =
    let test : nat_lt (48 + d) 58 ≡ true = grind (arith, nat_tests) in
    ap (λ b. cond b (48 + d - 48) (48 + d - 87)) test ∙ omega arith
digit_where d p false is =
    let test : nat_lt (87 + d) 58 ≡ false = grind (arith, nat_tests) in
    ap (λ b. cond b (87 + d - 48) (87 + d - 87)) test ∙ omega arith

digit_is : (d : ℕ) → d < 16 → digit (digit_char d) ≡ d
digit_is d p = digit_where d p (nat_lt d 10) refl

abbrev word_of : List ℕ → ℕ
word_of (a ∷ b ∷ c ∷ d ∷ []) = 4096 * digit a + 256 * digit b + 16 * digit c + digit d
word_of _ = 0

word_is : (w : ℕ) → w < 2 ^ 16 → word_of (word_digits w) ≡ w
word_is w h =
    let a = digit_is (w / 4096) (omega (arith, h)) in
    let b = digit_is (w / 256 % 16) (omega arith) in
    let c = digit_is (w / 16 % 16) (omega arith) in
    let d = digit_is (w % 16) (omega arith) in
    ap (λ n. 4096 * n + 256 * digit (digit_char (w / 256 % 16)) + 16 * digit (digit_char (w / 16 % 16)) + digit (digit_char (w % 16))) a
    ∙ ap (λ n. 4096 * (w / 4096) + 256 * n + 16 * digit (digit_char (w / 16 % 16)) + digit (digit_char (w % 16))) b
    ∙ ap (λ n. 4096 * (w / 4096) + 256 * (w / 256 % 16) + 16 * n + digit (digit_char (w % 16))) c
    ∙ ap (λ n. 4096 * (w / 4096) + 256 * (w / 256 % 16) + 16 * (w / 16 % 16) + n) d
    ∙ omega (arith, h)

abbrev byte_of : List ℕ → ℕ
byte_of (a ∷ b ∷ []) = 16 * digit a + digit b
byte_of _ = 0

pair_is : (b : ℕ) → b < 2 ^ 8 → 16 * digit (digit_char (b / 16)) + digit (digit_char (b % 16)) ≡ b
pair_is b h =
    ap (λ n. 16 * n + digit (digit_char (b % 16))) (digit_is (b / 16) (omega (arith, h)))
    ∙ ap (λ n. 16 * (b / 16) + n) (digit_is (b % 16) (omega arith)) ∙ omega arith

abbrev bytes_of : List ℕ → List ℕ
bytes_of (a ∷ b ∷ rest) = (16 * digit a + digit b) ∷ bytes_of rest
bytes_of _ = []

pairs_are : (bytes : List ℕ) → AllByRecursion IsByte bytes → bytes_of (pairs_text bytes) ≡ bytes
pairs_are [] all = refl
pairs_are (b ∷ bs) all = ap (λ n. n ∷ bytes_of (pairs_text bs)) (pair_is b all.0) ∙ ap (λ ns. b ∷ ns) (pairs_are bs all.1)

bytes_are : (bytes : List ℕ) → AllByRecursion IsByte bytes → bytes_of (bytes_text bytes) ≡ bytes
bytes_are [] all = refl
bytes_are (b ∷ bs) all = pairs_are (b ∷ bs) all

-- Other words.

abbrev rule_of : List ℕ → Rule
rule_of text =
    if bytes_eq text (codes "store") then rule.Store
    else (if bytes_eq text (codes "load") then rule.Load
    else (if bytes_eq text (codes "stackover") then rule.StackOver
    else (if bytes_eq text (codes "stackunder") then rule.StackUnder
    else (if bytes_eq text (codes "depth") then rule.Depth
    else (if bytes_eq text (codes "balance") then rule.Balance
    else (if bytes_eq text (codes "watchdog") then rule.Watchdog
    else (if bytes_eq text (codes "owner") then rule.Owner else rule.Target)))))))

rule_is : (r : Rule) → rule_of (rule_text r) ≡ r
rule_is rule.Store = refl
rule_is rule.Load = refl
rule_is rule.StackOver = refl
rule_is rule.StackUnder = refl
rule_is rule.Depth = refl
rule_is rule.Balance = refl
rule_is rule.Watchdog = refl
rule_is rule.Owner = refl
rule_is rule.Target = refl

abbrev why_of : List ℕ → Why
why_of text = if bytes_eq text (codes "module") then why.Module else (if bytes_eq text (codes "queue") then why.Queue else why.Room)

why_is : (w : Why) → why_of (why_text w) ≡ w
why_is why.Module = refl
why_is why.Queue = refl
why_is why.Room = refl

abbrev is_high : List ℕ → Bool
is_high text = bytes_eq text (codes "high")

high_is : (high : Bool) → is_high (queue_text high) ≡ high
high_is true = refl
high_is false = refl

-- Digits are no letters.
no_letter : (ds : List ℕ) (letter : ℕ) → 58 ≤ letter → 0 < length ds → AllDigits 10 ds → bytes_eq ds (letter ∷ []) ≡ false
no_letter [] letter high some d = absurd (omega (arith, some))
no_letter (c ∷ cs) letter high some d =
    let k = digit_from_value c d.0 in
    let test : (c == letter) ≡ false = grind (arith, nat_tests, k, high) in
    ap (λ b. b && bytes_eq cs []) test

number_no_letter : (n letter : ℕ) → 58 ≤ letter → n < 2 ^ 64 → bytes_eq (decimal n) (letter ∷ []) ≡ false
number_no_letter n letter high h = let numeral = (decimal_is_IsNumeral n h).0 in no_letter (decimal n) letter high numeral.0 numeral.1

not_d : (n : ℕ) → n < 2 ^ 64 → bytes_eq (decimal n) (codes "d") ≡ false
not_d n h = number_no_letter n 100 (omega arith) h

not_w : (n : ℕ) → n < 2 ^ 64 → bytes_eq (decimal n) (codes "w") ≡ false
not_w n h = number_no_letter n 119 (omega arith) h

abbrev owner_of : List ℕ → Option ℕ
owner_of text = if bytes_eq text (codes "k") then None else Some (value text)

owner_is : (owner : Option ℕ) → OwnerFits owner → owner_of (owner_text owner) ≡ owner
owner_is None h = refl
owner_is (Some id) h =
    ap (λ b. cond b None (Some (value (decimal id)))) (number_no_letter id 107 (omega arith) (omega (arith, h)))
    ∙ ap Some (value_is id (omega (arith, h)))

-- Lines from their words.

abbrev load_of : ℕ → List (List ℕ) → Option TraceLine
load_of t (a ∷ b ∷ c ∷ []) = Some (Load t (value a) (value b) (word_of c))
load_of t _ = None

abbrev refused_of : ℕ → List (List ℕ) → Option TraceLine
refused_of t (a ∷ b ∷ c ∷ d ∷ e ∷ []) = Some (Refused t (value a) (value b) (value c) (value d) (value e))
refused_of t _ = None

abbrev run_of : ℕ → List (List ℕ) → Option TraceLine
run_of t (a ∷ b ∷ c ∷ []) = Some (Run t (value a) (value b) (value c))
run_of t _ = None

abbrev call_of : ℕ → List (List ℕ) → Option TraceLine
call_of t (a ∷ b ∷ c ∷ d ∷ []) = Some (Call t (value a) (value b) (value c) (value d))
call_of t _ = None

abbrev unbound_of : ℕ → List (List ℕ) → Option TraceLine
unbound_of t (a ∷ b ∷ []) = Some (Unbound t (value a) (value b))
unbound_of t _ = None

abbrev say_of : ℕ → List (List ℕ) → Option TraceLine
say_of t (a ∷ b ∷ []) = Some (Say t (value a) (value b))
say_of t _ = None

abbrev send_of : ℕ → List (List ℕ) → Option TraceLine
send_of t (a ∷ b ∷ c ∷ d ∷ []) = Some (Send t (value a) (value b) (value c) (bytes_of d))
send_of t _ = None

abbrev queued_of : ℕ → List (List ℕ) → Option TraceLine
queued_of t (a ∷ b ∷ []) = Some (Queued t (value a) (value b))
queued_of t _ = None

abbrev dropped_of : ℕ → List (List ℕ) → Option TraceLine
dropped_of t (a ∷ b ∷ c ∷ []) = Some (Dropped t (why_of a) (value b) (value c))
dropped_of t _ = None

abbrev done_of : ℕ → List (List ℕ) → Option TraceLine
done_of t (a ∷ []) = Some (Done t (value a))
done_of t _ = None

abbrev fault_of : ℕ → List (List ℕ) → Option TraceLine
fault_of t (a ∷ b ∷ c ∷ d ∷ []) = Some (Fault t (rule_of a) (value b) (value c) (word_of d))
fault_of t _ = None

abbrev unload_of : ℕ → List (List ℕ) → Option TraceLine
unload_of t (a ∷ []) = Some (Unload t (value a))
unload_of t _ = None

abbrev absent_of : ℕ → List (List ℕ) → Option TraceLine
absent_of t (a ∷ []) = Some (Absent t (value a))
absent_of t _ = None

abbrev dump_of : ℕ → List (List ℕ) → Option TraceLine
dump_of t [] = Some (Dump t)
dump_of t _ = None

abbrev end_of : ℕ → List (List ℕ) → Option TraceLine
end_of t (a ∷ []) = Some (if bytes_eq a (codes "idle") then EndIdle t else EndBudget t)
end_of t _ = None

abbrev event_of : ℕ → List ℕ → List (List ℕ) → Option TraceLine
event_of t verb rest =
    if bytes_eq verb (codes "load") then load_of t rest
    else (if bytes_eq verb (codes "refused") then refused_of t rest
    else (if bytes_eq verb (codes "run") then run_of t rest
    else (if bytes_eq verb (codes "call") then call_of t rest
    else (if bytes_eq verb (codes "unbound") then unbound_of t rest
    else (if bytes_eq verb (codes "say") then say_of t rest
    else (if bytes_eq verb (codes "send") then send_of t rest
    else (if bytes_eq verb (codes "queued") then queued_of t rest
    else (if bytes_eq verb (codes "drop") then dropped_of t rest
    else (if bytes_eq verb (codes "done") then done_of t rest
    else (if bytes_eq verb (codes "fault") then fault_of t rest
    else (if bytes_eq verb (codes "unload") then unload_of t rest
    else (if bytes_eq verb (codes "absent") then absent_of t rest
    else (if bytes_eq verb (codes "dump") then dump_of t rest
    else (end_of t rest))))))))))))))

abbrev dump_module_of : List (List ℕ) → Option TraceLine
dump_module_of (a ∷ b ∷ c ∷ []) = Some (DumpModule (value a) (value b) (word_of c))
dump_module_of _ = None

abbrev dump_block_of : List (List ℕ) → Option TraceLine
dump_block_of (a ∷ b ∷ c ∷ []) = Some (DumpBlock (word_of a) (value b) (owner_of c))
dump_block_of _ = None

abbrev dump_msg_of : Bool → List (List ℕ) → Option TraceLine
dump_msg_of high (a ∷ b ∷ c ∷ d ∷ []) = Some (DumpMsg high (value a) (value b) (value c) (word_of d))
dump_msg_of high _ = None

abbrev dump_timer_of : List (List ℕ) → Option TraceLine
dump_timer_of (a ∷ b ∷ c ∷ []) = Some (DumpTimer (value a) (value b) (value c))
dump_timer_of _ = None

abbrev dump_line_of : List ℕ → List (List ℕ) → Option TraceLine
dump_line_of verb rest =
    if bytes_eq verb (codes "module") then dump_module_of rest
    else (if bytes_eq verb (codes "block") then dump_block_of rest
    else (if bytes_eq verb (codes "timer") then dump_timer_of rest
    else (if bytes_eq verb (codes "end") then Some DumpEnd else dump_msg_of (is_high verb) rest)))

abbrev ran_of : List (List ℕ) → Option TraceLine
ran_of (a ∷ b ∷ c ∷ d ∷ []) = Some (Ran (word_of a) (word_of b) (word_of c) (byte_of d))
ran_of _ = None

abbrev read : List (List ℕ) → Option TraceLine
read [] = None
read (first ∷ []) = None
read (first ∷ second ∷ rest) =
    if bytes_eq first (codes "d") then dump_line_of second rest
    else (if bytes_eq first (codes "w") then ran_of (second ∷ rest) else event_of (value first) second rest)

-- an event's line, whose first word is the clock
event_line : (t : ℕ) (verb : List ℕ) (rest : List (List ℕ)) → t < 2 ^ 64 → read (decimal t ∷ verb ∷ rest) ≡ event_of t verb rest
event_line t verb rest h =
    ap (λ b. cond b (dump_line_of verb rest) (cond (bytes_eq (decimal t) (codes "w")) (ran_of (verb ∷ rest)) (event_of (value (decimal t)) verb rest))) (not_d t h)
    ∙ ap (λ b. cond b (ran_of (verb ∷ rest)) (event_of (value (decimal t)) verb rest)) (not_w t h)
    ∙ ap (λ n. event_of n verb rest) (value_is t h)

msg_back : (high : Bool) (from to sort a : ℕ) → Fits (DumpMsg high from to sort a) → read (line_words (DumpMsg high from to sort a)) ≡ Some (DumpMsg high from to sort a)
msg_back true from to sort a h = ap (λ x. Some (DumpMsg true x (value (decimal to)) (value (decimal sort)) (word_of (word_digits a)))) (value_is from (omega (arith, h.0))) ∙ ap (λ x. Some (DumpMsg true from x (value (decimal sort)) (word_of (word_digits a)))) (value_is to (omega (arith, h.1))) ∙ ap (λ x. Some (DumpMsg true from to x (word_of (word_digits a)))) (value_is sort (omega (arith, h.2))) ∙ ap (λ x. Some (DumpMsg true from to sort x)) (word_is a h.3)
msg_back false from to sort a h = ap (λ x. Some (DumpMsg false x (value (decimal to)) (value (decimal sort)) (word_of (word_digits a)))) (value_is from (omega (arith, h.0))) ∙ ap (λ x. Some (DumpMsg false from x (value (decimal sort)) (word_of (word_digits a)))) (value_is to (omega (arith, h.1))) ∙ ap (λ x. Some (DumpMsg false from to x (word_of (word_digits a)))) (value_is sort (omega (arith, h.2))) ∙ ap (λ x. Some (DumpMsg false from to sort x)) (word_is a h.3)

pub read_back : (line : TraceLine) → Fits line → read (line_words line) ≡ Some line
read_back (Load t id d s) h = event_line t (codes "load") (decimal id ∷ decimal d ∷ word_digits s ∷ []) h.0 ∙ ap (λ x. Some (Load t x (value (decimal d)) (word_of (word_digits s)))) (value_is id (omega (arith, h.1))) ∙ ap (λ x. Some (Load t id x (word_of (word_digits s)))) (value_is d (omega (arith, h.2))) ∙ ap (λ x. Some (Load t id d x)) (word_is s h.3)
read_back (Refused t i n k p q) h = event_line t (codes "refused") (decimal i ∷ decimal n ∷ decimal k ∷ decimal p ∷ decimal q ∷ []) h.0 ∙ ap (λ x. Some (Refused t x (value (decimal n)) (value (decimal k)) (value (decimal p)) (value (decimal q)))) (value_is i (omega (arith, h.1))) ∙ ap (λ x. Some (Refused t i x (value (decimal k)) (value (decimal p)) (value (decimal q)))) (value_is n (omega (arith, h.2))) ∙ ap (λ x. Some (Refused t i n x (value (decimal p)) (value (decimal q)))) (value_is k (omega (arith, h.3))) ∙ ap (λ x. Some (Refused t i n k x (value (decimal q)))) (value_is p (omega (arith, h.4))) ∙ ap (λ x. Some (Refused t i n k p x)) (value_is q (omega (arith, h.5)))
read_back (Run t id sort from) h = event_line t (codes "run") (decimal id ∷ decimal sort ∷ decimal from ∷ []) h.0 ∙ ap (λ x. Some (Run t x (value (decimal sort)) (value (decimal from)))) (value_is id (omega (arith, h.1))) ∙ ap (λ x. Some (Run t id x (value (decimal from)))) (value_is sort (omega (arith, h.2))) ∙ ap (λ x. Some (Run t id sort x)) (value_is from (omega (arith, h.3)))
read_back (Call t id slot to func) h = event_line t (codes "call") (decimal id ∷ decimal slot ∷ decimal to ∷ decimal func ∷ []) h.0 ∙ ap (λ x. Some (Call t x (value (decimal slot)) (value (decimal to)) (value (decimal func)))) (value_is id (omega (arith, h.1))) ∙ ap (λ x. Some (Call t id x (value (decimal to)) (value (decimal func)))) (value_is slot (omega (arith, h.2))) ∙ ap (λ x. Some (Call t id slot x (value (decimal func)))) (value_is to (omega (arith, h.3))) ∙ ap (λ x. Some (Call t id slot to x)) (value_is func (omega (arith, h.4)))
read_back (Unbound t id slot) h = event_line t (codes "unbound") (decimal id ∷ decimal slot ∷ []) h.0 ∙ ap (λ x. Some (Unbound t x (value (decimal slot)))) (value_is id (omega (arith, h.1))) ∙ ap (λ x. Some (Unbound t id x)) (value_is slot (omega (arith, h.2)))
read_back (Say t id b) h = event_line t (codes "say") (decimal id ∷ decimal b ∷ []) h.0 ∙ ap (λ x. Some (Say t x (value (decimal b)))) (value_is id (omega (arith, h.1))) ∙ ap (λ x. Some (Say t id x)) (value_is b (omega (arith, h.2)))
read_back (Send t id dest sort bytes) h = event_line t (codes "send") (decimal id ∷ decimal dest ∷ decimal sort ∷ bytes_text bytes ∷ []) h.0 ∙ ap (λ x. Some (Send t x (value (decimal dest)) (value (decimal sort)) (bytes_of (bytes_text bytes)))) (value_is id (omega (arith, h.1))) ∙ ap (λ x. Some (Send t id x (value (decimal sort)) (bytes_of (bytes_text bytes)))) (value_is dest (omega (arith, h.2))) ∙ ap (λ x. Some (Send t id dest x (bytes_of (bytes_text bytes)))) (value_is sort (omega (arith, h.3))) ∙ ap (λ x. Some (Send t id dest sort x)) (bytes_are bytes h.4)
read_back (Queued t id sort) h = event_line t (codes "queued") (decimal id ∷ decimal sort ∷ []) h.0 ∙ ap (λ x. Some (Queued t x (value (decimal sort)))) (value_is id (omega (arith, h.1))) ∙ ap (λ x. Some (Queued t id x)) (value_is sort (omega (arith, h.2)))
read_back (Dropped t reason id sort) h = event_line t (codes "drop") (why_text reason ∷ decimal id ∷ decimal sort ∷ []) h.0 ∙ ap (λ x. Some (Dropped t x (value (decimal id)) (value (decimal sort)))) (why_is reason) ∙ ap (λ x. Some (Dropped t reason x (value (decimal sort)))) (value_is id (omega (arith, h.1))) ∙ ap (λ x. Some (Dropped t reason id x)) (value_is sort (omega (arith, h.2)))
read_back (Done t id) h = event_line t (codes "done") (decimal id ∷ []) h.0 ∙ ap (λ x. Some (Done t x)) (value_is id (omega (arith, h.1)))
read_back (Fault t broken id u a) h = event_line t (codes "fault") (rule_text broken ∷ decimal id ∷ decimal u ∷ word_digits a ∷ []) h.0 ∙ ap (λ x. Some (Fault t x (value (decimal id)) (value (decimal u)) (word_of (word_digits a)))) (rule_is broken) ∙ ap (λ x. Some (Fault t broken x (value (decimal u)) (word_of (word_digits a)))) (value_is id (omega (arith, h.1))) ∙ ap (λ x. Some (Fault t broken id x (word_of (word_digits a)))) (value_is u (omega (arith, h.2))) ∙ ap (λ x. Some (Fault t broken id u x)) (word_is a h.3)
read_back (Unload t id) h = event_line t (codes "unload") (decimal id ∷ []) h.0 ∙ ap (λ x. Some (Unload t x)) (value_is id (omega (arith, h.1)))
read_back (Absent t id) h = event_line t (codes "absent") (decimal id ∷ []) h.0 ∙ ap (λ x. Some (Absent t x)) (value_is id (omega (arith, h.1)))
read_back (Dump t) h = event_line t (codes "dump") ([]) h
read_back (DumpModule id d s) h = ap (λ x. Some (DumpModule x (value (decimal d)) (word_of (word_digits s)))) (value_is id (omega (arith, h.0))) ∙ ap (λ x. Some (DumpModule id x (word_of (word_digits s)))) (value_is d (omega (arith, h.1))) ∙ ap (λ x. Some (DumpModule id d x)) (word_is s h.2)
read_back (DumpBlock a bytes owner) h = ap (λ x. Some (DumpBlock x (value (decimal bytes)) (owner_of (owner_text owner)))) (word_is a h.0) ∙ ap (λ x. Some (DumpBlock a x (owner_of (owner_text owner)))) (value_is bytes (omega (arith, h.1))) ∙ ap (λ x. Some (DumpBlock a bytes x)) (owner_is owner h.2)
read_back (DumpMsg high from to sort a) h = msg_back high from to sort a h
read_back (DumpTimer m id due) h = ap (λ x. Some (DumpTimer x (value (decimal id)) (value (decimal due)))) (value_is m (omega (arith, h.0))) ∙ ap (λ x. Some (DumpTimer m x (value (decimal due)))) (value_is id (omega (arith, h.1))) ∙ ap (λ x. Some (DumpTimer m id x)) (value_is due (omega (arith, h.2)))
read_back DumpEnd h = refl
read_back (EndIdle t) h = event_line t (codes "end") (codes "idle" ∷ []) h
read_back (EndBudget t) h = event_line t (codes "end") (codes "budget" ∷ []) h
read_back (Ran pc word sp sreg) h = ap (λ x. Some (Ran x (word_of (word_digits word)) (word_of (word_digits sp)) (byte_of (byte_digits sreg)))) (word_is pc h.0) ∙ ap (λ x. Some (Ran pc x (word_of (word_digits sp)) (byte_of (byte_digits sreg)))) (word_is word h.1) ∙ ap (λ x. Some (Ran pc word x (byte_of (byte_digits sreg)))) (word_is sp h.2) ∙ ap (λ x. Some (Ran pc word sp x)) (pair_is sreg h.3)

-- Words without spaces.

or_second : (a b : Bool) → (a && b) ≡ true → b ≡ true
or_second true b h = h
or_second false b h = absurd (cc)

abbrev IsPlain : ℕ → Type 0
IsPlain b = b ≢ 32

abbrev IsText : List ℕ → Type 0
IsText text = AllByRecursion IsPlain text

abbrev plain_test : List ℕ → Bool
plain_test [] = true
plain_test (x ∷ xs) = not (x == 32) && plain_test xs

literal : (text : List ℕ) → plain_test text ≡ true → IsText text
literal [] h = tt
literal (x ∷ xs) h = ((λ p. grind (arith, p, h)), literal xs (or_second (not (x == 32)) (plain_test xs) h))

plain_digits : (ds : List ℕ) → AllDigits 10 ds → IsText ds
plain_digits [] d = tt
plain_digits (c ∷ cs) d = let k = digit_from_value c d.0 in ((λ p. omega (arith, p, k)), plain_digits cs d.1)

number : (n : ℕ) → n < 2 ^ 64 → IsText (decimal n)
number n h = plain_digits (decimal n) (decimal_is_IsNumeral n h).0.1

glyph_where : (d : ℕ) (b : Bool) → cond b (48 + d) (87 + d) ≢ 32
glyph_where d true p = omega (arith, p)
glyph_where d false p = omega (arith, p)

glyph : (d : ℕ) → digit_char d ≢ 32
glyph d = glyph_where d (nat_lt d 10)

address_word : (w : ℕ) → IsText (word_digits w)
address_word w = (glyph (w / 4096), (glyph (w / 256 % 16), (glyph (w / 16 % 16), (glyph (w % 16), tt))))

byte : (b : ℕ) → IsText (byte_digits b)
byte b = (glyph (b / 16), (glyph (b % 16), tt))

pairs : (bytes : List ℕ) → IsText (pairs_text bytes)
pairs [] = tt
pairs (b ∷ bs) = (glyph (b / 16), (glyph (b % 16), pairs bs))

packet : (bytes : List ℕ) → IsText (bytes_text bytes)
packet [] = literal (codes "-") refl
packet (b ∷ bs) = pairs (b ∷ bs)

reason_word : (w : Why) → IsText (why_text w)
reason_word why.Module = literal (codes "module") refl
reason_word why.Queue = literal (codes "queue") refl
reason_word why.Room = literal (codes "room") refl

rule_word : (r : Rule) → IsText (rule_text r)
rule_word rule.Store = literal (codes "store") refl
rule_word rule.Load = literal (codes "load") refl
rule_word rule.StackOver = literal (codes "stackover") refl
rule_word rule.StackUnder = literal (codes "stackunder") refl
rule_word rule.Depth = literal (codes "depth") refl
rule_word rule.Balance = literal (codes "balance") refl
rule_word rule.Watchdog = literal (codes "watchdog") refl
rule_word rule.Owner = literal (codes "owner") refl
rule_word rule.Target = literal (codes "target") refl

owner_word : (o : Option ℕ) → OwnerFits o → IsText (owner_text o)
owner_word None h = literal (codes "k") refl
owner_word (Some id) h = number id (omega (arith, h))

queue_word : (high : Bool) → IsText (queue_text high)
queue_word true = literal (codes "high") refl
queue_word false = literal (codes "low") refl

all_words : (line : TraceLine) → Fits line → AllByRecursion IsText (line_words line)
all_words (Load t id d s) h = (number t h.0, (literal (codes "load") refl, (number id (omega (arith, h.1)), (number d (omega (arith, h.2)), (address_word s, tt)))))
all_words (Refused t i n k p q) h = (number t h.0, (literal (codes "refused") refl, (number i (omega (arith, h.1)), (number n (omega (arith, h.2)), (number k (omega (arith, h.3)), (number p (omega (arith, h.4)), (number q (omega (arith, h.5)), tt)))))))
all_words (Run t id sort from) h = (number t h.0, (literal (codes "run") refl, (number id (omega (arith, h.1)), (number sort (omega (arith, h.2)), (number from (omega (arith, h.3)), tt)))))
all_words (Call t id slot to func) h = (number t h.0, (literal (codes "call") refl, (number id (omega (arith, h.1)), (number slot (omega (arith, h.2)), (number to (omega (arith, h.3)), (number func (omega (arith, h.4)), tt))))))
all_words (Unbound t id slot) h = (number t h.0, (literal (codes "unbound") refl, (number id (omega (arith, h.1)), (number slot (omega (arith, h.2)), tt))))
all_words (Say t id b) h = (number t h.0, (literal (codes "say") refl, (number id (omega (arith, h.1)), (number b (omega (arith, h.2)), tt))))
all_words (Send t id dest sort bytes) h = (number t h.0, (literal (codes "send") refl, (number id (omega (arith, h.1)), (number dest (omega (arith, h.2)), (number sort (omega (arith, h.3)), (packet bytes, tt))))))
all_words (Queued t id sort) h = (number t h.0, (literal (codes "queued") refl, (number id (omega (arith, h.1)), (number sort (omega (arith, h.2)), tt))))
all_words (Dropped t reason id sort) h = (number t h.0, (literal (codes "drop") refl, (reason_word reason, (number id (omega (arith, h.1)), (number sort (omega (arith, h.2)), tt)))))
all_words (Done t id) h = (number t h.0, (literal (codes "done") refl, (number id (omega (arith, h.1)), tt)))
all_words (Fault t broken id u a) h = (number t h.0, (literal (codes "fault") refl, (rule_word broken, (number id (omega (arith, h.1)), (number u (omega (arith, h.2)), (address_word a, tt))))))
all_words (Unload t id) h = (number t h.0, (literal (codes "unload") refl, (number id (omega (arith, h.1)), tt)))
all_words (Absent t id) h = (number t h.0, (literal (codes "absent") refl, (number id (omega (arith, h.1)), tt)))
all_words (Dump t) h = (number t h, (literal (codes "dump") refl, tt))
all_words (DumpModule id d s) h = (literal (codes "d") refl, (literal (codes "module") refl, (number id (omega (arith, h.0)), (number d (omega (arith, h.1)), (address_word s, tt)))))
all_words (DumpBlock a bytes owner) h = (literal (codes "d") refl, (literal (codes "block") refl, (address_word a, (number bytes (omega (arith, h.1)), (owner_word owner h.2, tt)))))
all_words (DumpMsg high from to sort a) h = (literal (codes "d") refl, (queue_word high, (number from (omega (arith, h.0)), (number to (omega (arith, h.1)), (number sort (omega (arith, h.2)), (address_word a, tt))))))
all_words (DumpTimer m id due) h = (literal (codes "d") refl, (literal (codes "timer") refl, (number m (omega (arith, h.0)), (number id (omega (arith, h.1)), (number due (omega (arith, h.2)), tt)))))
all_words DumpEnd h = (literal (codes "d") refl, (literal (codes "end") refl, tt))
all_words (EndIdle t) h = (number t h, (literal (codes "end") refl, (literal (codes "idle") refl, tt)))
all_words (EndBudget t) h = (number t h, (literal (codes "end") refl, (literal (codes "budget") refl, tt)))
all_words (Ran pc word sp sreg) h = (literal (codes "w") refl, (address_word pc, (address_word word, (address_word sp, (byte sreg, tt)))))

space_test : (x : ℕ) → x ≢ 32 → (x == 32) ≡ false
space_test x h = grind arith

some_words : (line : TraceLine) → 0 < length (line_words line)
some_words (Load t id d s) = omega arith
some_words (Refused t i n k p q) = omega arith
some_words (Run t id sort from) = omega arith
some_words (Call t id slot to func) = omega arith
some_words (Unbound t id slot) = omega arith
some_words (Say t id b) = omega arith
some_words (Send t id dest sort bytes) = omega arith
some_words (Queued t id sort) = omega arith
some_words (Dropped t reason id sort) = omega arith
some_words (Done t id) = omega arith
some_words (Fault t broken id u a) = omega arith
some_words (Unload t id) = omega arith
some_words (Absent t id) = omega arith
some_words (Dump t) = omega arith
some_words (DumpModule id d s) = omega arith
some_words (DumpBlock a bytes owner) = omega arith
some_words (DumpMsg high from to sort a) = omega arith
some_words (DumpTimer m id due) = omega arith
some_words DumpEnd = omega arith
some_words (EndIdle t) = omega arith
some_words (EndBudget t) = omega arith
some_words (Ran pc word sp sreg) = omega arith

one_word : (text : List ℕ) → IsText text → words_of text ≡ text ∷ []
one_word [] all = refl
one_word (x ∷ xs) all =
    let test : (x == 32) ≡ false = space_test x all.0 in
    ap (λ b. cond b ([] ∷ words_of xs) (onto_word x (words_of xs))) test ∙ ap (onto_word x) (one_word xs all.1)

first_word : (text rest : List ℕ) → IsText text → words_of (text ++ (32 ∷ rest)) ≡ text ∷ words_of rest
first_word [] rest all = refl
first_word (x ∷ xs) rest all =
    let test : (x == 32) ≡ false = space_test x all.0 in
    ap (λ b. cond b ([] ∷ words_of (xs ++ (32 ∷ rest))) (onto_word x (words_of (xs ++ (32 ∷ rest))))) test ∙ ap (onto_word x) (first_word xs rest all.1)

words_back : (words : List (List ℕ)) → 0 < length words → AllByRecursion IsText words → words_of (spaced words) ≡ words
words_back [] some all = absurd (omega (arith, some))
words_back (w ∷ []) some all = one_word w all.0
words_back (w ∷ next ∷ words) some all = first_word w (spaced (next ∷ words)) all.0 ∙ ap (λ ws. w ∷ ws) (words_back (next ∷ words) (omega arith) all.1)

-- The line feed at the end.
without_end : (xs ys : List ℕ) (c : ℕ) → xs ++ (c ∷ []) ≡ ys ++ (c ∷ []) → xs ≡ ys
without_end xs ys c e =
    let same : length xs ≡ length ys = omega (arith, ap length e, length-append xs (c ∷ []), length-append ys (c ∷ [])) in
    sym (take-append_seam xs (c ∷ [])) ∙ ap (take (length xs)) e ∙ ap (λ n. take n (ys ++ (c ∷ []))) same ∙ take-append_seam ys (c ∷ [])

same_line : (a b : TraceLine) → Some a ≡ Some b → a ≡ b
same_line a b h = cc

pub lines_tell : LinesTell
unfolding text
lines_tell a b fits_a fits_b e =
    let spaces : spaced (line_words a) ≡ spaced (line_words b) = without_end (spaced (line_words a)) (spaced (line_words b)) 10 e in
    let words : line_words a ≡ line_words b
    = sym (words_back (line_words a) (some_words a) (all_words a fits_a)) ∙ ap words_of spaces ∙ words_back (line_words b) (some_words b) (all_words b fits_b) in
    same_line a b (sym (read_back a fits_a) ∙ ap read words ∙ read_back b fits_b)
