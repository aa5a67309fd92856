-- The calls of a shelf, one file after the other.
use Rattle.std.proofs.Common.{◌≡◌, ◌∙◌, ℕ, ◌+◌, ◌<◌, ◌≤◌, inl, inr, refl, sym, ap, subst, suc, arith, Bool, true, false, List, [], ◌∷◌, ◌++◌, length, drop, map, get_or, Option, Some, None, Result, Ok, Err, Vec, append_assoc, append-nil, length-append}
use Rattle.std.specs.Prelude.{IsErrAnd}
use Rattle.std.specs.List.{AllByRecursion}
use Rattle.std.specs.declared.alloc.Global.{Global}
use Rattle.std.specs.Option.{option_map}
use Rattle.std.proofs.Math.Seq.{drop-cons}
use Rattle.mote_base.specs.Asked.{Asked, Start, Read}
use Rattle.mote_base.specs.Written.{Calls, joined}
use Rattle.mote_base.specs.declared.fault.Status.{Status}
use Rattle.mote_base.specs.declared.fault.Status.TheVariants.{Done, Usage, Refused, ReadFault, WriteFault, NoMemory}
use Rattle.mote_base.proofs.Puts.{calls_append, calls_one, joined-append}
use Rattle.command_line.specs.declared.command.Kind.{Kind}
use Rattle.command_line.specs.Command.{limit_of}
use Rattle.domain_model.proofs.Kept.{each_push}
use Rattle.mote_sim.specs.declared.reading.ReadStop.{ReadStop}
use Rattle.mote_sim.specs.declared.reading.ReadStop.TheVariants.{TooLong, Fault, Memory}
use Rattle.mote_sim.specs.Ending.{Ends}
use Rattle.mote_base.specs.Files.{Named}
use Rattle.mote_sim.specs.Reading.{StopsAt, Gathered, Whole, Longer, Missing, with_first, with_front}
use Rattle.mote_sim.specs.Asking.{ComesBy, Asks, AsksBy, AsksUpTo, AsksFiles, FileCalls, StopsFile, AsksFile}

-- The calls of one file.

more_reads : (pieces : List (List ℕ)) (piece : List ℕ) → (map (λ p. Read p) pieces ++ []) ++ (Read piece ∷ []) ≡ map (λ p. Read p) (pieces ++ piece ∷ []) ++ []
more_reads [] piece = refl
more_reads (p ∷ ps) piece = ap (λ (l : List Asked). Read p ∷ l) (more_reads ps piece)

pub file_start : {F : Type 0} (leads : F → Asked → Bool → F → Type 0) (old new : F) (name : List ℕ) (limit : ℕ) → leads old (Start name) true new → FileCalls leads old new name limit [] [] true
file_start leads old new name limit led =
    record { pieces = []; made = calls_one leads old new (Start name) true led; some = tt; came = refl; fits = omega arith }

pub file_more : {F : Type 0} (leads : F → Asked → Bool → F → Type 0) (old mid new : F) (name : List ℕ) (limit : ℕ) (part piece : List ℕ) → FileCalls leads old mid name limit part [] true → leads mid (Read piece) true new → 0 < length piece → length part + length piece ≤ limit → FileCalls leads old new name limit (part ++ piece) [] true
file_more leads old mid new name limit part piece h led some fits = record {
  pieces = h.pieces ++ piece ∷ [];
  made =
      subst (λ (l : List Asked). Calls leads old (Start name ∷ l) true new) (more_reads h.pieces piece)
      (calls_append leads old mid new (Start name ∷ (map (λ p. Read p) h.pieces ++ [])) (Read piece ∷ []) true h.made (calls_one leads mid new (Read piece) true led));
  some = each_push (λ (p : List ℕ). 0 < length p) h.pieces piece h.some some;
  came = joined-append h.pieces (piece ∷ []) ∙ ap (λ (t : List ℕ). joined h.pieces ++ t) (append-nil piece) ∙ ap (λ (t : List ℕ). t ++ piece) h.came;
  fits = omega (arith, fits, length-append part piece);
}

pub file_last : {F : Type 0} (leads : F → Asked → Bool → F → Type 0) (old mid new : F) (name : List ℕ) (limit : ℕ) (part last : List ℕ) (ok : Bool) → FileCalls leads old mid name limit part [] true → leads mid (Read last) ok new → FileCalls leads old new name limit part (Read last ∷ []) ok
file_last leads old mid new name limit part last ok h led = record {
  pieces = h.pieces;
  made =
      subst (λ (l : List Asked). Calls leads old (Start name ∷ (l ++ (Read last ∷ []))) ok new) (append-nil (map (λ p. Read p) h.pieces))
      (calls_append leads old mid new (Start name ∷ (map (λ p. Read p) h.pieces ++ [])) (Read last ∷ []) ok h.made (calls_one leads mid new (Read last) ok led));
  some = h.some;
  came = h.came;
  fits = h.fits;
}

-- the same with the part that is known otherwise
pub file_grown : {F : Type 0} (leads : F → Asked → Bool → F → Type 0) (old mid new : F) (name : List ℕ) (limit : ℕ) (part piece whole : List ℕ) → FileCalls leads old mid name limit part [] true → leads mid (Read piece) true new → 0 < length piece → length part + length piece ≤ limit → whole ≡ part ++ piece → FileCalls leads old new name limit whole [] true
file_grown leads old mid new name limit part piece whole h led some fits is =
    subst (λ (t : List ℕ). FileCalls leads old new name limit t [] true) (sym is) (file_more leads old mid new name limit part piece h led some fits)

pub file_ended : {F : Type 0} (leads : F → Asked → Bool → F → Type 0) (old mid new : F) (name : List ℕ) (limit : ℕ) (part piece : List ℕ) → FileCalls leads old mid name limit part [] true → leads mid (Read piece) true new → piece ≡ [] → FileCalls leads old new name limit part (Read [] ∷ []) true
file_ended leads old mid new name limit part piece h led none =
    file_last leads old mid new name limit part [] true h (subst (λ (t : List ℕ). leads mid (Read t) true new) none led)

-- What comes by them.
pieces_come : (kind : Kind) (number : ℕ) (part : List ℕ) (names pieces : List (List ℕ)) (tail : List Asked) (came : Option Gathered) → AllByRecursion (λ (p : List ℕ). 0 < length p) pieces → length part + length (joined pieces) ≤ limit_of kind number → ComesBy kind number (Some (part ++ joined pieces)) names tail came → ComesBy kind number (Some part) names (map (λ p. Read p) pieces ++ tail) came
pieces_come kind number part names [] tail came some fits h =
    subst (λ (p : List ℕ). ComesBy kind number (Some p) names tail came) (append-nil part) h
pieces_come kind number part names ([] ∷ ps) tail came some fits h = absurd (omega (arith, some.0))
pieces_come kind number part names ((b ∷ bs) ∷ ps) tail came some fits h =
    inl (
      omega (arith, fits, length-append part (b ∷ bs), length-append (b ∷ bs) (joined ps)),
      pieces_come kind number (part ++ b ∷ bs) names ps tail came some.1
          (omega (arith, fits, length-append part (b ∷ bs), length-append (b ∷ bs) (joined ps)))
          (subst (λ (p : List ℕ). ComesBy kind number (Some p) names tail came) (sym (append_assoc part (b ∷ bs) (joined ps))) h),
    )

file_comes : {F : Type 0} (leads : F → Asked → Bool → F → Type 0) (old new : F) (kind : Kind) (number : ℕ) (name : List ℕ) (names : List (List ℕ)) (part : List ℕ) (tail more : List Asked) (ok : Bool) (came : Option Gathered) → (h : FileCalls leads old new name (limit_of kind number) part tail ok) → ComesBy kind number (Some part) names (tail ++ more) came → ComesBy kind number None (name ∷ names) ((Start name ∷ (map (λ p. Read p) h.pieces ++ tail)) ++ more) came
file_comes leads old new kind number name names part tail more ok came h rest = (
  refl,
  subst (λ (l : List Asked). ComesBy kind number (Some []) names l came) (sym (append_assoc (map (λ p. Read p) h.pieces) tail more))
      (pieces_come kind number [] names h.pieces (tail ++ more) came h.some (omega (arith, h.fits, ap (λ (t : List ℕ). length t) h.came))
      (subst (λ (p : List ℕ). ComesBy kind number (Some p) names (tail ++ more) came) (sym h.came) rest)),
)

past_comes : (kind : Kind) (number : ℕ) (part last : List ℕ) (names : List (List ℕ)) → length part ≤ limit_of kind number → limit_of kind number < length part + length last → ComesBy kind number (Some part) names (Read last ∷ []) (Some (Longer number))
past_comes kind number part [] names fits past = absurd (omega (arith, fits, past))
past_comes kind number part (b ∷ bs) names fits past = inr (omega (arith, past, length-append part (b ∷ bs)), refl, refl)

nothing_more : (kind : Kind) (number : ℕ) (names : List (List ℕ)) → (came : Option Gathered) × ComesBy kind number None names [] came
nothing_more kind number [] = (Some (Whole []), refl)
nothing_more kind number (name ∷ names) = (None, refl)

-- The calls of the files so far, and how it goes on behind them.
pub record FilesSoFar {F : Type 0} (leads : F → Asked → Bool → F → Type 0) (old now : F) (kind : Kind) (names : List (List ℕ)) (number : ℕ) (files : List (List ℕ)) : Type 0 where
  pub calls : List Asked
  pub made : Calls leads old calls true now
  pub goes_on : (more : List Asked) (came : Option Gathered) → ComesBy kind number None (drop number names) more came → ComesBy kind 0 None names (calls ++ more) (option_map (with_front files) came)

front_none : (came : Option Gathered) → option_map (with_front []) came ≡ came
front_none None = refl
front_none (Some (Whole files)) = refl
front_none (Some (Longer n)) = refl
front_none (Some Missing) = refl

front_more : (files : List (List ℕ)) (bytes : List ℕ) (came : Option Gathered) → option_map (with_front files) (option_map (with_first bytes) came) ≡ option_map (with_front (files ++ bytes ∷ [])) came
front_more files bytes None = refl
front_more files bytes (Some (Whole others)) = ap (λ (fs : List (List ℕ)). Some (Whole fs)) (sym (append_assoc files (bytes ∷ []) others))
front_more files bytes (Some (Longer n)) = refl
front_more files bytes (Some Missing) = refl

pub files_start : {F : Type 0} (leads : F → Asked → Bool → F → Type 0) (old : F) (kind : Kind) (names : List (List ℕ)) → FilesSoFar leads old old kind names 0 []
files_start leads old kind names = record {
  calls = [];
  made = (refl, refl);
  goes_on = λ more came h. subst (λ (c : Option Gathered). ComesBy kind 0 None names more c) (sym (front_none came)) h;
}

plus_one : (n : ℕ) → n + 1 ≡ suc n
plus_one n = omega arith

-- what stops at a limit stops at this file's
pub stopped_at : (files : Option (List Named)) (name : List ℕ) (number limit before now : ℕ) (s : ReadStop) → StopsAt files name number limit before now s → (n : ℕ) → s ≡ TooLong n → n ≡ number
stopped_at files name number limit before now s stops n is = (subst (λ (x : ReadStop). StopsAt files name number limit before now x) is stops).0

-- the next name is at the front of those that are left
next_name : (names : List (List ℕ)) (number : ℕ) (name : List ℕ) → number < length names → name ≡ get_or names number name → drop number names ≡ name ∷ drop (suc number) names
next_name names number name within is = drop-cons names number name within ∙ ap (λ (n : List ℕ). n ∷ drop (suc number) names) (sym is)

module _ {F : Type 0} (leads : F → Asked → Bool → F → Type 0) (old mid new : F) (kind : Kind) (names : List (List ℕ)) (number : ℕ) (files : List (List ℕ)) (name : List ℕ) (limit : ℕ) (h : FilesSoFar leads old mid kind names number files) (within : number < length names) (is : name ≡ get_or names number name) (limited : limit ≡ limit_of kind number) where
  -- behind the calls of this file
  asks_with : (tail : List Asked) (ok : Bool) (part : List ℕ) (came : Option Gathered) → FileCalls leads mid new name limit part tail ok → ComesBy kind number (Some part) (drop (suc number) names) tail came → Asks leads old new kind names ok (option_map (with_front files) came)
  asks_with tail ok part came one rest =
      let own : FileCalls leads mid new name (limit_of kind number) part tail ok = subst (λ (n : ℕ). FileCalls leads mid new name n part tail ok) limited one in
      record {
        calls = h.calls ++ (Start name ∷ (map (λ p. Read p) own.pieces ++ tail));
        made = calls_append leads old mid new h.calls _ ok h.made own.made;
        comes = h.goes_on _ came (subst (λ (ns : List (List ℕ)). ComesBy kind number None ns (Start name ∷ (map (λ p. Read p) own.pieces ++ tail)) came) (sym (next_name names number name within is))
            (subst (λ (l : List Asked). ComesBy kind number None (name ∷ drop (suc number) names) l came) (append-nil (Start name ∷ (map (λ p. Read p) own.pieces ++ tail)))
            (file_comes leads mid new kind number name (drop (suc number) names) part tail [] ok came own (subst (λ (l : List Asked). ComesBy kind number (Some part) (drop (suc number) names) l came) (sym (append-nil tail)) rest))));
      }

  pub files_whole : (bytes : List ℕ) → FileCalls leads mid new name limit bytes (Read [] ∷ []) true → FilesSoFar leads old new kind names (number + 1) (files ++ bytes ∷ [])
  files_whole bytes one =
      let own : FileCalls leads mid new name (limit_of kind number) bytes (Read [] ∷ []) true = subst (λ (n : ℕ). FileCalls leads mid new name n bytes (Read [] ∷ []) true) limited one in
      let calls : List Asked = Start name ∷ (map (λ p. Read p) own.pieces ++ (Read [] ∷ [])) in
      record {
        calls = h.calls ++ calls;
        made = calls_append leads old mid new h.calls calls true h.made own.made;
        goes_on = λ more came rest.
            let later : ComesBy kind (number + 1) None (drop (suc number) names) more came = subst (λ (k : ℕ). ComesBy kind (number + 1) None (drop k names) more came) (plus_one number) rest in
            let here : ComesBy kind number None (drop number names) (calls ++ more) (option_map (with_first bytes) came) =
            subst (λ (ns : List (List ℕ)). ComesBy kind number None ns (calls ++ more) (option_map (with_first bytes) came)) (sym (next_name names number name within is))
            (file_comes leads mid new kind number name (drop (suc number) names) bytes (Read [] ∷ []) more true (option_map (with_first bytes) came) own (came, later, refl)) in
            subst (λ (l : List Asked). ComesBy kind 0 None names l (option_map (with_front (files ++ bytes ∷ [])) came)) (sym (append_assoc h.calls calls more))
            (subst (λ (c : Option Gathered). ComesBy kind 0 None names (h.calls ++ (calls ++ more)) c) (front_more files bytes came)
            (h.goes_on (calls ++ more) (option_map (with_first bytes) came) here));
      }

  files_past : (part last : List ℕ) → FileCalls leads mid new name limit part (Read last ∷ []) true → limit < length part + length last → Asks leads old new kind names true (Some (Longer number))
  files_past part last one past =
      asks_with (Read last ∷ []) true part (Some (Longer number)) one
      (past_comes kind number part last (drop (suc number) names) (omega (arith, one.fits, limited)) (omega (arith, past, limited)))

  pub files_stop : (stop : ReadStop) → ((n : ℕ) → stop ≡ TooLong n → n ≡ number) → StopsFile leads mid new name limit stop → AsksUpTo leads old new kind names stop
  files_stop (TooLong n) at (part, last, one, past) =
      subst (λ (k : ℕ). Asks leads old new kind names true (Some (Longer k))) (sym (at n refl)) (files_past part last one past)
  files_stop Fault at (inl start) = (
    option_map (with_front files) None,
    record {
      calls = h.calls ++ (Start name ∷ []);
      made = calls_append leads old mid new h.calls (Start name ∷ []) false h.made start;
      comes = h.goes_on (Start name ∷ []) None (subst (λ (ns : List (List ℕ)). ComesBy kind number None ns (Start name ∷ []) None) (sym (next_name names number name within is)) (refl, refl));
    },
  )
  files_stop Fault at (inr one) =
      let others = nothing_more kind (number + 1) (drop (suc number) names) in (
        option_map (with_front files) (option_map (with_first one.0) others.0),
        asks_with (Read [] ∷ []) false one.0 (option_map (with_first one.0) others.0) one.1 (others.0, others.1, refl),
      )
  files_stop Memory at one = (option_map (with_front files) None, asks_with [] true one.0 None one.1 refl)

-- where memory runs out between two files
pub files_break : {F : Type 0} (leads : F → Asked → Bool → F → Type 0) (old new : F) (kind : Kind) (names : List (List ℕ)) (number : ℕ) (files : List (List ℕ)) → FilesSoFar leads old new kind names number files → (came : Option Gathered) × Asks leads old new kind names true came
files_break leads old new kind names number files h =
    let rest = nothing_more kind number (drop number names) in (
      option_map (with_front files) rest.0,
      record {
        calls = h.calls ++ [];
        made = subst (λ (l : List Asked). Calls leads old l true new) (sym (append-nil h.calls)) h.made;
        comes = h.goes_on [] rest.0 rest.1;
      },
    )

-- behind the last file
pub files_done : {F : Type 0} (leads : F → Asked → Bool → F → Type 0) (old new : F) (kind : Kind) (names : List (List ℕ)) (number : ℕ) (files : List (List ℕ)) → FilesSoFar leads old new kind names number files → drop number names ≡ [] → Asks leads old new kind names true (Some (Whole files))
files_done leads old new kind names number files h none =
    record {
      calls = h.calls ++ [];
      made = subst (λ (l : List Asked). Calls leads old l true new) (sym (append-nil h.calls)) h.made;
      comes = subst (λ (fs : List (List ℕ)). ComesBy kind 0 None names (h.calls ++ []) (Some (Whole fs))) (append-nil files)
          (h.goes_on [] (Some (Whole [])) (subst (λ (ns : List (List ℕ)). ComesBy kind number None ns [] (Some (Whole []))) (sym none) refl));
    }

-- The work on the sink alone is no fault of reading.
pub asks_by : {F K : Type 0} (leads : F → Asked → Bool → F → Type 0) (old new : F) (kind : Kind) (names : List (List ℕ)) (came : Option Gathered) (w : K → Option (List ℕ)) (f : K → ℕ) (l : K → List ℕ → Bool → K → Type 0) (a b : K) (A : Status → List ℕ → Type 0) (s : Status) → Ends w f l a b 0 0 A s → Asks leads old new kind names true came → AsksBy leads old new (Some (record { kind = kind; files = names })) s
asks_by leads old new kind names came w f l a b A Done ends asks = tt
asks_by leads old new kind names came w f l a b A Usage ends asks = tt
asks_by leads old new kind names came w f l a b A Refused ends asks = tt
asks_by leads old new kind names came w f l a b A ReadFault ends asks = absurd (omega (arith, ends.rose))
asks_by leads old new kind names came w f l a b A WriteFault ends asks = tt
asks_by leads old new kind names came w f l a b A NoMemory ends asks = (came, asks)

-- where no call was made
pub asks_none : {F K : Type 0} (leads : F → Asked → Bool → F → Type 0) (old : F) (w : K → Option (List ℕ)) (f : K → ℕ) (l : K → List ℕ → Bool → K → Type 0) (a b : K) (A : Status → List ℕ → Type 0) (s : Status) → Ends w f l a b 0 0 A s → AsksBy leads old old None s
asks_none leads old w f l a b A Done ends = tt
asks_none leads old w f l a b A Usage ends = tt
asks_none leads old w f l a b A Refused ends = tt
asks_none leads old w f l a b A ReadFault ends = absurd (omega (arith, ends.rose))
asks_none leads old w f l a b A WriteFault ends = tt
asks_none leads old w f l a b A NoMemory ends = refl

-- what stops, as a result
pub files_err : {F : Type 0} (leads : F → Asked → Bool → F → Type 0) (old new : F) (kind : Kind) (names : List (List ℕ)) (r : Result (Vec (Vec ℕ Global) Global) ReadStop) (stop : ReadStop) → IsErrAnd r (λ e. e ≡ stop) → AsksUpTo leads old new kind names stop → AsksFiles leads old new kind names r
files_err leads old new kind names (Ok all) stop is asks = absurd is
files_err leads old new kind names (Err e) stop is asks = subst (λ (s : ReadStop). AsksUpTo leads old new kind names s) (sym is) asks

pub file_err : {F : Type 0} (leads : F → Asked → Bool → F → Type 0) (old new : F) (name : List ℕ) (limit : ℕ) (r : Result (Vec ℕ Global) ReadStop) (stop : ReadStop) → IsErrAnd r (λ e. e ≡ stop) → StopsFile leads old new name limit stop → AsksFile leads old new name limit r
file_err leads old new name limit (Ok bytes) stop is stops = absurd is
file_err leads old new name limit (Err e) stop is stops = subst (λ (s : ReadStop). StopsFile leads old new name limit s) (sym is) stops
