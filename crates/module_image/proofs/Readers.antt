-- Readers of a part of a file: that they read their part whatever follows it, and where they fail.
use Rattle.std.proofs.Common.{◌≡◌, ◌⊎◌, ℕ, zero, suc, ◌+◌, ◌<◌, ◌≤◌, ◌||◌, false, cond, ltb, List, [], ◌∷◌, ◌++◌, length, take, drop, Result, Ok, Err, refl, sym, ap, subst, ◌∙◌, inl, inr, append_assoc, arith}
use Rattle.std.specs.Prelude.{IsOk}
use Rattle.std.proofs.lemmas.Bool.{cases_Bool, ltb-false, le-ltb}
use Rattle.std.proofs.lemmas.List.{take-append-drop, length-append, length-take-le}
use Rattle.byteorder.specs.Endian.{little_number}
use Rattle.module_image.specs.declared.error.ImageError.{ImageError}
use Rattle.module_image.specs.declared.error.ImageError.TheVariants.{Short, Magic, Version, Field, Long}
use Rattle.module_image.specs.Reading.{◌>>=◌, byte_at, number_at, limited_at, bytes_at}
use Rattle.module_image.proofs.Fields.{bind_ok, guard_ok, ok_is, bytes_again}

-- what a reader took from the front, and that it takes it whatever follows
pub record Whole {A : Type 0} (read : List ℕ → Result (A × List ℕ) ImageError) (bytes : List ℕ) (x : A) (rest : List ℕ) : Type 0 where
  pub text : List ℕ
  pub parts : bytes ≡ text ++ rest
  pub again : (other : List ℕ) → read (text ++ other) ≡ Ok (x, other)

-- A field breaks its rule: the bytes before it, with as many of its own as don't fill it, are too short, and with all of
-- its own it is refused whatever follows. It has one byte, but for the number of constants, which has two.
pub record Breaks {B : Type 0} (place : ℕ) (read : List ℕ → Result B ImageError) (bytes : List ℕ) (at : ℕ) : Type 0 where
  pub front : List ℕ
  pub field : List ℕ
  pub rest : List ℕ
  pub parts : bytes ≡ front ++ (field ++ rest)
  pub at_is : at ≡ place + length front
  pub size : (length field ≡ 1) ⊎ ((length field ≡ 2) × (at ≡ 15))
  pub cut : (k : ℕ) → k < length field → read (front ++ take k field) ≡ Err (Short (at + k))
  pub same : (other : List ℕ) → read (front ++ (field ++ other)) ≡ Err (Field at)

-- bytes stand behind what alone is read
pub record Behind {B : Type 0} (place : ℕ) (read : List ℕ → Result B ImageError) (bytes : List ℕ) (at : ℕ) : Type 0 where
  pub front : List ℕ
  pub rest : List ℕ
  pub parts : bytes ≡ front ++ rest
  pub at_is : at ≡ place + length front
  pub some : 0 < length rest
  pub whole : IsOk (read front)

-- what a refusal says of bytes that stand at a place
abbrev pub Fault : {B : Type 0} → ℕ → (List ℕ → Result B ImageError) → List ℕ → ImageError → Type 0
Fault place read bytes (Short at) = at ≡ place + length bytes
Fault place read bytes (Field at) = Breaks place read bytes at
Fault place read bytes (Long at) = Behind place read bytes at
Fault place read bytes Magic = ⊥
Fault place read bytes (Version v) = ⊥

abbrev pub Part : {B : Type 0} → ℕ → (List ℕ → Result B ImageError) → Type 0
Part place read = (bytes : List ℕ) (e : ImageError) → read bytes ≡ Err e → Fault place read bytes e

-- a reader of so many bytes at a place
pub record Reader {A : Type 0} (place size : ℕ) (read : List ℕ → Result (A × List ℕ) ImageError) : Type 0 where
  pub local : (bytes : List ℕ) (x : A × List ℕ) → read bytes ≡ Ok x → Whole read bytes x.0 x.1
  pub sized : (bytes : List ℕ) (x : A × List ℕ) → read bytes ≡ Ok x → length bytes ≡ size + length x.1
  pub fails : Part place read
  pub ends : (bytes : List ℕ) (at : ℕ) → read bytes ≡ Err (Long at) → ⊥

abbrev err_value : {A : Type 0} → ImageError → Result A ImageError → ImageError
err_value d (Ok x) = d
err_value d (Err e) = e

pub err_is : {A : Type 0} (d e : ImageError) → ◌≡◌ {A = Result A ImageError} (Err d) (Err e) → d ≡ e
err_is {A} d e is = ap (λ (r : Result A ImageError). err_value d r) is

-- ---- one after the other

-- what the second refuses, the two refuse
pub push : {A B : Type 0} (p m : ℕ) (R : List ℕ → Result (A × List ℕ) ImageError) (f : A × List ℕ → Result B ImageError) (bytes : List ℕ) (x : A) (rest : List ℕ) (e : ImageError)
    → Whole R bytes x rest → length bytes ≡ m + length rest → Fault (p + m) (λ b. f (x, b)) rest e → Fault p (λ b. R b >>= f) bytes e
push p m R f bytes x rest (Short at) w size fault = omega (arith, fault, size)
push p m R f bytes x rest (Field at) w size fault =
    let text = w.text in
    let len : length bytes ≡ length text + length rest = ap length w.parts ∙ length-append text rest in
    let through : (t : List ℕ) → (R ((text ++ fault.front) ++ t) >>= f) ≡ f (x, fault.front ++ t) =
    λ t. ap (λ u. R u >>= f) (append_assoc text fault.front t) ∙ ap (λ r. r >>= f) (w.again (fault.front ++ t)) in
    record {
      front = text ++ fault.front;
      field = fault.field;
      rest = fault.rest;
      parts = w.parts ∙ ap (λ t. text ++ t) fault.parts ∙ sym (append_assoc text fault.front (fault.field ++ fault.rest));
      at_is = omega (arith, fault.at_is, length-append text fault.front, len, size);
      size = fault.size;
      cut = λ k low. through (take k fault.field) ∙ fault.cut k low;
      same = λ other. through (fault.field ++ other) ∙ fault.same other;
    }
push {A = A} {B = B} p m R f bytes x rest (Long at) w size fault =
    let text = w.text in
    let len : length bytes ≡ length text + length rest = ap length w.parts ∙ length-append text rest in
    let through : (R (text ++ fault.front) >>= f) ≡ f (x, fault.front) = ap (λ r. r >>= f) (w.again fault.front) in
    record {
      front = text ++ fault.front;
      rest = fault.rest;
      parts = w.parts ∙ ap (λ t. text ++ t) fault.parts ∙ sym (append_assoc text fault.front fault.rest);
      at_is = omega (arith, fault.at_is, length-append text fault.front, len, size);
      some = fault.some;
      whole = subst (λ (r : Result B ImageError). IsOk r) (sym through) fault.whole;
    }
push p m R f bytes x rest Magic w size fault = fault
push p m R f bytes x rest (Version v) w size fault = fault

-- what the first refuses, the two refuse
lift : {A B : Type 0} (p m : ℕ) (R : List ℕ → Result (A × List ℕ) ImageError) (f : A × List ℕ → Result B ImageError) (bytes : List ℕ) (d : ImageError)
    → Reader p m R → R bytes ≡ Err d → Fault p R bytes d → Fault p (λ b. R b >>= f) bytes d
lift p m R f bytes (Short at) first here fault = fault
lift p m R f bytes (Field at) first here fault = record {
  front = fault.front;
  field = fault.field;
  rest = fault.rest;
  parts = fault.parts;
  at_is = fault.at_is;
  size = fault.size;
  cut = λ k low. ap (λ r. r >>= f) (fault.cut k low);
  same = λ other. ap (λ r. r >>= f) (fault.same other);
}
lift p m R f bytes (Long at) first here fault = absurd (first.ends bytes at here)
lift p m R f bytes Magic first here fault = fault
lift p m R f bytes (Version v) first here fault = fault

pub part_then : {A B : Type 0} (p m q : ℕ) (R : List ℕ → Result (A × List ℕ) ImageError) (f : A × List ℕ → Result B ImageError) → q ≡ p + m
    → Reader p m R → ((x : A) → Part q (λ b. f (x, b))) → Part p (λ b. R b >>= f)
part_then {A = A} {B = B} p m q R f place first second bytes e is = go (R bytes) refl is
  where
    go : (r : Result (A × List ℕ) ImageError) → R bytes ≡ r → (r >>= f) ≡ Err e → Fault p (λ b. R b >>= f) bytes e
    go (Err d) here stops = subst (λ (d' : ImageError). Fault p (λ b. R b >>= f) bytes d') (err_is {A = B} d e stops) (lift p m R f bytes d first here (first.fails bytes d here))
    go (Ok x) here stops =
        push p m R f bytes x.0 x.1 e (first.local bytes x here) (first.sized bytes x here)
        (subst (λ (n : ℕ). Fault n (λ b. f (x.0, b)) x.1 e) place (second x.0 x.1 e stops))

pub reader_then : {A B : Type 0} (p m q n s : ℕ) (R : List ℕ → Result (A × List ℕ) ImageError) (f : A × List ℕ → Result (B × List ℕ) ImageError) → q ≡ p + m → s ≡ m + n
    → Reader p m R → ((x : A) → Reader q n (λ b. f (x, b))) → Reader p s (λ b. R b >>= f)
reader_then {A = A} {B = B} p m q n s R f place size first second = record {
  local = λ bytes y is.
      let a = bind_ok (R bytes) f y is in
      let w = first.local bytes a.0 a.1 in
      let v = (second a.0.0).local a.0.1 y a.2 in
      record {
        text = w.text ++ v.text;
        parts = w.parts ∙ ap (λ t. w.text ++ t) v.parts ∙ sym (append_assoc w.text v.text y.1);
        again = λ other. ap (λ t. R t >>= f) (append_assoc w.text v.text other) ∙ ap (λ r. r >>= f) (w.again (v.text ++ other)) ∙ v.again other;
      };
  sized = λ bytes y is.
      let a = bind_ok (R bytes) f y is in
      let one = first.sized bytes a.0 a.1 in
      let two = (second a.0.0).sized a.0.1 y a.2 in
      omega (arith, one, two, size);
  fails = part_then p m q R f place first (λ x. (second x).fails);
  ends = λ bytes at is. go bytes at (R bytes) refl is;
}
  where
    go : (bytes : List ℕ) (at : ℕ) (r : Result (A × List ℕ) ImageError) → R bytes ≡ r → (r >>= f) ≡ Err (Long at) → ⊥
    go bytes at (Err d) here stops = first.ends bytes at (here ∙ ap (λ (e : ImageError). failed e) (err_is {A = B × List ℕ} d (Long at) stops))
      where
        failed : ImageError → Result (A × List ℕ) ImageError
        failed e = Err e
    go bytes at (Ok x) here stops = (second x.0).ends x.1 at stops

pub reader_done : {A : Type 0} (p : ℕ) (x : A) → Reader p 0 (λ b. Ok (x, b))
reader_done {A = A} p x = record {
  local = λ bytes y is. subst (λ (z : A × List ℕ). Whole (λ b. Ok (x, b)) bytes z.0 z.1) (ok_is (x, bytes) y is) (record { text = []; parts = refl; again = λ other. refl });
  sized = λ bytes y is. omega (arith, ap (λ (z : A × List ℕ). length z.1) (ok_is (x, bytes) y is));
  fails = λ bytes e is. absurd cc;
  ends = λ bytes at is. absurd cc;
}

-- ---- the kinds of field

byte_broken : (place least most b k : ℕ) → k < 1 → byte_at place least most (take k (b ∷ [])) ≡ Err (Short (place + k))
byte_broken place least most b zero low = ap (λ (n : ℕ). short n) (omega arith)
  where
    short : ℕ → Result (ℕ × List ℕ) ImageError
    short n = Err (Short n)
byte_broken place least most b (suc k) low = absurd (omega (arith, low))

byte_fails : (place least most : ℕ) → Part place (byte_at place least most)
byte_fails place least most [] e is = subst (λ (d : ImageError). Fault place (byte_at place least most) [] d) (err_is {A = ℕ × List ℕ} (Short place) e is) (omega arith)
byte_fails place least most (b ∷ rest) e is =
    elim (cases_Bool (ltb b least || ltb most b)) [
      | inl broken ↦
          let stops : ◌≡◌ {A = Result (ℕ × List ℕ) ImageError} (Err (Field place)) (Err e) = rw broken at is in
          subst (λ (d : ImageError). Fault place (byte_at place least most) (b ∷ rest) d) (err_is {A = ℕ × List ℕ} (Field place) e stops) (record {
            front = [];
            field = b ∷ [];
            rest = rest;
            parts = refl;
            at_is = omega arith;
            size = inl refl;
            cut = byte_broken place least most b;
            same = λ other. rw broken refl;
          })
      | inr fine ↦ let none : ◌≡◌ {A = Result (ℕ × List ℕ) ImageError} (Ok (b, rest)) (Err e) = rw fine at is in absurd cc
    ]

byte_ends : (place least most : ℕ) (bytes : List ℕ) (at : ℕ) → byte_at place least most bytes ≡ Err (Long at) → ⊥
byte_ends place least most [] at is = cc
byte_ends place least most (b ∷ rest) at is =
    elim (cases_Bool (ltb b least || ltb most b)) [
      | inl broken ↦ let stops : ◌≡◌ {A = Result (ℕ × List ℕ) ImageError} (Err (Field place)) (Err (Long at)) = rw broken at is in cc
      | inr fine ↦ let none : ◌≡◌ {A = Result (ℕ × List ℕ) ImageError} (Ok (b, rest)) (Err (Long at)) = rw fine at is in cc
    ]

byte_local : (place least most : ℕ) (bytes : List ℕ) (x : ℕ × List ℕ) → byte_at place least most bytes ≡ Ok x → Whole (byte_at place least most) bytes x.0 x.1 × (length bytes ≡ 1 + length x.1)
byte_local place least most [] x is = absurd cc
byte_local place least most (b ∷ rest) x is =
    let g = guard_ok (ltb b least || ltb most b) (Field place) (Ok (b, rest)) x is in
    subst (λ (y : ℕ × List ℕ). Whole (byte_at place least most) (b ∷ rest) y.0 y.1 × (length (b ∷ rest) ≡ 1 + length y.1)) (ok_is (b, rest) x g.1)
    (record { text = b ∷ []; parts = refl; again = λ other. rw g.0 refl }, omega arith)

pub byte_reader : (place least most : ℕ) → Reader place 1 (byte_at place least most)
byte_reader place least most = record {
  local = λ bytes x is. (byte_local place least most bytes x is).0;
  sized = λ bytes x is. (byte_local place least most bytes x is).1;
  fails = byte_fails place least most;
  ends = byte_ends place least most;
}

-- ---- two bytes

two_long : (a b : ℕ) (rest : List ℕ) → ltb (length (a ∷ b ∷ rest)) 2 ≡ false
two_long a b rest = le-ltb _ _ (omega arith)

number_local : (place : ℕ) (bytes : List ℕ) (x : ℕ × List ℕ) → number_at place bytes ≡ Ok x → Whole (number_at place) bytes x.0 x.1 × (length bytes ≡ 2 + length x.1)
number_local place [] x is = absurd cc
number_local place (a ∷ []) x is = absurd cc
number_local place (a ∷ b ∷ rest) x is =
    let n = little_number 2 (a ∷ b ∷ rest) in
    let all : ◌≡◌ {A = Result (ℕ × List ℕ) ImageError} (Ok (n, rest)) (Ok x) = rw (two_long a b rest) at is in
    subst (λ (y : ℕ × List ℕ). Whole (number_at place) (a ∷ b ∷ rest) y.0 y.1 × (length (a ∷ b ∷ rest) ≡ 2 + length y.1)) (ok_is (n, rest) x all)
    (record { text = a ∷ b ∷ []; parts = refl; again = λ other. rw (two_long a b other) refl }, omega arith)

number_fails : (place : ℕ) → Part place (number_at place)
number_fails place bytes e is =
    elim (cases_Bool (ltb (length bytes) 2)) [
      | inl short ↦
          let stops : ◌≡◌ {A = Result (ℕ × List ℕ) ImageError} (Err (Short (place + length bytes))) (Err e) = rw short at is in
          subst (λ (d : ImageError). Fault place (number_at place) bytes d) (err_is {A = ℕ × List ℕ} (Short (place + length bytes)) e stops) refl
      | inr fine ↦ let none : ◌≡◌ {A = Result (ℕ × List ℕ) ImageError} (Ok (little_number 2 bytes, drop 2 bytes)) (Err e) = rw fine at is in absurd cc
    ]

number_ends : (place : ℕ) (bytes : List ℕ) (at : ℕ) → number_at place bytes ≡ Err (Long at) → ⊥
number_ends place bytes at is =
    elim (cases_Bool (ltb (length bytes) 2)) [
      | inl short ↦ let stops : ◌≡◌ {A = Result (ℕ × List ℕ) ImageError} (Err (Short (place + length bytes))) (Err (Long at)) = rw short at is in cc
      | inr fine ↦ let none : ◌≡◌ {A = Result (ℕ × List ℕ) ImageError} (Ok (little_number 2 bytes, drop 2 bytes)) (Err (Long at)) = rw fine at is in cc
    ]

pub number_reader : (place : ℕ) → Reader place 2 (number_at place)
number_reader place = record {
  local = λ bytes x is. (number_local place bytes x is).0;
  sized = λ bytes x is. (number_local place bytes x is).1;
  fails = number_fails place;
  ends = number_ends place;
}

limited_local : (place most : ℕ) (bytes : List ℕ) (x : ℕ × List ℕ) → limited_at place most bytes ≡ Ok x → Whole (limited_at place most) bytes x.0 x.1 × (length bytes ≡ 2 + length x.1)
limited_local place most [] x is = absurd cc
limited_local place most (a ∷ []) x is = absurd cc
limited_local place most (a ∷ b ∷ rest) x is =
    let n = little_number 2 (a ∷ b ∷ rest) in
    let all : cond (ltb most n) (Err (Field place)) (Ok (n, rest)) ≡ Ok x = rw (two_long a b rest) at is in
    let g = guard_ok (ltb most n) (Field place) (Ok (n, rest)) x all in
    subst (λ (y : ℕ × List ℕ). Whole (limited_at place most) (a ∷ b ∷ rest) y.0 y.1 × (length (a ∷ b ∷ rest) ≡ 2 + length y.1)) (ok_is (n, rest) x g.1)
    (record { text = a ∷ b ∷ []; parts = refl; again = λ other. rw (two_long a b other, g.0) refl }, omega arith)

limited_broken : (place most a b k : ℕ) → k < 2 → limited_at place most (take k (a ∷ b ∷ [])) ≡ Err (Short (place + k))
limited_broken place most a b zero low = refl
limited_broken place most a b (suc zero) low = refl
limited_broken place most a b (suc (suc k)) low = absurd (omega (arith, low))

limited_fails : (place most : ℕ) → place ≡ 15 → Part place (limited_at place most)
limited_fails place most at15 [] e is = subst (λ (d : ImageError). Fault place (limited_at place most) [] d) (err_is {A = ℕ × List ℕ} (Short (place + 0)) e is) refl
limited_fails place most at15 (a ∷ []) e is = subst (λ (d : ImageError). Fault place (limited_at place most) (a ∷ []) d) (err_is {A = ℕ × List ℕ} (Short (place + 1)) e is) refl
limited_fails place most at15 (a ∷ b ∷ rest) e is =
    let n = little_number 2 (a ∷ b ∷ rest) in
    let all : cond (ltb most n) (Err (Field place)) (Ok (n, rest)) ≡ Err e = rw (two_long a b rest) at is in
    elim (cases_Bool (ltb most n)) [
      | inl broken ↦
          let stops : ◌≡◌ {A = Result (ℕ × List ℕ) ImageError} (Err (Field place)) (Err e) = rw broken at all in
          subst (λ (d : ImageError). Fault place (limited_at place most) (a ∷ b ∷ rest) d) (err_is {A = ℕ × List ℕ} (Field place) e stops) (record {
            front = [];
            field = a ∷ b ∷ [];
            rest = rest;
            parts = refl;
            at_is = omega arith;
            size = inr (refl, at15);
            cut = limited_broken place most a b;
            same = λ other. rw (two_long a b other, broken) refl;
          })
      | inr fine ↦ let none : ◌≡◌ {A = Result (ℕ × List ℕ) ImageError} (Ok (n, rest)) (Err e) = rw fine at all in absurd cc
    ]

limited_ends : (place most : ℕ) (bytes : List ℕ) (at : ℕ) → limited_at place most bytes ≡ Err (Long at) → ⊥
limited_ends place most [] at is = cc
limited_ends place most (a ∷ []) at is = cc
limited_ends place most (a ∷ b ∷ rest) at is =
    let n = little_number 2 (a ∷ b ∷ rest) in
    let all : cond (ltb most n) (Err (Field place)) (Ok (n, rest)) ≡ Err (Long at) = rw (two_long a b rest) at is in
    elim (cases_Bool (ltb most n)) [
      | inl broken ↦ let stops : ◌≡◌ {A = Result (ℕ × List ℕ) ImageError} (Err (Field place)) (Err (Long at)) = rw broken at all in cc
      | inr fine ↦ let none : ◌≡◌ {A = Result (ℕ × List ℕ) ImageError} (Ok (n, rest)) (Err (Long at)) = rw fine at all in cc
    ]

pub limited_reader : (place most : ℕ) → place ≡ 15 → Reader place 2 (limited_at place most)
limited_reader place most at15 = record {
  local = λ bytes x is. (limited_local place most bytes x is).0;
  sized = λ bytes x is. (limited_local place most bytes x is).1;
  fails = limited_fails place most at15;
  ends = limited_ends place most;
}

-- ---- so many bytes

bytes_local : (count place : ℕ) (bytes : List ℕ) (x : List ℕ × List ℕ) → bytes_at count place bytes ≡ Ok x → Whole (bytes_at count place) bytes x.0 x.1 × (length bytes ≡ count + length x.1)
bytes_local count place bytes x is =
    let g = guard_ok (ltb (length bytes) count) (Short (place + length bytes)) (Ok (take count bytes, drop count bytes)) x is in
    let long : count ≤ length bytes = ltb-false _ _ g.0 in
    let front = take count bytes in
    let len : length front ≡ count = length-take-le count bytes long in
    let parts : front ++ drop count bytes ≡ bytes = take-append-drop count bytes in
    subst (λ (y : List ℕ × List ℕ). Whole (bytes_at count place) bytes y.0 y.1 × (length bytes ≡ count + length y.1)) (ok_is (front, drop count bytes) x g.1) (
      record { text = front; parts = sym parts; again = λ other. ap (λ (n : ℕ). bytes_at n place (front ++ other)) (sym len) ∙ bytes_again place front other },
      omega (arith, ap length parts, length-append front (drop count bytes), len),
    )

bytes_fail : (count place : ℕ) → Part place (bytes_at count place)
bytes_fail count place bytes e is =
    elim (cases_Bool (ltb (length bytes) count)) [
      | inl short ↦
          let stops : ◌≡◌ {A = Result (List ℕ × List ℕ) ImageError} (Err (Short (place + length bytes))) (Err e) = rw short at is in
          subst (λ (d : ImageError). Fault place (bytes_at count place) bytes d) (err_is {A = List ℕ × List ℕ} (Short (place + length bytes)) e stops) refl
      | inr fine ↦ let none : ◌≡◌ {A = Result (List ℕ × List ℕ) ImageError} (Ok (take count bytes, drop count bytes)) (Err e) = rw fine at is in absurd cc
    ]

bytes_end : (count place : ℕ) (bytes : List ℕ) (at : ℕ) → bytes_at count place bytes ≡ Err (Long at) → ⊥
bytes_end count place bytes at is =
    elim (cases_Bool (ltb (length bytes) count)) [
      | inl short ↦ let stops : ◌≡◌ {A = Result (List ℕ × List ℕ) ImageError} (Err (Short (place + length bytes))) (Err (Long at)) = rw short at is in cc
      | inr fine ↦ let none : ◌≡◌ {A = Result (List ℕ × List ℕ) ImageError} (Ok (take count bytes, drop count bytes)) (Err (Long at)) = rw fine at is in cc
    ]

pub bytes_reader : (count place : ℕ) → Reader place count (bytes_at count place)
bytes_reader count place = record {
  local = λ bytes x is. (bytes_local count place bytes x is).0;
  sized = λ bytes x is. (bytes_local count place bytes x is).1;
  fails = bytes_fail count place;
  ends = bytes_end count place;
}
