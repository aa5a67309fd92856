-- A field that is read is the field that was written, and what was written is read again.
use Rattle.std.proofs.Common.{◌≡◌, ◌⊎◌, ℕ, suc, ◌+◌, ◌*◌, ◌<◌, ◌≤◌, ◌||◌, Bool, true, false, cond, ltb, eqb, List, [], ◌∷◌, ◌++◌, length, get_or, take, drop, Result, Ok, Err, refl, sym, ap, subst, ◌∙◌, append_assoc, zero, inl, inr, arith}
use Rattle.std.proofs.lemmas.Bool.{ltb-false, le-ltb, eqb-true}
use Rattle.std.proofs.lemmas.List.{take-append-drop, length-append, length-take-le, get_or-drop}
use Rattle.std.specs.Cmp.Lexicographic.{pointwise, same_text}
use Rattle.byteorder.specs.Endian.{little_number}
use Rattle.module_image.specs.declared.error.ImageError.{ImageError}
use Rattle.module_image.specs.declared.error.ImageError.TheVariants.{Short, Magic, Version, Field}
use Rattle.mote_base.specs.Words.{IsWord}
use Rattle.module_image.specs.Contents.{IsPrototype, IsVersion, first_version, second_version}
use Rattle.module_image.specs.Spelling.{word, opening}
use Rattle.module_image.specs.Reading.{◌>>=◌, byte_at, number_at, limited_at, bytes_at, prototype_at, magic_at, version_at, opening_at}

abbrev pub IsBytes : List ℕ → Type 0
IsBytes bytes = (i : ℕ) → get_or bytes i 0 < 256

-- the value of a field that did not fail
pub bind_ok : {A B : Type 0} (r : Result A ImageError) (f : A → Result B ImageError) (y : B) → (r >>= f) ≡ Ok y → (x : A) × (r ≡ Ok x) × (f x ≡ Ok y)
bind_ok (Ok x) f y e = (x, refl, e)
bind_ok (Err d) f y e = absurd cc

-- a test that did not refuse
pub guard_ok : {A : Type 0} (b : Bool) (d : ImageError) (r : Result A ImageError) (y : A) → cond b (Err d) r ≡ Ok y → (b ≡ false) × (r ≡ Ok y)
guard_ok true d r y e = absurd cc
guard_ok false d r y e = (refl, e)

-- a test that let the field pass
pub pass_ok : {A : Type 0} (b : Bool) (d : ImageError) (r : Result A ImageError) (y : A) → cond b r (Err d) ≡ Ok y → (b ≡ true) × (r ≡ Ok y)
pass_ok true d r y e = (refl, e)
pass_ok false d r y e = absurd cc

abbrev done : {A : Type 0} → A → Result A ImageError
done x = Ok x

pub ok_is : {A : Type 0} (x y : A) → done x ≡ done y → x ≡ y
ok_is x y e = cc

neither : (a b : Bool) → (a || b) ≡ false → (a ≡ false) × (b ≡ false)
neither true b e = absurd cc
neither false b e = (refl, e)

-- what a reader took from the front
pub record Takes (bytes text rest : List ℕ) : Type 0 where
  pub parts : bytes ≡ text ++ rest
  pub rest_fits : IsBytes rest

pub Takes-then : (a x b y c : List ℕ) → Takes a x b → Takes b y c → Takes a (x ++ y) c
Takes-then a x b y c p q = record { parts = p.parts ∙ ap (λ (t : List ℕ). x ++ t) q.parts ∙ sym (append_assoc x y c); rest_fits = q.rest_fits }

-- ---- bytes

pub byte_takes : (place least most : ℕ) (bytes : List ℕ) (x : ℕ × List ℕ) → IsBytes bytes → byte_at place least most bytes ≡ Ok x → Takes bytes (x.0 ∷ []) x.1 × (least ≤ x.0) × (x.0 ≤ most)
byte_takes place least most [] x fits e = absurd cc
byte_takes place least most (b ∷ rest) x fits e =
    let g = guard_ok (ltb b least || ltb most b) (Field place) (Ok (b, rest)) x e in
    let n = neither (ltb b least) (ltb most b) g.0 in
    subst (λ (y : ℕ × List ℕ). Takes (b ∷ rest) (y.0 ∷ []) y.1 × (least ≤ y.0) × (y.0 ≤ most)) (ok_is (b, rest) x g.1) (record { parts = refl; rest_fits = λ i. fits (suc i) }, ltb-false b least n.0, ltb-false most b n.1)

pub byte_again : (place least most b : ℕ) (rest : List ℕ) → least ≤ b → b ≤ most → byte_at place least most (b ∷ rest) ≡ Ok (b, rest)
byte_again place least most b rest low high = rw (le-ltb b least low, le-ltb most b high) refl

-- ---- numbers of two bytes

two : (a b c d : ℕ) (rest : List ℕ) → a ≡ c → b ≡ d → a ∷ b ∷ rest ≡ c ∷ d ∷ rest
two a b c d rest p q = cc

pub word_back : (low high : ℕ) (rest : List ℕ) → low < 256 → high < 256 → word (low + 256 * high) ++ rest ≡ low ∷ high ∷ rest
word_back low high rest l h = two _ _ low high rest (omega arith) (omega arith)

pub word_again : (n : ℕ) (rest : List ℕ) → IsWord n → little_number 2 (word n ++ rest) ≡ n
word_again n rest fits = omega arith

pub number_takes : (place : ℕ) (bytes : List ℕ) (x : ℕ × List ℕ) → IsBytes bytes → number_at place bytes ≡ Ok x → Takes bytes (word x.0) x.1 × IsWord x.0
number_takes place [] x fits e = absurd cc
number_takes place (low ∷ []) x fits e = absurd cc
number_takes place (low ∷ high ∷ rest) x fits e =
    let g = guard_ok (ltb (length (low ∷ high ∷ rest)) 2) (Short (place + length (low ∷ high ∷ rest))) (Ok (low + 256 * (high + 256 * 0), rest)) x e in
    let simple : low + 256 * (high + 256 * 0) ≡ low + 256 * high = omega arith in
    let back = word_back low high rest (fits 0) (fits 1) in
    subst (λ (y : ℕ × List ℕ). Takes (low ∷ high ∷ rest) (word y.0) y.1 × IsWord y.0) (ok_is (low + 256 * (high + 256 * 0), rest) x g.1) (rw simple (record { parts = sym back; rest_fits = λ i. fits (suc (suc i)) }, omega (arith, fits 0, fits 1)))

pub number_again : (place n : ℕ) (rest : List ℕ) → IsWord n → number_at place (word n ++ rest) ≡ Ok (n, rest)
number_again place n rest fits =
    let long : ltb (length (word n ++ rest)) 2 ≡ false = le-ltb _ _ (omega (arith, length-append (word n) rest)) in
    rw (long, word_again n rest fits) refl

pub limited_takes : (place most : ℕ) (bytes : List ℕ) (x : ℕ × List ℕ) → IsBytes bytes → limited_at place most bytes ≡ Ok x → Takes bytes (word x.0) x.1 × IsWord x.0 × (x.0 ≤ most)
limited_takes place most bytes x fits e =
    let g = guard_ok (ltb (length bytes) 2) (Short (place + length bytes)) (cond (ltb most (little_number 2 bytes)) (Err (Field place)) (Ok (little_number 2 bytes, drop 2 bytes))) x e in
    let h = guard_ok (ltb most (little_number 2 bytes)) (Field place) (Ok (little_number 2 bytes, drop 2 bytes)) x g.1 in
    let any : number_at place bytes ≡ Ok x = rw g.0 h.1 in
    let takes = number_takes place bytes x fits any in
    let low : little_number 2 bytes ≤ most = ltb-false _ _ h.0 in
    (takes.0, takes.1, subst (λ (y : ℕ × List ℕ). y.0 ≤ most) (ok_is (little_number 2 bytes, drop 2 bytes) x h.1) low)

pub limited_again : (place most n : ℕ) (rest : List ℕ) → IsWord n → n ≤ most → limited_at place most (word n ++ rest) ≡ Ok (n, rest)
limited_again place most n rest fits low =
    let long : ltb (length (word n ++ rest)) 2 ≡ false = le-ltb _ _ (omega (arith, length-append (word n) rest)) in
    let same = word_again n rest fits in
    let kept : ltb most (little_number 2 (word n ++ rest)) ≡ false = rw same (le-ltb _ _ low) in
    rw (long, kept, same) refl

-- ---- so many bytes

pub bytes_take : (count place : ℕ) (bytes : List ℕ) (x : List ℕ × List ℕ) → IsBytes bytes → bytes_at count place bytes ≡ Ok x → Takes bytes x.0 x.1 × (length x.0 ≡ count) × IsBytes x.0
bytes_take count place bytes x fits e =
    let g = guard_ok (ltb (length bytes) count) (Short (place + length bytes)) (Ok (take count bytes, drop count bytes)) x e in
    let long : count ≤ length bytes = ltb-false _ _ g.0 in
    let after : IsBytes (drop count bytes) = λ i. rw get_or-drop (fits (count + i)) in
    subst (λ (y : List ℕ × List ℕ). Takes bytes y.0 y.1 × (length y.0 ≡ count) × IsBytes y.0) (ok_is (take count bytes, drop count bytes) x g.1)
    (record { parts = sym (take-append-drop count bytes); rest_fits = after }, length-take-le count bytes long, front_fits count bytes fits)
  where
    front_fits : (n : ℕ) (bs : List ℕ) → IsBytes bs → IsBytes (take n bs)
    front_fits zero bs fit i = omega arith
    front_fits (suc n) [] fit i = omega arith
    front_fits (suc n) (b ∷ bs) fit zero = fit 0
    front_fits (suc n) (b ∷ bs) fit (suc i) = front_fits n bs (λ k. fit (suc k)) i

pub bytes_again : (place : ℕ) (bytes rest : List ℕ) → bytes_at (length bytes) place (bytes ++ rest) ≡ Ok (bytes, rest)
bytes_again place bytes rest =
    let long : ltb (length (bytes ++ rest)) (length bytes) ≡ false = le-ltb _ _ (omega (arith, length-append bytes rest)) in
    rw (long, take-front bytes rest, drop-front bytes rest) refl
  where
    take-front : (xs ys : List ℕ) → take (length xs) (xs ++ ys) ≡ xs
    take-front [] ys = refl
    take-front (x ∷ xs) ys = ap (λ (t : List ℕ). x ∷ t) (take-front xs ys)

    drop-front : (xs ys : List ℕ) → drop (length xs) (xs ++ ys) ≡ ys
    drop-front [] ys = refl
    drop-front (x ∷ xs) ys = drop-front xs ys

-- ---- prototypes

pub prototype_takes : (place : ℕ) (bytes : List ℕ) (x : List ℕ × List ℕ) → IsBytes bytes → prototype_at place bytes ≡ Ok x → Takes bytes x.0 x.1 × IsPrototype x.0
unfolding prototype_at
prototype_takes place bytes x fits e =
    let a = bind_ok (byte_at place 33 126 bytes) (λ a. byte_at (place + 1) 33 126 a.1 >>= λ b. byte_at (place + 2) 33 126 b.1 >>= λ c. byte_at (place + 3) 33 126 c.1 >>= λ d. Ok (a.0 ∷ b.0 ∷ c.0 ∷ d.0 ∷ [], d.1)) x e in
    let b = bind_ok (byte_at (place + 1) 33 126 a.0.1) (λ b. byte_at (place + 2) 33 126 b.1 >>= λ c. byte_at (place + 3) 33 126 c.1 >>= λ d. Ok (a.0.0 ∷ b.0 ∷ c.0 ∷ d.0 ∷ [], d.1)) x a.2 in
    let c = bind_ok (byte_at (place + 2) 33 126 b.0.1) (λ c. byte_at (place + 3) 33 126 c.1 >>= λ d. Ok (a.0.0 ∷ b.0.0 ∷ c.0 ∷ d.0 ∷ [], d.1)) x b.2 in
    let d = bind_ok (byte_at (place + 3) 33 126 c.0.1) (λ d. Ok (a.0.0 ∷ b.0.0 ∷ c.0.0 ∷ d.0 ∷ [], d.1)) x c.2 in
    let ta = byte_takes place 33 126 bytes a.0 fits a.1 in
    let tb = byte_takes (place + 1) 33 126 a.0.1 b.0 ta.0.rest_fits b.1 in
    let tc = byte_takes (place + 2) 33 126 b.0.1 c.0 tb.0.rest_fits c.1 in
    let td = byte_takes (place + 3) 33 126 c.0.1 d.0 tc.0.rest_fits d.1 in
    let ecd = Takes-then b.0.1 (c.0.0 ∷ []) c.0.1 (d.0.0 ∷ []) d.0.1 tc.0 td.0 in
    let ebd = Takes-then a.0.1 (b.0.0 ∷ []) b.0.1 (c.0.0 ∷ d.0.0 ∷ []) d.0.1 tb.0 ecd in
    let ead = Takes-then bytes (a.0.0 ∷ []) a.0.1 (b.0.0 ∷ c.0.0 ∷ d.0.0 ∷ []) d.0.1 ta.0 ebd in
    subst (λ (y : List ℕ × List ℕ). Takes bytes y.0 y.1 × IsPrototype y.0) (ok_is (a.0.0 ∷ b.0.0 ∷ c.0.0 ∷ d.0.0 ∷ [], d.0.1) x d.2) (ead, ((ta.1, ta.2), (tb.1, tb.2), (tc.1, tc.2), (td.1, td.2)))

pub prototype_again : (place : ℕ) (p rest : List ℕ) → IsPrototype p → prototype_at place (p ++ rest) ≡ Ok (p, rest)
unfolding prototype_at
prototype_again place [] rest fits = absurd fits
prototype_again place (a ∷ []) rest fits = absurd fits
prototype_again place (a ∷ b ∷ []) rest fits = absurd fits
prototype_again place (a ∷ b ∷ c ∷ []) rest fits = absurd fits
prototype_again place (a ∷ b ∷ c ∷ d ∷ []) rest fits =
    rw (byte_again place 33 126 a (b ∷ c ∷ d ∷ rest) fits.0.0 fits.0.1, byte_again (place + 1) 33 126 b (c ∷ d ∷ rest) fits.1.0 fits.1.1, byte_again (place + 2) 33 126 c (d ∷ rest) fits.2.0 fits.2.1, byte_again (place + 3) 33 126 d rest fits.3.0 fits.3.1) refl
prototype_again place (a ∷ b ∷ c ∷ d ∷ f ∷ p) rest fits = absurd fits

-- ---- the opening

pub magic_takes : (bytes rest : List ℕ) → IsBytes bytes → magic_at bytes ≡ Ok rest → Takes bytes (0x53 ∷ 0x4F ∷ 0x53 ∷ 0x4D ∷ []) rest
magic_takes bytes rest fits e =
    let g = guard_ok (ltb (length bytes) 4) (Short (length bytes)) (cond (pointwise eqb (take 4 bytes) (0x53 ∷ 0x4F ∷ 0x53 ∷ 0x4D ∷ [])) (Ok (drop 4 bytes)) (Err Magic)) rest e in
    let p = pass_ok (pointwise eqb (take 4 bytes) (0x53 ∷ 0x4F ∷ 0x53 ∷ 0x4D ∷ [])) Magic (Ok (drop 4 bytes)) rest g.1 in
    let front : take 4 bytes ≡ 0x53 ∷ 0x4F ∷ 0x53 ∷ 0x4D ∷ [] = same_text (take 4 bytes) (0x53 ∷ 0x4F ∷ 0x53 ∷ 0x4D ∷ []) (sym p.0) in
    let whole : bytes ≡ (0x53 ∷ 0x4F ∷ 0x53 ∷ 0x4D ∷ []) ++ drop 4 bytes = sym (take-append-drop 4 bytes) ∙ ap (λ (t : List ℕ). t ++ drop 4 bytes) front in
    let after : IsBytes (drop 4 bytes) = λ i. rw get_or-drop (fits (4 + i)) in
    subst (λ (r : List ℕ). Takes bytes (0x53 ∷ 0x4F ∷ 0x53 ∷ 0x4D ∷ []) r) (ok_is (drop 4 bytes) rest p.1) (record { parts = whole; rest_fits = after })

pub either : (a b : Bool) → (a || b) ≡ true → (a ≡ true) ⊎ (b ≡ true)
either true b e = inl refl
either false b e = inr e

version_takes : (bytes : List ℕ) (x : ℕ × List ℕ) → IsBytes bytes → version_at bytes ≡ Ok x → Takes bytes (x.0 ∷ []) x.1 × IsVersion x.0
version_takes [] x fits e = absurd cc
version_takes (v ∷ rest) x fits e =
    let p = pass_ok (eqb v first_version || eqb v second_version) (Version v) (Ok (v, rest)) x e in
    let known : IsVersion v = elim (either _ _ p.0) [ inl one ↦ inl (eqb-true v first_version one) | inr two ↦ inr (eqb-true v second_version two) ] in
    subst (λ (y : ℕ × List ℕ). Takes (v ∷ rest) (y.0 ∷ []) y.1 × IsVersion y.0) (ok_is (v, rest) x p.1) (record { parts = refl; rest_fits = λ i. fits (suc i) }, known)

version_again : (v : ℕ) (rest : List ℕ) → IsVersion v → version_at (v ∷ rest) ≡ Ok (v, rest)
version_again v rest known =
    elim known [ inl one ↦ rw one refl | inr two ↦ rw two refl ]

pub opening_takes : (file : List ℕ) (x : ℕ × List ℕ) → IsBytes file → opening_at file ≡ Ok x → Takes file (opening x.0) x.1 × IsVersion x.0
unfolding opening_at
opening_takes file x fits e =
    let a = bind_ok (magic_at file) version_at x e in
    let magic = magic_takes file a.0 fits a.1 in
    let version = version_takes a.0 x magic.rest_fits a.2 in
    (Takes-then file (0x53 ∷ 0x4F ∷ 0x53 ∷ 0x4D ∷ []) a.0 (x.0 ∷ []) x.1 magic version.0, version.1)

pub opening_again : (v : ℕ) (rest : List ℕ) → IsVersion v → opening_at (opening v ++ rest) ≡ Ok (v, rest)
unfolding opening_at
opening_again v rest known =
    let long : ltb (length (opening v ++ rest)) 4 ≡ false = le-ltb _ _ (omega (arith, length-append (opening v) rest)) in
    rw long (version_again v rest known)
