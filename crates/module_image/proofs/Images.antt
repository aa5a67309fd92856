-- What is read is an image, and an image is read.
use Rattle.std.proofs.Common.{◌≡◌, ℕ, zero, suc, ◌+◌, ◌*◌, List, [], ◌∷◌, ◌++◌, length, Result, Ok, Err, refl, sym, ap, subst, ◌∙◌, append_assoc, append-nil, arith}
use Rattle.std.specs.Prelude.{IfOk}
use Rattle.std.specs.List.{flat_map, AllByRecursion}
use Rattle.std.proofs.lemmas.List.Concat.{flat_map-cons}
use Rattle.mote_base.specs.Words.{words_of}
use Rattle.module_image.specs.declared.error.ImageError.{ImageError}
use Rattle.module_image.specs.declared.face.Provided.{Provided}
use Rattle.module_image.specs.declared.face.Subscribed.{Subscribed}
use Rattle.module_image.specs.declared.parts.Settings.{Settings}
use Rattle.module_image.specs.declared.parts.Counts.{Counts}
use Rattle.mote_base.specs.Words.{IsWord}
use Rattle.module_image.specs.Contents.{Contents, Rules}
use Rattle.module_image.specs.Spelling.{word, flags, opening, counts, constant_count, provided_entry, subscribed_entry, fields, spelling, Image}
use Rattle.module_image.specs.Reading.{◌>>=◌, opening_at, settings_at, counts_at, provided_at, subscribed_at, bytes_at, entries_at, after_provided, after_entries, after_code, after_constants, ends_at, contents_of, image_of}
use Rattle.module_image.proofs.Fields.{IsBytes, bind_ok, ok_is, word_back, bytes_take, bytes_again, opening_takes, opening_again}
use Rattle.module_image.proofs.PartLemmas.{settings_text, settings_takes, settings_again, counts_text, counts_takes, counts_again, provided_take, provided_again, subscribed_take, subscribed_again}

-- ---- the code

-- what the bytes of a code are
pub record IsCode (n : ℕ) (bytes ws : List ℕ) : Type 0 where
  pub parts : bytes ≡ flat_map word ws
  pub count : length ws ≡ n
  pub each : AllByRecursion IsWord ws

words_back : (n : ℕ) (bytes : List ℕ) → length bytes ≡ 2 * n → IsBytes bytes → IsCode n bytes (words_of bytes)
words_back zero [] len fits = record { parts = refl; count = refl; each = tt }
words_back zero (b ∷ bytes) len fits = absurd (omega arith)
words_back (suc n) [] len fits = absurd (omega arith)
words_back (suc n) (b ∷ []) len fits = absurd (omega arith)
words_back (suc n) (low ∷ high ∷ rest) len fits =
    let others = words_back n rest (omega arith) (λ i. fits (suc (suc i))) in
    let front : low ∷ high ∷ rest ≡ word (low + 256 * high) ++ rest = sym (word_back low high rest (fits 0) (fits 1)) in
    record {
      parts = rw flat_map-cons (front ∙ ap (λ (t : List ℕ). word (low + 256 * high) ++ t) others.parts);
      count = ap suc others.count;
      each = (omega (arith, fits 0, fits 1), others.each);
    }

length-words : (ws : List ℕ) → length (flat_map word ws) ≡ 2 * length ws
length-words [] = refl
length-words (w ∷ ws) = ap length (flat_map-cons word w ws) ∙ (let rest = length-words ws in omega arith)

two_words : (a b : ℕ) (s t : List ℕ) → a ≡ b → s ≡ t → a ∷ s ≡ b ∷ t
two_words a b s t p q = cc

words_again : (ws : List ℕ) → AllByRecursion IsWord ws → words_of (flat_map word ws) ≡ ws
words_again [] fits = refl
words_again (w ∷ ws) fits = ap words_of (flat_map-cons word w ws) ∙ two_words _ w _ ws (omega (arith, fits.0)) (words_again ws fits.1)

-- ---- the whole

abbrev pub with_constants : ℕ → Settings → Counts → List Provided → List Subscribed → List ℕ → List ℕ × List ℕ → Result Contents ImageError
with_constants v s n ps ss code ks = ends_at (after_constants v n) ks.1 >>= λ behind. Ok (contents_of s ps ss code ks.0)

abbrev pub with_code : ℕ → Settings → Counts → List Provided → List Subscribed → List ℕ × List ℕ → Result Contents ImageError
with_code v s n ps ss code = bytes_at n.constants (after_code v n) code.1 >>= λ ks. with_constants v s n ps ss code.0 ks

abbrev pub with_subscribed : ℕ → Settings → Counts → List Provided → List Subscribed × List ℕ → Result Contents ImageError
with_subscribed v s n ps ss = bytes_at (2 * n.words) (after_entries v n) ss.1 >>= λ code. with_code v s n ps ss.0 code

abbrev pub with_provided : ℕ → Settings → Counts → List Provided × List ℕ → Result Contents ImageError
with_provided v s n ps = subscribed_at n.subscribed (after_provided v n) ps.1 >>= λ ss. with_subscribed v s n ps.0 ss

abbrev pub with_counts : ℕ → Settings → Counts × List ℕ → Result Contents ImageError
with_counts v s n = provided_at n.0.provided (entries_at v) 0 n.1 >>= λ ps. with_provided v s n.0 ps

abbrev pub with_settings : ℕ → Settings × List ℕ → Result Contents ImageError
with_settings v s = counts_at v s.1 >>= λ n. with_counts v s.0 n

abbrev pub with_opening : ℕ × List ℕ → Result Contents ImageError
with_opening o = settings_at o.0 o.1 >>= λ s. with_settings o.0 s

counted : (v a b c d x y z w : ℕ) (rest : List ℕ) → x ≡ a → y ≡ b → z ≡ c → w ≡ d → (counts a b c ++ constant_count v d) ++ rest ≡ counts x y z ++ (constant_count v w ++ rest)
counted v a b c d x y z w rest p q r t = rw (p, q, r, t) (append_assoc (counts a b c) (constant_count v d) rest)

ended : {A : Type 0} (place : ℕ) (rest : List ℕ) (x y : A) → (ends_at place rest >>= λ behind. Ok x) ≡ Ok y → (rest ≡ []) × (x ≡ y)
ended place [] x y e = (refl, ok_is x y e)
ended place (b ∷ rest) x y e = absurd cc

pub image_takes : (file : List ℕ) (c : Contents) → IsBytes file → image_of file ≡ Ok c → Image file c
unfolding image_of
image_takes file c fits e =
    let o = bind_ok (opening_at file) with_opening c e in
    let v = o.0.0 in
    let s = bind_ok (settings_at v o.0.1) (with_settings v) c o.2 in
    let n = bind_ok (counts_at v s.0.1) (with_counts v s.0.0) c s.2 in
    let ps = bind_ok (provided_at n.0.0.provided (entries_at v) 0 n.0.1) (with_provided v s.0.0 n.0.0) c n.2 in
    let ss = bind_ok (subscribed_at n.0.0.subscribed (after_provided v n.0.0) ps.0.1) (with_subscribed v s.0.0 n.0.0 ps.0.0) c ps.2 in
    let k = bind_ok (bytes_at (2 * n.0.0.words) (after_entries v n.0.0) ss.0.1) (with_code v s.0.0 n.0.0 ps.0.0 ss.0.0) c ss.2 in
    let d = bind_ok (bytes_at n.0.0.constants (after_code v n.0.0) k.0.1) (with_constants v s.0.0 n.0.0 ps.0.0 ss.0.0 k.0.0) c k.2 in
    let whole = contents_of s.0.0 ps.0.0 ss.0.0 k.0.0 d.0.0 in
    let last = ended (after_constants v n.0.0) d.0.1 whole c d.2 in
    let to = opening_takes file o.0 fits o.1 in
    let ts = settings_takes v o.0.1 s.0 to.0.rest_fits s.1 in
    let tn = counts_takes v s.0.1 n.0 ts.0.rest_fits n.1 in
    let tp = provided_take n.0.0.provided (entries_at v) 0 n.0.1 ps.0 tn.0.rest_fits ps.1 in
    let tu = subscribed_take n.0.0.subscribed (after_provided v n.0.0) ps.0.1 ss.0 tp.0.rest_fits ss.1 in
    let tk = bytes_take (2 * n.0.0.words) (after_entries v n.0.0) ss.0.1 k.0 tu.0.rest_fits k.1 in
    let td = bytes_take n.0.0.constants (after_code v n.0.0) k.0.1 d.0 tk.0.rest_fits d.1 in
    let code = words_back n.0.0.words k.0.0 tk.1 tk.2 in
    let words = words_of k.0.0 in
    let from_code : ss.0.1 ≡ flat_map word words ++ d.0.0 =
    tk.0.parts ∙ ap (λ (t : List ℕ). t ++ k.0.1) code.parts ∙ ap (λ (t : List ℕ). flat_map word words ++ t) (td.0.parts ∙ ap (λ (t : List ℕ). d.0.0 ++ t) last.0 ∙ append-nil d.0.0) in
    let lists : n.0.1 ≡ flat_map provided_entry ps.0.0 ++ (flat_map subscribed_entry ss.0.0 ++ (flat_map word words ++ d.0.0)) =
    tp.0.parts ∙ ap (λ (t : List ℕ). flat_map provided_entry ps.0.0 ++ t) (tu.0.parts ∙ ap (λ (t : List ℕ). flat_map subscribed_entry ss.0.0 ++ t) from_code) in
    let tail = flat_map provided_entry ps.0.0 ++ (flat_map subscribed_entry ss.0.0 ++ (flat_map word words ++ d.0.0)) in
    let from_counts : s.0.1 ≡ counts (length ps.0.0) (length ss.0.0) (length words) ++ (constant_count v (length d.0.0) ++ tail) =
    tn.0.parts
    ∙ counted v n.0.0.provided n.0.0.subscribed n.0.0.words n.0.0.constants (length ps.0.0) (length ss.0.0) (length words) (length d.0.0) n.0.1 tp.1 tu.1 code.count td.1
    ∙ ap (λ (t : List ℕ). counts (length ps.0.0) (length ss.0.0) (length words) ++ (constant_count v (length d.0.0) ++ t)) lists in
    let file_is : file ≡ fields v (flags s.0.0.rewritten s.0.0.sealed) whole.face whole.state_size whole.handler words d.0.0 =
    to.0.parts ∙ ap (λ (t : List ℕ). opening v ++ t) (ts.0.parts ∙ ap (λ (t : List ℕ). settings_text s.0.0 ++ t) from_counts) in
    let image : Image file whole = record {
      spelled = file_is ∙ ap (λ (u : ℕ). fields u (flags s.0.0.rewritten s.0.0.sealed) whole.face whole.state_size whole.handler words d.0.0) (sym ts.1.same);
      rules = record {
        face = record {
          id = ts.1.id;
          provided_count = omega (arith, tp.1, tn.1.provided);
          subscribed_count = omega (arith, tu.1, tn.1.subscribed);
          provided = tp.2;
          subscribed = tu.2;
        };
        version = rw (ts.1.same) to.1;
        plain = λ one. (ts.1.plain (sym ts.1.same ∙ one), td.1 ∙ tn.1.plain (sym ts.1.same ∙ one));
        state_size = ts.1.state_size;
        handler = ts.1.handler;
        code_count = omega (arith, code.count, tn.1.words);
        code = code.each;
        constants_count = omega (arith, td.1, tn.1.constants);
      };
    } in
    subst (λ (x : Contents). Image file x) last.1 image

bind_is : {A B : Type 0} (r : Result A ImageError) (f : A → Result B ImageError) (x : A) → r ≡ Ok x → (r >>= f) ≡ f x
bind_is {A} {B} r f x e = ap (λ (q : Result A ImageError). q >>= f) e

bytes_again_of : (n place : ℕ) (bytes rest : List ℕ) → length bytes ≡ n → bytes_at n place (bytes ++ rest) ≡ Ok (bytes, rest)
bytes_again_of n place bytes rest len = ap (λ (k : ℕ). bytes_at k place (bytes ++ rest)) (sym len) ∙ bytes_again place bytes rest

contents_again : (c : Contents) → AllByRecursion IsWord c.code → (s : Settings) → s ≡ record { id = c.face.id; version = c.version; rewritten = c.rewritten; sealed = c.sealed; state_size = c.state_size; handler = c.handler }
    → contents_of s c.face.provided.items c.face.subscribed.items (flat_map word c.code) c.constants ≡ c
contents_again c fit s is = rw (is, words_again c.code fit) refl

pub image_again : (c : Contents) → Rules c → image_of (spelling c) ≡ Ok c
unfolding image_of
image_again c rules =
    let v = c.version in
    let ps = c.face.provided.items in
    let ss = c.face.subscribed.items in
    let s : Settings = record { id = c.face.id; version = v; rewritten = c.rewritten; sealed = c.sealed; state_size = c.state_size; handler = c.handler } in
    let n : Counts = record { provided = length ps; subscribed = length ss; words = length c.code; constants = length c.constants } in
    let code = flat_map word c.code in
    let ks : List ℕ = c.constants in
    let third = code ++ ks in
    let second = flat_map subscribed_entry ss ++ third in
    let first = flat_map provided_entry ps ++ second in
    let counted = counts_text v n ++ first in
    let set = settings_text s ++ counted in
    let regrouped : spelling c ≡ opening v ++ set =
    ap (λ (t : List ℕ). opening v ++ (settings_text s ++ t)) (sym (append_assoc (counts n.provided n.subscribed n.words) (constant_count v n.constants) first)) in
    ap (λ (t : List ℕ). opening_at t >>= with_opening) regrouped
    ∙ bind_is (opening_at (opening v ++ set)) with_opening (v, set) (opening_again v set rules.version)
    ∙ bind_is (settings_at v set) (with_settings v) (s, counted) (settings_again s counted (record { id = rules.face.id; same = refl; plain = λ one. (rules.plain one).0; state_size = rules.state_size; handler = rules.handler }))
    ∙ bind_is (counts_at v counted) (with_counts v s) (n, first) (counts_again v n first (record { provided = rules.face.provided_count; subscribed = rules.face.subscribed_count; words = rules.code_count; constants = rules.constants_count; plain = λ one. (rules.plain one).1 }))
    ∙ bind_is (provided_at (length ps) (entries_at v) 0 first) (with_provided v s n) (ps, second) (provided_again (entries_at v) 0 ps second rules.face.provided)
    ∙ bind_is (subscribed_at (length ss) (after_provided v n) second) (with_subscribed v s n ps) (ss, third) (subscribed_again (after_provided v n) ss third rules.face.subscribed)
    ∙ bind_is (bytes_at (2 * n.words) (after_entries v n) third) (with_code v s n ps ss) (code, ks) (bytes_again_of (2 * n.words) (after_entries v n) code ks (length-words c.code))
    ∙ ap (λ (t : List ℕ). with_code v s n ps ss (code, t)) (sym (append-nil ks))
    ∙ bind_is (bytes_at n.constants (after_code v n) (ks ++ [])) (with_constants v s n ps ss code) (ks, []) (bytes_again (after_code v n) ks [])
    ∙ ap (λ (x : Contents). ok x) (contents_again c rules.code s refl)
  where
    ok : Contents → Result Contents ImageError
    ok x = Ok x

-- What is read is an image.
pub is_image : (file : List ℕ) (r : Result Contents ImageError) → IsBytes file → r ≡ image_of file → IfOk r (λ c. Image file c)
is_image file (Ok c) fits e = image_takes file c fits (sym e)
is_image file (Err d) fits e = tt

-- An image is read.
pub image_read : (file : List ℕ) (r : Result Contents ImageError) (c : Contents) → r ≡ image_of file → Image file c → r ≡ Ok c
image_read file r c e image = e ∙ ap image_of image.spelled ∙ image_again c image.rules
