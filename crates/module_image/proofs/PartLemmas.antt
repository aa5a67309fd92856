-- The parts of an image: what is read is the part that was written, and what was written is read again.
use Rattle.std.proofs.Common.{◌≡◌, ℕ, zero, suc, ◌+◌, ◌%◌, ◌/◌, ◌≤◌, Bool, true, false, eqb, inl, inr, List, [], ◌∷◌, ◌++◌, length, Ok, refl, sym, ap, subst, ◌∙◌, append_assoc, arith}
use Rattle.std.specs.List.{flat_map, AllByRecursion}
use Rattle.std.proofs.lemmas.Bool.{cases_Bool, eqb-true, false≢true}
use Rattle.std.proofs.lemmas.List.Concat.{flat_map-cons}
use Rattle.mote_layout.specs.Limits.{provided_limit, subscribed_limit}
use Rattle.module_image.specs.declared.face.Provided.{Provided}
use Rattle.module_image.specs.declared.face.Subscribed.{Subscribed}
use Rattle.module_image.specs.declared.parts.Settings.{Settings}
use Rattle.module_image.specs.declared.parts.Counts.{Counts}
use Rattle.mote_base.specs.Words.{IsWord}
use Rattle.module_image.specs.Contents.{IsModuleId, IsPrototype, AreProvided, IsSubscribed, first_version, constants_limit}
use Rattle.module_image.specs.Spelling.{word, flags, settings, counts, constant_count, provided_entry, subscribed_entry}
use Rattle.module_image.specs.Reading.{◌>>=◌, byte_at, number_at, limited_at, prototype_at, flags_limit, settings_at, constants_at, counts_at, provided_one, provided_at, subscribed_one, subscribed_at}
use Rattle.module_image.proofs.Fields.{IsBytes, bind_ok, ok_is, Takes, Takes-then, byte_takes, byte_again, number_takes, number_again, limited_takes, limited_again, prototype_takes, prototype_again}

-- ---- settings

abbrev pub settings_text : Settings → List ℕ
settings_text s = settings s.id (flags s.rewritten s.sealed) s.state_size s.handler

pub record SettingsFit (version : ℕ) (s : Settings) : Type 0 where
  pub id : IsModuleId s.id
  pub same : s.version ≡ version
  pub plain : version ≡ first_version → s.sealed ≡ false
  pub state_size : IsWord s.state_size
  pub handler : IsWord s.handler

-- flags of a version are two bits, of which the first version has one
pub flags_back : (f : ℕ) → f ≤ 3 → flags (eqb (f % 2) 1) (eqb (f / 2) 1) ≡ f
flags_back zero le = refl
flags_back (suc zero) le = refl
flags_back (suc (suc zero)) le = refl
flags_back (suc (suc (suc zero))) le = refl
flags_back (suc (suc (suc (suc f)))) le = absurd (omega arith)

flag_rewritten : (r s : Bool) → eqb (flags r s % 2) 1 ≡ r
flag_rewritten true true = refl
flag_rewritten true false = refl
flag_rewritten false true = refl
flag_rewritten false false = refl

flag_sealed : (r s : Bool) → eqb (flags r s / 2) 1 ≡ s
flag_sealed true true = refl
flag_sealed true false = refl
flag_sealed false true = refl
flag_sealed false false = refl

flags_bound : (r s : Bool) → flags r s ≤ 3
flags_bound true true = omega arith
flags_bound true false = omega arith
flags_bound false true = omega arith
flags_bound false false = omega arith

flags_plain : (r s : Bool) → s ≡ false → flags r s ≤ 1
flags_plain true s none = rw none (omega arith)
flags_plain false s none = rw none (omega arith)

sealed_plain : (f : ℕ) → f ≤ 1 → eqb (f / 2) 1 ≡ false
sealed_plain zero le = refl
sealed_plain (suc zero) le = refl
sealed_plain (suc (suc f)) le = absurd (omega arith)

most_bound : (version : ℕ) → flags_limit version ≤ 3
most_bound version =
    elim (cases_Bool (eqb version first_version)) [ inl one ↦ rw one (omega arith) | inr other ↦ rw other (omega arith) ]

most_plain : (version f : ℕ) → f ≤ flags_limit version → version ≡ first_version → eqb (f / 2) 1 ≡ false
most_plain version f le one = sealed_plain f (rw one at le)

most_again : (version : ℕ) (r s : Bool) → (version ≡ first_version → s ≡ false) → flags r s ≤ flags_limit version
most_again version r s plain =
    elim (cases_Bool (eqb version first_version)) [
      | inl one ↦ rw one (flags_plain r s (plain (eqb-true version first_version one)))
      | inr other ↦ rw other (flags_bound r s)
    ]

abbrev settings_of : ℕ → ℕ → ℕ → ℕ → ℕ → Settings
settings_of version id f size handler = record {
  id = id;
  version = version;
  rewritten = eqb (f % 2) 1;
  sealed = eqb (f / 2) 1;
  state_size = size;
  handler = handler;
}

pub settings_takes : (version : ℕ) (bytes : List ℕ) (x : Settings × List ℕ) → IsBytes bytes → settings_at version bytes ≡ Ok x → Takes bytes (settings_text x.0) x.1 × SettingsFit version x.0
unfolding settings_at
settings_takes version bytes x fits e =
    let a = bind_ok (byte_at 5 1 254 bytes) (λ a. byte_at 6 0 (flags_limit version) a.1 >>= λ b. number_at 7 b.1 >>= λ c. number_at 9 c.1 >>= λ d. Ok (settings_of version a.0 b.0 c.0 d.0, d.1)) x e in
    let b = bind_ok (byte_at 6 0 (flags_limit version) a.0.1) (λ b. number_at 7 b.1 >>= λ c. number_at 9 c.1 >>= λ d. Ok (settings_of version a.0.0 b.0 c.0 d.0, d.1)) x a.2 in
    let c = bind_ok (number_at 7 b.0.1) (λ c. number_at 9 c.1 >>= λ d. Ok (settings_of version a.0.0 b.0.0 c.0 d.0, d.1)) x b.2 in
    let d = bind_ok (number_at 9 c.0.1) (λ d. Ok (settings_of version a.0.0 b.0.0 c.0.0 d.0, d.1)) x c.2 in
    let ta = byte_takes 5 1 254 bytes a.0 fits a.1 in
    let tb = byte_takes 6 0 (flags_limit version) a.0.1 b.0 ta.0.rest_fits b.1 in
    let tc = number_takes 7 b.0.1 c.0 tb.0.rest_fits c.1 in
    let td = number_takes 9 c.0.1 d.0 tc.0.rest_fits d.1 in
    let ecd = Takes-then b.0.1 (word c.0.0) c.0.1 (word d.0.0) d.0.1 tc.0 td.0 in
    let ebd = Takes-then a.0.1 (b.0.0 ∷ []) b.0.1 (word c.0.0 ++ word d.0.0) d.0.1 tb.0 ecd in
    let ead = Takes-then bytes (a.0.0 ∷ []) a.0.1 (b.0.0 ∷ (word c.0.0 ++ word d.0.0)) d.0.1 ta.0 ebd in
    let small : b.0.0 ≤ 3 = omega (arith, tb.2, most_bound version) in
    let flagged : Takes bytes (settings_text (settings_of version a.0.0 b.0.0 c.0.0 d.0.0)) d.0.1 = subst (λ (f : ℕ). Takes bytes (a.0.0 ∷ f ∷ (word c.0.0 ++ word d.0.0)) d.0.1) (sym (flags_back b.0.0 small)) ead in
    let fit : SettingsFit version (settings_of version a.0.0 b.0.0 c.0.0 d.0.0) = record { id = (ta.1, ta.2); same = refl; plain = most_plain version b.0.0 tb.2; state_size = tc.1; handler = td.1 } in
    subst (λ (y : Settings × List ℕ). Takes bytes (settings_text y.0) y.1 × SettingsFit version y.0) (ok_is (settings_of version a.0.0 b.0.0 c.0.0 d.0.0, d.0.1) x d.2) (flagged, fit)

pub settings_again : (s : Settings) (rest : List ℕ) → SettingsFit s.version s → settings_at s.version (settings_text s ++ rest) ≡ Ok (s, rest)
unfolding settings_at
settings_again s rest fits =
    let f = flags s.rewritten s.sealed in
    let regrouped : settings_text s ++ rest ≡ s.id ∷ f ∷ (word s.state_size ++ (word s.handler ++ rest)) = ap (λ (t : List ℕ). s.id ∷ f ∷ t) (append_assoc (word s.state_size) (word s.handler) rest) in
    ap (settings_at s.version) regrouped
    ∙ rw (
      byte_again 5 1 254 s.id (f ∷ (word s.state_size ++ (word s.handler ++ rest))) fits.id.0 fits.id.1,
      byte_again 6 0 (flags_limit s.version) f (word s.state_size ++ (word s.handler ++ rest)) (omega arith) (most_again s.version s.rewritten s.sealed fits.plain),
      number_again 7 s.state_size (word s.handler ++ rest) fits.state_size,
      number_again 9 s.handler rest fits.handler,
      flag_rewritten s.rewritten s.sealed,
      flag_sealed s.rewritten s.sealed,
    ) refl

-- ---- counts

abbrev pub counts_text : ℕ → Counts → List ℕ
counts_text version c = counts c.provided c.subscribed c.words ++ constant_count version c.constants

pub record CountsFit (version : ℕ) (c : Counts) : Type 0 where
  pub provided : c.provided ≤ provided_limit
  pub subscribed : c.subscribed ≤ subscribed_limit
  pub words : IsWord c.words
  pub constants : c.constants ≤ constants_limit
  pub plain : version ≡ first_version → c.constants ≡ 0

record ConstantsFit (version n : ℕ) : Type 0 where
  limit : n ≤ constants_limit
  plain : version ≡ first_version → n ≡ 0

constants_take : (version : ℕ) (bytes : List ℕ) (x : ℕ × List ℕ) → IsBytes bytes → constants_at version bytes ≡ Ok x → Takes bytes (constant_count version x.0) x.1 × ConstantsFit version x.0
constants_take version bytes x fits e =
    elim (cases_Bool (eqb version first_version)) [
      | inl one ↦
          let is : Ok (0, bytes) ≡ Ok x = rw one at e in
          rw one (subst (λ (y : ℕ × List ℕ). Takes bytes [] y.1 × ConstantsFit version y.0) (ok_is (0, bytes) x is) (record { parts = refl; rest_fits = fits }, record { limit = omega arith; plain = λ _. refl }))
      | inr other ↦
          let is : limited_at 15 constants_limit bytes ≡ Ok x = rw other at e in
          let takes = limited_takes 15 constants_limit bytes x fits is in
          rw other (takes.0, record { limit = takes.2; plain = λ same. let one : eqb version first_version ≡ true = rw same refl in absurd (false≢true (sym other ∙ one)) })
    ]

constants_again : (version n : ℕ) (rest : List ℕ) → n ≤ constants_limit → (version ≡ first_version → n ≡ 0) → constants_at version (constant_count version n ++ rest) ≡ Ok (n, rest)
constants_again version n rest low plain =
    elim (cases_Bool (eqb version first_version)) [
      | inl one ↦ rw one (ap (λ (k : ℕ). Ok (k, rest)) (sym (plain (eqb-true version first_version one))))
      | inr other ↦ rw other (limited_again 15 constants_limit n rest (omega (arith, low)) low)
    ]

abbrev counts_of : ℕ → ℕ → ℕ → ℕ → Counts
counts_of p s w k = record { provided = p; subscribed = s; words = w; constants = k }

pub counts_takes : (version : ℕ) (bytes : List ℕ) (x : Counts × List ℕ) → IsBytes bytes → counts_at version bytes ≡ Ok x → Takes bytes (counts_text version x.0) x.1 × CountsFit version x.0
unfolding counts_at
counts_takes version bytes x fits e =
    let a = bind_ok (byte_at 11 0 provided_limit bytes) (λ a. byte_at 12 0 subscribed_limit a.1 >>= λ b. number_at 13 b.1 >>= λ c. constants_at version c.1 >>= λ d. Ok (counts_of a.0 b.0 c.0 d.0, d.1)) x e in
    let b = bind_ok (byte_at 12 0 subscribed_limit a.0.1) (λ b. number_at 13 b.1 >>= λ c. constants_at version c.1 >>= λ d. Ok (counts_of a.0.0 b.0 c.0 d.0, d.1)) x a.2 in
    let c = bind_ok (number_at 13 b.0.1) (λ c. constants_at version c.1 >>= λ d. Ok (counts_of a.0.0 b.0.0 c.0 d.0, d.1)) x b.2 in
    let d = bind_ok (constants_at version c.0.1) (λ d. Ok (counts_of a.0.0 b.0.0 c.0.0 d.0, d.1)) x c.2 in
    let ta = byte_takes 11 0 provided_limit bytes a.0 fits a.1 in
    let tb = byte_takes 12 0 subscribed_limit a.0.1 b.0 ta.0.rest_fits b.1 in
    let tc = number_takes 13 b.0.1 c.0 tb.0.rest_fits c.1 in
    let td = constants_take version c.0.1 d.0 tc.0.rest_fits d.1 in
    let last = constant_count version d.0.0 in
    let ecd = Takes-then b.0.1 (word c.0.0) c.0.1 last d.0.1 tc.0 td.0 in
    let ebd = Takes-then a.0.1 (b.0.0 ∷ []) b.0.1 (word c.0.0 ++ last) d.0.1 tb.0 ecd in
    let ead = Takes-then bytes (a.0.0 ∷ []) a.0.1 (b.0.0 ∷ (word c.0.0 ++ last)) d.0.1 ta.0 ebd in
    subst (λ (y : Counts × List ℕ). Takes bytes (counts_text version y.0) y.1 × CountsFit version y.0) (ok_is (counts_of a.0.0 b.0.0 c.0.0 d.0.0, d.0.1) x d.2)
    (ead, record { provided = ta.2; subscribed = tb.2; words = tc.1; constants = td.1.limit; plain = td.1.plain })

pub counts_again : (version : ℕ) (c : Counts) (rest : List ℕ) → CountsFit version c → counts_at version (counts_text version c ++ rest) ≡ Ok (c, rest)
unfolding counts_at
counts_again version c rest fits =
    let last = constant_count version c.constants in
    let regrouped : counts_text version c ++ rest ≡ c.provided ∷ c.subscribed ∷ (word c.words ++ (last ++ rest)) = ap (λ (t : List ℕ). c.provided ∷ c.subscribed ∷ t) (append_assoc (word c.words) last rest) in
    ap (counts_at version) regrouped
    ∙ rw (
      byte_again 11 0 provided_limit c.provided (c.subscribed ∷ (word c.words ++ (last ++ rest))) (omega arith) fits.provided,
      byte_again 12 0 subscribed_limit c.subscribed (word c.words ++ (last ++ rest)) (omega arith) fits.subscribed,
      number_again 13 c.words (last ++ rest) fits.words,
      constants_again version c.constants rest fits.constants fits.plain,
    ) refl

-- ---- provided functions

pub record ProvidedFits (least : ℕ) (p : Provided) : Type 0 where
  pub low : least ≤ p.func
  pub high : p.func ≤ 255
  pub proto : IsPrototype p.proto
  pub place : IsWord p.word

pub provided_one_takes : (place least : ℕ) (bytes : List ℕ) (x : Provided × List ℕ) → IsBytes bytes → provided_one place least bytes ≡ Ok x → Takes bytes (provided_entry x.0) x.1 × ProvidedFits least x.0
unfolding provided_one
provided_one_takes place least bytes x fits e =
    let a = bind_ok (byte_at place least 255 bytes) (λ a. prototype_at (place + 1) a.1 >>= λ b. number_at (place + 5) b.1 >>= λ c. Ok (record { func = a.0; proto = b.0; word = c.0 }, c.1)) x e in
    let b = bind_ok (prototype_at (place + 1) a.0.1) (λ b. number_at (place + 5) b.1 >>= λ c. Ok (record { func = a.0.0; proto = b.0; word = c.0 }, c.1)) x a.2 in
    let c = bind_ok (number_at (place + 5) b.0.1) (λ c. Ok (record { func = a.0.0; proto = b.0.0; word = c.0 }, c.1)) x b.2 in
    let ta = byte_takes place least 255 bytes a.0 fits a.1 in
    let tb = prototype_takes (place + 1) a.0.1 b.0 ta.0.rest_fits b.1 in
    let tc = number_takes (place + 5) b.0.1 c.0 tb.0.rest_fits c.1 in
    let ebc = Takes-then a.0.1 b.0.0 b.0.1 (word c.0.0) c.0.1 tb.0 tc.0 in
    let eac = Takes-then bytes (a.0.0 ∷ []) a.0.1 (b.0.0 ++ word c.0.0) c.0.1 ta.0 ebc in
    subst (λ (y : Provided × List ℕ). Takes bytes (provided_entry y.0) y.1 × ProvidedFits least y.0) (ok_is (record { func = a.0.0; proto = b.0.0; word = c.0.0 }, c.0.1) x c.2) (eac, record { low = ta.1; high = ta.2; proto = tb.1; place = tc.1 })

pub provided_one_again : (place least : ℕ) (p : Provided) (rest : List ℕ) → ProvidedFits least p → provided_one place least (provided_entry p ++ rest) ≡ Ok (p, rest)
unfolding provided_one
provided_one_again place least p rest fits =
    let regrouped : provided_entry p ++ rest ≡ p.func ∷ (p.proto ++ (word p.word ++ rest)) = ap (λ (t : List ℕ). p.func ∷ t) (append_assoc p.proto (word p.word) rest) in
    ap (provided_one place least) regrouped
    ∙ rw (
      byte_again place least 255 p.func (p.proto ++ (word p.word ++ rest)) fits.low fits.high,
      prototype_again (place + 1) p.proto (word p.word ++ rest) fits.proto,
      number_again (place + 5) p.word rest fits.place,
    ) refl

pub provided_take : (n place least : ℕ) (bytes : List ℕ) (x : List Provided × List ℕ) → IsBytes bytes → provided_at n place least bytes ≡ Ok x
    → Takes bytes (flat_map provided_entry x.0) x.1 × (length x.0 ≡ n) × AreProvided least x.0
unfolding provided_at
provided_take zero place least bytes x fits e =
    subst (λ (y : List Provided × List ℕ). Takes bytes (flat_map provided_entry y.0) y.1 × (length y.0 ≡ 0) × AreProvided least y.0) (ok_is ([], bytes) x e) (record { parts = refl; rest_fits = fits }, refl, tt)
provided_take (suc n) place least bytes x fits e =
    let a = bind_ok (provided_one place least bytes) (λ first. provided_at n (place + 7) (first.0.func + 1) first.1 >>= λ others. Ok (first.0 ∷ others.0, others.1)) x e in
    let b = bind_ok (provided_at n (place + 7) (a.0.0.func + 1) a.0.1) (λ others. Ok (a.0.0 ∷ others.0, others.1)) x a.2 in
    let first = provided_one_takes place least bytes a.0 fits a.1 in
    let others = provided_take n (place + 7) (a.0.0.func + 1) a.0.1 b.0 first.0.rest_fits b.1 in
    let both = Takes-then bytes (provided_entry a.0.0) a.0.1 (flat_map provided_entry b.0.0) b.0.1 first.0 others.0 in
    subst (λ (y : List Provided × List ℕ). Takes bytes (flat_map provided_entry y.0) y.1 × (length y.0 ≡ suc n) × AreProvided least y.0) (ok_is (a.0.0 ∷ b.0.0, b.0.1) x b.2) (rw flat_map-cons both, ap suc others.1, (first.1.low, first.1.high, first.1.proto, first.1.place, others.2))

pub provided_again : (place least : ℕ) (ps : List Provided) (rest : List ℕ) → AreProvided least ps → provided_at (length ps) place least (flat_map provided_entry ps ++ rest) ≡ Ok (ps, rest)
unfolding provided_at
provided_again place least [] rest fits = refl
provided_again place least (p ∷ ps) rest fits =
    let regrouped : flat_map provided_entry (p ∷ ps) ++ rest ≡ provided_entry p ++ (flat_map provided_entry ps ++ rest) = ap (λ (t : List ℕ). t ++ rest) (flat_map-cons provided_entry p ps) ∙ append_assoc (provided_entry p) (flat_map provided_entry ps) rest in
    let one : ProvidedFits least p = record { low = fits.0; high = fits.1; proto = fits.2; place = fits.3 } in
    ap (provided_at (suc (length ps)) place least) regrouped
    ∙ rw (provided_one_again place least p (flat_map provided_entry ps ++ rest) one, provided_again (place + 7) (p.func + 1) ps rest fits.4) refl

-- ---- subscriptions

pub subscribed_one_takes : (place : ℕ) (bytes : List ℕ) (x : Subscribed × List ℕ) → IsBytes bytes → subscribed_one place bytes ≡ Ok x → Takes bytes (subscribed_entry x.0) x.1 × IsSubscribed x.0
unfolding subscribed_one
subscribed_one_takes place bytes x fits e =
    let a = bind_ok (byte_at place 1 254 bytes) (λ a. byte_at (place + 1) 0 255 a.1 >>= λ b. prototype_at (place + 2) b.1 >>= λ c. Ok (record { «module» = a.0; func = b.0; proto = c.0 }, c.1)) x e in
    let b = bind_ok (byte_at (place + 1) 0 255 a.0.1) (λ b. prototype_at (place + 2) b.1 >>= λ c. Ok (record { «module» = a.0.0; func = b.0; proto = c.0 }, c.1)) x a.2 in
    let c = bind_ok (prototype_at (place + 2) b.0.1) (λ c. Ok (record { «module» = a.0.0; func = b.0.0; proto = c.0 }, c.1)) x b.2 in
    let ta = byte_takes place 1 254 bytes a.0 fits a.1 in
    let tb = byte_takes (place + 1) 0 255 a.0.1 b.0 ta.0.rest_fits b.1 in
    let tc = prototype_takes (place + 2) b.0.1 c.0 tb.0.rest_fits c.1 in
    let ebc = Takes-then a.0.1 (b.0.0 ∷ []) b.0.1 c.0.0 c.0.1 tb.0 tc.0 in
    let eac = Takes-then bytes (a.0.0 ∷ []) a.0.1 (b.0.0 ∷ c.0.0) c.0.1 ta.0 ebc in
    subst (λ (y : Subscribed × List ℕ). Takes bytes (subscribed_entry y.0) y.1 × IsSubscribed y.0) (ok_is (record { «module» = a.0.0; func = b.0.0; proto = c.0.0 }, c.0.1) x c.2) (eac, ((ta.1, ta.2), tb.2, tc.1))

pub subscribed_one_again : (place : ℕ) (s : Subscribed) (rest : List ℕ) → IsSubscribed s → subscribed_one place (subscribed_entry s ++ rest) ≡ Ok (s, rest)
unfolding subscribed_one
subscribed_one_again place s rest fits =
    rw (
      byte_again place 1 254 s.module (s.func ∷ (s.proto ++ rest)) fits.0.0 fits.0.1,
      byte_again (place + 1) 0 255 s.func (s.proto ++ rest) (omega arith) fits.1,
      prototype_again (place + 2) s.proto rest fits.2,
    ) refl

pub subscribed_take : (n place : ℕ) (bytes : List ℕ) (x : List Subscribed × List ℕ) → IsBytes bytes → subscribed_at n place bytes ≡ Ok x
    → Takes bytes (flat_map subscribed_entry x.0) x.1 × (length x.0 ≡ n) × AllByRecursion IsSubscribed x.0
unfolding subscribed_at
subscribed_take zero place bytes x fits e =
    subst (λ (y : List Subscribed × List ℕ). Takes bytes (flat_map subscribed_entry y.0) y.1 × (length y.0 ≡ 0) × AllByRecursion IsSubscribed y.0) (ok_is ([], bytes) x e) (record { parts = refl; rest_fits = fits }, refl, tt)
subscribed_take (suc n) place bytes x fits e =
    let a = bind_ok (subscribed_one place bytes) (λ first. subscribed_at n (place + 6) first.1 >>= λ others. Ok (first.0 ∷ others.0, others.1)) x e in
    let b = bind_ok (subscribed_at n (place + 6) a.0.1) (λ others. Ok (a.0.0 ∷ others.0, others.1)) x a.2 in
    let first = subscribed_one_takes place bytes a.0 fits a.1 in
    let others = subscribed_take n (place + 6) a.0.1 b.0 first.0.rest_fits b.1 in
    let both = Takes-then bytes (subscribed_entry a.0.0) a.0.1 (flat_map subscribed_entry b.0.0) b.0.1 first.0 others.0 in
    subst (λ (y : List Subscribed × List ℕ). Takes bytes (flat_map subscribed_entry y.0) y.1 × (length y.0 ≡ suc n) × AllByRecursion IsSubscribed y.0) (ok_is (a.0.0 ∷ b.0.0, b.0.1) x b.2) (rw flat_map-cons both, ap suc others.1, (first.1, others.2))

pub subscribed_again : (place : ℕ) (ss : List Subscribed) (rest : List ℕ) → AllByRecursion IsSubscribed ss → subscribed_at (length ss) place (flat_map subscribed_entry ss ++ rest) ≡ Ok (ss, rest)
unfolding subscribed_at
subscribed_again place [] rest fits = refl
subscribed_again place (s ∷ ss) rest fits =
    let regrouped : flat_map subscribed_entry (s ∷ ss) ++ rest ≡ subscribed_entry s ++ (flat_map subscribed_entry ss ++ rest) = ap (λ (t : List ℕ). t ++ rest) (flat_map-cons subscribed_entry s ss) ∙ append_assoc (subscribed_entry s) (flat_map subscribed_entry ss) rest in
    ap (subscribed_at (suc (length ss)) place) regrouped
    ∙ rw (subscribed_one_again place s (flat_map subscribed_entry ss ++ rest) fits.0, subscribed_again (place + 6) ss rest fits.1) refl
