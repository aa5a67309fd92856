-- There is room for one more module, and the modules stay seated.
use Rattle.std.proofs.Common.{◌≡◌, ◌≢◌, ◌∙◌, refl, sym, ℕ, zero, suc, ◌+◌, ◌<◌, ◌≤◌, ◌==◌, inl, inr, List, [], ◌∷◌, ◌++◌, length, not, false, arith, length-append}
use Rattle.std.specs.List.{AllByRecursion}
use Rattle.std.proofs.lemmas.Bool.{cases_Bool, eqb-true}
use Rattle.mote_layout.specs.Memory.{domain_count}
use Rattle.domain_model.specs.State.{Loaded}
use Rattle.domain_model.specs.Modules.{in_use, is_loaded, without_domain}
use Rattle.domain_model.specs.Good.{AreDistinct, IsApart}
use Rattle.domain_model.proofs.Kept.{each_filter, each_weaker, each_push}
use Rattle.domain_model.proofs.ModuleLaws.{all_apart, distinct_push, distinct_filter, other_domain}
use Rattle.kernel_call.specs.Sound.{AreSeated}

-- without the modules of one domain at most one is gone
one_out : (rows : List Loaded) (domain : ℕ) → AreDistinct rows → length rows ≤ length (without_domain domain rows) + 1
one_out [] domain d = omega arith
one_out (m ∷ ms) domain d =
    elim (cases_Bool (m.domain == domain)) [
      | inl here ↦
          let same : m.domain ≡ domain = eqb-true m.domain domain here in
          let all : length (without_domain domain ms) ≡ length ms = nothing_out ms (each_weaker (IsApart m) (λ n. n.domain ≢ domain) (λ n apart e. apart.1 (e ∙ sym same)) ms d.0) in
          rw here (omega (arith, all))
      | inr other ↦ rw other (omega (arith, one_out ms domain d.1))
    ]
  where
    nothing_out : (rows : List Loaded) → AllByRecursion (λ (n : Loaded). n.domain ≢ domain) rows → length (without_domain domain rows) ≡ length rows
    nothing_out [] h = refl
    nothing_out (n ∷ ns) h =
        let rest : length (without_domain domain ns) ≡ length ns = nothing_out ns h.1 in
        elim (cases_Bool (n.domain == domain)) [
          | inl e ↦ absurd (h.0 (eqb-true n.domain domain e))
          | inr e ↦ rw e (omega (arith, rest))
        ]

-- modules in distinct domains below a number are at most so many
few : (bound : ℕ) (rows : List Loaded) → AreDistinct rows → AllByRecursion (λ m. m.domain < bound) rows → length rows ≤ bound
few zero [] d below = omega arith
few zero (m ∷ ms) d below = absurd (omega (arith, below.0))
few (suc bound) rows d below =
    let rest : length (without_domain bound rows) ≤ bound =
    few bound (without_domain bound rows) (distinct_filter (λ m. not (m.domain == bound)) rows d)
    (each_filter (λ (m : Loaded). m.domain < suc bound) (λ m. m.domain < bound) (λ m. not (m.domain == bound)) (λ m kept h. omega (arith, h, other_domain m.domain bound kept)) rows below) in
    omega (arith, rest, one_out rows bound d)

-- a module comes in, in a free domain and with a new id
pub seated_push : (rows : List Loaded) (row : Loaded) → AreSeated rows → row.domain < domain_count → in_use rows row.domain ≡ false → is_loaded rows row.face.id ≡ false → AreSeated (rows ++ row ∷ [])
seated_push rows row seated below free new =
    record {
      domains = each_push (λ (m : Loaded). m.domain < domain_count) rows row seated.domains below;
      distinct = distinct_push rows row seated.distinct (all_apart rows row new free);
    }

-- and there is room for it
pub room_for : (rows : List Loaded) (row : Loaded) → AreSeated rows → row.domain < domain_count → in_use rows row.domain ≡ false → is_loaded rows row.face.id ≡ false → length rows < domain_count
room_for rows row seated below free new =
    let more = seated_push rows row seated below free new in
    omega (arith, few domain_count (rows ++ row ∷ []) more.distinct more.domains, length-append rows (row ∷ []))

-- a module goes out
pub seated_without : (rows : List Loaded) (domain : ℕ) → AreSeated rows → AreSeated (without_domain domain rows)
seated_without rows domain seated =
    record {
      domains = each_filter (λ (m : Loaded). m.domain < domain_count) (λ m. m.domain < domain_count) _ (λ m kept h. h) rows seated.domains;
      distinct = distinct_filter _ rows seated.distinct;
    }
