-- The page by its entries and the page by its addresses are one.
use Rattle.std.proofs.Common.{◌≡◌, ℕ, ◌+◌, ◌-◌, ◌<◌, ◌≤◌, ◌&&◌, ◌↔◌, leb, ltb, Bool, true, List, [], ◌∷◌, ◌++◌, Option, Some, None, IfSome, IfNone, refl, sym, arith, ap, ◌∙◌, subst, take, drop, ◌⊎◌, inl, inr}
use Rattle.std.proofs.lemmas.Option.{none-some, same_Some}
use Rattle.std.proofs.lemmas.Bool.{le-leb, le-ltb, lt-ltb, leb-true, ltb-true, and_from, and_right, and_parts, cond-true, cond-false, cases_Bool}
use Rattle.mote_layout.specs.Page.{StandsAt, IsInNoRow, Row, page, entry_among, entry_at}
use Rattle.mote_layout.specs.declared.page.Entry.{Entry}
use Rattle.mote_layout.specs.declared.page.Entry.TheVariants.{StoreX, StoreXInc, StoreXDec, StoreYInc, StoreYDec, StoreZInc, StoreZDec, StoreY, StoreZ, StoreSts, LoadX, LoadXInc, LoadXDec, LoadYInc, LoadYDec, LoadZInc, LoadZDec, LoadY, LoadZ, LoadLds, PushGuard, PopGuard, SpGuard, LocalCall, SlotIndirect, Return, Reserve, Kernel, Slot}

-- a row that ends before the address is passed over
entry_among-past : (r : Row) (rs : List Row) (a : ℕ) → r.first + r.count ≤ a → entry_among (r ∷ rs) a ≡ entry_among rs a
entry_among-past r rs a h =
    cond-false _ _ _ (and_right (leb r.first a) (ltb a (r.first + r.count)) (le-ltb a (r.first + r.count) h))

-- the row in which the address lies gives its entry
entry_among-here : (r : Row) (rs : List Row) (a i : ℕ) → i < r.count → a ≡ r.first + i → entry_among (r ∷ rs) a ≡ Some (r.entry i)
entry_among-here r rs a i h e =
    let within = and_from (leb r.first a) (ltb a (r.first + r.count)) (le-leb r.first a (omega arith)) (lt-ltb a (r.first + r.count) (omega arith)) in
    let place : a - r.first ≡ i = omega arith in
    cond-true _ _ _ within ∙ ap (λ k. Some (r.entry k)) place

-- each row ends at `end` or before it
abbrev ends_by : ℕ → List Row → Bool
ends_by end [] = true
ends_by end (r ∷ rs) = leb (r.first + r.count) end && ends_by end rs

-- rows that end before the address are passed over
entry_among-skip : (before rs : List Row) (end a : ℕ) → ends_by end before ≡ true → end ≤ a → entry_among (before ++ rs) a ≡ entry_among rs a
entry_among-skip [] rs end a h past = refl
entry_among-skip (r ∷ before) rs end a h past =
    let parts = and_parts (leb (r.first + r.count) end) (ends_by end before) h in
    let first = leb-true (r.first + r.count) end parts.0 in
    entry_among-past r (before ++ rs) a (omega (arith, first)) ∙ entry_among-skip before rs end a parts.1 past

-- the page holds an entry at its place in a row of several
entry_at-row : (k a i : ℕ) (r : Row) (rs : List Row) → drop k page ≡ r ∷ rs → take k page ++ drop k page ≡ page → ends_by r.first (take k page) ≡ true → i < r.count → a ≡ r.first + i → entry_at a ≡ Some (r.entry i)
entry_at-row k a i r rs here all before h e =
    ap (λ p. entry_among p a) (sym all)
    ∙ entry_among-skip (take k page) (drop k page) r.first a before (omega arith)
    ∙ ap (λ p. entry_among p a) here
    ∙ entry_among-here r rs a i h e

-- an entry stands where its row says
entry_at-standing : (e : Entry) (a : ℕ) → StandsAt e a → entry_at a ≡ Some e
unfolding page
entry_at-standing (StoreY q) a h = entry_at-row 7 a q _ _ refl refl refl h.0 h.1
entry_at-standing (StoreZ q) a h = entry_at-row 8 a q _ _ refl refl refl h.0 h.1
entry_at-standing (Kernel n) a h = entry_at-row 17 a n _ _ refl refl refl h.0 h.1
entry_at-standing (Slot i) a h = entry_at-row 18 a i _ _ refl refl refl h.0 h.1
entry_at-standing (LoadY q) a h = entry_at-row 19 a q _ _ refl refl refl h.0 h.1
entry_at-standing (LoadZ q) a h = entry_at-row 20 a q _ _ refl refl refl h.0 h.1
entry_at-standing StoreX a h = rw h refl
entry_at-standing StoreXInc a h = rw h refl
entry_at-standing StoreXDec a h = rw h refl
entry_at-standing StoreYInc a h = rw h refl
entry_at-standing StoreYDec a h = rw h refl
entry_at-standing StoreZInc a h = rw h refl
entry_at-standing StoreZDec a h = rw h refl
entry_at-standing StoreSts a h = rw h refl
entry_at-standing LoadX a h = rw h refl
entry_at-standing LoadXInc a h = rw h refl
entry_at-standing LoadXDec a h = rw h refl
entry_at-standing LoadYInc a h = rw h refl
entry_at-standing LoadYDec a h = rw h refl
entry_at-standing LoadZInc a h = rw h refl
entry_at-standing LoadZDec a h = rw h refl
entry_at-standing LoadLds a h = rw h refl
entry_at-standing PushGuard a h = rw h refl
entry_at-standing PopGuard a h = rw h refl
entry_at-standing SpGuard a h = rw h refl
entry_at-standing LocalCall a h = rw h refl
entry_at-standing SlotIndirect a h = rw h refl
entry_at-standing Return a h = rw h refl
entry_at-standing Reserve a h = rw h refl

-- Each row holds what stands at its addresses.
abbrev AreSound : List Row → Type 0
AreSound [] = Unit {0}
AreSound (r ∷ rs) = ((i : ℕ) → i < r.count → StandsAt (r.entry i) (r.first + i)) × AreSound rs

-- what sound rows give at an address stands there
entry_among-cases : (rs : List Row) (a : ℕ) → AreSound rs → (entry_among rs a ≡ None) ⊎ ((e : Entry) × StandsAt e a)
entry_among-cases [] a sound = inl refl
entry_among-cases (r ∷ rs) a sound =
    elim (cases_Bool (leb r.first a && ltb a (r.first + r.count))) [
      | inl within ↦
          let parts = and_parts (leb r.first a) (ltb a (r.first + r.count)) within in
          let low = leb-true r.first a parts.0 in
          let high = ltb-true a (r.first + r.count) parts.1 in
          let place : r.first + (a - r.first) ≡ a = omega (arith, low) in
          inr (r.entry (a - r.first), subst (λ (k : ℕ). StandsAt (r.entry (a - r.first)) k) place (sound.0 (a - r.first) (omega (arith, low, high))))
      | inr outside ↦
          let skip = cond-false (leb r.first a && ltb a (r.first + r.count)) (Some (r.entry (a - r.first))) (entry_among rs a) outside in
          elim (entry_among-cases rs a sound.1) [ inl none ↦ inl (skip ∙ none) | inr found ↦ inr found ]
    ]

-- the rows of the page hold what stands there
page_sound : AreSound page
unfolding page
page_sound = ((λ i h. omega arith), ((λ i h. omega arith), ((λ i h. omega arith), ((λ i h. omega arith), ((λ i h. omega arith), ((λ i h. omega arith), ((λ i h. omega arith), ((λ i h. (h, refl)), ((λ i h. (h, refl)), ((λ i h. omega arith), ((λ i h. omega arith), ((λ i h. omega arith), ((λ i h. omega arith), ((λ i h. omega arith), ((λ i h. omega arith), ((λ i h. omega arith), ((λ i h. omega arith), ((λ i h. (h, refl)), ((λ i h. (h, refl)), ((λ i h. (h, refl)), ((λ i h. (h, refl)), ((λ i h. omega arith), ((λ i h. omega arith), ((λ i h. omega arith), ((λ i h. omega arith), ((λ i h. omega arith), ((λ i h. omega arith), ((λ i h. omega arith), ((λ i h. omega arith), tt)))))))))))))))))))))))))))))

-- where nothing stands, the page has nothing
pub entry_at-nothing : (a : ℕ) → IsInNoRow a → None ≡ entry_at a
entry_at-nothing a empty =
    elim (entry_among-cases page a page_sound) [ inl none ↦ sym none | inr found ↦ absurd (empty found.0 found.1) ]

-- an answer that stands at the address, or none where nothing does, is the page's
pub entry_at-answer : (r : Option Entry) (a : ℕ) → IfSome r (λ e. StandsAt e a) → IfNone r (IsInNoRow a) → r ≡ entry_at a
entry_at-answer None a standing empty = entry_at-nothing a empty
entry_at-answer (Some e) a standing empty = sym (entry_at-standing e a standing)

-- what the page has at an address stands there
entry_at-stands : (a : ℕ) (e : Entry) → entry_at a ≡ Some e → StandsAt e a
entry_at-stands a e h =
    elim (entry_among-cases page a page_sound) [
      | inl none ↦ absurd (none-some e (sym none ∙ h))
      | inr found ↦
          let same : found.0 ≡ e = same_Some found.0 e (sym (entry_at-standing found.0 a found.1) ∙ h) in
          subst (λ (x : Entry). StandsAt x a) same found.1
    ]

-- the page has an entry at an address exactly where it stands there
pub entry_at-some : (a : ℕ) (e : Entry) → (entry_at a ≡ Some e) ↔ StandsAt e a
entry_at-some a e = (entry_at-stands a e, entry_at-standing e a)

-- the page has no entry at an address exactly where nothing stands there
pub entry_at-none : (a : ℕ) → (entry_at a ≡ None) ↔ IsInNoRow a
entry_at-none a = (λ none e h. none-some e (sym none ∙ entry_at-standing e a h), λ empty. sym (entry_at-nothing a empty))
