-- The loops over the bytes.
use Rattle.std.proofs.Common.{◌≡◌, ◌≢◌, ℕ, ◌+◌, ◌≤◌, ◌<◌, ◌⊎◌, ◌&&◌, true, false, leb, ltb, eqb, cond, inl, inr, List, length, get_or, set, refl, sym, ap, ◌∙◌, arith, eq-eqb}
use Rattle.std.proofs.lemmas.Bool.{cases_lt, cases_eq, cond-true, cond-false, ne_eqb, both_ways}
use Rattle.std.proofs.lemmas.Grind.{common_steps}
use Rattle.mote_layout.specs.Memory.{block_count}
use Rattle.mote_layout.specs.declared.segment.Segment.{Segment}
use Rattle.memory_map.specs.Marks.{first_mark, further_mark, goes_on, wiped, EndsBefore, StandsIn}
use Rattle.memory_map.proofs.Bytes.{between-true, between-false, cases_between, goes_on-first, goes_on-further}

-- a byte that is written, and the others
set-here : (xs : List ℕ) (i j x : ℕ) → j ≡ i → i < length xs → get_or (set xs i x) j 0 ≡ x
set-here xs i j x same within = grind (arith, common_steps)

set-other : (xs : List ℕ) (i j x : ℕ) → j ≢ i → get_or (set xs i x) j 0 ≡ get_or xs j 0
set-other xs i j x apart = grind (arith, common_steps)

set-length : (xs : List ℕ) (i x : ℕ) → length (set xs i x) ≡ length xs
set-length xs i x = grind (arith, common_steps)

-- the byte of a block once those of a segment are written up to a block
abbrev pub painted_to : ℕ → ℕ → ℕ → List ℕ → ℕ → ℕ
painted_to first end owner old b =
    cond (leb first b && ltb b end) (cond (eqb first b) (first_mark owner) (further_mark owner)) (get_or old b 0)

-- The bytes of a segment are written up to a block.
pub record IsPainted (first owner : ℕ) (old now : List ℕ) (block : ℕ) : Type 0 where
  pub size : length now ≡ length old
  pub from : first < block
  pub each : (b : ℕ) → get_or now b 0 ≡ painted_to first block owner old b

painted-outside : (first end owner : ℕ) (old : List ℕ) (b : ℕ) → (b < first) ⊎ (end ≤ b) → painted_to first end owner old b ≡ get_or old b 0
painted-outside first end owner old b outside =
    cond-false (leb first b && ltb b end) (cond (eqb first b) (first_mark owner) (further_mark owner)) (get_or old b 0) (between-false first end b outside)

painted-first : (first end owner : ℕ) (old : List ℕ) (b : ℕ) → first ≡ b → b < end → painted_to first end owner old b ≡ first_mark owner
painted-first first end owner old b same to =
    cond-true (leb first b && ltb b end) (cond (eqb first b) (first_mark owner) (further_mark owner)) (get_or old b 0) (between-true first end b (omega (arith, same)) to)
    ∙ cond-true (eqb first b) (first_mark owner) (further_mark owner) (eq-eqb first b same)

painted-further : (first end owner : ℕ) (old : List ℕ) (b : ℕ) → first < b → b < end → painted_to first end owner old b ≡ further_mark owner
painted-further first end owner old b from to =
    cond-true (leb first b && ltb b end) (cond (eqb first b) (first_mark owner) (further_mark owner)) (get_or old b 0) (between-true first end b (omega (arith, from)) to)
    ∙ cond-false (eqb first b) (first_mark owner) (further_mark owner) (ne_eqb first b (λ e. omega (arith, e, from)))

-- the first byte is written
pub paint_starts : (first owner : ℕ) (old : List ℕ) (x block : ℕ) → x ≡ first_mark owner → block ≡ first + 1 → first < length old → IsPainted first owner old (set old first x) block
paint_starts first owner old x block is next within =
    record {
      size = set-length old first x;
      from = omega (arith, next);
      each = λ b. elim (cases_eq b first) as (λ _. get_or (set old first x) b 0 ≡ painted_to first block owner old b) [
        | inl same ↦ set-here old first b x same within ∙ is ∙ sym (painted-first first block owner old b (sym same) (omega (arith, same, next)))
        | inr apart ↦ set-other old first b x apart ∙ sym (painted-outside first block owner old b (elim (cases_lt b first) [ inl h ↦ inl h | inr h ↦ inr (omega (arith, h, apart, next)) ]))
      ];
    }

-- a further byte is written
pub paint_goes_on : (first owner : ℕ) (old now : List ℕ) (block x : ℕ) → x ≡ further_mark owner → IsPainted first owner old now block → block < length old → IsPainted first owner old (set now block x) (block + 1)
paint_goes_on first owner old now block x is are within =
    record {
      size = set-length now block x ∙ are.size;
      from = omega (arith, are.from);
      each = λ b. elim (cases_eq b block) as (λ _. get_or (set now block x) b 0 ≡ painted_to first (block + 1) owner old b) [
        | inl same ↦ set-here now block b x same (omega (arith, within, are.size)) ∙ is ∙ sym (painted-further first (block + 1) owner old b (omega (arith, same, are.from)) (omega (arith, same)))
        | inr apart ↦
            set-other now block b x apart
            ∙ are.each b
            ∙ elim (cases_between first block b) as (λ _. painted_to first block owner old b ≡ painted_to first (block + 1) owner old b) [
              | inl inside ↦
                  cond-true (leb first b && ltb b block) (cond (eqb first b) (first_mark owner) (further_mark owner)) (get_or old b 0) (between-true first block b inside.0 inside.1)
                  ∙ sym (cond-true (leb first b && ltb b (block + 1)) (cond (eqb first b) (first_mark owner) (further_mark owner)) (get_or old b 0) (between-true first (block + 1) b inside.0 (omega (arith, inside.1))))
              | inr outside ↦
                  painted-outside first block owner old b outside
                  ∙ sym (painted-outside first (block + 1) owner old b (elim outside [ inl h ↦ inl h | inr h ↦ inr (omega (arith, h, apart)) ]))
            ]
      ];
    }

-- The bytes from a block on are freed, up to another.
pub record IsWiped (first : ℕ) (old now : List ℕ) (block : ℕ) : Type 0 where
  pub size : length now ≡ length old
  pub each : (b : ℕ) → get_or now b 0 ≡ wiped first block old b

wiped-outside : (first end : ℕ) (old : List ℕ) (b : ℕ) → (b < first) ⊎ (end ≤ b) → wiped first end old b ≡ get_or old b 0
wiped-outside first end old b outside = cond-false (leb first b && ltb b end) 0 (get_or old b 0) (between-false first end b outside)

wiped-inside : (first end : ℕ) (old : List ℕ) (b : ℕ) → first ≤ b → b < end → wiped first end old b ≡ 0
wiped-inside first end old b from to = cond-true (leb first b && ltb b end) 0 (get_or old b 0) (between-true first end b from to)

pub wipe_starts : (first : ℕ) (old : List ℕ) → IsWiped first old old first
wipe_starts first old =
    record { size = refl; each = λ b. sym (wiped-outside first first old b (elim (cases_lt b first) [ inl h ↦ inl h | inr h ↦ inr h ])) }

pub wipe_goes_on : (first : ℕ) (old now : List ℕ) (block : ℕ) → IsWiped first old now block → first ≤ block → block < length old → IsWiped first old (set now block 0) (block + 1)
wipe_goes_on first old now block are from within =
    record {
      size = set-length now block 0 ∙ are.size;
      each = λ b. elim (cases_eq b block) as (λ _. get_or (set now block 0) b 0 ≡ wiped first (block + 1) old b) [
        | inl same ↦ set-here now block b 0 same (omega (arith, within, are.size)) ∙ sym (wiped-inside first (block + 1) old b (omega (arith, same, from)) (omega (arith, same)))
        | inr apart ↦
            set-other now block b 0 apart
            ∙ are.each b
            ∙ elim (cases_between first block b) as (λ _. wiped first block old b ≡ wiped first (block + 1) old b) [
              | inl inside ↦ wiped-inside first block old b inside.0 inside.1 ∙ sym (wiped-inside first (block + 1) old b inside.0 (omega (arith, inside.1)))
              | inr outside ↦
                  wiped-outside first block old b outside
                  ∙ sym (wiped-outside first (block + 1) old b (elim outside [ inl h ↦ inl h | inr h ↦ inr (omega (arith, h, apart)) ]))
            ]
      ];
    }

-- The blocks behind `first`, before `end`, are further ones of its segment.
pub record GoesOn (bytes : List ℕ) (first end : ℕ) : Type 0 where
  pub from : first < end
  pub to : end ≤ block_count
  pub inside : (b : ℕ) → first < b → b < end → goes_on (get_or bytes b 0) ≡ true

pub goes_on-more : (bytes : List ℕ) (first end : ℕ) → GoesOn bytes first end → end < block_count → goes_on (get_or bytes end 0) ≡ true → GoesOn bytes first (end + 1)
goes_on-more bytes first end are below more =
    record {
      from = omega (arith, are.from);
      to = omega (arith, below);
      inside = λ b from to. elim (cases_eq b end) as (λ _. goes_on (get_or bytes b 0) ≡ true) [
        | inl same ↦ ap (λ k. goes_on (get_or bytes k 0)) same ∙ more
        | inr apart ↦ are.inside b from (omega (arith, to, apart))
      ];
    }

-- where they go on no longer, the segment ends
pub same_end : (bytes : List ℕ) (first end : ℕ) → GoesOn bytes first end → (block_count ≤ end) ⊎ (goes_on (get_or bytes end 0) ≡ false) → (other : ℕ) → EndsBefore bytes first other → end ≡ other
same_end bytes first end are done other ends =
    elim (cases_lt end other) as (λ _. end ≡ other) [
      | inl before ↦ absurd (elim done [
        | inl whole ↦ omega (arith, whole, before, ends.within)
        | inr off ↦ both_ways (goes_on (get_or bytes end 0)) off (ends.inside end are.from before)
      ])
      | inr from ↦
          elim (cases_lt other end) as (λ _. end ≡ other) [
            | inl behind ↦ absurd (both_ways (goes_on (get_or bytes other 0)) (ends.behind (omega (arith, behind, are.to))) (are.inside other ends.some behind))
            | inr to ↦ omega (arith, from, to)
          ]
    ]

-- The blocks behind `first`, up to a block, are further ones of its segment.
pub record ComesFrom (bytes : List ℕ) (block first : ℕ) : Type 0 where
  pub to : first ≤ block
  pub inside : (b : ℕ) → first < b → b ≤ block → goes_on (get_or bytes b 0) ≡ true

pub comes_starts : (bytes : List ℕ) (block : ℕ) → ComesFrom bytes block block
comes_starts bytes block = record { to = omega arith; inside = λ b from to. absurd (omega (arith, from, to)) }

pub comes_more : (bytes : List ℕ) (block first next : ℕ) → ComesFrom bytes block first → goes_on (get_or bytes first 0) ≡ true → next + 1 ≡ first → ComesFrom bytes block next
comes_more bytes block first next are more before =
    record {
      to = omega (arith, are.to, before);
      inside = λ b from to. elim (cases_eq b first) as (λ _. goes_on (get_or bytes b 0) ≡ true) [
        | inl same ↦ ap (λ k. goes_on (get_or bytes k 0)) same ∙ more
        | inr apart ↦ are.inside b (omega (arith, from, apart, before)) to
      ];
    }

-- where they come from no earlier block, the segment starts
pub same_start : (bytes : List ℕ) (block first : ℕ) → ComesFrom bytes block first → (first ≡ 0) ⊎ (goes_on (get_or bytes first 0) ≡ false) → (s : Segment) → StandsIn bytes s → s.first ≤ block → block < s.first + s.count → first ≡ s.first
same_start bytes block first are done s stands from to =
    elim (cases_lt s.first first) as (λ _. first ≡ s.first) [
      | inl before ↦ absurd (elim done [
        | inl none ↦ omega (arith, none, before)
        | inr off ↦ both_ways (goes_on (get_or bytes first 0)) off (ap (λ k. goes_on k) (stands.further first before (omega (arith, are.to, to))) ∙ goes_on-further s.owner stands.owner)
      ])
      | inr not_before ↦
          elim (cases_lt first s.first) as (λ _. first ≡ s.first) [
            | inl behind ↦ absurd (both_ways (goes_on (get_or bytes s.first 0)) (ap (λ k. goes_on k) stands.start ∙ goes_on-first s.owner) (are.inside s.first behind from))
            | inr not_behind ↦ omega (arith, not_before, not_behind)
          ]
    ]
