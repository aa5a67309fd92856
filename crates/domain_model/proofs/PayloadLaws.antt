-- The kernel's blocks stay exactly the payloads and what is kept beside the messages, each once: what each change of the blocks and of the
-- messages does to them.
use Rattle.std.proofs.Common.{◌≡◌, ◌≢◌, ℕ, ◌+◌, ◌*◌, ◌≤◌, ◌∙◌, refl, sym, ap, subst, arith, inl, inr, eqb, not, ◌==◌, ◌&&◌, suc, Bool, true, false, List, [], ◌∷◌, ◌++◌, length, filter, drop, Option, Some, None, IsSomeAnd, nat_lt, if◌then◌else◌}
use Rattle.std.specs.List.{AllByRecursion}
use Rattle.std.proofs.lemmas.Bool.{cases_Bool, cond-true, cond-false, cond_both, eqb-true, ne_eqb, lt-ltb}
use Rattle.std.proofs.lemmas.Option.{same_Some}
use Rattle.mote_base.specs.Messages.{Lists, in_order, appended, front, without_front, names, without_named, unnamed}
use Rattle.mote_layout.specs.Memory.{kernel, block_bytes}
use Rattle.mote_layout.specs.Blocks.{AreBlocks, starting_at, without, without_owner}
use Rattle.mote_layout.specs.Parcels.{Payload, IsParcelOf, kernel_entries, naming, KernelStays, KernelGains, KernelLoses}
use Rattle.mote_layout.specs.declared.segment.Segment.{Segment}
use Rattle.mote_layout.proofs.BlockLists.{AreBlocks-without}
use Rattle.mote_layout.proofs.Entries.{naming-same, without_loses}
use Rattle.domain_model.specs.State.{Message}
use Rattle.domain_model.specs.Payloads.{load_of, without_load, without_payloads, naming_of, naming_in, naming_kept, IsHeld, HasHeld, HoldsPayloads}
use Rattle.domain_model.proofs.Kept.{each_weaker, each_filter, each_push, each_either}

-- What is held stays so where each parcel stays one.
held_on : (old new : List Segment) → ((q : Payload) → IsParcelOf old q → IsParcelOf new q) → (o : Option Payload) → IsHeld old o → IsHeld new o
held_on old new f None h = tt
held_on old new f (Some p) h = f p h

each_held_on : (old new : List Segment) → ((q : Payload) → IsParcelOf old q → IsParcelOf new q) → (ms : List Message) → AllByRecursion (HasHeld old) ms → AllByRecursion (HasHeld new) ms
each_held_on old new f ms h = each_weaker (HasHeld old) (HasHeld new) (λ m k. held_on old new f m.load k) ms h

each_kept_on : (old new : List Segment) → ((q : Payload) → IsParcelOf old q → IsParcelOf new q) → (kept : List (Option Payload)) → AllByRecursion (IsHeld old) kept → AllByRecursion (IsHeld new) kept
each_kept_on old new f kept h = each_weaker (IsHeld old) (IsHeld new) (held_on old new f) kept h

-- The kernel's blocks stay.
pub payloads_stay : (old new : List Segment) (q : Lists Message) (hand : Option Message) (kept : List (Option Payload)) → KernelStays old new → HoldsPayloads old q hand kept → HoldsPayloads new q hand kept
payloads_stay old new q hand kept stays h = record {
  once = λ b. stays.entries b ∙ h.once b;
  high = each_held_on old new stays.parcels q.high h.high;
  low = each_held_on old new stays.parcels q.low h.low;
  in_hand = held_on old new stays.parcels (load_of hand) h.in_hand;
  beside = each_kept_on old new stays.parcels kept h.beside;
}

-- One more message waits.

pub naming_in-append : (b : ℕ) (xs ys : List Message) → naming_in b (xs ++ ys) ≡ naming_in b xs + naming_in b ys
naming_in-append b [] ys = omega arith
naming_in-append b (x ∷ xs) ys = omega (arith, naming_in-append b xs ys)

more : (high : Bool) (old new : List Segment) (q : Lists Message) (hand : Option Message) (kept : List (Option Payload)) (m : Message) → HoldsPayloads old q hand kept → ((p : Payload) → IsParcelOf old p → IsParcelOf new p) → IsHeld new m.load → ((b : ℕ) → kernel_entries b new ≡ kernel_entries b old + naming_of b m.load) → HoldsPayloads new (appended high m q) hand kept
more true old new q hand kept m h on held entries = record {
  once = λ b. omega (arith, entries b, h.once b, naming_in-append b q.high (m ∷ []));
  high = each_push (HasHeld new) q.high m (each_held_on old new on q.high h.high) held;
  low = each_held_on old new on q.low h.low;
  in_hand = held_on old new on (load_of hand) h.in_hand;
  beside = each_kept_on old new on kept h.beside;
}
more false old new q hand kept m h on held entries = record {
  once = λ b. omega (arith, entries b, h.once b, naming_in-append b q.low (m ∷ []));
  high = each_held_on old new on q.high h.high;
  low = each_push (HasHeld new) q.low m (each_held_on old new on q.low h.low) held;
  in_hand = held_on old new on (load_of hand) h.in_hand;
  beside = each_kept_on old new on kept h.beside;
}

-- without a payload
pub payloads_posted : (ss : List Segment) (q : Lists Message) (hand : Option Message) (kept : List (Option Payload)) (m : Message) → m.load ≡ None → HoldsPayloads ss q hand kept → HoldsPayloads ss (appended m.high m q) hand kept
payloads_posted ss q hand kept m none h =
    more m.high ss ss q hand kept m h (λ p k. k) (subst (λ (o : Option Payload). IsHeld ss o) (sym none) tt)
    (λ b. let zero : naming_of b m.load ≡ 0 = ap (λ (o : Option Payload). naming_of b o) none in omega (arith, zero))

-- with the block that the kernel gains
pub payloads_gained : (old new : List Segment) (q : Lists Message) (hand : Option Message) (kept : List (Option Payload)) (m : Message) (p : Payload) → m.load ≡ Some p → KernelGains p old new → HoldsPayloads old q hand kept → HoldsPayloads new (appended m.high m q) hand kept
payloads_gained old new q hand kept m p load gains h =
    more m.high old new q hand kept m h gains.parcels (subst (λ (o : Option Payload). IsHeld new o) (sym load) gains.gained)
    (λ b. gains.entries b ∙ ap (λ (o : Option Payload). kernel_entries b old + naming_of b o) (sym load))

-- The first message is taken in hand.
next_in_hand : (ss : List Segment) (high low : List Message) (kept : List (Option Payload)) → HoldsPayloads ss (record { high = high; low = low }) None kept → HoldsPayloads ss (without_front (record { high = high; low = low })) (front (record { high = high; low = low })) kept
next_in_hand ss [] [] kept h = h
next_in_hand ss [] (m ∷ ms) kept h = record { once = λ b. omega (arith, h.once b); high = tt; low = h.low.1; in_hand = h.low.0; beside = h.beside }
next_in_hand ss (m ∷ ms) low kept h =
    let same : (if nat_lt 0 (length (m ∷ ms)) then low else drop 1 low) ≡ low
    = cond-true (nat_lt 0 (length (m ∷ ms))) low (drop 1 low) (lt-ltb 0 (length (m ∷ ms)) (omega arith)) in
    subst (λ (l : List Message). HoldsPayloads ss (record { high = ms; low = l }) (Some m) kept) (sym same)
    (record { once = λ b. omega (arith, h.once b); high = h.high.1; low = h.low; in_hand = h.high.0; beside = h.beside })

pub payloads_next : (ss : List Segment) (q : Lists Message) (hand : Option Message) (kept : List (Option Payload)) → hand ≡ None → HoldsPayloads ss q hand kept → HoldsPayloads ss (without_front q) (front q) kept
payloads_next ss q hand kept none h = next_in_hand ss q.high q.low kept (subst (λ (o : Option Message). HoldsPayloads ss q o kept) none h)

-- Another message without a payload is in hand.
pub payloads_handed : (ss : List Segment) (q : Lists Message) (old new : Option Message) (kept : List (Option Payload)) → load_of old ≡ None → load_of new ≡ None → HoldsPayloads ss q old kept → HoldsPayloads ss q new kept
payloads_handed ss q old new kept before after h =
    let was = λ (b : ℕ). (let e : naming_of b (load_of old) ≡ 0 = ap (λ (o : Option Payload). naming_of b o) before in e) in
    let is = λ (b : ℕ). (let e : naming_of b (load_of new) ≡ 0 = ap (λ (o : Option Payload). naming_of b o) after in e) in
    record {
      once = λ b. omega (arith, h.once b, was b, is b);
      high = h.high;
      low = h.low;
      in_hand = subst (λ (o : Option Payload). IsHeld ss o) (sym after) tt;
      beside = h.beside;
    }

-- One more is kept beside the messages: none,
naming_kept-append : (b : ℕ) (xs ys : List (Option Payload)) → naming_kept b (xs ++ ys) ≡ naming_kept b xs + naming_kept b ys
naming_kept-append b [] ys = omega arith
naming_kept-append b (x ∷ xs) ys = omega (arith, naming_kept-append b xs ys)

pub none_kept : (ss : List Segment) (q : Lists Message) (hand : Option Message) (kept : List (Option Payload)) → HoldsPayloads ss q hand kept → HoldsPayloads ss q hand (kept ++ None ∷ [])
none_kept ss q hand kept h = record {
  once = λ b. omega (arith, h.once b, naming_kept-append b kept (None ∷ []));
  high = h.high;
  low = h.low;
  in_hand = h.in_hand;
  beside = each_push (IsHeld ss) kept None h.beside tt;
}

-- or the block that the kernel gains.
pub kept_gained : (old new : List Segment) (q : Lists Message) (hand : Option Message) (kept : List (Option Payload)) (p : Payload) → KernelGains p old new → HoldsPayloads old q hand kept → HoldsPayloads new q hand (kept ++ Some p ∷ [])
kept_gained old new q hand kept p gains h = record {
  once = λ b. omega (arith, h.once b, naming_kept-append b kept (Some p ∷ []), gains.entries b);
  high = each_held_on old new gains.parcels q.high h.high;
  low = each_held_on old new gains.parcels q.low h.low;
  in_hand = held_on old new gains.parcels (load_of hand) h.in_hand;
  beside = each_push (IsHeld new) kept (Some p) (each_kept_on old new gains.parcels kept h.beside) gains.gained;
}

-- The kernel's blocks lose so many of each: what is still held beside them stays held.
pub record Loses (lost : ℕ → ℕ) (old new : List Segment) : Type 0 where
  pub blocks : AreBlocks new
  pub entries : (b : ℕ) → kernel_entries b new + lost b ≡ kernel_entries b old
  pub stay : (o : Option Payload) → ((b : ℕ) → naming_of b o ≤ kernel_entries b new) → IsHeld old o → IsHeld new o

other_block : (p q : Payload) (new : List Segment) → kernel_entries p.block new ≡ 0 → naming p.block q ≤ kernel_entries p.block new → q.block ≢ p.block
other_block p q new none few e = let one = naming-same p.block q e in omega (arith, one, none, few)

pub loses_one : (p : Payload) (old new : List Segment) → AreBlocks new → KernelLoses p old new → Loses (λ b. naming b p) old new
loses_one p old new blocks lost = record { blocks = blocks; entries = lost.entries; stay = stay }
  where
    stay : (o : Option Payload) → ((b : ℕ) → naming_of b o ≤ kernel_entries b new) → IsHeld old o → IsHeld new o
    stay None few h = tt
    stay (Some q) few h = lost.parcels q (other_block p q new lost.alone (few p.block)) h

pub loses_load : (o : Option Payload) (ss : List Segment) → AreBlocks ss → IsHeld ss o → Loses (λ b. naming_of b o) ss (without_load o ss)
loses_load None ss blocks h = record { blocks = blocks; entries = λ b. omega arith; stay = λ r few k. k }
loses_load (Some p) ss blocks h = loses_one p ss (without p.block ss) (AreBlocks-without p.block ss blocks) (without_loses ss p blocks h)

pub each_stays : (lost : ℕ → ℕ) (old new : List Segment) → Loses lost old new → (ms : List Message) → ((b : ℕ) → naming_in b ms ≤ kernel_entries b new) → AllByRecursion (HasHeld old) ms → AllByRecursion (HasHeld new) ms
each_stays lost old new loses [] few h = tt
each_stays lost old new loses (m ∷ ms) few h =
    (loses.stay m.load (λ b. omega (arith, few b)) h.0, each_stays lost old new loses ms (λ b. omega (arith, few b)) h.1)

-- What is kept beside the messages stays held.
each_kept : (lost : ℕ → ℕ) (old new : List Segment) → Loses lost old new → (kept : List (Option Payload)) → ((b : ℕ) → naming_kept b kept ≤ kernel_entries b new) → AllByRecursion (IsHeld old) kept → AllByRecursion (IsHeld new) kept
each_kept lost old new loses [] few h = tt
each_kept lost old new loses (o ∷ os) few h =
    (loses.stay o (λ b. omega (arith, few b)) h.0, each_kept lost old new loses os (λ b. omega (arith, few b)) h.1)

-- The payload in hand is gone.
laid_down : (old new : List Segment) (q : Lists Message) (hand rest : Option Message) (kept : List (Option Payload)) → load_of rest ≡ None → Loses (λ b. naming_of b (load_of hand)) old new → HoldsPayloads old q hand kept → HoldsPayloads new q rest kept
laid_down old new q hand rest kept none lost h =
    let zero = λ (b : ℕ). (let e : naming_of b (load_of rest) ≡ 0 = ap (λ (o : Option Payload). naming_of b o) none in e) in
    record {
      once = λ b. omega (arith, h.once b, lost.entries b, zero b);
      high = each_stays _ old new lost q.high (λ b. omega (arith, h.once b, lost.entries b)) h.high;
      low = each_stays _ old new lost q.low (λ b. omega (arith, h.once b, lost.entries b)) h.low;
      in_hand = subst (λ (o : Option Payload). IsHeld new o) (sym none) tt;
      beside = each_kept _ old new lost kept (λ b. omega (arith, h.once b, lost.entries b)) h.beside;
    }

-- it is free
pub payloads_ended : (ss : List Segment) (q : Lists Message) (hand : Option Message) (kept : List (Option Payload)) → AreBlocks ss → HoldsPayloads ss q hand kept → HoldsPayloads (without_load (load_of hand) ss) q None kept
payloads_ended ss q hand kept blocks h =
    laid_down ss (without_load (load_of hand) ss) q hand None kept refl (loses_load (load_of hand) ss blocks h.in_hand) h

-- it was taken
pub payloads_taken : (old new : List Segment) (q : Lists Message) (hand rest : Option Message) (kept : List (Option Payload)) (p : Payload) → load_of hand ≡ Some p → load_of rest ≡ None → AreBlocks new → KernelLoses p old new → HoldsPayloads old q hand kept → HoldsPayloads new q rest kept
payloads_taken old new q hand rest kept p load none blocks lost h =
    laid_down old new q hand rest kept none
    (subst (λ (o : Option Payload). Loses (λ b. naming_of b o) old new) (sym load) (loses_one p old new blocks lost)) h

pub without_load-blocks : (o : Option Payload) (ss : List Segment) → AreBlocks ss → AreBlocks (without_load o ss)
without_load-blocks None ss blocks = blocks
without_load-blocks (Some p) ss blocks = AreBlocks-without p.block ss blocks

-- The messages that name an id are gone with their payloads.

abbrev named_in : ℕ → List Message → List Message
named_in id ms = filter (λ (m : Message). names id m) ms

-- those that are gone and those that stay are all
naming_in-parted : (id b : ℕ) (ms : List Message) → naming_in b ms ≡ naming_in b (named_in id ms) + naming_in b (without_named id ms)
naming_in-parted id b [] = omega arith
naming_in-parted id b (m ∷ ms) =
    let rest = naming_in-parted id b ms in
    elim (cases_Bool (names id m)) [ inl named ↦ rw named (omega (arith, rest)) | inr other ↦ rw other (omega (arith, rest)) ]

naming_in-left : (id b : ℕ) (xs ys : List Message) → naming_in b (without_named id (xs ++ ys)) ≡ naming_in b (without_named id xs) + naming_in b (without_named id ys)
naming_in-left id b [] ys = omega arith
naming_in-left id b (x ∷ xs) ys =
    let rest = naming_in-left id b xs ys in
    elim (cases_Bool (names id x)) [ inl named ↦ rw named rest | inr other ↦ rw other (omega (arith, rest)) ]

loses_both : (first second : ℕ → ℕ) (old mid new : List Segment) → Loses first old mid → Loses second mid new → Loses (λ b. first b + second b) old new
loses_both first second old mid new f t = record {
  blocks = t.blocks;
  entries = λ b. omega (arith, f.entries b, t.entries b);
  stay = λ o few h. t.stay o few (f.stay o (λ b. omega (arith, few b, t.entries b)) h);
}

loses_first : (id : ℕ) (m : Message) (ms : List Message) (ss : List Segment) → AreBlocks ss → (AreBlocks (without_load m.load ss) → ((b : ℕ) → naming_in b (named_in id ms) ≤ kernel_entries b (without_load m.load ss)) → AllByRecursion (HasHeld (without_load m.load ss)) (named_in id ms) → Loses (λ b. naming_in b (named_in id ms)) (without_load m.load ss) (without_payloads id ms (without_load m.load ss))) → ((b : ℕ) → naming_of b m.load + naming_in b (named_in id ms) ≤ kernel_entries b ss) → HasHeld ss m × AllByRecursion (HasHeld ss) (named_in id ms) → Loses (λ b. naming_of b m.load + naming_in b (named_in id ms)) ss (without_payloads id ms (without_load m.load ss))
loses_first id m ms ss blocks rest few h =
    let one = loses_load m.load ss blocks h.0 in
    let left : (b : ℕ) → naming_in b (named_in id ms) ≤ kernel_entries b (without_load m.load ss) = λ b. omega (arith, few b, one.entries b) in
    loses_both (λ b. naming_of b m.load) (λ b. naming_in b (named_in id ms)) ss (without_load m.load ss) (without_payloads id ms (without_load m.load ss)) one
    (rest one.blocks left (each_stays (λ b. naming_of b m.load) ss (without_load m.load ss) one (named_in id ms) left h.1))

loses_named : (id : ℕ) (ms : List Message) (ss : List Segment) → AreBlocks ss → ((b : ℕ) → naming_in b (named_in id ms) ≤ kernel_entries b ss) → AllByRecursion (HasHeld ss) (named_in id ms) → Loses (λ b. naming_in b (named_in id ms)) ss (without_payloads id ms ss)
loses_named id [] ss blocks few h = record { blocks = blocks; entries = λ b. omega arith; stay = λ o few k. k }
loses_named id (m ∷ ms) ss blocks few h =
    elim (cases_Bool (names id m)) [
      | inl named ↦
          rw named (loses_first id m ms ss blocks (λ now left held. loses_named id ms (without_load m.load ss) now left held) (rw named at few) (rw named at h))
      | inr other ↦ rw other (loses_named id ms ss blocks (rw other at few) (rw other at h))
    ]

each_named : (id : ℕ) (ss : List Segment) (ms : List Message) → AllByRecursion (HasHeld ss) ms → AllByRecursion (HasHeld ss) (named_in id ms) × AllByRecursion (HasHeld ss) (without_named id ms)
each_named id ss ms h = (
  each_filter (HasHeld ss) (HasHeld ss) (λ (m : Message). names id m) (λ m kept k. k) ms h,
  each_filter (HasHeld ss) (HasHeld ss) (λ (m : Message). not (names id m)) (λ m kept k. k) ms h,
)

-- What is left of them.
pub record Unnamed (ss new : List Segment) (q : Lists Message) (hand : Option Message) (kept : List (Option Payload)) : Type 0 where
  pub blocks : AreBlocks new
  pub payloads : HoldsPayloads new q hand kept

pub payloads_unnamed : (id : ℕ) (ss : List Segment) (q : Lists Message) (hand : Option Message) (kept : List (Option Payload)) → AreBlocks ss → HoldsPayloads ss q hand kept → Unnamed ss (without_payloads id (in_order q) ss) (unnamed id q) hand kept
payloads_unnamed id ss q hand kept blocks h =
    let all = λ (b : ℕ). naming_in-append b q.high q.low in
    let parts = λ (b : ℕ). naming_in-parted id b (in_order q) in
    let lost = loses_named id (in_order q) ss blocks (λ b. omega (arith, h.once b, all b, parts b)) (each_named id ss (in_order q) (each_either (HasHeld ss) q.high q.low h.high h.low)).0 in
    let now = without_payloads id (in_order q) ss in
    let high = λ (b : ℕ). naming_in-parted id b q.high in
    let low = λ (b : ℕ). naming_in-parted id b q.low in
    let left = λ (b : ℕ). naming_in-left id b q.high q.low in
    record {
      blocks = lost.blocks;
      payloads = record {
        once = λ b. omega (arith, h.once b, lost.entries b, all b, parts b, high b, low b, left b);
        high = each_stays _ ss now lost (without_named id q.high) (λ b. omega (arith, h.once b, lost.entries b, all b, parts b, high b, low b, left b)) (each_named id ss q.high h.high).1;
        low = each_stays _ ss now lost (without_named id q.low) (λ b. omega (arith, h.once b, lost.entries b, all b, parts b, high b, low b, left b)) (each_named id ss q.low h.low).1;
        in_hand = lost.stay (load_of hand) (λ b. omega (arith, h.once b, lost.entries b, all b, parts b, high b, low b, left b)) h.in_hand;
        beside = each_kept _ ss now lost kept (λ b. omega (arith, h.once b, lost.entries b, all b, parts b, high b, low b, left b)) h.beside;
      };
    }

-- One of what is kept is gone: the others are these.
pub kept_lost : (ss : List Segment) (q : Lists Message) (hand : Option Message) (kept left : List (Option Payload)) (o : Option Payload) → AreBlocks ss → IsHeld ss o → AllByRecursion (IsHeld ss) left → ((b : ℕ) → naming_kept b kept ≡ naming_kept b left + naming_of b o) → HoldsPayloads ss q hand kept → Unnamed ss (without_load o ss) q hand left
kept_lost ss q hand kept left o blocks held others parted h =
    let lost = loses_load o ss blocks held in
    let now = without_load o ss in
    record {
      blocks = lost.blocks;
      payloads = record {
        once = λ b. omega (arith, h.once b, lost.entries b, parted b);
        high = each_stays _ ss now lost q.high (λ b. omega (arith, h.once b, lost.entries b, parted b)) h.high;
        low = each_stays _ ss now lost q.low (λ b. omega (arith, h.once b, lost.entries b, parted b)) h.low;
        in_hand = lost.stay (load_of hand) (λ b. omega (arith, h.once b, lost.entries b, parted b)) h.in_hand;
        beside = each_kept _ ss now lost left (λ b. omega (arith, h.once b, lost.entries b, parted b)) others;
      };
    }

-- A domain's blocks are gone.

entries_without : (owner b : ℕ) (ss : List Segment) → owner ≢ kernel → kernel_entries b (without_owner owner ss) ≡ kernel_entries b ss
entries_without owner b [] ne = refl
entries_without owner b (s ∷ ss) ne =
    elim (cases_Bool (eqb s.owner owner)) [
      | inl gone ↦
          let domain = ne_eqb s.owner kernel (λ e. ne (sym (eqb-true s.owner owner gone) ∙ e)) in
          elim (cases_Bool (eqb s.first b)) [
            | inl here ↦ rw (gone, here, domain) (entries_without owner b ss ne)
            | inr there ↦ rw (gone, there) (entries_without owner b ss ne)
          ]
      | inr stays ↦ rw stays (again (eqb s.first b) (eqb s.owner kernel) (entries_without owner b ss ne))
    ]
  where
    again : (x y : Bool) → kernel_entries b (without_owner owner ss) ≡ kernel_entries b ss → kernel_entries b (s ∷ without_owner owner ss) ≡ kernel_entries b (s ∷ ss)
    again x y e = cond_both (eqb s.first b && eqb s.owner kernel) (s ∷ filter (λ (t : Segment). t.first == b && t.owner == kernel) (without_owner owner ss)) (filter (λ (t : Segment). t.first == b && t.owner == kernel) (without_owner owner ss)) (λ (xs : List Segment). length xs ≡ kernel_entries b (s ∷ ss)) (λ yes. rw yes (ap suc e)) (λ no. rw no e)

starting_without : (owner b : ℕ) (ss : List Segment) (s : Segment) → s.owner ≢ owner → starting_at ss b ≡ Some s → starting_at (without_owner owner ss) b ≡ Some s
starting_without owner b [] s ne e = e
starting_without owner b (t ∷ ts) s ne e =
    elim (cases_Bool (eqb t.first b)) [
      | inl here ↦
          let is : t ≡ s = same_Some t s (sym (cond-true (eqb t.first b) (Some t) (starting_at ts b) here) ∙ e) in
          let stays = ne_eqb t.owner owner (λ own. ne (ap (λ (x : Segment). x.owner) (sym is) ∙ own)) in
          rw (stays, here) (ap (λ (x : Segment). Some x) is)
      | inr there ↦
          let rest = starting_without owner b ts s ne (sym (cond-false (eqb t.first b) (Some t) (starting_at ts b) there) ∙ e) in
          elim (cases_Bool (eqb t.owner owner)) [ inl gone ↦ rw gone rest | inr stays ↦ rw (stays, there) rest ]
    ]

pub without_owner_stays : (owner : ℕ) (ss : List Segment) → owner ≢ kernel → KernelStays ss (without_owner owner ss)
without_owner_stays owner ss ne = record { entries = λ b. entries_without owner b ss ne; parcels = λ q h. parcel q (starting_at ss q.block) refl h }
  where
    parcel : (q : Payload) (o : Option Segment) → starting_at ss q.block ≡ o → IsSomeAnd o (λ s. (s.owner ≡ kernel) × (q.len ≤ block_bytes * s.count)) → IsParcelOf (without_owner owner ss) q
    parcel q None e h = absurd h
    parcel q (Some s) e h =
        subst (λ (x : Option Segment). IsSomeAnd x (λ s. (s.owner ≡ kernel) × (q.len ≤ block_bytes * s.count)))
        (sym (starting_without owner q.block ss s (λ own. ne (sym own ∙ h.0)) e)) h
