-- What the changes of the mail keep.
use Rattle.std.proofs.Common.{◌≡◌, ◌∙◌, refl, sym, ap, ℕ, ◌+◌, ◌≤◌, inl, inr, false, List, [], ◌∷◌, length, Option, Some, None, arith, subst}
use Rattle.std.specs.Prelude.{find, nat_lt}
use Rattle.std.specs.List.{AllByRecursion}
use Rattle.std.proofs.lemmas.Bool.{cases_Bool, cond_both}
use Rattle.std.proofs.lemmas.Option.{same_Some, none-some}
use Rattle.mote_base.specs.Messages.{Lists, queue_limit, list_of, in_order, appended, posted, first, without, without_first, names, unnamed}
use Rattle.mote_base.proofs.Named.{unnamed-none, unnamed-without, without-none}
use Rattle.mote_layout.specs.Memory.{heap_start, heap_end}
use Rattle.mote_layout.specs.Blocks.{AreBlocks}
use Rattle.mote_layout.specs.Parcels.{Payload, kernel_entries}
use Rattle.mote_layout.specs.Requests.{HoldsBytes}
use Rattle.mote_layout.specs.declared.segment.Segment.{Segment}
use Rattle.mote_layout.proofs.Beginnings.{begins_at}
use Rattle.msg_queue.proofs.Rest.{rest-first}
use Rattle.domain_model.specs.State.{Message}
use Rattle.domain_model.specs.Payloads.{load_of, without_load, without_payloads, naming_of, naming_in, IsHeld, HasHeld, HoldsPayloads}
use Rattle.domain_model.proofs.Kept.{each_either}
use Rattle.domain_model.proofs.BlockLaws.{bytes_held}
use Rattle.domain_model.proofs.PayloadLaws.{loses_load, each_stays, naming_in-append, payloads_posted, payloads_unnamed}
use Rattle.kernel_call.specs.Mail.{unloaded}

-- A message without a payload is posted, or finds its queue full.
pub posted_kept : (ss : List Segment) (q : Lists Message) (hand : Option Message) (kept : List (Option Payload)) (m : Message) → m.load ≡ None → HoldsPayloads ss q hand kept → HoldsPayloads ss (posted m.high m q) hand kept
posted_kept ss q hand kept m none h =
    cond_both (nat_lt (length (list_of m.high q)) queue_limit) (appended m.high m q) q (λ (l : Lists Message). HoldsPayloads ss l hand kept)
    (λ room. payloads_posted ss q hand kept m none h) (λ full. h)

pub unloaded_none : (hand : Option Message) → load_of (unloaded hand) ≡ None
unloaded_none None = refl
unloaded_none (Some m) = refl

-- The bytes that a domain holds lie in the heap.
pub held_within : (ss : List Segment) (owner address bytes : ℕ) → AreBlocks ss → HoldsBytes ss owner address bytes → (heap_start ≤ address) × (address + bytes ≤ heap_end + 1)
held_within ss owner address bytes blocks h =
    let held = bytes_held ss owner address bytes h in
    let begun = begins_at ss address held.segment blocks held.begins in
    (omega (arith, begun.address), omega (arith, begun.address, held.room, begun.fits.2))

-- A list without its first message that names an id.
naming_first : (id b : ℕ) (ms : List Message) (m : Message) → find (names id) ms ≡ Some m → naming_in b ms ≡ naming_of b m.load + naming_in b (without_first (names id) ms)
naming_first id b [] m is = absurd (none-some m is)
naming_first id b (x ∷ xs) m is =
    elim (cases_Bool (names id x)) [
      | inl named ↦
          rw (named, same_Some x m (rw named at is)) refl
      | inr other ↦
          let rest = naming_first id b xs m (rw other at is) in
          rw other (omega (arith, rest))
    ]

each_first : (id : ℕ) (P : Message → Type 0) (ms : List Message) → AllByRecursion P ms → AllByRecursion P (without_first (names id) ms)
each_first id P [] h = tt
each_first id P (x ∷ xs) h =
    elim (cases_Bool (names id x)) [ inl named ↦ rw named h.1 | inr other ↦ rw other (h.0, each_first id P xs h.1) ]

found_each : (id : ℕ) (P : Message → Type 0) (ms : List Message) (m : Message) → find (names id) ms ≡ Some m → AllByRecursion P ms → P m
found_each id P [] m is h = absurd (none-some m is)
found_each id P (x ∷ xs) m is h =
    elim (cases_Bool (names id x)) [
      | inl named ↦
          let some : Some x ≡ Some m = rw named at is in
          subst P (same_Some x m some) h.0
      | inr other ↦ found_each id P xs m (rw other at is) h.1
    ]

first_past : (id : ℕ) (x : Message) (xs : List Message) → names id x ≡ false → without_first (names id) (x ∷ xs) ≡ x ∷ without_first (names id) xs
first_past id x xs other = rw other refl

freed_past : (id : ℕ) (x : Message) (xs : List Message) (ss : List Segment) → names id x ≡ false → without_payloads id (x ∷ xs) ss ≡ without_payloads id xs ss
freed_past id x xs ss other = rw other refl

freed_first : (id : ℕ) (ms : List Message) (m : Message) (ss : List Segment) → find (names id) ms ≡ Some m → without_payloads id (without_first (names id) ms) (without_load m.load ss) ≡ without_payloads id ms ss
freed_first id [] m ss is = absurd (none-some m is)
freed_first id (x ∷ xs) m ss is =
    elim (cases_Bool (names id x)) [
      | inl named ↦
          let some : Some x ≡ Some m = rw named at is in
          rw named (ap (λ (y : Message). without_payloads id xs (without_load y.load ss)) (sym (same_Some x m some)))
      | inr other ↦
          let now = without_load m.load ss in
          ap (λ (l : List Message). without_payloads id l now) (first_past id x xs other)
          ∙ freed_past id x (without_first (names id) xs) now other
          ∙ freed_first id xs m ss (rw other at is)
          ∙ sym (freed_past id x xs ss other)
    ]

freed_none : (id : ℕ) (ms : List Message) (ss : List Segment) → find (names id) ms ≡ None → without_payloads id ms ss ≡ ss
freed_none id [] ss is = refl
freed_none id (x ∷ xs) ss is =
    elim (cases_Bool (names id x)) [
      | inl named ↦
          let some : Some x ≡ None = rw named at is in
          absurd (none-some x (sym some))
      | inr other ↦ rw other (freed_none id xs ss (rw other at is))
    ]

-- The messages that name an id go one by one with their payloads. What is left in the end is the same from the first on, and what
-- waits still is held.
pub record IsClearing (id : ℕ) (ss₀ : List Segment) (q₀ : Lists Message) (hand₀ : Option Message) (kept₀ : List (Option Payload)) (ss : List Segment) (q : Lists Message) (hand : Option Message) (kept : List (Option Payload)) : Type 0 where
  pub blocks : AreBlocks ss
  pub few : (b : ℕ) → naming_in b (in_order q) ≤ kernel_entries b ss
  pub each : AllByRecursion (HasHeld ss) (in_order q)
  pub others : unnamed id q ≡ unnamed id q₀
  pub freed : without_payloads id (in_order q) ss ≡ without_payloads id (in_order q₀) ss₀
  pub in_hand : hand ≡ hand₀
  pub beside : kept ≡ kept₀

pub clearing_begins : (id : ℕ) (ss : List Segment) (q : Lists Message) (hand : Option Message) (kept : List (Option Payload)) → AreBlocks ss → HoldsPayloads ss q hand kept → IsClearing id ss q hand kept ss q hand kept
clearing_begins id ss q hand kept blocks h =
    record {
      blocks = blocks;
      few = λ b. omega (arith, h.once b, naming_in-append b q.high q.low);
      each = each_either (HasHeld ss) q.high q.low h.high h.low;
      others = refl;
      freed = refl;
      in_hand = refl;
      beside = refl;
    }

module _ {id : ℕ} {ss₀ : List Segment} {q₀ : Lists Message} {hand₀ : Option Message} {kept₀ : List (Option Payload)} {ss : List Segment} {q : Lists Message} {hand : Option Message} {kept : List (Option Payload)} (c : IsClearing id ss₀ q₀ hand₀ kept₀ ss q hand kept) where
  pub next_held : (m : Message) → first (names id) q ≡ Some m → IsHeld ss m.load
  next_held m is = found_each id (HasHeld ss) (in_order q) m is c.each

  pub clearing_next : (m : Message) → first (names id) q ≡ Some m → IsClearing id ss₀ q₀ hand₀ kept₀ (without_load m.load ss) (without (names id) q) hand kept
  clearing_next m is =
      let ms = in_order q in
      let now = without_load m.load ss in
      let rest : in_order (without (names id) q) ≡ without_first (names id) ms = rest-first (names id) q in
      let lost = loses_load m.load ss c.blocks (next_held m is) in
      let few = λ (b : ℕ). (let e : naming_in b (without_first (names id) ms) ≤ kernel_entries b now = omega (arith, c.few b, lost.entries b, naming_first id b ms m is) in e) in
      record {
        blocks = lost.blocks;
        few = λ b. rw rest (few b);
        each = rw rest (each_stays (λ (b : ℕ). naming_of b m.load) ss now lost (without_first (names id) ms) few (each_first id (HasHeld ss) ms c.each));
        others = unnamed-without id q ∙ c.others;
        freed = ap (λ (l : List Message). without_payloads id l now) rest ∙ freed_first id ms m ss is ∙ c.freed;
        in_hand = c.in_hand;
        beside = c.beside;
      }

  -- What is left where none names the id any more.
  pub queues_left : first (names id) q ≡ None → without (names id) q ≡ unnamed id q₀
  queues_left none = without-none id q none ∙ sym (unnamed-none id q none) ∙ c.others

  pub blocks_left : first (names id) q ≡ None → ss ≡ without_payloads id (in_order q₀) ss₀
  blocks_left none = sym (freed_none id (in_order q) ss none) ∙ c.freed

  pub holds_left : first (names id) q ≡ None → AreBlocks ss₀ → HoldsPayloads ss₀ q₀ hand₀ kept₀ → HoldsPayloads ss (without (names id) q) hand kept
  holds_left none blocks h =
      rw (queues_left none, blocks_left none, c.in_hand, c.beside) (payloads_unnamed id ss₀ q₀ hand₀ kept₀ blocks h).payloads
