-- What is kept of the modules' constants, where one parcel of it comes or goes.
use Rattle.std.proofs.Common.{◌≡◌, ℕ, ◌+◌, ◌<◌, zero, suc, ap, arith, List, [], ◌∷◌, ◌++◌, length, get_or, set, Option, Some, None}
use Rattle.std.specs.List.{AllByRecursion}
use Rattle.mote_base.specs.Messages.{Lists}
use Rattle.mote_layout.specs.Blocks.{AreBlocks}
use Rattle.mote_layout.specs.Parcels.{Payload, KernelGains}
use Rattle.mote_layout.specs.declared.segment.Segment.{Segment}
use Rattle.domain_model.specs.State.{Message}
use Rattle.domain_model.specs.Payloads.{without_load, naming_of, naming_kept, IsHeld, HoldsPayloads}
use Rattle.domain_model.proofs.PayloadLaws.{kept_gained, kept_lost}
use Rattle.kernel_call.specs.Mail.{kept_for}

module _ {X : Type 0} (P : X → Type 0) where
  each_set : (xs : List X) (place : ℕ) (x : X) → P x → AllByRecursion P xs → AllByRecursion P (set xs place x)
  each_set [] place x k h = tt
  each_set (y ∷ ys) zero x k h = (k, h.1)
  each_set (y ∷ ys) (suc place) x k h = (h.0, each_set ys place x k h.1)

  each_place : (xs : List X) (place : ℕ) (x : X) → P x → AllByRecursion P xs → P (get_or xs place x)
  each_place [] place x k h = k
  each_place (y ∷ ys) zero x k h = h.0
  each_place (y ∷ ys) (suc place) x k h = each_place ys place x k h.1

  -- each of the elements but the last, and the last
  each_but_last : (xs : List X) (x : X) → AllByRecursion P (xs ++ x ∷ []) → AllByRecursion P xs × P x
  each_but_last [] x h = (tt, h.0)
  each_but_last (y ∷ ys) x h = let rest = each_but_last ys x h.1 in ((h.0, rest.0), rest.1)

naming_kept-push : (block : ℕ) (os : List (Option Payload)) (o : Option Payload) → naming_kept block (os ++ o ∷ []) ≡ naming_kept block os + naming_of block o
naming_kept-push block [] o = omega arith
naming_kept-push block (x ∷ xs) o = omega (arith, naming_kept-push block xs o)

naming_kept-set : (block : ℕ) (os : List (Option Payload)) (place : ℕ) (o : Option Payload) → place < length os → naming_kept block (set os place o) + naming_of block (kept_for os place) ≡ naming_kept block os + naming_of block o
naming_kept-set block [] place o within = absurd (omega (arith, within))
naming_kept-set block (x ∷ xs) zero o within = omega arith
naming_kept-set block (x ∷ xs) (suc place) o within = omega (arith, naming_kept-set block xs place o (omega (arith, within)))

-- what is kept for a domain is held
pub kept_held : (ss : List Segment) (kept : List (Option Payload)) (domain : ℕ) → AllByRecursion (IsHeld ss) kept → IsHeld ss (kept_for kept domain)
kept_held ss kept domain h = each_place (IsHeld ss) kept domain None tt h

-- One more is kept, for a domain that had none.
pub kept_in_place : (old new : List Segment) (q : Lists Message) (hand : Option Message) (kept : List (Option Payload)) (domain : ℕ) (p : Payload) → domain < length kept → kept_for kept domain ≡ None → KernelGains p old new → HoldsPayloads old q hand kept → HoldsPayloads new q hand (set kept domain (Some p))
kept_in_place old new q hand kept domain p within free gains h =
    let more = kept_gained old new q hand kept p gains h in
    let each = each_but_last (IsHeld new) kept (Some p) more.beside in
    record {
      once = λ b.
          let none : naming_of b (kept_for kept domain) ≡ 0 = ap (λ (o : Option Payload). naming_of b o) free in
          omega (arith, more.once b, none, naming_kept-push b kept (Some p), naming_kept-set b kept domain (Some p) within);
      high = more.high;
      low = more.low;
      in_hand = more.in_hand;
      beside = each_set (IsHeld new) kept domain (Some p) each.1 each.0;
    }

-- What was kept for a domain is free.
pub kept_let_go : (ss : List Segment) (q : Lists Message) (hand : Option Message) (kept : List (Option Payload)) (domain : ℕ) → AreBlocks ss → domain < length kept → HoldsPayloads ss q hand kept → HoldsPayloads (without_load (kept_for kept domain) ss) q hand (set kept domain None)
kept_let_go ss q hand kept domain blocks within h =
    (kept_lost ss q hand kept (set kept domain None) (kept_for kept domain) blocks (kept_held ss kept domain h.beside)
    (each_set (IsHeld ss) kept domain None tt h.beside) (λ b. omega (arith, naming_kept-set b kept domain None within)) h).payloads
