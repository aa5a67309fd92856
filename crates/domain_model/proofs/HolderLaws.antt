-- Each block of the heap has one holder.
use Rattle.std.proofs.Common.{◌≡◌, ◌+◌, ◌∙◌, ℕ, zero, suc, inl, inr, refl, sym, ap, arith, Some}
use Rattle.mote_layout.specs.Memory.{kernel}
use Rattle.std.specs.List.{Contains}
use Rattle.mote_layout.specs.declared.segment.Segment.{Segment}
use Rattle.mote_layout.proofs.Entries.{kernel_of, kernel_of-domain, kernel_of-kernel, kernel_entries-starting_at}
use Rattle.domain_model.specs.State.{KernelState, RunnerState, State}
use Rattle.domain_model.specs.Payloads.{namings, constants_kept, naming_kept}
use Rattle.domain_model.specs.Good.{GoodMachine, IsOwned, Good}
use Rattle.domain_model.specs.Laws.{LiesIn, HasOneHolder, is_free, is_owned, is_carried, is_kept, Reaches, here, next, NoBlockIsLost}
use Rattle.domain_model.proofs.Kept.{each_contained}
use Rattle.domain_model.proofs.SegmentLaws.{contained_starts, free_or_lies}
use Rattle.domain_model.proofs.UnloadLaws.{used_below}
use Rattle.domain_model.proofs.TurnLaws.{turn_good}

-- how often a segment is named, by messages and as constants: as often as it is an entry of the kernel
named_as : (k : KernelState) (r : RunnerState) (s : Segment) → GoodMachine k r → Contains k.blocks s → namings s.first k.queues k.hand + naming_kept s.first (constants_kept k.modules) ≡ kernel_of (Some s)
named_as k r s h c =
    sym (h.payloads.once s.first) ∙ kernel_entries-starting_at 0 k.blocks s.first h.blocks ∙ ap kernel_of (contained_starts k.blocks s h.blocks c)

-- one of the kernel's is named once, by a message or as constants
kernels_held : (k : KernelState) (block : ℕ) (s : Segment) (messages modules : ℕ) → LiesIn k.blocks block s → s.owner ≡ kernel → namings s.first k.queues k.hand ≡ messages → naming_kept s.first (constants_kept k.modules) ≡ modules → messages + modules ≡ 1 → HasOneHolder k block
kernels_held k block s zero modules lies own first second one =
    is_kept s lies own (record { by_messages = first; by_modules = omega (arith, second, one) })
kernels_held k block s (suc n) modules lies own first second one =
    is_carried s lies own (record { by_messages = omega (arith, first, one); by_modules = omega (arith, second, one) })

held_by : (k : KernelState) (r : RunnerState) (block : ℕ) (s : Segment) → GoodMachine k r → LiesIn k.blocks block s → IsOwned k.modules s → HasOneHolder k block
held_by k r block s h lies (inl kernels) =
    kernels_held k block s (namings s.first k.queues k.hand) (naming_kept s.first (constants_kept k.modules)) lies kernels refl refl
    (named_as k r s h lies.contained ∙ kernel_of-kernel s kernels)
held_by k r block s h lies (inr used) =
    let none : namings s.first k.queues k.hand + naming_kept s.first (constants_kept k.modules) ≡ 0
    = named_as k r s h lies.contained ∙ kernel_of-domain s (used_below k r s.owner h used) in
    is_owned s lies used (record { by_messages = omega (arith, none); by_modules = omega (arith, none) })

pub one_holder : (k : KernelState) (r : RunnerState) (block : ℕ) → GoodMachine k r → HasOneHolder k block
one_holder k r block h =
    elim (free_or_lies k.blocks block h.blocks) [
      | inl free ↦ is_free free
      | inr there ↦ held_by k r block there.0 h there.1 (each_contained (IsOwned k.modules) k.blocks there.0 h.owners there.1.contained)
    ]

-- Every state that turns lead to from a good one is good.
pub reached_good : (s t : State) → Good s → Reaches s t → Good t
reached_good s _ g here = g
reached_good s _ g (next t u lines before turn) = turn_good t u lines (reached_good s t g before) turn

pub no_block_is_lost : NoBlockIsLost
no_block_is_lost s t block g reached below = one_holder t.kernel t.runner block (reached_good s t g reached).machine
