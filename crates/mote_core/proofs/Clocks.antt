-- How far the clock of a mote can be, and what is due.
use Rattle.std.proofs.Common.{◌≡◌, ◌≤◌, ◌^◌, ℕ, inl, inr, List, [], ◌∷◌, true, false, nat_le, Some, None, slice_get, refl, sym, ap, arith}
use Rattle.std.proofs.lemmas.Option.{none-some, same_Some}
use Rattle.domain_model.specs.declared.event.Choice.TheVariants.{Jumps}
use Rattle.domain_model.specs.Events.{is_due}
use Rattle.domain_model.specs.Facts.{Facts}
use Rattle.domain_model.specs.Good.{Good, is_ahead}
use Rattle.domain_model.specs.State.{State}
use Rattle.domain_model.proofs.ClockLaws.{first_within, latest_more}
use Rattle.domain_model.proofs.TimeLaws.{next_below}

-- The clock lies far below the last moment of a kernel.
pub clock_far : (s : State) → Good s → s.kernel.clock ≤ 2 ^ 61
clock_far s good =
    let most = latest_more s.total (is_ahead s) true (λ e. refl) in
    omega (arith, good.clock, most, good.total, good.units)

-- So does the moment to which it jumps.
pub record IsAhead (now time : ℕ) : Type 0 where
  pub later : now ≤ time
  pub far : time ≤ 2 ^ 62

pub jump_far : (s : State) (time : ℕ) → Good s → Facts (Jumps time) s → IsAhead s.kernel.clock time
jump_far s time good facts = record {
  later = omega (arith, facts.later);
  far =
      elim (next_below s.packets s.events s.kernel.timers time good.packet_times good.times facts.next) [
        | inl below ↦ omega (arith, below)
        | inr first ↦ omega (arith, first_within s.kernel.modules s.kernel.clock time s.kernel.timers good.machine.timers first, clock_far s good)
      ];
}

-- Whether the first of some moments has come.
pub moment_due : (times : List ℕ) (time now : ℕ) → Some time ≡ slice_get times 0 → nat_le time now ≡ is_due times now
moment_due [] time now is = absurd (none-some time (sym is))
moment_due (t ∷ ts) time now is = ap (λ (x : ℕ). nat_le x now) (same_Some time t is)

pub no_moment_due : (times : List ℕ) (now : ℕ) → None ≡ slice_get times 0 → false ≡ is_due times now
no_moment_due [] now is = refl
no_moment_due (t ∷ ts) now is = absurd (none-some t is)
