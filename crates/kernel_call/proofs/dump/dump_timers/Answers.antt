use Rattle.std.proofs.Common.{◌≡◌, ◌∙◌, sym, ap, ℕ, suc, ◌+◌, List, ◌++◌, drop, length, map, arith, append_assoc, append-nil, length-append}
use Rattle.std.specs.Prelude.{slice_get}
use Rattle.mote_base.specs.Timers.{timer_limit}
use Rattle.domain_model.specs.declared.line.TraceLine.{TraceLine}
use Rattle.domain_model.specs.Dump.{timer_line}
use Rattle.kernel_call.specs.Values.{timer_told}
use Rattle.kernel_call.proofs.Dumps.{one_timer, timers_next, timers_last}
use Rattle.kernel_call.proofs.dump.dump_timers.Goals as goal

pub loop-place-preserved : goal.loop-place-preserved
loop-place-preserved c =
    let ts = c.args.timers.now in
    let n = c.loop-place.place in
    let lines = c.loop-place.lines in
    let one = timer_told (slice_get ts n) in
    let next : n + 1 ≡ suc n = omega arith in
    let told = c.tell_timer.ensures.lines in
    let size : length c.tell_timer.new.lines ≡ length lines + length one = ap (λ (l : List TraceLine). length l) told ∙ length-append lines one in (
      ap (λ (l : List TraceLine). l ++ map timer_line (drop (n + 1) ts)) told
          ∙ ap (λ (k : ℕ). (lines ++ one) ++ map timer_line (drop k ts)) next
          ∙ append_assoc lines one (map timer_line (drop (suc n) ts))
          ∙ ap (λ (l : List TraceLine). lines ++ l) (sym (timers_next ts n))
          ∙ c.loop-place.invariant.0,
      omega (arith, size, one_timer (slice_get ts n), c.loop-place.invariant.1),
      λ later. c.tell_timer.ensures.few,
    )

pub returns-clause-lines : goal.returns-clause-lines
returns-clause-lines c =
    let ts = c.args.timers.now in
    let end : timer_limit ≡ c.loop-place.place = omega arith in
    let lines = c.loop-place.lines in
    let rest = λ (told : List TraceLine). lines ++ told in
    sym (append-nil lines) ∙ ap rest (sym (timers_last ts (c.loop-place.invariant.2 (omega (arith, end)))))
    ∙ ap (λ (n : ℕ). rest (map timer_line (drop n ts))) end ∙ c.loop-place.invariant.0
