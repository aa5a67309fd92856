use Rattle.std.proofs.Common.{◌≡◌, ◌∙◌, sym, ap, ℕ, suc, ◌+◌, List, ◌∷◌, [], ◌++◌, arith, length, length-append}
use Rattle.avr_machine.specs.DataRead.{data_read}
use Rattle.domain_model.specs.State.{bytes_at, without_counter}
use Rattle.kernel_call.proofs.Sent.{one_more}
use Rattle.kernel_call.proofs.serve.bytes_at.Goals as goal

pub loop-place-preserved : goal.loop-place-preserved
loop-place-preserved c =
    let p = c.args.cpu.now in
    let a = c.args.address in
    let n = c.loop-place.place in
    let next : n + 1 ≡ suc n = omega arith in
    let byte = data_read p (a + n) in
    let told : c.push.new.self ≡ c.loop-place.bytes ++ byte ∷ [] = c.push.ensures.added ∙ ap (λ (b : ℕ). c.loop-place.bytes ++ b ∷ []) c.rd.ensures.value in
    let came = told ∙ ap (λ (bs : List ℕ). bs ++ byte ∷ []) c.loop-place.invariant.0 ∙ sym (one_more p a n c.rd.ensures.memory (omega (arith, c.requires.start)) (omega (arith, c.requires.end))) in (
      came ∙ ap (λ (i : ℕ). bytes_at (without_counter p) a i) (sym next),
      ap (λ (l : List ℕ). length l) told ∙ length-append c.loop-place.bytes (byte ∷ []) ∙ ap (λ (i : ℕ). i + 1) c.loop-place.invariant.1,
    )
