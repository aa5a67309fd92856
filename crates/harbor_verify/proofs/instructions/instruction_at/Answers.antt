use Rattle.std.proofs.Common.{◌∙◌, ◌<◌, Ok, ap, ap₂, arith, length, sym}
use Rattle.avr_isa.specs.Decoded.{decoded}
use Rattle.harbor_verify.proofs.ReadAt.{Decodes, first_at, no_first, none_at, nothing_at, nothing_left, rest_at, within_at}
use Rattle.harbor_verify.proofs.instructions.instruction_at.Goals as goal

pub returns-then-place-end-clause-first : goal.returns-then-place-end-clause-first
returns-then-place-end-clause-first c = no_first c.args.code.now c.args.place (omega (arith, c.len-end.ensures.len, c.if-place-end.true))

pub returns-then-place-end-clause-none : goal.returns-then-place-end-clause-none
returns-then-place-end-clause-none c = nothing_left c.args.code.now c.args.place (omega (arith, c.len-end.ensures.len, c.if-place-end.true))

pub overflow_add-result : goal.overflow_add-result
overflow_add-result c =
    let inside : c.args.place < length c.args.code.now = omega (arith, c.len-end.ensures.len, c.if-place-end.false, c.requires) in
    let there : Decodes c.args.code.now c.args.place (Ok (c.in-Ok.instruction, c.from.result)) =
    ap₂ decoded (sym c.at.ensures.word) (sym c.word_at.ensures) ∙ sym c.decode.ensures.value ∙ c.in-Ok.is ∙ ap (λ n. Ok (c.in-Ok.instruction, n)) (sym c.from.ensures) in
    let fits : c.len-end.result < 18446744073709551616 = c.len-end.type_inv in
    omega (arith, within_at c.args.code.now c.args.place c.in-Ok.instruction c.from.result inside there, c.len-end.ensures.len, fits)

pub returns-in-Ok-clause-first : goal.returns-in-Ok-clause-first
returns-in-Ok-clause-first c =
    let inside : c.args.place < length c.args.code.now = omega (arith, c.len-end.ensures.len, c.if-place-end.false, c.requires) in
    first_at c.args.code.now c.args.place c.in-Ok.instruction c.from.result inside
    (ap₂ decoded (sym c.at.ensures.word) (sym c.word_at.ensures) ∙ sym c.decode.ensures.value ∙ c.in-Ok.is ∙ ap (λ n. Ok (c.in-Ok.instruction, n)) (sym c.from.ensures))

pub returns-in-Ok-clause-within : goal.returns-in-Ok-clause-within
returns-in-Ok-clause-within c =
    let inside : c.args.place < length c.args.code.now = omega (arith, c.len-end.ensures.len, c.if-place-end.false, c.requires) in
    within_at c.args.code.now c.args.place c.in-Ok.instruction c.from.result inside
    (ap₂ decoded (sym c.at.ensures.word) (sym c.word_at.ensures) ∙ sym c.decode.ensures.value ∙ c.in-Ok.is ∙ ap (λ n. Ok (c.in-Ok.instruction, n)) (sym c.from.ensures))

pub returns-in-Ok-clause-rest : goal.returns-in-Ok-clause-rest
returns-in-Ok-clause-rest c =
    let inside : c.args.place < length c.args.code.now = omega (arith, c.len-end.ensures.len, c.if-place-end.false, c.requires) in
    rest_at c.args.code.now c.args.place c.in-Ok.instruction c.from.result inside
    (ap₂ decoded (sym c.at.ensures.word) (sym c.word_at.ensures) ∙ sym c.decode.ensures.value ∙ c.in-Ok.is ∙ ap (λ n. Ok (c.in-Ok.instruction, n)) (sym c.from.ensures))

pub returns-in-Err-clause-first : goal.returns-in-Err-clause-first
returns-in-Err-clause-first c =
    let inside : c.args.place < length c.args.code.now = omega (arith, c.len-end.ensures.len, c.if-place-end.false, c.requires) in
    none_at c.args.code.now c.args.place _ inside (ap₂ decoded (sym c.at.ensures.word) (sym c.word_at.ensures) ∙ sym c.decode.ensures.value ∙ c.in-Err.is)

pub returns-in-Err-clause-none : goal.returns-in-Err-clause-none
returns-in-Err-clause-none c =
    let inside : c.args.place < length c.args.code.now = omega (arith, c.len-end.ensures.len, c.if-place-end.false, c.requires) in
    nothing_at c.args.code.now c.args.place _ inside (ap₂ decoded (sym c.at.ensures.word) (sym c.word_at.ensures) ∙ sym c.decode.ensures.value ∙ c.in-Err.is)
