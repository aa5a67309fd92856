use Rattle.std.proofs.Common.{◌+◌, ◌++◌, [], ◌∷◌, List, take, get_or, ap, subst, sym, arith}
use Rattle.avr_isa.specs.declared.instruction.Instr.TheVariants.{Nop}
use Rattle.std.proofs.lemmas.List.{take_more}
use Rattle.unit_code.specs.Beside.{AreWordsOf, words_in}
use Rattle.harbor_spell.proofs.Added.{words_more, words_taken}
use Rattle.harbor_spell.proofs.Joined.{counted, words_joined}
use Rattle.harbor_spell.proofs.spelling.spell.Goals as goal

pub put-requires-clause-room : goal.put-requires-clause-room
put-requires-clause-room c =
    let is = c.args.instructions.now in
    let k = c.loop-instruction.instruction-index in
    let more = take_more is k Nop (omega (arith, c.loop-instruction-test.true)) in
    let so_far = counted (take k is) c.loop-instruction.out.items c.loop-instruction.invariant in
    omega (arith, so_far, ap words_in more, words_more (take k is) (get_or is k Nop ∷ []), words_taken is (k + 1), c.requires.room)

pub loop-instruction-preserved : goal.loop-instruction-preserved
loop-instruction-preserved c =
    let is = c.args.instructions.now in
    let k = c.loop-instruction.instruction-index in
    let more = take_more is k Nop (omega (arith, c.loop-instruction-test.true)) in
    let put = c.put.ensures in
    subst (λ (l : List _). AreWordsOf l c.put.new.out.items) (sym more)
    (subst (λ (ws : List _). AreWordsOf (take k is ++ get_or is k Nop ∷ []) ws) (sym put.1)
    (words_joined (take k is) (get_or is k Nop ∷ []) c.loop-instruction.out.items put.0 c.loop-instruction.invariant put.2))
