use Rattle.std.proofs.Common.{◌≡◌, ◌∙◌, sym, ap, ℕ, suc, ◌+◌, List, [], ◌∷◌, ◌++◌, drop, length, map, arith, append_assoc, length-append}
use Rattle.mote_base.specs.Messages.{list_of}
use Rattle.domain_model.specs.declared.line.TraceLine.{TraceLine}
use Rattle.domain_model.specs.State.{Message}
use Rattle.domain_model.specs.Dump.{message_line}
use Rattle.kernel_call.proofs.Dumps.{messages_next}
use Rattle.kernel_call.proofs.dump.dump_messages.Goals as goal

pub loop-place-preserved : goal.loop-place-preserved
loop-place-preserved c =
    let ms = list_of c.args.high c.args.mail.now.queues in
    let n = c.loop-place.place in
    let lines = c.loop-place.lines in
    let m : Message = c.in-Some.message.now in
    let one : List TraceLine = message_line c.args.high m ∷ [] in
    let next : n + 1 ≡ suc n = omega arith in
    let told : c.add.new.self ≡ lines ++ one = c.add.ensures ∙ ap (λ (x : TraceLine). lines ++ x ∷ []) c.message_line.ensures in
    let rest = λ (k : ℕ). map (message_line c.args.high) (drop k ms) in (
      ap (λ (l : List TraceLine). l ++ rest (n + 1)) told
          ∙ ap (λ (k : ℕ). (lines ++ one) ++ rest k) next
          ∙ append_assoc lines one (rest (suc n))
          ∙ ap (λ (l : List Message). lines ++ map (message_line c.args.high) l) (sym (messages_next ms n m (grind arith)))
          ∙ c.loop-place.invariant.0,
      omega (arith, ap (λ (l : List TraceLine). length l) told, length-append lines one, c.loop-place.invariant.1),
    )
