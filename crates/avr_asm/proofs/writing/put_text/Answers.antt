use Rattle.std.proofs.Common.{◌≡◌, ◌++◌, IfOk, subst, sym}
use Rattle.avr_asm.specs.Line.{line_text}
use Rattle.avr_asm.specs.Seen.{seen}
use Rattle.avr_asm.proofs.writing.put_text.Goals as goal

pub returns-in-Subscribes : goal.returns-in-Subscribes
returns-in-Subscribes c = subst (λ s. IfOk c.put_subscription.result (λ x. c.put_subscription.new.out.items ≡ c.args.out.now.items ++ line_text (seen s))) (sym c.in-Subscribes.is) c.put_subscription.ensures
