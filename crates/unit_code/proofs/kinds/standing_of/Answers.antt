use Rattle.std.proofs.Common.{◌≡◌, ◌∙◌, refl}
use Rattle.avr_isa.specs.declared.instruction.Instr.TheVariants.{Cpse, Sbrc, Sbrs, Push, Pop, StX, StXInc, StXDec, StYInc, StYDec, StZInc, StZDec, LdXInc, LdXDec, LdYInc, LdYDec, LdZInc, LdZDec, Jmp, LpmZ, LpmZInc, ElpmZ, ElpmZInc, Rjmp, Rcall, Call, StdY, StdZ, Sts, In, Out, Sbi, Cbi, Sbic, Sbis, Brbs, Brbc, Ijmp, LpmR0, ElpmR0, Spm, Reti, Sleep, Wdr, Break, Icall, Ret}
use Rattle.unit_code.specs.declared.unit.Unit.TheVariants.{Plain}
use Rattle.unit_code.specs.Kinds.{standing_of, whole}
use Rattle.unit_code.proofs.kinds.standing_of.Goals as goal

-- every instruction that no arm names is plain
pub returns-in_default : goal.returns-in_default
unfolding standing_of
returns-in_default c =
    c.whole-in_default.ensures ∙ elim c.args.instruction as (λ i. c.args.instruction ≡ i → whole (Plain i) ≡ standing_of i) [
      | Cpse x y ↦ λ e. absurd (c.in_default.not-Cpse x y e)
      | Sbrc x y ↦ λ e. absurd (c.in_default.not-Sbrc x y e)
      | Sbrs x y ↦ λ e. absurd (c.in_default.not-Sbrs x y e)
      | Push x ↦ λ e. absurd (c.in_default.not-Push x e)
      | Pop x ↦ λ e. absurd (c.in_default.not-Pop x e)
      | StX x ↦ λ e. absurd (c.in_default.not-StX x e)
      | StXInc x ↦ λ e. absurd (c.in_default.not-StXInc x e)
      | StXDec x ↦ λ e. absurd (c.in_default.not-StXDec x e)
      | StYInc x ↦ λ e. absurd (c.in_default.not-StYInc x e)
      | StYDec x ↦ λ e. absurd (c.in_default.not-StYDec x e)
      | StZInc x ↦ λ e. absurd (c.in_default.not-StZInc x e)
      | StZDec x ↦ λ e. absurd (c.in_default.not-StZDec x e)
      | LdXInc x ↦ λ e. absurd (c.in_default.not-LdXInc x e)
      | LdXDec x ↦ λ e. absurd (c.in_default.not-LdXDec x e)
      | LdYInc x ↦ λ e. absurd (c.in_default.not-LdYInc x e)
      | LdYDec x ↦ λ e. absurd (c.in_default.not-LdYDec x e)
      | LdZInc x ↦ λ e. absurd (c.in_default.not-LdZInc x e)
      | LdZDec x ↦ λ e. absurd (c.in_default.not-LdZDec x e)
      | Jmp x ↦ λ e. absurd (c.in_default.not-Jmp x e)
      | LpmZ x ↦ λ e. absurd (c.in_default.not-LpmZ x e)
      | LpmZInc x ↦ λ e. absurd (c.in_default.not-LpmZInc x e)
      | ElpmZ x ↦ λ e. absurd (c.in_default.not-ElpmZ x e)
      | ElpmZInc x ↦ λ e. absurd (c.in_default.not-ElpmZInc x e)
      | Rjmp x ↦ λ e. absurd (c.in_default.not-Rjmp x e)
      | Rcall x ↦ λ e. absurd (c.in_default.not-Rcall x e)
      | Call x ↦ λ e. absurd (c.in_default.not-Call x e)
      | StdY x y ↦ λ e. absurd (c.in_default.not-StdY x y e)
      | StdZ x y ↦ λ e. absurd (c.in_default.not-StdZ x y e)
      | Sts x y ↦ λ e. absurd (c.in_default.not-Sts x y e)
      | In x y ↦ λ e. absurd (c.in_default.not-In x y e)
      | Out x y ↦ λ e. absurd (c.in_default.not-Out x y e)
      | Sbi x y ↦ λ e. absurd (c.in_default.not-Sbi x y e)
      | Cbi x y ↦ λ e. absurd (c.in_default.not-Cbi x y e)
      | Sbic x y ↦ λ e. absurd (c.in_default.not-Sbic x y e)
      | Sbis x y ↦ λ e. absurd (c.in_default.not-Sbis x y e)
      | Brbs x y ↦ λ e. absurd (c.in_default.not-Brbs x y e)
      | Brbc x y ↦ λ e. absurd (c.in_default.not-Brbc x y e)
      | Ijmp ↦ λ e. absurd (c.in_default.not-Ijmp e)
      | LpmR0 ↦ λ e. absurd (c.in_default.not-LpmR0 e)
      | ElpmR0 ↦ λ e. absurd (c.in_default.not-ElpmR0 e)
      | Spm ↦ λ e. absurd (c.in_default.not-Spm e)
      | Reti ↦ λ e. absurd (c.in_default.not-Reti e)
      | Sleep ↦ λ e. absurd (c.in_default.not-Sleep e)
      | Wdr ↦ λ e. absurd (c.in_default.not-Wdr e)
      | Break ↦ λ e. absurd (c.in_default.not-Break e)
      | Icall ↦ λ e. absurd (c.in_default.not-Icall e)
      | Ret ↦ λ e. absurd (c.in_default.not-Ret e)
      | _ ↦ λ e. refl
    ] refl
