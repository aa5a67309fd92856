use Rattle.std.proofs.Common.{sym}
use Rattle.domain_model.specs.State.{without_counter}
use Rattle.domain_model.proofs.InstructionLaws.{cpse_passes, sbrc_passes, sbrs_passes}
use Rattle.unit_run.proofs.tests_of_units.passes.Goals as goal

pub returns-in-Cpse : goal.returns-in-Cpse
returns-in-Cpse c =
    rw (c.register.ensures, c.register-in-Cpse.ensures, c.in-Cpse.is) (sym (cpse_passes c.in-Cpse.d c.in-Cpse.r (without_counter c.args.cpu.now)))

pub returns-in-Sbrc : goal.returns-in-Sbrc
returns-in-Sbrc c =
    rw (c.is_set.ensures, c.register-in-Sbrc.ensures, c.in-Sbrc.is) (sym (sbrc_passes c.in-Sbrc.r c.in-Sbrc.bit (without_counter c.args.cpu.now)))

pub returns-in-Sbrs : goal.returns-in-Sbrs
returns-in-Sbrs c =
    rw (c.is_set-in-Sbrs.ensures, c.register-in-Sbrs.ensures, c.in-Sbrs.is) (sym (sbrs_passes c.in-Sbrs.r c.in-Sbrs.bit (without_counter c.args.cpu.now)))
