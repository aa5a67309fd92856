use Rattle.std.proofs.Common.{◌≡◌, [], replicate}
use Rattle.avr_machine.proofs.flash.Flash.new.Given as goal

-- the banks so far are empty
abbrev pub invariant-loop-domain : goal.invariant-loop-domain
invariant-loop-domain l = l.banks.items ≡ replicate l._domain []
