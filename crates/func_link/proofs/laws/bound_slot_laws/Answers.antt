use Rattle.func_link.proofs.Leading.{found-leads, leads-found}
use Rattle.func_link.proofs.laws.bound_slot_laws.Goals as goal

pub returns : goal.returns
returns c = record { leads = λ seats d i p n fits. (found-leads seats d i p n, leads-found seats d i p n fits) }
