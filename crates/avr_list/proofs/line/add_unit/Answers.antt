use Rattle.std.proofs.Common.{subst}
use Rattle.unit_code.specs.Proper.{IsOfKind}
use Rattle.avr_list.proofs.Held.{plain_has_text, store_has_text, skip_has_text}
use Rattle.avr_list.proofs.line.add_unit.Goals as goal

pub add_instruction-requires-clause-text : goal.add_instruction-requires-clause-text
add_instruction-requires-clause-text c = plain_has_text _ (subst IsOfKind c.in-Plain.is c.requires.kind).0

pub add_instruction-requires-in-Store-clause-text : goal.add_instruction-requires-in-Store-clause-text
add_instruction-requires-in-Store-clause-text c = store_has_text _ (subst IsOfKind c.in-Store.is c.requires.kind).0

pub add_instruction-requires-in-Load-clause-text : goal.add_instruction-requires-in-Load-clause-text
add_instruction-requires-in-Load-clause-text c = plain_has_text _ (subst IsOfKind c.in-Load.is c.requires.kind).0

pub add_instruction-requires-in-Skip-clause-text : goal.add_instruction-requires-in-Skip-clause-text
add_instruction-requires-in-Skip-clause-text c = skip_has_text _ (subst IsOfKind c.in-Skip.is c.requires.kind).0
