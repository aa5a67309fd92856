use Rattle.std.proofs.Common.{◌≡◌, ◌∙◌, sym, ap, subst}
use Rattle.avr_machine.specs.DataRead.{IsInMemory}
use Rattle.domain_model.specs.State.{at_counter}
use Rattle.domain_model.specs.Act.{store_address}
use Rattle.domain_model.proofs.ActLaws.{store_in_memory}
use Rattle.domain_model.proofs.InstructionLaws.{store_is_straight}
use Rattle.unit_run.proofs.Inside.{store_inside}
use Rattle.unit_run.proofs.plain.PlainRunner.store.Goals as goal

pub run_instruction-requires-clause-straight : goal.run_instruction-requires-clause-straight
run_instruction-requires-clause-straight c = store_is_straight c.args.store.now c.requires.kind

-- the address is permitted, and so lies in the memory
pub run_instruction-requires-clause-inside : goal.run_instruction-requires-clause-inside
run_instruction-requires-clause-inside c =
    let permitted = rw c.requires.running at c.may_store.ensures in
    let inside = store_in_memory c.args.k.now c.args.self.now c.args.run.now c.store_address-address.result c.requires.good c.requires.running (sym permitted ∙ c.if-not-may_store.false) in
    let is : c.store_address-address.result ≡ store_address c.args.store.now c.args.k.now.processor =
    c.store_address-address.ensures ∙ ap (λ p. store_address c.args.store.now p) c.cpu.ensures in
    store_inside c.args.store.now (at_counter c.args.k.now.processor 0) c.requires.kind (subst IsInMemory is inside)
