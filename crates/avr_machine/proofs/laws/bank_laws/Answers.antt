use Rattle.avr_machine.proofs.BankLemmas.{word_at-bank}
use Rattle.avr_machine.proofs.laws.bank_laws.Goals as goal

pub returns : goal.returns
returns c = word_at-bank
