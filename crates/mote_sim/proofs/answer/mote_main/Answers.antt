use Rattle.std.proofs.Common.{◌∙◌, ap, subst, Some}
use Rattle.command_line.specs.Command.{command_of}
use Rattle.mote_sim.specs.Asking.{AsksBy, Came}
use Rattle.mote_sim.specs.Ending.{Ends}
use Rattle.mote_sim.specs.Outcome.{AnswersOver}
use Rattle.mote_sim.specs.Pieces.{LeadsBySome}
use Rattle.mote_sim.proofs.Unasked.{no_names, unasked}
use Rattle.command_line.specs.declared.command.Kind.TheVariants as kinds
use Rattle.mote_sim.proofs.Clauses.{headline, tools, generator, usage, refused, complete, answered, front, cut}
use Rattle.mote_sim.proofs.Counts.{has_its_files}
use Rattle.mote_sim.proofs.answer.mote_main.Goals as goal

pub returns-clause-headline : goal.returns-clause-headline
returns-clause-headline g c = headline _ _ _ _ _ _ _ _ _ _ _ (has_its_files c.args.words.now) c.answer.ensures.ends

pub returns-clause-tools : goal.returns-clause-tools
returns-clause-tools g c = tools _ _ _ _ _ _ _ _ _ _ _ (has_its_files c.args.words.now) c.answer.ensures.ends

pub returns-clause-generator : goal.returns-clause-generator
returns-clause-generator g c = generator _ _ _ _ _ _ _ _ _ _ _ c.answer.ensures.ends

pub returns-clause-no_files : goal.returns-clause-no_files
returns-clause-no_files g c = λ seed names asks.
    let none = no_names seed names (has_its_files c.args.words.now _ asks) in
    let command = asks ∙ ap (λ ns. Some (record { kind = kinds.Generation seed; files = ns })) none in
    unasked _ _ _ _ _ _ _ _ _ c.args.shelf.now c.answer.new.shelf (kinds.Generation seed) c.answer.result
    (subst (λ o. Ends g.K.Sink.written g.K.Sink.faults (LeadsBySome g.K.Sink.leads) c.args.out.now c.answer.new.out (g.F.Shelf.faults c.args.shelf.now) (g.F.Shelf.faults c.answer.new.shelf) (AnswersOver (g.F.Shelf.files c.args.shelf.now) (Came g.F.Shelf.leads c.args.shelf.now c.answer.new.shelf) o) c.answer.result) command c.answer.ensures.ends)
    (subst (λ o. AsksBy g.F.Shelf.leads c.args.shelf.now c.answer.new.shelf o c.answer.result) command c.answer.ensures.asks)

pub returns-clause-usage : goal.returns-clause-usage
returns-clause-usage g c = usage _ _ _ _ _ _ _ _ _ _ _ c.answer.ensures.ends

pub returns-clause-refused : goal.returns-clause-refused
returns-clause-refused g c = refused _ _ _ _ _ _ _ _ _ _ _ c.answer.ensures.ends

pub returns-clause-complete : goal.returns-clause-complete
returns-clause-complete g c = complete _ _ _ _ _ _ _ _ _ _ _ c.answer.ensures.ends

pub returns-clause-answered : goal.returns-clause-answered
returns-clause-answered g c = answered _ _ _ _ _ _ _ _ _ c.answer.ensures.ends

pub returns-clause-front : goal.returns-clause-front
returns-clause-front g c = front _ _ _ _ _ _ _ _ _ _ _ c.answer.ensures.ends

pub returns-clause-cut : goal.returns-clause-cut
returns-clause-cut g c = cut _ _ _ _ _ _ _ _ _ c.answer.ensures.ends

pub returns-clause-failed_call : goal.returns-clause-failed_call
returns-clause-failed_call g c = λ is.
    subst (λ s. AsksBy g.F.Shelf.leads c.args.shelf.now c.answer.new.shelf (command_of c.args.words.now) s) is c.answer.ensures.asks

pub returns-clause-no_failed_call : goal.returns-clause-no_failed_call
returns-clause-no_failed_call g c = λ is.
    subst (λ s. AsksBy g.F.Shelf.leads c.args.shelf.now c.answer.new.shelf (command_of c.args.words.now) s) is c.answer.ensures.asks
