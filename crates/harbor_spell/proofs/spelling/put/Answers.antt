use Rattle.std.proofs.Common.{◌≡◌, ◌∙◌, ◌++◌, [], ◌∷◌, Option, Some, None, length, append_assoc, refl, ap, subst, arith, length-append, lit<}
use Rattle.avr_isa.specs.Table.{word_count}
use Rattle.avr_isa.proofs.TableLaws.{decoded_length}
use Rattle.unit_code.specs.Beside.{AreWordsOf}
use Rattle.harbor_spell.proofs.Added.{encoded, second_words}
use Rattle.harbor_spell.proofs.spelling.put.Goals as goal

pub push-requires-in-Some : goal.push-requires-in-Some
push-requires-in-Some c =
    let pair = c.encode-first.result in
    let count = decoded_length pair.0 pair.1 c.args.instruction.now (word_count pair.1) c.encode-first.ensures.decodes in
    (lit< tt, omega (arith, ap word_count c.in-Some.is, count, ap length c.push.ensures.items, length-append c.args.out.now.items (pair.0 ∷ []), c.requires.room))

pub returns-in-Some : goal.returns-in-Some
returns-in-Some c =
    let pair = c.encode-first.result in
    let put = c.push-in-Some.ensures.items ∙ ap (λ l. l ++ c.in-Some.second ∷ []) c.push.ensures.items ∙ append_assoc c.args.out.now.items (pair.0 ∷ []) (c.in-Some.second ∷ []) in
    let words = encoded c.args.instruction.now pair.0 pair.1 c.encode-first.ensures.decodes in
    (pair.0 ∷ c.in-Some.second ∷ [], put, subst (λ (o : Option _). AreWordsOf (c.args.instruction.now ∷ []) (pair.0 ∷ second_words o)) c.in-Some.is words)

pub returns-in_default : goal.returns-in_default
returns-in_default c =
    let pair = c.encode-first.result in
    let words = encoded c.args.instruction.now pair.0 pair.1 c.encode-first.ensures.decodes in
    let none : pair.1 ≡ None = elim pair.1 as (λ o. ((w : _) → o ≡ Some w → ⊥) → o ≡ None) [ None ↦ λ not. refl | Some w ↦ λ not. absurd (not w refl) ] c.in_default.not-Some in
    (pair.0 ∷ [], c.push.ensures.items, subst (λ (o : Option _). AreWordsOf (c.args.instruction.now ∷ []) (pair.0 ∷ second_words o)) none words)
