use Rattle.std.proofs.Common.{◌≡◌, ◌∙◌, ℕ, ◌+◌, ◌<◌, [], ◌∷◌, Some, ap, arith, drop, length, length-append, length-drop, sym}
use Rattle.unit_code.specs.Beside.{form_words, starts_from}
use Rattle.harbor_spell.proofs.Starts.{form_words-some}
use Rattle.harbor_verify.specs.Walks.{allowed_first, allowed_forms, form_first}
use Rattle.harbor_verify.proofs.Decoded.{small_behind}
use Rattle.harbor_verify.proofs.Partings.{allowed_is, begins_form}
use Rattle.harbor_verify.proofs.Walking.{gap_here, none_left, stand_end, stand_on, told_end, told_on}
use Rattle.harbor_verify.proofs.walks.note_starts.Goals as goal

pub returns-then-next-end-clause-gap : goal.returns-then-next-end-clause-gap
returns-then-next-end-clause-gap c =
    sym (stand_end c.args.sealed c.args.code.now c.loop.next c.len-end.ensures.words c.loop.invariant.read (omega (arith, c.if-next-end.true, c.loop.invariant.end_is)))

pub returns-then-next-end-clause-starts : goal.returns-then-next-end-clause-starts
returns-then-next-end-clause-starts c =
    told_end c.args.sealed c.args.code.now c.loop.next c.len-end.ensures.words c.loop.invariant.read c.loop.starts (omega (arith, c.if-next-end.true, c.loop.invariant.end_is)) c.loop.invariant.told

pub returns-in_default-clause-gap : goal.returns-in_default-clause-gap
returns-in_default-clause-gap c =
    let inside : c.loop.next < length c.args.code.now = omega (arith, c.if-next-end.false, c.loop.invariant.end_is, c.loop.invariant.inside) in
    sym (gap_here c.args.sealed c.args.code.now c.loop.next c.len-end.ensures.words c.loop.invariant.read inside (sym c.allowed_at.ensures ∙ none_left c.allowed_at.result c.in_default.not-Some))

pub loop-preserved : goal.loop-preserved
loop-preserved c =
    let words = c.args.code.now in
    let next = c.loop.next in
    let small = c.len-end.ensures.words in
    let read = c.loop.invariant.read in
    let form = c.in-Some.form in
    let behind : ℕ = next + c.from-next.result in
    let there : allowed_first c.args.sealed (drop next words) ≡ Some form = sym c.allowed_at.ensures ∙ c.in-Some.is in
    let is = begins_form (drop next words) form (small_behind next words small) (allowed_is c.args.sealed (form_first (drop next words)) form there).0 in
    let at : behind ≡ next + form_words form = ap (λ n. next + n) (c.from-next.ensures ∙ c.words_of.ensures.words) in
    let some = form_words-some form is.kind in
    let grown = ap length c.push.ensures in
    record {
      end_is = c.loop.invariant.end_is;
      inside = omega (arith, at, is.within, length-drop next words, c.loop.invariant.inside, some);
      turns = omega (arith, at, some, c.loop.invariant.turns);
      few = omega (arith, grown, length-append c.loop.starts (next ∷ []), c.loop.invariant.few);
      read = stand_on c.args.sealed words next small read form behind there at;
      told = told_on c.args.sealed words next small read form behind c.loop.starts c.push.new.self (starts_from 0 (allowed_forms c.args.sealed words)) there at c.push.ensures c.loop.invariant.told;
    }

pub returns-clause-gap : goal.returns-clause-gap
returns-clause-gap c =
    let all : c.loop.next ≡ length c.args.code.now = omega (arith, c.loop-test.false, c.loop.invariant.turns, c.loop.invariant.inside, c.loop.invariant.end_is) in
    sym (stand_end c.args.sealed c.args.code.now c.loop.next c.len-end.ensures.words c.loop.invariant.read all)

pub returns-clause-starts : goal.returns-clause-starts
returns-clause-starts c =
    let all : c.loop.next ≡ length c.args.code.now = omega (arith, c.loop-test.false, c.loop.invariant.turns, c.loop.invariant.inside, c.loop.invariant.end_is) in
    told_end c.args.sealed c.args.code.now c.loop.next c.len-end.ensures.words c.loop.invariant.read c.loop.starts all c.loop.invariant.told
