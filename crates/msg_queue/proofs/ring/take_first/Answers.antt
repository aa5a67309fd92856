-- Each step takes the front or puts it back at the end, and the last one leaves the whole walk.
use Rattle.std.proofs.Common.{◌≡◌, ◌<◌, not, true, false, [], ◌∷◌, ◌++◌, length, drop, slice_get, find, is_some, Some, None, ◌∙◌, ap, sym, subst, arith, length-drop, length-append}
use Rattle.std.proofs.lemmas.Bool.{false≢true}
use Rattle.circular_buffer.specs.Buffer.{buffer}
use Rattle.mote_base.specs.Messages.{names}
use Rattle.msg_queue.proofs.Taken.{is_some-find, none-of, front-length}
use Rattle.msg_queue.proofs.Round.{Round, round_takes, round_leaves, round_end}
use Rattle.msg_queue.proofs.ring.take_first.Goals.{then-is_none+then-has_id, else-is_none, else-is_none-via-then-is_none+else-has_id, else-is_none-via-else-is_none}
use Rattle.msg_queue.proofs.ring.take_first.Goals as goal

pub loop-preserved : goal.loop-preserved
loop-preserved g c =
    let test = names {P = g.row.P.Denot} c.args.id in
    let all = c.args.queue.now.items in
    let items = c.loop.queue.items in
    let m = c.in-Some.m in
    let round = c.loop.invariant.2 in
    let more : c.loop.counter < length all = omega (arith, c.loop-test.true, c.len-end.ensures.len) in
    let front : slice_get items 0 ≡ Some m = sym c.pop_front.ensures.value ∙ c.in-Some.is in
    let popped : c.pop_front.new.self ≡ buffer (drop 1 items) c.loop.queue.capacity = c.pop_front.ensures.items in
    elim c.if-is_none.branch [
      | then-is_none+then-has_id w ↦
          let none : c.loop.taken ≡ None = none-of c.loop.taken (c.is_none.ensures ∙ ap not w.if-is_none.true) in
          let passes : test m ≡ true = sym w.has_id.ensures ∙ w.if-has_id.true in
          let round' = subst (λ taken. Round test all c.loop.counter items taken) none round in
          let next = round_takes test all c.loop.counter items m round' more front passes in
          rw w.taken-is (rw (w.queue-is ∙ popped) (c.loop.invariant.0, omega (arith, length-drop 1 items, c.loop.invariant.1), next, c.loop.invariant.3))
      | else-is_none w ↦
          let fails : is_some c.loop.taken ≡ false → test m ≡ false = elim w.else-is_none.branch [
            | else-is_none-via-then-is_none+else-has_id v ↦ λ _. sym v.has_id.ensures ∙ v.if-has_id.false
            | else-is_none-via-else-is_none v ↦ λ none. absurd (false≢true (sym none ∙ c.is_none.ensures ∙ ap not v.if-is_none.false))
          ] in
          let next = round_leaves test all c.loop.counter items c.loop.taken m round more front fails in
          let put : c.if-is_none.queue ≡ buffer (drop 1 items ++ m ∷ []) c.loop.queue.capacity = w.queue-is ∙ w.put_back.ensures ∙ ap (λ b. buffer (b.items ++ m ∷ []) b.capacity) popped in
          rw w.taken-is (rw put (c.loop.invariant.0, omega (arith, length-append (drop 1 items) (m ∷ []), length-drop 1 items, front-length m items front, c.loop.invariant.1), next, c.loop.invariant.3))
    ]

pub returns-clause-found : goal.returns-clause-found
returns-clause-found g c =
    let test = names {P = g.row.P.Denot} c.args.id in
    let all = c.args.queue.now.items in
    let last : c.loop.counter ≡ length all = omega (arith, c.loop-test.false, c.loop.auto.counter-end, c.loop.invariant.3) in
    let walk = subst (λ steps. Round test all steps c.loop.queue.items c.loop.taken) last c.loop.invariant.2 in
    let found : c.loop.taken ≡ find test all = (round_end test all c.loop.queue.items c.loop.taken walk).0 in
    ap is_some found ∙ is_some-find test all
