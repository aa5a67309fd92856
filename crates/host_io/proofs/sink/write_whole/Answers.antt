use Rattle.std.proofs.Common.{ℕ, List, sym, subst}
use Rattle.std.proofs.lemmas.List.{take_rest}
use Rattle.host_io.proofs.Sent.{IsSent, sent-more}
use Rattle.host_io.proofs.sink.write_whole.Goals as goal

pub loop-rest-preserved : goal.loop-rest-preserved
loop-rest-preserved g c =
    subst (λ (rest : List ℕ). IsSent (g.W.Write.contents c.args.out.now) (g.W.Write.contents c.write_once.new.out) c.args.piece.now rest)
    (sym (take_rest c.loop-rest.rest.now c.in-Ok.count))
    (sent-more _ _ _ _ c.loop-rest.rest.now c.in-Ok.count c.loop-rest.invariant c.in-Ok.ensures.bytes)
