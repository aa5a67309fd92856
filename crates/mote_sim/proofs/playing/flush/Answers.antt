use Rattle.std.proofs.Common.{◌≡◌, ◌∙◌, ◌<◌, ℕ, zero, suc, false, nat_eq, List, length, arith, sym, subst}
use Rattle.mote_base.specs.Written.{Puts}
use Rattle.mote_base.proofs.Puts.{puts_one}
use Rattle.mote_sim.specs.Pieces.{LeadsBySome}
use Rattle.mote_sim.proofs.playing.flush.Goals as goal

some : (n : ℕ) → nat_eq n 0 ≡ false → 0 < n
some zero is = absurd (cc)
some (suc n) is = omega arith

pub returns : goal.returns
returns g c =
    let d = c.put.ensures in
    let same = c.as_slice.ensures.value in
    let full : 0 < length c.args.gathered.now.items = some _ (sym c.is_empty.ensures ∙ c.if-is_empty.false) in
    subst (λ t. Puts g.K.Sink.written g.K.Sink.faults (LeadsBySome g.K.Sink.leads) c.args.out.now c.put.new.self t c.put.result) same
    (puts_one d.ok d.partly d.cause (subst (λ (t : List ℕ). 0 < length t) (sym same) full, d.leads))
