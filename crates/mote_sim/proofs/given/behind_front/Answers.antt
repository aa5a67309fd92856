use Rattle.std.specs.Cmp.{unsigned_Decides}
use Rattle.std.proofs.lemmas.Slice.Eq.{strip_prefix_is}
use Rattle.mote_sim.proofs.Fronts.{front_found}
use Rattle.mote_sim.proofs.given.behind_front.Goals as goal

pub returns : goal.returns
returns c =
    front_found c.args.front.now c.args.word.now c.strip_prefix.result
    (rw (← c.text.ensures, ← c.as_bytes.ensures.value) (strip_prefix_is unsigned_Decides c.as_bytes.result.now c.args.front.now c.strip_prefix.result c.strip_prefix.ensures.cases))
