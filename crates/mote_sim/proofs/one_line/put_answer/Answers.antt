use Rattle.std.proofs.Common.{refl}
use Rattle.mote_base.proofs.Puts.{wrote_one, broke_one}
use Rattle.mote_sim.proofs.Ends.{ends_wrote}
use Rattle.mote_sim.proofs.one_line.put_answer.Goals as goal

pub returns-in-Ok-clause-ends : goal.returns-in-Ok-clause-ends
returns-in-Ok-clause-ends g c =
    let e = c.in-Ok.ensures in
    ends_wrote _ _ _ _ _ _ c.args.line.now c.args.status c.requires.answer (refl, refl) (wrote_one e.ok e.cause.kept (c.requires.some, e.leads))

pub returns-in-Err-clause-ends : goal.returns-in-Err-clause-ends
returns-in-Err-clause-ends g c =
    let e = c.in-Err.ensures in
    record {
      status = c.args.status;
      text = c.args.line.now;
      answer = (refl, refl);
      broke = broke_one e.partly e.cause.later e.cause.failed (c.requires.some, e.leads);
      calm = refl;
    }
