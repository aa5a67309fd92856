use Rattle.std.proofs.Common.{◌∙◌, sym, length}
use Rattle.mote_layout.specs.Requests.{payload_for, served}
use Rattle.domain_model.specs.State.{Loaded}
use Rattle.kernel_call.proofs.Keeping.{free_keeps_none}
use Rattle.kernel_call.proofs.Placing.{place_kept}
use Rattle.kernel_call.proofs.Sounds.{sound_more}
use Rattle.kernel_call.proofs.kernel.Kernel.admit.Goals as goal

pub place-requires-clause-free : goal.place-requires-clause-free
place-requires-clause-free c =
    free_keeps_none c.self.inside.modules c.self.inside.mail.kept c.in-Some.domain c.self.invariant.constants c.in-Some.ensures.free

pub invariant_of-self-2 : goal.invariant_of-self-2
invariant_of-self-2 c =
    let mail = c.self.inside.mail in
    let domain = c.in-Some.domain in
    let count = length c.args.constants.now in
    let at = c.in-Some-place.place in
    let row : Loaded = record {
      face = c.copied.result;
      domain = domain;
      state = at.state;
      constants = at.constants;
      handler = c.args.handler;
      entries = c.numbers.result.items;
      sealed = c.args.sealed;
    } in
    rw (c.in-Some-place.ensures.placed, c.add.ensures)
    (sound_more c.self.inside.clock c.self.inside.running c.self.inside.frames mail.hand c.self.inside.ending c.self.inside.modules mail.queues mail.kept c.self.inside.timers c.self.invariant row
    (payload_for (served domain c.args.state_size mail.blocks) count) c.in-Some.ensures.free (rw c.place.ensures.domains c.in-Some.ensures.there)
    (place_kept mail.blocks domain c.args.state_size count at (sym c.in-Some-place.is ∙ c.place.ensures.place)))
