use Rattle.std.proofs.Common.{◌∙◌, [], ◌++◌, take, refl, sym, ap, arith, true, false, inr, Some}
use Rattle.std.proofs.lemmas.List.{length-take}
use Rattle.mote_sim.specs.declared.reading.ReadStop.TheVariants.{Fault, Memory}
use Rattle.mote_sim.proofs.Calls.{file_more, file_last, file_grown, file_ended, file_err}
use Rattle.mote_sim.proofs.Chunks.{length_more, front_more, all_read, longer, some_taken, none_taken}
use Rattle.mote_sim.proofs.reading.read_file.Goals as goal

pub returns-then-count-eq0-clause-reads : goal.returns-then-count-eq0-clause-reads
returns-then-count-eq0-clause-reads g c =
    let i = c.chunks.invariant in
    record {
      held = i.held;
      all = λ b tells. all_read b c.chunks.bytes.items (i.front b tells) ((c.in_ok-count.ensures.bytes _ (i.place b tells)).ends c.if-count-eq0.true (omega arith));
      fits = omega arith;
      kept = c.in_ok-count.ensures.cause.kept ∙ i.kept;
    }

pub returns-then-count-limit-clause-reads : goal.returns-then-count-limit-clause-reads
returns-then-count-limit-clause-reads g c =
    let i = c.chunks.invariant in (
      refl,
      record {
        held = i.held;
        more = λ b tells. longer b c.chunks.bytes.items c.args.limit c.in_ok-count.count (omega arith)
            (c.in_ok-count.ensures.bytes _ (i.place b tells)).inside (omega arith);
        kept = c.in_ok-count.ensures.cause.kept ∙ i.kept;
      },
    )

pub chunks-preserved : goal.chunks-preserved
chunks-preserved g c =
    let i = c.chunks.invariant in
    record {
      chosen = c.in_ok-count.ensures.chosen;
      held = i.held;
      place = λ b tells. (c.in_ok-count.ensures.bytes _ (i.place b tells)).place
          ∙ ap (λ k. Some (record { file = b; at = k })) (sym (length_more b c.chunks.bytes.items c.read.new.buf c.extend_from_slice.new.self.items c.in_ok-count.count
          (c.in_ok-count.ensures.bytes _ (i.place b tells)).bytes (c.in_ok-count.ensures.bytes _ (i.place b tells)).inside c.in_ok-extend_from_slice.ensures.items));
      front = λ b tells. front_more b c.chunks.bytes.items c.read.new.buf c.extend_from_slice.new.self.items c.in_ok-count.count (i.front b tells)
          (c.in_ok-count.ensures.bytes _ (i.place b tells)).bytes (c.in_ok-count.ensures.bytes _ (i.place b tells)).inside c.in_ok-extend_from_slice.ensures.items;
      fits = omega (arith, c.in_ok-extend_from_slice.ensures.len, length-take c.in_ok-count.count c.read.new.buf);
      kept = c.in_ok-count.ensures.cause.kept ∙ i.kept;
      files = c.in_ok-count.ensures.files ∙ i.files;
      names = c.in_ok-count.ensures.names ∙ i.names;
      asks =
          file_grown g.F.Shelf.leads c.args.shelf.now c.chunks.shelf c.read.new.self c.args.name.now c.args.limit c.chunks.bytes.items
          (take c.in_ok-count.count c.read.new.buf) c.extend_from_slice.new.self.items i.asks c.in_ok-count.ensures.leads
          (some_taken c.in_ok-count.count c.read.new.buf (omega arith) c.in_ok-count.ensures.bound)
          (omega (arith, length-take c.in_ok-count.count c.read.new.buf)) c.in_ok-extend_from_slice.ensures.items;
    }

pub returns-then-count-eq0-clause-asks : goal.returns-then-count-eq0-clause-asks
returns-then-count-eq0-clause-asks g c =
    file_ended g.F.Shelf.leads c.args.shelf.now c.chunks.shelf c.read.new.self c.args.name.now c.args.limit c.chunks.bytes.items
    (take c.in_ok-count.count c.read.new.buf) c.chunks.invariant.asks c.in_ok-count.ensures.leads
    (none_taken c.in_ok-count.count c.read.new.buf c.if-count-eq0.true)

pub returns-then-count-limit-clause-asks : goal.returns-then-count-limit-clause-asks
returns-then-count-limit-clause-asks g c = (
  c.chunks.bytes.items,
  take c.in_ok-count.count c.read.new.buf,
  file_last g.F.Shelf.leads c.args.shelf.now c.chunks.shelf c.read.new.self c.args.name.now c.args.limit c.chunks.bytes.items
      (take c.in_ok-count.count c.read.new.buf) true c.chunks.invariant.asks c.in_ok-count.ensures.leads,
  omega (arith, length-take c.in_ok-count.count c.read.new.buf, c.in_ok-count.ensures.bound),
)

pub returns-in_err-count-clause-asks : goal.returns-in_err-count-clause-asks
returns-in_err-count-clause-asks g c =
    file_err _ _ _ _ _ c.from_residual-in_err-count.result Fault c.from_residual-in_err-count.ensures.1
    (inr (
      c.chunks.bytes.items,
      file_last g.F.Shelf.leads c.args.shelf.now c.chunks.shelf c.read.new.self c.args.name.now c.args.limit c.chunks.bytes.items [] false
          c.chunks.invariant.asks c.in_err-count.ensures.leads,
    ))

pub returns-in_err-extend_from_slice-clause-asks : goal.returns-in_err-extend_from_slice-clause-asks
returns-in_err-extend_from_slice-clause-asks g c =
    let piece = take c.in_ok-count.count c.read.new.buf in
    file_err _ _ _ _ _ c.from_residual-in_err-extend_from_slice.result Memory c.from_residual-in_err-extend_from_slice.ensures.1 (
      c.chunks.bytes.items ++ piece,
      file_more g.F.Shelf.leads c.args.shelf.now c.chunks.shelf c.read.new.self c.args.name.now c.args.limit c.chunks.bytes.items piece c.chunks.invariant.asks c.in_ok-count.ensures.leads
          (some_taken c.in_ok-count.count c.read.new.buf (omega arith) c.in_ok-count.ensures.bound)
          (omega (arith, length-take c.in_ok-count.count c.read.new.buf)),
    )
