use Rattle.std.proofs.Common.{ℕ, ◌+◌, List, refl, sym, ap, subst, ◌∙◌, arith, rules, drop_of_length-le}
use Rattle.std.proofs.lemmas.Grind.{common_steps}
use Rattle.std.proofs.lemmas.List.{map-append}
use Rattle.mote_sim.specs.declared.reading.ReadStop.TheVariants.{Memory}
use Rattle.mote_sim.specs.Reading.{bytes_of}
use Rattle.mote_sim.proofs.Calls.{FilesSoFar, files_err, stopped_at, files_start, files_whole, files_stop, files_break, files_done}
use Rattle.mote_sim.proofs.Gather.{gather_stops}
use Rattle.mote_sim.proofs.reading.read_files.Goals as goal

pub returns-in-Err-clause-gathers : goal.returns-in-Err-clause-gathers
returns-in-Err-clause-gathers g c =
    gather_stops _ (g.F.Shelf.files c.loop-number.shelf) c.args.kind c.args.names.now c.loop-number.number c.at-name.result.now c.limit_of.result (bytes_of c.loop-number.files.items) _ (g.F.Shelf.faults c.loop-number.shelf) _ c.in-Err.stop
    c.loop-number.invariant.files (rw (← c.len-number-end.ensures) c.loop-number-test.true) c.at-name.ensures c.limit_of.ensures c.loop-number.invariant.gathered c.loop-number.invariant.kept c.in-Err.ensures.reads

pub returns-in_err-push-in-Ok-clause-asks : goal.returns-in_err-push-in-Ok-clause-asks
returns-in_err-push-in-Ok-clause-asks g c =
    let whole = files_whole _ _ _ _ c.args.kind c.args.names.now c.loop-number.number (bytes_of c.loop-number.files.items) c.at-name.result.now c.limit_of.result
    c.loop-number.invariant.asks (rw (← c.len-number-end.ensures) c.loop-number-test.true) c.at-name.ensures c.limit_of.ensures c.in-Ok.bytes.items c.in-Ok.ensures.asks in
    files_err _ _ _ _ _ c.from_residual.result Memory c.from_residual.ensures.1 (files_break _ _ _ _ _ _ _ whole)

pub returns-in-Err-clause-asks : goal.returns-in-Err-clause-asks
returns-in-Err-clause-asks g c =
    files_stop _ _ _ _ c.args.kind c.args.names.now c.loop-number.number (bytes_of c.loop-number.files.items) c.at-name.result.now c.limit_of.result
    c.loop-number.invariant.asks (rw (← c.len-number-end.ensures) c.loop-number-test.true) c.at-name.ensures c.limit_of.ensures c.in-Err.stop
    (stopped_at _ _ _ _ _ _ c.in-Err.stop c.in-Err.ensures.reads) c.in-Err.ensures.asks

pub returns-clause-asks : goal.returns-clause-asks
returns-clause-asks g c =
    files_done _ _ _ _ _ _ _ c.loop-number.invariant.asks (drop_of_length-le c.args.names.now (rw (← c.len-number-end.ensures) c.loop-number-test.false))

pub loop-number-init : goal.loop-number-init
loop-number-init g c = record {
  count = first_of (search rules, grind (arith, common_steps));
  names = first_of (search rules, grind (arith, common_steps));
  gathered = first_of (search rules, grind (arith, common_steps));
  kept = refl;
  files = refl;
  asks = rw c.new-files.ensures.items (files_start _ _ _ _);
}

pub loop-number-preserved : goal.loop-number-preserved
loop-number-preserved g c = record {
  count = first_of (search rules, grind (arith, common_steps));
  names = first_of (search rules, grind (arith, common_steps));
  gathered = first_of (search rules, grind (arith, common_steps));
  kept = first_of (search rules, grind (arith, common_steps));
  files = first_of (search rules, grind (arith, common_steps));
  asks =
      let whole = files_whole _ _ _ _ c.args.kind c.args.names.now c.loop-number.number (bytes_of c.loop-number.files.items) c.at-name.result.now c.limit_of.result
      c.loop-number.invariant.asks (rw (← c.len-number-end.ensures) c.loop-number-test.true) c.at-name.ensures c.limit_of.ensures c.in-Ok.bytes.items c.in-Ok.ensures.asks in
      subst (λ (fs : List (List ℕ)). FilesSoFar g.F.Shelf.leads c.args.shelf.now c.read_file.new.shelf c.args.kind c.args.names.now (c.loop-number.number + 1) fs)
      (sym (ap bytes_of c.in_ok-push-in-Ok.ensures.items ∙ map-append _ c.loop-number.files.items _)) whole;
}
