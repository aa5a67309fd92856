use Rattle.std.proofs.Common.{◌∙◌, ◌<◌, arith, length, sym}
use Rattle.harbor_verify.proofs.NthForm.{nth}
use Rattle.harbor_verify.proofs.Unfolded.{astray_behind, astray_here, astray_none, unit_or_none}
use Rattle.harbor_verify.proofs.targets.first_astray.Goals as goal

pub returns-in-Err : goal.returns-in-Err
returns-in-Err c =
    let inside : c.loop-n.n < length c.args.starts.now = omega (arith, c.loop-n-test.true) in
    let there = nth c.args.code.now c.args.starts.now c.requires c.loop-n.n inside in
    sym (astray_here c.args.code.now c.args.starts.now c.requires c.loop-n.n there.0 c.in-Err.place there.1.behind (sym (c.unit_or_place.ensures there.0 there.1.behind) ∙ c.in-Err.is))
    ∙ c.loop-n.invariant

pub loop-n-preserved : goal.loop-n-preserved
loop-n-preserved c =
    let inside : c.loop-n.n < length c.args.starts.now = omega (arith, c.loop-n-test.true) in
    let there = nth c.args.code.now c.args.starts.now c.requires c.loop-n.n inside in
    let unit = unit_or_none c.unit_or_place.result c.in_default.not-Err in
    sym (astray_behind c.args.code.now c.args.starts.now c.requires c.loop-n.n there.0 unit.0 there.1.behind (sym (c.unit_or_place.ensures there.0 there.1.behind) ∙ unit.1))
    ∙ c.loop-n.invariant

pub returns : goal.returns
returns c = sym (astray_none c.args.code.now c.args.starts.now c.requires c.loop-n.n (omega (arith, c.loop-n-test.false))) ∙ c.loop-n.invariant
