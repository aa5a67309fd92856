-- Each step goes to the half in which the lowest run stands, or ends.
use Rattle.std.proofs.Common.{arith}
use Rattle.sos_heap.proofs.Descents.{none_fits, down_starts, down_left, down_right, down_across, down_block, few_halves}
use Rattle.sos_heap.proofs.tree.lowest.Goals as goal

pub returns-then-nodes-count : goal.returns-then-nodes-count
returns-then-nodes-count c = none_fits c.args.nodes.now c.args.count c.requires.tree c.if-nodes-count.true

pub loop-node-init : goal.loop-node-init
loop-node-init c = down_starts c.args.nodes.now c.args.count c.requires.tree c.if-nodes-count.false

pub loop-node-preserved-then-count-left : goal.loop-node-preserved-then-count-left
loop-node-preserved-then-count-left c = down_left c.args.nodes.now c.args.count c.loop-node.node c.loop-node.low c.loop-node.invariant c.loop-node-test.true c.if-count-left.true

pub overflow_add-left : goal.overflow_add-left
overflow_add-left c =
    let few = few_halves c.args.nodes.now c.args.count c.loop-node.node c.loop-node.low c.loop-node.invariant c.loop-node-test.true in
    omega (arith, few.across)

pub overflow_add-result : goal.overflow_add-result
overflow_add-result c =
    let few = few_halves c.args.nodes.now c.args.count c.loop-node.node c.loop-node.low c.loop-node.invariant c.loop-node-test.true in
    omega (arith, few.to)

pub overflow_sub-result : goal.overflow_sub-result
overflow_sub-result c =
    let few = few_halves c.args.nodes.now c.args.count c.loop-node.node c.loop-node.low c.loop-node.invariant c.loop-node-test.true in
    omega (arith, few.right)

pub returns-then-count-left-2 : goal.returns-then-count-left-2
returns-then-count-left-2 c =
    let few = few_halves c.args.nodes.now c.args.count c.loop-node.node c.loop-node.low c.loop-node.invariant c.loop-node-test.true in
    down_across c.args.nodes.now c.args.count c.loop-node.node c.loop-node.low _ c.loop-node.invariant c.loop-node-test.true c.if-count-left.false c.if-count-left-2.true (omega (arith, few.right))

pub overflow_add-low : goal.overflow_add-low
overflow_add-low c =
    let few = few_halves c.args.nodes.now c.args.count c.loop-node.node c.loop-node.low c.loop-node.invariant c.loop-node-test.true in
    omega (arith, few.to)

pub loop-node-preserved : goal.loop-node-preserved
loop-node-preserved c = down_right c.args.nodes.now c.args.count c.loop-node.node c.loop-node.low c.loop-node.invariant c.loop-node-test.true c.if-count-left.false c.if-count-left-2.false

pub returns : goal.returns
returns c = down_block c.args.nodes.now c.args.count c.loop-node.node c.loop-node.low c.loop-node.invariant c.loop-node-test.false c.requires.some
