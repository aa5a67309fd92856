-- From leaves of taken blocks a tree is made, and then the blocks of the heap are freed in it.
use Rattle.std.proofs.Common.{ℕ, Bool, false, List, sym, subst, arith}
use Rattle.sos_heap.specs.declared.runs.Runs.{Runs}
use Rattle.sos_heap.specs.Tree.{IsTree}
use Rattle.sos_heap.proofs.Mends.{blank_tree}
use Rattle.sos_heap.proofs.Holes.{index_none}
use Rattle.sos_heap.proofs.blocks.Blocks.new.Goals as goal

pub invariant_of-result : goal.invariant_of-result
invariant_of-result c =
    let taken : ℕ → Bool = λ _. false in
    let joined : IsTree taken c.mend.new.nodes 0 0 = c.mend.ensures.tree taken (blank_tree _ c.in_ok-nodes.nodes.value c.deref_mut.ensures.value c.in_ok-nodes.ensures.ok) in
    let again : IsTree taken _ 0 0 = subst (λ (ns : List Runs). IsTree taken ns 0 0) (sym c.deref_mut-2.ensures.value) joined in
    index_none c.in_ok-map.map c.set_blocks.new.nodes _ c.in_ok-map.ensures (omega (arith, c.from.ensures)) (c.set_blocks.ensures.tree taken again)
