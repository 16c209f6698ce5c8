use Rattle.std.proofs.Common.{ap, ◌∙◌, arith}
use Rattle.heap.specs.Cells.{keys}
use Rattle.heap.proofs.Rows.{swapped_keys}
use Rattle.heap.proofs.Sifts.{down_ends, down_again}
use Rattle.heap.proofs.tree.Tree.sift_down.Goals as goal

pub returns-then-rank-clause-keeps : goal.returns-then-rank-clause-keeps
returns-then-rank-clause-keeps c l u =
    let v = c.loop-child.invariant.keeps l u in
    down_ends c.loop-child.self.cells.now c.loop-child.self.count c.loop-child.at v.0 v.1
    (λ d pos h e. omega (arith, c.in-Some.ensures.some.least d pos h e))

pub loop-child-preserved : goal.loop-child-preserved
loop-child-preserved c = record {
  len = c.loop-child.invariant.len;
  same = ap keys c.swap.ensures ∙ swapped_keys c.loop-child.self.cells.now c.loop-child.at _ ∙ c.loop-child.invariant.same;
  keeps = λ l u.
      let v = c.loop-child.invariant.keeps l u in
      down_again c.loop-child.self.cells.now c.loop-child.self.count c.loop-child.at v.0 _ _ c.swap.ensures v.1 c.in-Some.ensures.some (omega arith);
}
