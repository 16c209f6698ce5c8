use Rattle.std.proofs.Common.{ap, ◌∙◌, arith}
use Rattle.heap.specs.Cells.{keys, swapped}
use Rattle.heap.proofs.Rows.{swapped_keys}
use Rattle.heap.proofs.Sifts.{up_ends, up_again}
use Rattle.heap.proofs.tree.Tree.sift_up.Goals as goal

pub returns-then-rank-clause-keeps : goal.returns-then-rank-clause-keeps
returns-then-rank-clause-keeps c l u =
    let v = c.loop-above.invariant.keeps l u in
    let e = c.in-Some.ensures.1 in
    up_ends c.loop-above.self.cells.now c.loop-above.self.count c.loop-above.at v.0 v.1
    (λ h. simp (← e) (omega arith))

pub loop-above-preserved : goal.loop-above-preserved
loop-above-preserved c = record {
  len = c.loop-above.invariant.len;
  same = ap keys c.swap.ensures ∙ swapped_keys c.loop-above.self.cells.now c.loop-above.at _ ∙ c.loop-above.invariant.same;
  keeps = λ l u.
      let v = c.loop-above.invariant.keeps l u in
      let e = c.in-Some.ensures.1 in
      let low = rw e at c.rank.ensures in
      simp e
      (up_again c.loop-above.self.cells.now c.loop-above.self.count c.loop-above.at v.0 _
      (c.swap.ensures ∙ ap (swapped c.loop-above.self.cells.now c.loop-above.at) e) v.1 c.in-Some.ensures.0 (omega arith));
}
