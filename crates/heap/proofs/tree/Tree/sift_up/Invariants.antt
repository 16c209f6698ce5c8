use Rattle.std.proofs.Common.{◌≡◌}
use Rattle.heap.specs.Cells.{rank}
use Rattle.heap.specs.Order.{Linked, Rising}
use Rattle.heap.specs.Contents.{waits}
use Rattle.heap.proofs.tree.Tree.sift_up.Given as goal

abbrev pub invariant-loop-above : goal.invariant-loop-above
invariant-loop-above l = record {
  len : l.self.count ≡ l.initial.self.count;
  same : waits l.self ≡ waits l.initial.self;
  keeps : Linked l.initial.self.cells.now l.initial.self.count
      → Rising (rank l.initial.self.cells.now) l.initial.self.count l.initial.at
      → Linked l.self.cells.now l.self.count × Rising (rank l.self.cells.now) l.self.count l.at;
}

abbrev pub decreases-loop-above : goal.decreases-loop-above
decreases-loop-above l = l.at
