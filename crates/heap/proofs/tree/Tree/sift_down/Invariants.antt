use Rattle.std.proofs.Common.{◌≡◌, ◌-◌}
use Rattle.heap.specs.Cells.{rank}
use Rattle.heap.specs.Order.{Linked, Sinking}
use Rattle.heap.specs.Contents.{waits}
use Rattle.heap.proofs.tree.Tree.sift_down.Given as goal

abbrev pub invariant-loop-child : goal.invariant-loop-child
invariant-loop-child l = record {
  len : l.self.count ≡ l.initial.self.count;
  same : waits l.self ≡ waits l.initial.self;
  keeps : Linked l.initial.self.cells.now l.initial.self.count
      → Sinking (rank l.initial.self.cells.now) l.initial.self.count l.initial.at
      → Linked l.self.cells.now l.self.count × Sinking (rank l.self.cells.now) l.self.count l.at;
}

abbrev pub decreases-loop-child : goal.decreases-loop-child
decreases-loop-child l = l.self.count - l.at
