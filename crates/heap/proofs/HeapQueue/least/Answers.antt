use Rattle.heap.proofs.Sounds.{root_is}
use Rattle.heap.proofs.HeapQueue.least.Goals as goal

pub returns-clause-cases : goal.returns-clause-cases
returns-clause-cases c s = rw c.root.ensures (root_is c.args.self.now.tree c.args.self.now.agrees.tree c.args.self.now.floor)
