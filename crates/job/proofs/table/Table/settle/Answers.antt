use Rattle.std.proofs.Common.{arith}
use Rattle.job.proofs.Counts.{settled_most}
use Rattle.job.proofs.table.Table.settle.Goals as goal

pub overflow_add-self : goal.overflow_add-self
overflow_add-self c = let t = c.args.self.now in omega (arith, settled_most t.pairs.items, t.pairs.ok, t.pairs.small, t.counted)
