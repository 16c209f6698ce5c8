use Rattle.std.proofs.Common.{ap, arith}
use Rattle.model.specs.State.{is_open}
use Rattle.job.proofs.Counts.{settled_most, few_pairs}
use Rattle.job.proofs.state.Job.spread_drawn.Goals as goal

pub overflow_add-self : goal.overflow_add-self
overflow_add-self g c =
    let j = c.args.self.now in
    let o = j.opened (ap is_open c.requires) in
    omega (
      arith,
      j.left c.args.from c.args.to c.requires,
      j.table.counted,
      settled_most j.table.pairs.items,
      j.table.pairs.ok,
      o.0,
      few_pairs j.hall.points j.hall.sized.0,
      c.spread.ensures.bound,
      j.hall.sized,
    )
