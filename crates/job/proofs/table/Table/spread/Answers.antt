use Rattle.std.proofs.Common.{ap, arith}
use Rattle.model.specs.State.{waiting_in}
use Rattle.job.proofs.Counts.{waiting_most}
use Rattle.job.proofs.table.Table.spread.Goals as goal

pub overflow_add-self : goal.overflow_add-self
overflow_add-self g c =
    let t = c.args.self.now in
    omega (arith, waiting_most c.spread-spread.new.pairs, ap waiting_in c.as_mut_slice.ensures.value, t.pairs.ok, t.pairs.small, t.counted, c.spread-spread.auto.pairs, c.as_mut_slice.ensures.len, c.spread-spread.ensures.value)
