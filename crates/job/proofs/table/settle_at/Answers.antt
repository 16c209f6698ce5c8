use Rattle.job.proofs.Settling.{one_waits_less, one_settled_more}
use Rattle.job.proofs.table.settle_at.Goals as goal

pub returns-clause-len : goal.returns-clause-len
returns-clause-len c =
    let ps = c.args.pairs.now in
    let e = c.args.entry in
    let last = c.last-last.result in
    (one_waits_less ps e c.requires e.key last, one_settled_more ps e c.requires e.key last)
