use Rattle.std.proofs.Common.{replicate}
use Rattle.job.proofs.Threads.{bare_replicate, threaded_none}
use Rattle.job.proofs.hall.Hall.clear.Goals as goal

pub invariant_of-self-clause-threaded : goal.invariant_of-self-clause-threaded
invariant_of-self-clause-threaded c =
    threaded_none c.args.points c.args.bound c.clear.new.self.items (replicate 40 c.new.result) c.clear.ensures.items (bare_replicate 40 c.new.result c.new.ensures)
