use Rattle.std.proofs.Common.{sym, subst}
use Rattle.job.proofs.Threads.{Bare, bare_replicate, threaded_none}
use Rattle.job.proofs.hall.Hall.new.Goals as goal

pub invariant_of-result-clause-threaded : goal.invariant_of-result-clause-threaded
invariant_of-result-clause-threaded c =
    threaded_none 0 0 c.in_ok-legs.legs.items c.in_ok-leaving.leaving.value c.in_ok-legs.ensures.items
    (subst Bare (sym c.in_ok-leaving.ensures.ok) (bare_replicate 40 c.new.result c.new.ensures))
