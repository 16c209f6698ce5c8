use Rattle.std.proofs.Common.{◌≡◌, ℕ, ◌+◌, ◌-◌, List, length, vec_items}
use Rattle.chains.specs.Threads.{Chained}
use Rattle.model.specs.State.{settled_in, waiting_in, leaving}
use Rattle.model.specs.Calls.{tries}
use Rattle.job.specs.Legs.{nexts}
use Rattle.job.specs.Parts.{desk}
use Rattle.job.specs.View.{hall_in}
use Rattle.job.proofs.hall.Hall.spread.Given as goal

-- the legs that are left give the same end
abbrev pub invariant-loop-next : goal.invariant-loop-next
invariant-loop-next g l = (rest : List ℕ)
    × Chained (nexts (vec_items l.self.legs)) l.next rest
    × (l.tried + length rest ≡ length (leaving (hall_in l.self) l.far))
    × (waiting_in l.pairs ≡ waiting_in l.initial.pairs + l.fresh)
    × (settled_in l.pairs ≡ settled_in l.initial.pairs)
    × (g.Q.Queue.sound l.initial.queue → g.Q.Queue.sound l.queue)
    × (g.Q.Queue.sound l.initial.queue →
    tries (g.R.Rule.joined l.rule) (hall_in l.self) l.from l.value rest (desk l.pairs (g.Q.Queue.meaning l.queue))
    ≡ tries (g.R.Rule.joined l.rule) (hall_in l.self) l.from l.value (leaving (hall_in l.self) l.far)
    (desk l.initial.pairs (g.Q.Queue.meaning l.initial.queue)))

abbrev pub decreases-loop-next : goal.decreases-loop-next
decreases-loop-next g l = length (leaving (hall_in l.self) l.far) - l.tried
