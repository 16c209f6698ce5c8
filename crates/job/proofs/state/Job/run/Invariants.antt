use Rattle.std.proofs.Common.{◌≡◌, true}
use Rattle.queue.specs.Meaning.{Least}
use Rattle.model.specs.Calls.{fits}
use Rattle.job.specs.Parts.{Drawable}
use Rattle.job.specs.View.{state_of}
use Rattle.job.proofs.Units.{Goes}
use Rattle.job.proofs.state.Job.run.Given as goal

-- the next entry is noted; for a sound queue it is the one named, the job is fit, and the units done go on as the rest does
abbrev pub invariant-loop-done : goal.invariant-loop-done
invariant-loop-done g l =
    Drawable (state_of l.self) l.next
    × (g.Q.Queue.sound l.initial.queue → g.Q.Queue.sound l.queue)
    × (g.Q.Queue.sound l.initial.queue → Least (g.Q.Queue.meaning l.initial.queue) l.initial.next
    → fits (state_of l.initial.self) (g.Q.Queue.meaning l.initial.queue) l.initial.next l.reach ≡ true
    → Least (g.Q.Queue.meaning l.queue) l.next × (fits (state_of l.self) (g.Q.Queue.meaning l.queue) l.next l.reach ≡ true)
    × Goes (g.R.Rule.joined l.rule) l.reach l.budget (state_of l.initial.self) (g.Q.Queue.meaning l.initial.queue)
    l.done (state_of l.self) (g.Q.Queue.meaning l.queue))
