use Rattle.std.proofs.Common.{◌≡◌, ◌*◌, ◌≤◌}
use Rattle.queue.specs.Meaning.{capacity}
use Rattle.model.specs.Calls.{start_table, start_queue}
use Rattle.job.proofs.table.start.Given as goal

-- the points so far have entered, and nothing else has
abbrev pub invariant-loop-point : goal.invariant-loop-point
invariant-loop-point g l =
    (l.point ≤ l.points)
    × (l.pairs ≡ start_table l.points l.point)
    × (g.Q.Queue.sound l.fn.queue → g.Q.Queue.sound l.queue)
    × (g.Q.Queue.sound l.fn.queue → l.points * l.points ≤ capacity (g.Q.Queue.meaning l.fn.queue) →
    g.Q.Queue.meaning l.queue ≡ start_queue l.points l.point (g.Q.Queue.meaning l.fn.queue))
