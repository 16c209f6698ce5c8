use Rattle.std.proofs.Common.{◌≡◌, ℕ, ◌++◌, length, drop}
use Rattle.model.specs.State.{followed, route}
use Rattle.job.specs.View.{state_of}
use Rattle.job.proofs.state.Job.write_route.Given as goal

-- what is left of the route goes before what is written
abbrev pub invariant-loop-place : goal.invariant-loop-place
invariant-loop-place l = (m : ℕ)
    × (length (followed (state_of l.self) m l.from l.at) ≡ l.place)
    × (followed (state_of l.self) m l.from l.at ++ drop l.place l.route ≡ route (state_of l.self) l.from l.to)
