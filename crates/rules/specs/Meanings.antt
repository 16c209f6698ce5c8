-- What each joining rule means.
--   running_time    each leg takes its cost and a dwell
--   running_reach   the most that it adds
--   worst_leg       a walk is as bad as its worst leg
--   worst_reach     the most that it adds
--   Admits          which dwells a running time is made with
use Rattle.std.specs.Prelude.{◌≡◌, ℕ, ◌+◌, ◌<◌, ◌≤◌, max, Ok, Err, Result}
use Rattle.figures.specs.Limits.{dwell_limit}
use Rattle.figures.specs.declared.OutOfRange.{OutOfRange}

-- with dwell d, value v and cost k
abbrev pub running_time : ℕ → ℕ → ℕ → ℕ
running_time d v k = v + k + d

abbrev pub running_reach : ℕ → ℕ → ℕ
running_reach d b = b + d

abbrev pub worst_leg : ℕ → ℕ → ℕ
worst_leg v k = max v k

abbrev pub worst_reach : ℕ → ℕ
worst_reach b = b

-- a dwell up to its limit is taken as it is, any other is refused
abbrev pub Admits : {T : Type 0} → (T → ℕ) → ℕ → Result T OutOfRange → Type 0
Admits dwell_of d (Ok t) = (dwell_of t ≡ d) × (d ≤ dwell_limit)
Admits dwell_of d (Err e) = dwell_limit < d
