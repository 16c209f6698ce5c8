-- What holds of a job, its hall and its table between calls.
--   Roomy     there is room for as many legs, or pairs, as may be
--   Sized     points, bound and legs keep their limits
--   Within    every leg runs between points, and none costs more than the bound
--   Threaded  the chain of each point holds the legs that leave it, the latest laid first
--   Counted   how many pairs are settled, and how many wait
--   Shut      a job that is not open keeps no pair
--   Unopened  nor what it was opened with
--   Peopled   a hall has a point
--   Open      an open job has a pair of each two points; and how many legs it tried at most
--   Ends      the pair whose docket is out lies in the hall
--   Left      its legs are still to try
use Rattle.std.specs.Prelude.{◌≡◌, ℕ, ◌+◌, ◌*◌, ◌<◌, ◌≤◌, Bool, true, false, List, length}
use Rattle.figures.specs.Limits.{cost_limit, value_limit}
use Rattle.chains.specs.declared.Chain.{Chain}
use Rattle.chains.specs.Threads.{Chained}
use Rattle.walks.specs.Hall.{leg}
use Rattle.model.specs.declared.Opening.{Opening}
use Rattle.model.specs.declared.Pair.{Pair}
use Rattle.model.specs.declared.Phase.{Phase}
use Rattle.model.specs.declared.Phase.TheVariants.{Blank, Laying, Resting, Drawn}
use Rattle.model.specs.State.{is_open, settled_in, waiting_in, leaving}
use Rattle.model.specs.Calls.{point_limit, leg_limit}
use Rattle.job.specs.declared.leg.Leg.{Leg}
use Rattle.job.specs.Legs.{hall_of, nexts, first_of}

abbrev pub Roomy : ℕ → Type 0
Roomy room = leg_limit ≤ room

abbrev pub Sized : ℕ → ℕ → ℕ → Type 0
Sized points bound legs = (points ≤ point_limit) × (bound ≤ cost_limit) × (legs ≤ leg_limit)

abbrev pub Within : ℕ → ℕ → List Leg → Type 0
Within points bound legs = (i : ℕ) → i < length legs →
    ((leg (hall_of points bound legs) i).from < points) × ((leg (hall_of points bound legs) i).to < points)
    × ((leg (hall_of points bound legs) i).cost ≤ bound)

abbrev pub Threaded : ℕ → ℕ → List Leg → List Chain → Type 0
Threaded points bound legs chains =
    (v : ℕ) → ∥ Chained (nexts legs) (first_of chains v) (leaving (hall_of points bound legs) v) ∥₁

abbrev pub Counted : List Pair → ℕ → ℕ → Type 0
Counted pairs settled waiting = (settled ≡ settled_in pairs) × (waiting ≡ waiting_in pairs)

abbrev pub Shut : Phase → ℕ → ℕ → ℕ → Type 0
Shut phase pairs floor tried = is_open phase ≡ false → (pairs ≡ 0) × (floor ≡ 0) × (tried ≡ 0)

abbrev pub Unopened : Phase → Opening → Type 0
Unopened phase opening = is_open phase ≡ false → (opening.reach ≡ 0) × (opening.capacity ≡ 0) × (opening.band ≡ 0)

abbrev pub has_hall : Phase → Bool
has_hall Blank = false
has_hall Laying = true
has_hall Resting = true
has_hall (Drawn u v) = true

abbrev pub Peopled : Phase → ℕ → Type 0
Peopled phase points = has_hall phase ≡ true → 1 ≤ points

abbrev pub Open : Phase → ℕ → ℕ → ℕ → ℕ → ℕ → Type 0
Open phase points pairs floor settled tried = is_open phase ≡ true →
    (pairs ≡ points * points) × (floor ≤ value_limit) × (tried ≤ leg_limit * settled)

abbrev pub Ends : Phase → ℕ → Type 0
Ends phase points = (u v : ℕ) → phase ≡ Drawn u v → (u < points) × (v < points)

abbrev pub Left : Phase → ℕ → ℕ → Type 0
Left phase settled tried = (u v : ℕ) → phase ≡ Drawn u v → tried + leg_limit ≤ leg_limit * settled
