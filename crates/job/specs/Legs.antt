-- The legs of a job as those of a hall.
--   leg_of   a leg without its link
--   hall_of  the hall of a job's points, bound and legs
--   nexts    the links: for each leg, the one laid before it that leaves the same point
--   first_of the first leg of the chain of a point
use Rattle.std.specs.Prelude.{ℕ, List, map, None, Option, slice_index_or}
use Rattle.chains.specs.declared.Chain.{Chain}
use Rattle.walks.specs.Hall.{Hall}
use Rattle.walks.specs.Hall as walks
use Rattle.job.specs.declared.leg.Leg.{Leg}

abbrev pub leg_of : Leg → walks.Leg
leg_of l = record { from = l.from; to = l.to; cost = l.cost }

abbrev pub hall_of : ℕ → ℕ → List Leg → Hall
hall_of n c ls = record { points = n; bound = c; legs = map leg_of ls }

abbrev pub nexts : List Leg → List (Option ℕ)
nexts ls = map (λ l. l.next) ls

abbrev pub no_chain : Chain
no_chain = record { first = None }

abbrev pub first_of : List Chain → ℕ → Option ℕ
first_of chains v = (slice_index_or chains v no_chain).first
