-- The state of a job.
--   JobState     phase, hall, table of pairs, what it was opened with, floor, legs tried
--   blank        no hall
--   item         the number of a pair
--   pair_at      what is known of a pair
--   settled_in   how many pairs of a table are settled
--   waiting_in   how many wait
--   Finished     a resting job where nothing waits
--   leaving      the numbers of the legs that leave a point, the latest laid first
--   route        the last legs from a pair back to its start, in travel order
use Rattle.std.specs.Prelude.{ℕ, zero, suc, ◌+◌, ◌*◌, Bool, true, false, cond, ◌&&◌, List, [], ◌∷◌, ◌++◌, length, Some, None, Option, ◌==◌, nat_lt, slice_index_or}
use Rattle.walks.specs.Hall.{Hall, leg}
use Rattle.model.specs.declared.Phase.{Phase}
use Rattle.model.specs.declared.Phase.TheVariants.{Blank, Laying, Resting, Drawn}
use Rattle.model.specs.declared.Pair.{Pair}
use Rattle.model.specs.declared.Pair.TheVariants.{Unseen, Waiting, Settled}
use Rattle.model.specs.declared.Opening.{Opening}

-- Pair (u, v) of a hall of n points stands in the table at place u·n + v. Unless the job is open the table is empty, and
-- opening, floor and legs tried are 0.
pub record JobState : Type 0 where
  pub phase : Phase
  pub hall : Hall
  pub table : List Pair
  pub opening : Opening
  -- the key drawn last, 0 before any
  pub floor : ℕ
  -- how many legs were tried since the opening
  pub tried : ℕ

abbrev pub unopened : Opening
unopened = record { reach = 0; capacity = 0; band = 0 }

-- a job that is not open
abbrev pub closed : Phase → Hall → JobState
closed p h = record { phase = p; hall = h; table = []; opening = unopened; floor = 0; tried = 0 }

abbrev pub blank : JobState
blank = closed Blank (record { points = 0; bound = 0; legs = [] })

abbrev pub is_laying : Phase → Bool
is_laying Blank = false
is_laying Laying = true
is_laying Resting = false
is_laying (Drawn u v) = false

abbrev pub is_resting : Phase → Bool
is_resting Blank = false
is_resting Laying = false
is_resting Resting = true
is_resting (Drawn u v) = false

abbrev pub is_open : Phase → Bool
is_open Blank = false
is_open Laying = false
is_open Resting = true
is_open (Drawn u v) = true

-- the job is drawn with the pair (u, v)
abbrev pub is_drawn : Phase → ℕ → ℕ → Bool
is_drawn Blank u v = false
is_drawn Laying u v = false
is_drawn Resting u v = false
is_drawn (Drawn a b) u v = a == u && b == v

abbrev pub item : JobState → ℕ → ℕ → ℕ
item s u v = u * s.hall.points + v

abbrev pub is_point : JobState → ℕ → Bool
is_point s u = nat_lt u s.hall.points

abbrev pub pair_at : JobState → ℕ → ℕ → Pair
pair_at s u v = cond (is_point s u && is_point s v) (slice_index_or s.table (item s u v) Unseen) Unseen

abbrev pub value_of : Pair → Option ℕ
value_of Unseen = None
value_of (Waiting k l) = None
value_of (Settled x l) = Some x

abbrev pub noted_key : Pair → Option ℕ
noted_key Unseen = None
noted_key (Waiting k l) = Some k
noted_key (Settled x l) = None

abbrev pub last_leg : Pair → Option ℕ
last_leg Unseen = None
last_leg (Waiting k l) = l
last_leg (Settled x l) = l

abbrev pub one_if : Option ℕ → ℕ → ℕ
one_if None n = n
one_if (Some x) n = suc n

abbrev pub settled_in : List Pair → ℕ
settled_in [] = 0
settled_in (p ∷ ps) = one_if (value_of p) (settled_in ps)

abbrev pub waiting_in : List Pair → ℕ
waiting_in [] = 0
waiting_in (p ∷ ps) = one_if (noted_key p) (waiting_in ps)

abbrev pub is_finished : JobState → Bool
is_finished s = is_resting s.phase && waiting_in s.table == 0

-- of the first m legs
abbrev pub leaving_of : Hall → ℕ → ℕ → List ℕ
leaving_of h zero v = []
leaving_of h (suc i) v = cond ((leg h i).from == v) (i ∷ leaving_of h i v) (leaving_of h i v)

abbrev pub leaving : Hall → ℕ → List ℕ
leaving h v = leaving_of h (length h.legs) v

-- at most m legs back from (u, v)
abbrev pub back : JobState → (ℕ → List ℕ) → Option ℕ → List ℕ
back s earlier None = []
back s earlier (Some i) = earlier (leg s.hall i).from ++ i ∷ []

abbrev pub followed : JobState → ℕ → ℕ → ℕ → List ℕ
followed s zero u v = []
followed s (suc m) u v = back s (followed s m u) (last_leg (pair_at s u v))

abbrev pub route : JobState → ℕ → ℕ → List ℕ
route s u v = followed s s.hall.points u v
