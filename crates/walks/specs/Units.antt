-- Units of work, and what they come to. A unit is a drawing and its spreading.
--   Counted         how many of the numbers below m have the property
--   item            pair (u, v) of a hall of n points is item u·n + v, below `pairs`
--   Linked          item j is a pair that has a walk
--   settled_item    the value of item j, if it is settled
--   settled_count   how many pairs are settled
--   legs_from       the legs that leave v, the latest laid first
--   tried_count     the legs that leave the far ends of the settled pairs, one sum over these pairs
--   LinksAreCounted  the pairs that have a walk have one count
--   LegsAreListed    `legs_from` has each leg that leaves v, and no other, once
--   Idle            nothing waits
--   Tallied         after g units granted and m legs tried: each unit settled a pair, unless nothing waited; and the legs tried
--                   are those that leave the far ends of the settled pairs, but for those still to try
--   OpeningTallies, DrawingTallies, TryingTallies, EndingTallies, IdlingTallies   so it is, and every event keeps it
--   GrantedSettle  g units settle g pairs, or all that have a walk
--   IdleIsDone    nothing waits exactly if all pairs that have a walk are settled
--   Spreads         the legs of a list are tried one by one
--   Runs            g units after the opening, with m legs tried
--   RunsStand      what holds of every run
--   CountsStand, TallyIsKept, UnitsSettle   the laws of counts, of the tally, and of units
use Rattle.std.specs.Prelude.{◌≡◌, ℕ, zero, suc, ◌+◌, ◌*◌, ◌/◌, ◌%◌, ◌≤◌, min, cond, ◌⊎◌, ◌↔◌, List, [], ◌∷◌, length, None, Option, ◌==◌}
use mathlib.Core.List.{Memᴰ}
use Rattle.walks.specs.Hall.{Hall, leg, Leads}
use Rattle.walks.specs.Search.{State, Hand, free, holds, Opens, Draws, Leaving, Offered, weighed, held, Front}
use Rattle.walks.specs.Laws.{OfEvery, Worth}

pub data Counted (P : ℕ → Type 0) : ℕ → ℕ → Type 0 where
  none : Counted P 0 0
  has : {m c : ℕ} → P m → Counted P m c → Counted P (suc m) (suc c)
  lacks : {m c : ℕ} → (P m → ⊥) → Counted P m c → Counted P (suc m) c

abbrev pub pairs : Hall → ℕ
pairs h = h.points * h.points

abbrev pub item : Hall → ℕ → ℕ → ℕ
item h u v = u * h.points + v

abbrev pub Linked : Hall → (ℕ → ℕ → ℕ) → ℕ → Type 0
Linked h join j = (y : ℕ) × Worth h join (j / h.points) (j % h.points) y

abbrev pub settled_item : Hall → State → ℕ → Option ℕ
settled_item h s j = s.settled (j / h.points) (j % h.points)

abbrev pub settled_count : Hall → State → ℕ
settled_count h s = held (settled_item h s) (pairs h)

-- those of the first m legs
abbrev pub legs_below : Hall → ℕ → ℕ → List ℕ
legs_below h v zero = []
legs_below h v (suc m) = cond ((leg h m).from == v) (m ∷ legs_below h v m) (legs_below h v m)

abbrev pub legs_from : Hall → ℕ → List ℕ
legs_from h v = legs_below h v (length h.legs)

abbrev pub tried_count : Hall → State → ℕ
tried_count h s = weighed (λ j. length (legs_from h (j % h.points))) (settled_item h s) (pairs h)

abbrev pub LinksAreCounted : Type 0
LinksAreCounted = OfEvery (λ h join reach. (c : ℕ) × Counted (Linked h join) (pairs h) c ×
    ((d : ℕ) → Counted (Linked h join) (pairs h) d → d ≡ c))

pub record Listed (h : Hall) (v : ℕ) : Type 0 where
  pub every : Leaving h v (legs_from h v)
  pub only : (i : ℕ) → Memᴰ i (legs_from h v) → (w : ℕ) × (k : ℕ) × Leads h i v w k
  pub once : Counted (λ i. (leg h i).from ≡ v) (length h.legs) (length (legs_from h v))

abbrev pub LegsAreListed : Type 0
LegsAreListed = (h : Hall) (v : ℕ) → Listed h v

abbrev pub Idle : State → Type 0
Idle s = (u v : ℕ) → s.waits u v ≡ None

abbrev pub Granted : Hall → State → ℕ → Hand → Type 0
Granted h s g free = (settled_count h s ≡ g) ⊎ (Idle s × (settled_count h s ≤ g))
Granted h s g (holds u v is) = settled_count h s ≡ g

abbrev pub owed : Hand → ℕ
owed free = 0
owed (holds u v is) = length is

pub record Tallied (h : Hall) (s : State) (g m : ℕ) (hand : Hand) : Type 0 where
  pub units : Granted h s g hand
  pub tried : m + owed hand ≡ tried_count h s

abbrev pub OpeningTallies : Type 0
OpeningTallies = OfEvery (λ h join reach. (s : State) → Opens h s → Tallied h s 0 0 free)

abbrev pub DrawingTallies : Type 0
DrawingTallies = OfEvery (λ h join reach. (s t : State) (u v k floor g m : ℕ) → Front h join s floor free → Draws s u v k t →
    Tallied h s g m free → Tallied h t (suc g) m (holds u v (legs_from h v)))

abbrev pub TryingTallies : Type 0
TryingTallies = OfEvery (λ h join reach. (s t : State) (u v i w key g m : ℕ) (is : List ℕ) → Offered s u w key i t →
    Tallied h s g m (holds u v (i ∷ is)) → Tallied h t g (suc m) (holds u v is))

abbrev pub EndingTallies : Type 0
EndingTallies = OfEvery (λ h join reach. (s : State) (u v g m : ℕ) → Tallied h s g m (holds u v []) → Tallied h s g m free)

abbrev pub IdlingTallies : Type 0
IdlingTallies = OfEvery (λ h join reach. (s : State) (g b m : ℕ) → Idle s → Tallied h s g m free → Tallied h s (g + b) m free)

abbrev pub GrantedSettle : Type 0
GrantedSettle = OfEvery (λ h join reach. (s : State) (floor g m c : ℕ) (hand : Hand) → Front h join s floor hand →
    Tallied h s g m hand → Counted (Linked h join) (pairs h) c → settled_count h s ≡ min g c)

abbrev pub IdleIsDone : Type 0
IdleIsDone = OfEvery (λ h join reach. (s : State) (floor c : ℕ) → Front h join s floor free →
    Counted (Linked h join) (pairs h) c → Idle s ↔ (settled_count h s ≡ c))

pub data Spreads (h : Hall) (join : ℕ → ℕ → ℕ) (u v x : ℕ) : State → List ℕ → State → Type 0 where
  done : {s : State} → Spreads h join u v x s [] s
  tried : {s t z : State} {i w k : ℕ} {is : List ℕ} → Leads h i v w k → Offered s u w (join x k) i t →
      Spreads h join u v x t is z → Spreads h join u v x s (i ∷ is) z

pub data Runs (h : Hall) (join : ℕ → ℕ → ℕ) : ℕ → ℕ → State → ℕ → Type 0 where
  opened : {s : State} → Opens h s → Runs h join 0 0 s 0
  unit : {g m floor u v k : ℕ} {s t z : State} → Runs h join g m s floor → Draws s u v k t →
      Spreads h join u v k t (legs_from h v) z → Runs h join (suc g) (m + length (legs_from h v)) z k
  idle : {g m floor : ℕ} {s : State} → Runs h join g m s floor → Idle s → Runs h join (suc g) m s floor

abbrev pub RunsStand : Type 0
RunsStand = OfEvery (λ h join reach. (g m floor : ℕ) (s : State) → Runs h join g m s floor →
    Front h join s floor free × Tallied h s g m free)

pub record CountsStand : Type 0 where
  pub legs : LegsAreListed
  pub links : LinksAreCounted

pub record TallyIsKept : Type 0 where
  pub opening : OpeningTallies
  pub drawing : DrawingTallies
  pub trying : TryingTallies
  pub ending : EndingTallies
  pub idling : IdlingTallies

pub record UnitsSettle : Type 0 where
  pub granted : GrantedSettle
  pub idle : IdleIsDone
  pub runs : RunsStand
