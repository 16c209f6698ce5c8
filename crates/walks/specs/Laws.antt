-- What is proved of every search.
--   OfEvery            of every hall and every lawful rule
--   Least              the least number that has the property
--   OpeningMakes      the opening makes a front, with nothing in hand
--   DrawingKeeps      a drawing keeps it, and takes the pair in hand, with a list of all legs that leave its far end
--   TryingKeeps       a try of the next leg keeps it
--   SpreadingEnds     when no leg is left to try, nothing is in hand
--   Worth              y is the value of a walk from u to v
--   Ahead              (u, v) is settled at no more than y, or a pair with the start u waits at no more than y
--   Frontier           every walk's value has its pair behind it, or a waiting pair
--   SettledAreLeast  a settled value is the least value of a walk of its pair
--   NearestFirst      no unsettled pair has a walk of lower value than a settled pair's value
--   Progress           while an unsettled pair has a walk, something waits
--   Finished           when nothing waits, a pair is settled at its least value, or it has no walk
--   Entrance           y is a key by which (u, w) may enter: 0 at its own start, or the joined value over a leg from a settled pair
--   Entries            an unsettled pair waits exactly if it may enter, at the least of its entrances
--   EntriesAtRest    so it is while nothing is in hand
--   Bounds             every key lies in the band of the reach above the floor; and with m pairs of one start settled, no value
--                      or key of that start is above m times the reach, so that none is above the points times the reach
--   Bounded            so it is in every state of a search
--   route_of           the route of a pair: its last legs, followed back at most as many steps as there are points
--   RoutesAreRead    a settled pair's route is a walk with its value, of fewer legs than there are points
--   RoutesAreOne     a pair has one route
--   FrontIsKept, SettledStand, RoutesStand   the laws of the front, of what is settled, and of routes
use Rattle.std.specs.Prelude.{◌≡◌, ℕ, zero, suc, ◌+◌, ◌*◌, ◌<◌, ◌≤◌, ◌⊎◌, ◌↔◌, List, [], ◌∷◌, ◌++◌, length, Some, None, Option}
use Rattle.walks.specs.Hall.{Hall, leg, Leads, Sized, Lawful, Walk}
use Rattle.walks.specs.Search.{State, Hand, free, holds, Opens, Draws, Leaving, Offered, Route, settled_from, Front}

abbrev pub OfEvery : (Hall → (ℕ → ℕ → ℕ) → (ℕ → ℕ) → Type 0) → Type 0
OfEvery P = (h : Hall) (join : ℕ → ℕ → ℕ) (reach : ℕ → ℕ) → Lawful join reach → Sized h → P h join reach

abbrev pub Least : (ℕ → Type 0) → ℕ → Type 0
Least P x = P x × ((y : ℕ) → P y → x ≤ y)

abbrev pub OpeningMakes : Type 0
OpeningMakes = OfEvery (λ h join reach. (s : State) → Opens h s → Front h join s 0 free)

abbrev pub DrawingKeeps : Type 0
DrawingKeeps = OfEvery (λ h join reach. (s t : State) (u v k floor : ℕ) (is : List ℕ) →
    Front h join s floor free → Draws s u v k t → Leaving h v is → Front h join t k (holds u v is))

abbrev pub TryingKeeps : Type 0
TryingKeeps = OfEvery (λ h join reach. (s t : State) (u v floor i w k : ℕ) (is : List ℕ) →
    Front h join s floor (holds u v (i ∷ is)) → Leads h i v w k → Offered s u w (join floor k) i t →
    Front h join t floor (holds u v is))

abbrev pub SpreadingEnds : Type 0
SpreadingEnds = OfEvery (λ h join reach. (s : State) (floor u v : ℕ) →
    Front h join s floor (holds u v []) → Front h join s floor free)

abbrev pub Worth : Hall → (ℕ → ℕ → ℕ) → ℕ → ℕ → ℕ → Type 0
Worth h join u v y = (r : List ℕ) × Walk h join u v y r

abbrev pub Ahead : State → ℕ → ℕ → ℕ → Type 0
Ahead s u v y =
    ((x : ℕ) × (s.settled u v ≡ Some x) × (x ≤ y)) ⊎ ((w : ℕ) × (l : ℕ) × (s.waits u w ≡ Some l) × (l ≤ y))

abbrev pub Frontier : Type 0
Frontier = OfEvery (λ h join reach. (s : State) (floor : ℕ) → Front h join s floor free →
    (u v y : ℕ) → Worth h join u v y → Ahead s u v y)

abbrev pub SettledAreLeast : Type 0
SettledAreLeast = OfEvery (λ h join reach. (s : State) (floor : ℕ) (hand : Hand) → Front h join s floor hand →
    (u v x : ℕ) → s.settled u v ≡ Some x → Least (Worth h join u v) x)

abbrev pub NearestFirst : Type 0
NearestFirst = OfEvery (λ h join reach. (s : State) (floor : ℕ) (hand : Hand) → Front h join s floor hand →
    (a b x : ℕ) → s.settled a b ≡ Some x → (u v y : ℕ) → s.settled u v ≡ None → Worth h join u v y → x ≤ y)

abbrev pub Progress : Type 0
Progress = OfEvery (λ h join reach. (s : State) (floor : ℕ) → Front h join s floor free →
    (u v y : ℕ) → s.settled u v ≡ None → Worth h join u v y → (w : ℕ) × (l : ℕ) × (s.waits u w ≡ Some l) × (l ≤ y))

abbrev pub Finished : Type 0
Finished = OfEvery (λ h join reach. (s : State) (floor : ℕ) → Front h join s floor free →
    ((u v : ℕ) → s.waits u v ≡ None) → (u v : ℕ) →
    ((x : ℕ) → (s.settled u v ≡ Some x) ↔ Least (Worth h join u v) x) ×
    ((s.settled u v ≡ None) ↔ ((y : ℕ) → Worth h join u v y → ⊥)))

pub data Entrance (h : Hall) (join : ℕ → ℕ → ℕ) (s : State) (u w : ℕ) : ℕ → Type 0 where
  at_start : u < h.points → u ≡ w → Entrance h join s u w 0
  over : {v x i k : ℕ} → s.settled u v ≡ Some x → Leads h i v w k → Entrance h join s u w (join x k)

pub record Entries (h : Hall) (join : ℕ → ℕ → ℕ) (s : State) : Type 0 where
  pub keys : (u w l : ℕ) → (s.waits u w ≡ Some l) ↔ ((s.settled u w ≡ None) × Least (Entrance h join s u w) l)
  pub enters : (u w y : ℕ) → s.settled u w ≡ None → Entrance h join s u w y → (l : ℕ) × (s.waits u w ≡ Some l) × (l ≤ y)

abbrev pub EntriesAtRest : Type 0
EntriesAtRest = OfEvery (λ h join reach. (s : State) (floor : ℕ) → Front h join s floor free → Entries h join s)

-- r is the reach of the hall's bound
pub record Bounds (h : Hall) (join : ℕ → ℕ → ℕ) (r : ℕ) (s : State) (floor : ℕ) : Type 0 where
  pub band : (u v k : ℕ) → s.waits u v ≡ Some k → k ≤ floor + r
  pub settled : (u v x : ℕ) → s.settled u v ≡ Some x → x + r ≤ settled_from h s u * r
  pub waits : (u v k : ℕ) → s.waits u v ≡ Some k → k ≤ settled_from h s u * r
  pub offers : (u v x i w k : ℕ) → s.settled u v ≡ Some x → Leads h i v w k →
      (join x k ≤ floor + r) × (join x k ≤ settled_from h s u * r)
  pub most : (u : ℕ) → settled_from h s u * r ≤ h.points * r
  pub low : 0 < h.points → floor + r ≤ h.points * r

abbrev pub Bounded : Type 0
Bounded = OfEvery (λ h join reach. (s : State) (floor : ℕ) (hand : Hand) → Front h join s floor hand →
    Bounds h join (reach h.bound) s floor)

-- the last legs from (u, v) back, at most m of them, in travel order
abbrev pub before : Hall → (ℕ → List ℕ) → Option ℕ → List ℕ
before h earlier None = []
before h earlier (Some i) = earlier (leg h i).from ++ i ∷ []

abbrev pub followed : Hall → State → ℕ → ℕ → ℕ → List ℕ
followed h s zero u v = []
followed h s (suc m) u v = before h (followed h s m u) (s.last u v)

abbrev pub route_of : Hall → State → ℕ → ℕ → List ℕ
route_of h s u v = followed h s h.points u v

pub record Read (h : Hall) (join : ℕ → ℕ → ℕ) (s : State) (u v x : ℕ) (r : List ℕ) : Type 0 where
  pub route : Route h join s u v x r
  pub walk : Walk h join u v x r
  pub short : length r < h.points

abbrev pub RoutesAreRead : Type 0
RoutesAreRead = OfEvery (λ h join reach. (s : State) (floor : ℕ) (hand : Hand) → Front h join s floor hand →
    (u v x : ℕ) → s.settled u v ≡ Some x → Read h join s u v x (route_of h s u v))

abbrev pub RoutesAreOne : Type 0
RoutesAreOne = OfEvery (λ h join reach. (s : State) (u v x y : ℕ) (r q : List ℕ) →
    Route h join s u v x r → Route h join s u v y q → (x ≡ y) × (r ≡ q))

pub record FrontIsKept : Type 0 where
  pub opening : OpeningMakes
  pub drawing : DrawingKeeps
  pub trying : TryingKeeps
  pub ending : SpreadingEnds

pub record SettledStand : Type 0 where
  pub frontier : Frontier
  pub least : SettledAreLeast
  pub nearest : NearestFirst
  pub progress : Progress
  pub finished : Finished

pub record RoutesStand : Type 0 where
  pub read : RoutesAreRead
  pub one : RoutesAreOne
