-- The search of all pairs, as states and events.
--   State         what is settled, what waits, and the last leg of each pair
--   Apart         two pairs are not the same
--   Hand          the pair drawn and not yet wholly spread, with its legs still to try; or none
--   Owes, Held    the leg i of (u, v) is still to try; the pair in hand was drawn last
--   Opens         nothing is settled, and each point waits at 0 for itself
--   Draws         a pair of least key is settled at that key, and waits no more
--   Leaving       a list has every leg that leaves v
--   Offered       a pair is offered a key by a leg: Kept if it is settled or waits as low already, else Lowered, or entered
--   Route         a walk along last legs: each pair before the last one is settled
--   Within        a pair is settled or waits, at no more than y
--   settled_from  how many pairs with the start u are settled
--   Front         what holds of every state of a search, a pair in hand or not
use Rattle.std.specs.Prelude.{◌≡◌, ℕ, zero, suc, ◌+◌, ◌<◌, ◌≤◌, ◌⊎◌, List, [], ◌∷◌, ◌++◌, length, Some, None, Option}
use mathlib.Core.List.{Memᴰ}
use Rattle.walks.specs.Hall.{Hall, Leads}

-- Of the pair (u, v): its value if it is settled, its key if it waits, and its last leg if it has one.
pub record State : Type 0 where
  pub settled : ℕ → ℕ → Option ℕ
  pub waits : ℕ → ℕ → Option ℕ
  pub last : ℕ → ℕ → Option ℕ

-- (a, b) is another pair than (u, v)
abbrev pub Apart : ℕ → ℕ → ℕ → ℕ → Type 0
Apart a b u v = ((a ≡ u) × (b ≡ v)) → ⊥

pub data Hand : Type 0 where
  free : Hand
  holds : ℕ → ℕ → List ℕ → Hand

-- the pair (u, v) is in hand, and leg i is still to try
abbrev pub Owes : Hand → ℕ → ℕ → ℕ → Type 0
Owes free u v i = ⊥
Owes (holds a b is) u v i = (u ≡ a) × (v ≡ b) × Memᴰ i is

-- the pair in hand was drawn last: its value is the floor
abbrev pub Held : State → ℕ → Hand → Type 0
Held s floor free = Unit {0}
Held s floor (holds a b is) = s.settled a b ≡ Some floor

pub record Opens (h : Hall) (s : State) : Type 0 where
  pub settled : (u v : ℕ) → s.settled u v ≡ None
  pub last : (u v : ℕ) → s.last u v ≡ None
  pub own : (u : ℕ) → u < h.points → s.waits u u ≡ Some 0
  pub others : (u v k : ℕ) → s.waits u v ≡ Some k → (u < h.points) × (u ≡ v)

pub record Draws (s : State) (u v k : ℕ) (t : State) : Type 0 where
  pub waited : s.waits u v ≡ Some k
  pub lowest : (a b l : ℕ) → s.waits a b ≡ Some l → k ≤ l
  pub settled : t.settled u v ≡ Some k
  pub gone : t.waits u v ≡ None
  pub settled_same : (a b : ℕ) → Apart a b u v → t.settled a b ≡ s.settled a b
  pub waits_same : (a b : ℕ) → Apart a b u v → t.waits a b ≡ s.waits a b
  pub last_same : (a b : ℕ) → t.last a b ≡ s.last a b

-- the list holds every leg that leaves v
abbrev pub Leaving : Hall → ℕ → List ℕ → Type 0
Leaving h v is = (i w k : ℕ) → Leads h i v w k → Memᴰ i is

-- the offer of a key to (u, w) changes nothing
pub record Kept (s : State) (u w key : ℕ) (t : State) : Type 0 where
  pub low : ((y : ℕ) × (s.settled u w ≡ Some y)) ⊎ ((l : ℕ) × (s.waits u w ≡ Some l) × (l ≤ key))
  pub waits : t.waits u w ≡ s.waits u w
  pub last : t.last u w ≡ s.last u w

-- the pair (u, w) enters or is lowered, by leg i
pub record Lowered (s : State) (u w key i : ℕ) (t : State) : Type 0 where
  pub unsettled : s.settled u w ≡ None
  pub higher : (l : ℕ) → s.waits u w ≡ Some l → key < l
  pub waits : t.waits u w ≡ Some key
  pub last : t.last u w ≡ Some i

pub record Offered (s : State) (u w key i : ℕ) (t : State) : Type 0 where
  pub settled_same : (a b : ℕ) → t.settled a b ≡ s.settled a b
  pub waits_same : (a b : ℕ) → Apart a b u w → t.waits a b ≡ s.waits a b
  pub last_same : (a b : ℕ) → Apart a b u w → t.last a b ≡ s.last a b
  pub cases : Kept s u w key t ⊎ Lowered s u w key i t

pub data Route (h : Hall) (join : ℕ → ℕ → ℕ) (s : State) : ℕ → ℕ → ℕ → List ℕ → Type 0 where
  own : {u : ℕ} → u < h.points → s.last u u ≡ None → Route h join s u u 0 []
  by : {u v x i w k : ℕ} {r : List ℕ} → Route h join s u v x r → s.settled u v ≡ Some x → Leads h i v w k →
      s.last u w ≡ Some i → Route h join s u w (join x k) (r ++ i ∷ [])

pub data Within (s : State) (u w y : ℕ) : Type 0 where
  settled : (z : ℕ) → s.settled u w ≡ Some z → z ≤ y → Within s u w y
  waiting : (l : ℕ) → s.waits u w ≡ Some l → l ≤ y → Within s u w y

-- the weights of the places below n that hold something, summed
abbrev pub weigh : ℕ → Option ℕ → ℕ → ℕ
weigh c None m = m
weigh c (Some x) m = c + m

abbrev pub weighed : (ℕ → ℕ) → (ℕ → Option ℕ) → ℕ → ℕ
weighed c f zero = 0
weighed c f (suc n) = weigh (c n) (f n) (weighed c f n)

-- how many of the places below n hold something
abbrev pub held : (ℕ → Option ℕ) → ℕ → ℕ
held f n = weighed (λ i. 1) f n

-- how many pairs with the start u are settled
abbrev pub settled_from : Hall → State → ℕ → ℕ
settled_from h s u = held (s.settled u) h.points

-- The floor is the key drawn last, 0 before.
pub record Front (h : Hall) (join : ℕ → ℕ → ℕ) (s : State) (floor : ℕ) (hand : Hand) : Type 0 where
  pub settled_by : (u v x : ℕ) → s.settled u v ≡ Some x →
      (r : List ℕ) × Route h join s u v x r × (length r < settled_from h s u)
  pub waits_by : (u v k : ℕ) → s.waits u v ≡ Some k →
      (r : List ℕ) × Route h join s u v k r × (length r ≤ settled_from h s u)
  pub unsettled : (u v k : ℕ) → s.waits u v ≡ Some k → s.settled u v ≡ None
  pub own : (u : ℕ) → u < h.points → Within s u u 0
  pub entered : (u v x i w k : ℕ) → s.settled u v ≡ Some x → Leads h i v w k → Owes hand u v i ⊎ Within s u w (join x k)
  pub below : (u v x : ℕ) → s.settled u v ≡ Some x → x ≤ floor
  pub above : (u v k : ℕ) → s.waits u v ≡ Some k → floor ≤ k
  pub drawn : (floor ≡ 0) ⊎ ((u : ℕ) × (v : ℕ) × (s.settled u v ≡ Some floor))
  pub inhand : Held s floor hand
