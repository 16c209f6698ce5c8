-- Halls, and the walks through them.
--   Leg      a leg runs one way between points, and has a cost
--   Hall     its points are numbered from 0, and so are its legs, as laid; no cost is above its bound
--   Leads    leg i runs from v to w at cost k
--   Sized    the legs run between points of the hall, and no cost is above the bound
--   Walk     a walk from u to v, its value and its route: the leg numbers in travel order
use Rattle.std.specs.Prelude.{◌≡◌, ℕ, ◌<◌, ◌≤◌, List, [], ◌∷◌, ◌++◌, length, slice_index_or}
use Rattle.figures.specs.Limits.{cost_limit}
pub use Rattle.rules.specs.Laws.{Lawful}

pub record Leg : Type 0 where
  pub from : ℕ
  pub to : ℕ
  pub cost : ℕ

pub record Hall : Type 0 where
  pub points : ℕ
  pub bound : ℕ
  pub legs : List Leg

-- leg i; past the last leg, a leg that is not there
abbrev pub leg : Hall → ℕ → Leg
leg h i = slice_index_or h.legs i (record { from = 0; to = 0; cost = 0 })

pub record Leads (h : Hall) (i v w k : ℕ) : Type 0 where
  pub there : i < length h.legs
  pub from : (leg h i).from ≡ v
  pub to : (leg h i).to ≡ w
  pub cost : (leg h i).cost ≡ k

pub record Sized (h : Hall) : Type 0 where
  pub bound : h.bound ≤ cost_limit
  pub from : (i v w k : ℕ) → Leads h i v w k → v < h.points
  pub to : (i v w k : ℕ) → Leads h i v w k → w < h.points
  pub cost : (i v w k : ℕ) → Leads h i v w k → k ≤ h.bound

-- The empty walk goes from a point to itself, and its value is 0. One leg more joins its cost.
pub data Walk (h : Hall) (join : ℕ → ℕ → ℕ) : ℕ → ℕ → ℕ → List ℕ → Type 0 where
  stay : {u : ℕ} → u < h.points → Walk h join u u 0 []
  go : {u v x i w k : ℕ} {r : List ℕ} → Walk h join u v x r → Leads h i v w k → Walk h join u w (join x k) (r ++ i ∷ [])
