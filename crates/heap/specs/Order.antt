-- A binary heap: a tree in which place 0 is the root, and no rank is below its parent's.
--   parent   the place above
--   Linked   the items that wait stand at the first places, one at each
--   Ordered  no rank is below its parent's
--   Rising   the same but between one place and its parent
--   Sinking  the same but between one place and its children
--   Heaped   linked and ordered
--   Lower    a child of least rank
use Rattle.std.specs.Prelude.{◌≡◌, ℕ, ◌-◌, ◌/◌, ◌<◌, ◌≤◌, ◌≢◌, List, length, Some}
use Rattle.heap.specs.declared.Cell.{Cell}
use Rattle.heap.specs.Cells.{key_at, place_at, item_at, rank}

abbrev pub parent : ℕ → ℕ
parent p = (p - 1) / 2

-- the first n places are taken
pub record Linked (cells : List Cell) (n : ℕ) : Type 0 where
  -- there is a cell for each
  pub few : n ≤ length cells
  -- the item at each waits
  pub waits : (p : ℕ) → p < n → key_at cells (item_at cells p) ≡ Some (rank cells p)
  -- and has that place noted
  pub stands : (p : ℕ) → p < n → place_at cells (item_at cells p) ≡ p
  -- an item that waits has one of them
  pub below : (i k : ℕ) → key_at cells i ≡ Some k → place_at cells i < n
  -- and is noted there
  pub back : (i k : ℕ) → key_at cells i ≡ Some k → item_at cells (place_at cells i) ≡ i

-- of ranks r at n places
abbrev pub Ordered : (ℕ → ℕ) → ℕ → Type 0
Ordered r n = (c : ℕ) → 0 < c → c < n → r (parent c) ≤ r c

-- p may rank below its parent, but p's children do not rank below p's parent
pub record Rising (r : ℕ → ℕ) (n p : ℕ) : Type 0 where
  pub inside : p < n
  pub others : (c : ℕ) → 0 < c → c < n → c ≢ p → r (parent c) ≤ r c
  pub over : (c : ℕ) → 0 < c → c < n → parent c ≡ p → 0 < p → r (parent p) ≤ r c

-- children of p may rank below p, but not below p's parent
pub record Sinking (r : ℕ → ℕ) (n p : ℕ) : Type 0 where
  pub others : (c : ℕ) → 0 < c → c < n → parent c ≢ p → r (parent c) ≤ r c
  pub over : (c : ℕ) → 0 < c → c < n → parent c ≡ p → 0 < p → r (parent p) ≤ r c

pub record Heaped (cells : List Cell) (n : ℕ) : Type 0 where
  pub linked : Linked cells n
  pub ordered : Ordered (rank cells) n

-- c is a child of p, and no child of p ranks below it
pub record Lower (r : ℕ → ℕ) (n p c : ℕ) : Type 0 where
  pub inside : c < n
  pub later : p < c
  pub child : parent c ≡ p
  pub least : (d : ℕ) → 0 < d → d < n → parent d ≡ p → r c ≤ r d
