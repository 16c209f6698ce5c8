-- What a wheel means: the items that wait in its compartments and those that wait in the queue below, as one queue.
--   shifted     a key of the queue below, as the wheel's caller knows it
--   either_key  an item's key: that in the wheel if it waits there, else that below
--   joined      the keys of all items
--   Agree       when the rows of keys and the queue below fit together
use Rattle.std.specs.Prelude.{◌≡◌, ℕ, ◌+◌, ◌*◌, ◌<◌, ◌≤◌, List, [], ◌∷◌, length, Some, None, Option, slice_index_or}
use Rattle.figures.specs.Limits.{value_limit, cell_limit, width_limit}
use Rattle.queue.specs.Meaning.{Meaning, key_of, capacity}

abbrev pub shifted : ℕ → Option ℕ → Option ℕ
shifted base None = None
shifted base (Some k) = Some (base + k)

abbrev pub either_key : ℕ → Option ℕ → Option ℕ → Option ℕ
either_key base None o = shifted base o
either_key base (Some k) o = Some k

-- an item past the end of `bs` does not wait below
abbrev pub joined : ℕ → List (Option ℕ) → List (Option ℕ) → List (Option ℕ)
joined base [] bs = []
joined base (k ∷ ks) [] = either_key base k None ∷ joined base ks []
joined base (k ∷ ks) (b ∷ bs) = either_key base k b ∷ joined base ks bs

-- a wheel whose current compartment begins at `base`, of width w, with the keys ks in its compartments
abbrev pub wheel_meaning : ℕ → ℕ → List (Option ℕ) → Meaning → Meaning
wheel_meaning base w ks b =
    record { waits = joined base ks b.waits; floor = base + b.floor; band = w * 64 }

-- the keys in the compartments begin at `from`
pub record Agree (from base w : ℕ) (ks : List (Option ℕ)) (b : Meaning) : Type 0 where
  -- an item waits in the wheel or below, not in both
  pub apart : (i k : ℕ) → slice_index_or ks i None ≡ Some k → key_of b i ≡ None
  -- only items that the wheel has wait below
  pub inside : (i k : ℕ) → key_of b i ≡ Some k → i < length ks
  -- below lie keys of the current compartment
  pub near : (i k : ℕ) → key_of b i ≡ Some k → (k < w) × (base + k ≤ value_limit)
  -- in the wheel lie keys after it, up to the band's end
  pub later : (i k : ℕ) → slice_index_or ks i None ≡ Some k → (from ≤ k) × (k ≤ base + b.floor + w * 64) × (k ≤ value_limit)
  pub floor_near : 0 < w → b.floor < w
  pub floor_small : base + b.floor ≤ value_limit
  -- the queue below has room for each key and each item
  pub room : length ks ≤ capacity b
  pub wide : w ≤ b.band + 1
  pub few : length ks ≤ cell_limit
  pub narrow : w ≤ width_limit
  -- outside its figures a wheel has no items
  pub bare : w ≡ 0 → length ks ≡ 0
