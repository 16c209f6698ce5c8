-- The rim of a wheel as rows, and what its calls promise.
--   rim_keys    each item's key, if it waits in a compartment
--   rim_nexts   each item's successor in its chain
--   rim_firsts  the first item of each compartment's chain
--   rim_counts  how many items lie in each compartment
--   rim_least   the entry that the rim names after compartment number q
--   Lies        an item whose key falls into a compartment
--   Becomes     a rim of the same width with the given keys
use Rattle.std.specs.Prelude.{◌≡◌, ℕ, List, length, Some, None, vec_items, Option, ◌≢◌, slice_index_or}
use Rattle.chains.specs.Cells.{keys, nexts}
use Rattle.queue.specs.declared.Entry.{Entry}
use Rattle.wheel.specs.declared.rim.Rim.{Rim}
use Rattle.wheel.specs.Compartments.{firsts_of, counts_of, place_of}
use Rattle.wheel.specs.Later.{first_held, scan}

abbrev pub rim_keys : Rim → List (Option ℕ)
rim_keys r = keys (vec_items r.cells)

abbrev pub rim_nexts : Rim → List (Option ℕ)
rim_nexts r = nexts (vec_items r.cells)

abbrev pub rim_firsts : Rim → List (Option ℕ)
rim_firsts r = firsts_of r.table

abbrev pub rim_counts : Rim → List ℕ
rim_counts r = counts_of r.table

-- an item of least key in the compartment at place p
abbrev pub least_at : Rim → Option ℕ → Option Entry
least_at r None = None
least_at r (Some p) = scan (rim_keys r) (rim_nexts r) (length (rim_keys r)) (slice_index_or (rim_firsts r) p None) None

abbrev pub rim_least : ℕ → Rim → Option Entry
rim_least q r = least_at r (first_held (rim_counts r) 64 q)

-- an item whose key falls into place p, or none where there is none
abbrev pub Lies : ℕ → List (Option ℕ) → ℕ → Option Entry → Type 0
Lies w ks p None = (i k : ℕ) → slice_index_or ks i None ≡ Some k → place_of w k ≢ p
Lies w ks p (Some e) = (slice_index_or ks e.item None ≡ Some e.key) × (place_of w e.key ≡ p)

pub record Becomes (r : Rim) (ks : List (Option ℕ)) (s : Rim) : Type 0 where
  pub keys : rim_keys s ≡ ks
  pub width : s.width ≡ r.width
