-- What a tree of waiting items and a floor mean as a waiting queue, and when they agree.
--   waits       the keys of all items of a tree
--   root        the entry at the root of a tree, if any item waits
--   SoundTree   the cells and the count of a tree agree
--   contents    the waiting items with their keys, the floor and the band
--   Agrees      a tree and the floor agree, as they do in every heap
--   room        how many of some cells serve
--   bare        a queue over some number of cells in which nothing waits
--   fresh       a heap as it is made over some number of cells
--   Tried       which numbers of cells serve
use Rattle.std.specs.Prelude.{◌≡◌, ℕ, ◌<◌, ◌≤◌, if◌then◌else◌, ◌⊎◌, List, length, replicate, Some, None, Ok, Err, Option, Result, ◌==◌, nat_le}
use Rattle.figures.specs.Limits.{value_limit, cell_limit}
use Rattle.figures.specs.declared.OutOfRange.{OutOfRange}
use Rattle.queue.specs.declared.Entry.{Entry}
use Rattle.queue.specs.Meaning.{Meaning, Banded, held}
use Rattle.heap.specs.declared.tree.Tree.{Tree}
use Rattle.heap.specs.Cells.{keys, item_at, rank}
use Rattle.heap.specs.Order.{Heaped}

abbrev pub waits : Tree → List (Option ℕ)
waits t = keys t.cells.now

abbrev pub root : Tree → Option Entry
root t =
    if t.count == 0 then None else Some (record { item = item_at t.cells.now 0; key = rank t.cells.now 0 })

pub record SoundTree (t : Tree) : Type 0 where
  -- the items that wait stand in a heap
  pub heaped : Heaped t.cells.now t.count
  -- the count is right
  pub counted : t.count ≡ held (waits t)

-- the band over n cells: all keys, or none where there is no cell
abbrev pub band_over : ℕ → ℕ
band_over n = if n == 0 then 0 else value_limit

-- with these keys of all items, above floor f
abbrev pub contents : List (Option ℕ) → ℕ → Meaning
contents ks f = record { waits = ks; floor = f; band = band_over (length ks) }

-- above floor f
pub record Agrees (t : Tree) (f : ℕ) : Type 0 where
  pub tree : SoundTree t
  -- each key lies in the band above the floor
  pub banded : Banded (contents (waits t) f)

-- all of n cells, or none where they are too many
abbrev pub room : ℕ → ℕ
room n = if nat_le n cell_limit then n else 0

abbrev pub bare : ℕ → Meaning
bare n = record { waits = replicate n None; floor = 0; band = band_over n }

abbrev pub fresh : ℕ → Meaning
fresh n = bare (room n)

abbrev pub Tried : ℕ → Result (Unit {0}) OutOfRange → Type 0
Tried n (Ok x) = (0 < n) × (n ≤ cell_limit)
Tried n (Err e) = (n ≡ 0) ⊎ (cell_limit < n)
