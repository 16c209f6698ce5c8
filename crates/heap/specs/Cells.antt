-- One row of cells in two roles: cell i has the key and the place of item i, and cell p the item that stands at place p.
--   blank     a cell as it is made
--   key_at    the key of an item, if it waits
--   place_at  the place of an item
--   item_at   the item at a place
--   rank      the key of the item at a place
--   keys      the keys of all items
--   keyed     the cells with another key for an item
--   itemed    the cells with another item noted at a place
--   placed    the cells with another place noted for an item
--   stood     the cells with an item moved to a place
--   swapped   the cells with the items of two places exchanged
use Rattle.std.specs.Prelude.{ℕ, List, map, None, Option, slice_index_or, slice_set}
use Rattle.std.specs.Option.{unwrap_or}
use Rattle.heap.specs.declared.Cell.{Cell}

abbrev pub blank : Cell
blank = record { key = None; place = 0; item = 0 }

abbrev pub key_at : List Cell → ℕ → Option ℕ
key_at cells i = (slice_index_or cells i blank).key

abbrev pub place_at : List Cell → ℕ → ℕ
place_at cells i = (slice_index_or cells i blank).place

abbrev pub item_at : List Cell → ℕ → ℕ
item_at cells p = (slice_index_or cells p blank).item

abbrev pub rank : List Cell → ℕ → ℕ
rank cells p = unwrap_or (key_at cells (item_at cells p)) 0

abbrev pub keys : List Cell → List (Option ℕ)
keys cells = map (λ c. c.key) cells

abbrev pub keyed : List Cell → ℕ → Option ℕ → List Cell
keyed cells i k = slice_set cells i (record { key = k; place = place_at cells i; item = item_at cells i })

abbrev pub itemed : List Cell → ℕ → ℕ → List Cell
itemed cells p i = slice_set cells p (record { key = key_at cells p; place = place_at cells p; item = i })

abbrev pub placed : List Cell → ℕ → ℕ → List Cell
placed cells i p = slice_set cells i (record { key = key_at cells i; place = p; item = item_at cells i })

abbrev pub stood : List Cell → ℕ → ℕ → List Cell
stood cells p i = placed (itemed cells p i) i p

abbrev pub swapped : List Cell → ℕ → ℕ → List Cell
swapped cells p q = stood (stood cells p (item_at cells q)) q (item_at cells p)
