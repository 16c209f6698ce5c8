-- The cells of a queue of chains, as rows.
--   blank  the cell of an item that does not wait
--   keys   each item's key, if it waits
--   nexts  each item's successor in its chain
--   prevs  each item's predecessor in its chain
use Rattle.std.specs.Prelude.{ℕ, List, map, None, Option}
use Rattle.chains.specs.declared.cells.Cell.{Cell}

abbrev pub blank : Cell
blank = record { key = None; next = None; prev = None }

abbrev pub keys : List Cell → List (Option ℕ)
keys cells = map (λ c. c.key) cells

abbrev pub nexts : List Cell → List (Option ℕ)
nexts cells = map (λ c. c.next) cells

abbrev pub prevs : List Cell → List (Option ℕ)
prevs cells = map (λ c. c.prev) cells
