-- The parts of a wheel's rim as rows, and when they agree.
--   vacant     a compartment that holds nothing
--   firsts_of  the first item of each compartment's chain
--   counts_of  how many items lie in each compartment
--   rows_of    the rows of the cells, and the first items
--   place_of   the compartment of a key, at a width
--   RimSound   each chain holds exactly the items whose keys fall into its compartment, and the counts are right
use Rattle.std.specs.Prelude.{◌≡◌, ℕ, ◌/◌, ◌%◌, ◌<◌, List, map, length, None, Option, slice_index}
use Rattle.chains.specs.declared.cells.Cell.{Cell}
use Rattle.chains.specs.Cells.{keys, nexts, prevs}
use Rattle.chains.specs.Slots.{Rows, Slotted}
use Rattle.queue.specs.Meaning.{held}
use Rattle.wheel.specs.declared.rim.Compartment.{Compartment}

abbrev pub vacant : Compartment
vacant = record { chain = record { first = None }; count = 0 }

abbrev pub firsts_of : List Compartment → List (Option ℕ)
firsts_of table = map (λ c. c.chain.first) table

abbrev pub counts_of : List Compartment → List ℕ
counts_of table = map (λ c. c.count) table

abbrev pub rows_of : List Cell → List Compartment → Rows
rows_of cells table =
    record { keys = keys cells; nexts = nexts cells; prevs = prevs cells; heads = firsts_of table }

abbrev pub place_of : ℕ → ℕ → ℕ
place_of w k = k / w % 64

pub record RimSound (w later : ℕ) (cells : List Cell) (table : List Compartment) : Type 0 where
  -- the items of each compartment, in the order of its chain
  pub lists : ℕ → List ℕ
  pub slotted : Slotted (place_of w) (rows_of cells table) lists
  pub counted : (p : ℕ) → p < 64 → slice_index (counts_of table) p ≡ length (lists p)
  pub later_is : later ≡ held (keys cells)
