-- What a ring of slots means, and when its parts agree.
--   fits      whether a ring of so many slots and cells can be made
--   rows      the rows of a ring: keys and links of its cells, heads of its slots
--   meant     the waiting queue that a ring means
--   fresh     what a ring means when it is made
--   Blank     nothing waits in slots and cells
--   Standing  its parts agree: key k lies in slot k mod S, where S is the number of slots
--   first_some  the first of a row that is something
--   scanned   the head of the first slot that holds something, of so many from key k's on
--   chosen    the entry that the ring names: an item of least key
use Rattle.std.specs.Prelude.{◌≡◌, ℕ, zero, suc, ◌-◌, ◌%◌, ◌<◌, ◌≤◌, Bool, cond, ◌&&◌, List, [], ◌∷◌, map, length, replicate, Some, None, Option, nat_le, slice_index_or}
use Rattle.figures.specs.Limits.{cell_limit, slot_limit}
use Rattle.chains.specs.declared.Chain.{Chain}
use Rattle.chains.specs.Slots.{Rows, Slotted}
use Rattle.queue.specs.declared.Entry.{Entry}
use Rattle.queue.specs.Meaning.{Meaning, Banded, held}
use Rattle.chains.specs.Cells.{keys, nexts, prevs}
use Rattle.chains.specs.declared.cells.Cell.{Cell}

abbrev pub fits : ℕ → ℕ → Bool
fits slots cells = (nat_le 1 slots && nat_le slots slot_limit) && (nat_le 1 cells && nat_le cells cell_limit)

abbrev pub heads : List Chain → List (Option ℕ)
heads slots = map (λ c. c.first) slots

abbrev pub rows : List Chain → List Cell → Rows
rows slots cells = record {
  keys = keys cells;
  nexts = nexts cells;
  prevs = prevs cells;
  heads = heads slots;
}

abbrev pub slot_of : ℕ → ℕ → ℕ
slot_of slots k = k % slots

abbrev pub meant : List Chain → List Cell → ℕ → Meaning
meant slots cells low = record { waits = keys cells; floor = low; band = length slots - 1 }

abbrev pub fresh : ℕ → ℕ → Meaning
fresh slots cells = cond (fits slots cells)
    (record { waits = replicate cells None; floor = 0; band = slots - 1 })
    (record { waits = []; floor = 0; band = 0 })

-- nothing waits in the slots and cells
pub record Blank (slots : List Chain) (cells : List Cell) : Type 0 where
  pub no_head : (s : ℕ) → slice_index_or (heads slots) s None ≡ None
  pub no_key : (i : ℕ) → slice_index_or (keys cells) i None ≡ None

-- `count` is the ring's own count of its waiting items
pub record Standing (slots : List Chain) (cells : List Cell) (low count : ℕ) : Type 0 where
  pub lists : ℕ → List ℕ
  pub slotted : Slotted (slot_of (length slots)) (rows slots cells) lists
  pub banded : Banded (meant slots cells low)
  pub counted : count ≡ held (keys cells)
  pub few_slots : length slots ≤ slot_limit
  pub few_cells : length cells ≤ cell_limit
  pub some_slot : 0 < length cells → 0 < length slots
  pub some_cell : 0 < length slots → 0 < length cells

abbrev pub or_else : Option ℕ → Option ℕ → Option ℕ
or_else None o = o
or_else (Some i) o = Some i

-- the first of a row that is something
abbrev pub first_some : List (Option ℕ) → Option ℕ
first_some [] = None
first_some (o ∷ os) = or_else o (first_some os)

abbrev pub scanned : ℕ → List (Option ℕ) → ℕ → Option ℕ
scanned zero heads k = None
scanned (suc n) heads k = or_else (slice_index_or heads (k % length heads) None) (scanned n heads (suc k))

abbrev pub entry_at : ℕ → Option ℕ → Option Entry
entry_at i None = None
entry_at i (Some k) = Some (record { item = i; key = k })

abbrev pub entry_of : List (Option ℕ) → Option ℕ → Option Entry
entry_of keys None = None
entry_of keys (Some i) = entry_at i (slice_index_or keys i None)

abbrev pub chosen : List Chain → List Cell → ℕ → Option Entry
chosen slots cells low = entry_of (keys cells) (scanned (length slots) (heads slots) low)
