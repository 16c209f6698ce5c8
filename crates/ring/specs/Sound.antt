-- What holds of a ring as a whole.
--   slots_in  what its slots hold
--   cells_in  what its cells hold
--   rows_in   the rows of its slots and cells
--   means     the waiting queue that it means
--   names     the entry that it names: an item of least key
--   Sound     its parts agree
use Rattle.std.specs.Prelude.{List, Option}
use Rattle.chains.specs.declared.Chain.{Chain}
use Rattle.chains.specs.Slots.{Rows}
use Rattle.queue.specs.declared.Entry.{Entry}
use Rattle.queue.specs.Meaning.{Meaning}
use Rattle.chains.specs.declared.cells.Cell.{Cell}
use Rattle.ring.specs.declared.Ring.{Ring}
use Rattle.ring.specs.Standing.{rows, meant, chosen, Standing}

abbrev pub slots_in : Ring → List Chain
slots_in q = q.slots.now

abbrev pub cells_in : Ring → List Cell
cells_in q = q.cells.now

abbrev pub rows_in : Ring → Rows
rows_in q = rows (slots_in q) (cells_in q)

abbrev pub means : Ring → Meaning
means q = meant (slots_in q) (cells_in q) q.floor

abbrev pub names : Ring → Option Entry
names q = chosen (slots_in q) (cells_in q) q.floor

abbrev pub Sound : Ring → Type 0
Sound q = Standing (slots_in q) (cells_in q) q.floor q.waiting
