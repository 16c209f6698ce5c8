-- What a heap means as a waiting queue, and which entry it names.
--   content   the meaning of its tree and its floor
--   first     the entry at the root of its tree, if any item waits
use Rattle.std.specs.Prelude.{Option}
use Rattle.queue.specs.declared.Entry.{Entry}
use Rattle.queue.specs.Meaning.{Meaning}
use Rattle.heap.specs.declared.Heap.{Heap}
use Rattle.heap.specs.Contents.{waits, root, contents}

abbrev pub content : Heap → Meaning
content h = contents (waits h.tree) h.floor

abbrev pub first : Heap → Option Entry
first h = root h.tree
