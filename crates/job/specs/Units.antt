-- Work by units.
--   Ran   so many units were done from s and m, to t and o
use Rattle.std.specs.Prelude.{◌≡◌, ℕ, List, length}
use Rattle.queue.specs.Meaning.{Meaning}
use Rattle.queue.specs.declared.Entry.{Entry}
use Rattle.model.specs.State.{JobState}
use Rattle.model.specs.Calls.{Worked}

abbrev pub Ran : (ℕ → ℕ → ℕ) → ℕ → ℕ → JobState → Meaning → ℕ → JobState → Meaning → Type 0
Ran join reach budget s m n t o = (es : List Entry) × (n ≡ length es) × Worked join reach budget s m es t o
