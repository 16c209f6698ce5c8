-- Tables of least values.
--   by_time  running time without dwell, by its meaning
--   Tabled   the value of each pair of a hall is the least of its walks, and none exactly where it has no walk
--   cells    what a job's table has for a pair
--   Ready    a job whose hall is laid, after some list of calls
--   Suits    a queue that a job of any hall may be opened on
use Rattle.std.specs.Prelude.{◌≡◌, ℕ, ◌<◌, ◌≤◌, ◌↔◌, List, Some, None, Option}
use Rattle.figures.specs.Limits.{cost_limit, cell_limit}
use Rattle.rules.specs.Meanings.{running_time, running_reach}
use Rattle.queue.specs.Meaning.{Meaning, capacity}
use Rattle.walks.specs.Hall.{Hall}
use Rattle.model.specs.State.{JobState, closed, pair_at, value_of}
use Rattle.model.specs.declared.Phase.TheVariants.{Laying}
use Rattle.runs.specs.Lists.{Rule, Call, Run}
use Rattle.runs.specs.Law.{WalksOf, ValueOf}
use Rattle.intake.specs.Sheets.{Valid}

abbrev pub by_time : Rule
by_time = record { join = running_time 0; reach = running_reach 0 }

abbrev pub Tabled : Rule → Hall → (ℕ → ℕ → Option ℕ) → Type 0
Tabled j h value = (u v : ℕ) → u < h.points → v < h.points →
    ((x : ℕ) → (value u v ≡ Some x) ↔ ValueOf h j u v x) ×
    ((value u v ≡ None) ↔ ((y : ℕ) → WalksOf h j u v y → ⊥))

abbrev pub cells : JobState → ℕ → ℕ → Option ℕ
cells s u v = value_of (pair_at s u v)

abbrev pub Ready : JobState → Type 0
Ready s = (h : Hall) × Valid h × (s ≡ closed Laying h) × (cs : List Call) × (m : Meaning) × (j : Rule) × Run cs s m j

abbrev pub Suits : Meaning → Type 0
Suits q = (cell_limit ≤ capacity q) × (cost_limit ≤ q.band)
