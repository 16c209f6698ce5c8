-- What every list of calls keeps.
--   Open     of an open job, g units granted, the pairs ds drawn and ts spread: the table is a state of the search, and the
--            queue beside it agrees
--   Kept     of a job in any phase
-- Assumes nothing.
use Rattle.std.proofs.Common.{◌≡◌, ℕ, ◌*◌, ◌<◌, ◌≤◌, ◌↔◌, List, length, Some}
use mathlib.Core.List.{Memᴰ}
use Rattle.figures.specs.Limits.{value_limit}
use Rattle.queue.specs.Meaning.{Meaning, capacity}
use Rattle.walks.specs.Hall.{Sized, Lawful}
use Rattle.walks.specs.Search.{State, Hand, free, holds, Front}
use Rattle.walks.specs.Units.{Tallied}
use Rattle.model.specs.declared.Phase.{Phase}
use Rattle.model.specs.declared.Phase.TheVariants.{Blank, Laying, Resting, Drawn}
use Rattle.model.specs.State.{JobState, pair_at, value_of, settled_in, leaving}
use Rattle.runs.specs.Lists.{Rule, Ends, Call, granted, settled_by, spread_by, reach_in}
use Rattle.runs.specs.Law.{legs_leaving}
use Rattle.runs.proofs.Known.{board}
use Rattle.runs.proofs.Agrees.{Agrees}

-- the state of the search that a job's table is
abbrev pub search_of : JobState → State
search_of s = board s.hall.points s.table

pub record Open (g : ℕ) (ds ts : List Ends) (s : JobState) (m : Meaning) (j : Rule) (hand : Hand) : Type 0 where
  pub sized : Sized s.hall
  pub some : 0 < s.hall.points
  pub lawful : Lawful j.join j.reach
  pub agrees : Agrees s.hall.points s.table m
  pub reach : s.opening.reach ≡ reach_in j s
  pub capacity : s.opening.capacity ≡ capacity m
  pub band : s.opening.band ≡ m.band
  pub floor : m.floor ≡ s.floor
  pub range : s.hall.points * reach_in j s ≤ value_limit
  pub wide : reach_in j s ≤ m.band
  pub front : Front s.hall j.join (search_of s) s.floor hand
  pub tallied : Tallied s.hall (search_of s) g s.tried hand
  pub settled : (u v : ℕ) → ((x : ℕ) × (value_of (pair_at s u v) ≡ Some x)) ↔ Memᴰ (record { from = u; to = v }) ds
  pub once : settled_in s.table ≡ length ds
  pub tried : s.tried ≡ legs_leaving s.hall ts

abbrev pub KeptIn : Phase → ℕ → List Ends → List Ends → JobState → Meaning → Rule → Type 0
KeptIn Blank g ds ts s m j = Sized s.hall
KeptIn Laying g ds ts s m j = Sized s.hall × (0 < s.hall.points)
KeptIn Resting g ds ts s m j = Open g ds ts s m j free
KeptIn (Drawn u v) g ds ts s m j = Open g ds ts s m j (holds u v (leaving s.hall v))

abbrev pub Kept : List Call → JobState → Meaning → Rule → Type 0
Kept cs s m j = KeptIn s.phase (granted cs) (settled_by cs) (spread_by cs) s m j
