-- What holds after every list of calls, while the job is open.
--   WalksOf      x is the value of a walk of the pair (u, v)
--   ValueOf      x is the least value of a walk of the pair
--   Reached       item i is that of a pair with a walk
--   legs_leaving  how many legs leave the far ends of pairs, added up
--   EntryKey     y is a key by which (u, w) may wait: 0 where u is w, else a joined value over a leg from a settled pair
--   WhatWaits    an unsettled pair waits exactly if it may, at its least key, and nothing else is in the queue
--   Told          what a look-up's answer says: the least value, no walk, or none of a value below the floor
--   Law           settled routes are least walks; nothing unsettled is nearer than something settled; the tally counts
--                 exactly; what waits; the queue fits; a finished table is the table of least values
--   LawOverRuns the law holds after every list of calls, while the job is open
use Rattle.std.specs.Prelude.{◌≡◌, ℕ, ◌+◌, ◌*◌, ◌/◌, ◌%◌, ◌<◌, ◌≤◌, min, true, ◌↔◌, List, [], ◌∷◌, length, Some, None, Option}
use mathlib.Core.List.{Memᴰ}
use Rattle.queue.specs.Meaning.{Meaning, key_of, Least}
use Rattle.queue.specs.declared.Entry.{Entry}
use Rattle.walks.specs.Hall.{Hall, Leads, Walk}
use Rattle.walks.specs.Laws.{Worth, Least as LeastNumber}
use Rattle.walks.specs.Units.{Counted, Linked}
use Rattle.model.specs.State.{JobState, is_open, is_resting, is_finished, item, pair_at, value_of, settled_in, leaving, route}
use Rattle.model.specs.declared.Answer.{Answer}
use Rattle.model.specs.declared.Answer.TheVariants.{Value, NoWay, NotYet}
use Rattle.model.specs.Calls.{fits, seen}
use Rattle.runs.specs.Lists.{Rule, Ends, Call, granted, settled_by, spread_by, reach_in, Run}

abbrev pub WalksOf : Hall → Rule → ℕ → ℕ → ℕ → Type 0
WalksOf h j u v x = Worth h j.join u v x

abbrev pub ValueOf : Hall → Rule → ℕ → ℕ → ℕ → Type 0
ValueOf h j u v x = LeastNumber (WalksOf h j u v) x

abbrev pub Reached : Hall → Rule → ℕ → Type 0
Reached h j i = Linked h j.join i

abbrev pub legs_leaving : Hall → List Ends → ℕ
legs_leaving h [] = 0
legs_leaving h (p ∷ ps) = length (leaving h p.to) + legs_leaving h ps

pub data EntryKey (s : JobState) (j : Rule) (u w : ℕ) : ℕ → Type 0 where
  own : u < s.hall.points → u ≡ w → EntryKey s j u w 0
  over : {v x i k : ℕ} → value_of (pair_at s u v) ≡ Some x → Leads s.hall i v w k → EntryKey s j u w (j.join x k)

abbrev pub LeastKey : JobState → Rule → ℕ → ℕ → ℕ → Type 0
LeastKey s j u w l = LeastNumber (EntryKey s j u w) l

-- at rest
pub record WhatWaits (s : JobState) (m : Meaning) (j : Rule) : Type 0 where
  -- an unsettled pair waits exactly if it may, at the least key
  pub waits : (u w l : ℕ) → u < s.hall.points → w < s.hall.points → value_of (pair_at s u w) ≡ None →
      (key_of m (item s u w) ≡ Some l) ↔ LeastKey s j u w l
  pub enters : (u w y : ℕ) → u < s.hall.points → w < s.hall.points → value_of (pair_at s u w) ≡ None →
      EntryKey s j u w y → (l : ℕ) × (key_of m (item s u w) ≡ Some l)
  -- and nothing else is in the queue
  pub only : (i k : ℕ) → key_of m i ≡ Some k →
      (i < s.hall.points * s.hall.points) × (value_of (pair_at s (i / s.hall.points) (i % s.hall.points)) ≡ None)

-- what a look-up's answer says of walks
abbrev pub Told : JobState → Rule → ℕ → ℕ → Answer → Type 0
Told s j u v (Value x l) = ValueOf s.hall j u v x
Told s j u v NoWay = (y : ℕ) → WalksOf s.hall j u v y → ⊥
Told s j u v (NotYet f) = (y : ℕ) → WalksOf s.hall j u v y → f ≤ y

pub record Law (cs : List Call) (s : JobState) (m : Meaning) (j : Rule) : Type 0 where
  -- a settled pair's route is a walk of that pair with the settled value, and every walk of it has at least that value
  pub routes : (u v x : ℕ) → value_of (pair_at s u v) ≡ Some x →
      Walk s.hall j.join u v x (route s u v) × ((y : ℕ) → WalksOf s.hall j u v y → x ≤ y)
  -- it has fewer legs than there are points
  pub short : (u v x : ℕ) → value_of (pair_at s u v) ≡ Some x → length (route s u v) < s.hall.points
  -- no unsettled pair has a walk of lower value than a settled pair's
  pub nearest : (a b x u v y : ℕ) → value_of (pair_at s a b) ≡ Some x → value_of (pair_at s u v) ≡ None →
      WalksOf s.hall j u v y → x ≤ y
  -- nor one of a value below the floor
  pub floor : (u v y : ℕ) → value_of (pair_at s u v) ≡ None → WalksOf s.hall j u v y → s.floor ≤ y
  -- the settled pairs are those drawn, each once
  pub settled : (u v : ℕ) →
      ((x : ℕ) × (value_of (pair_at s u v) ≡ Some x)) ↔ Memᴰ (record { from = u; to = v }) (settled_by cs)
  pub once : settled_in s.table ≡ length (settled_by cs)
  -- as many as units were granted, or as there are pairs with a walk
  pub counted : (w : ℕ) × Counted (Reached s.hall j) (s.hall.points * s.hall.points) w ×
      (settled_in s.table ≡ min (granted cs) w)
  -- legs tried are those that leave the far ends of the spread pairs
  pub tried : s.tried ≡ legs_leaving s.hall (spread_by cs)
  -- what waits, at rest
  pub waiting : is_resting s.phase ≡ true → WhatWaits s m j
  -- the opening's queue and rule always fit
  pub fit : (e : Option Entry) → Least m e → fits s m e (reach_in j s) ≡ true
  -- a finished table has the least value of each pair, and none exactly where no walk is
  pub finished : is_finished s ≡ true → (u v : ℕ) → u < s.hall.points → v < s.hall.points →
      ((x : ℕ) → (value_of (pair_at s u v) ≡ Some x) ↔ ValueOf s.hall j u v x) ×
      ((value_of (pair_at s u v) ≡ None) ↔ ((y : ℕ) → WalksOf s.hall j u v y → ⊥))
  -- a job at rest is finished exactly if no fewer units were granted than there are pairs with a walk
  pub done : is_resting s.phase ≡ true → (w : ℕ) → Counted (Reached s.hall j) (s.hall.points * s.hall.points) w →
      (is_finished s ≡ true) ↔ (w ≤ granted cs)
  -- a look-up tells the truth
  pub told : (u v : ℕ) → u < s.hall.points → v < s.hall.points → Told s j u v (seen s (pair_at s u v))

abbrev pub LawOverRuns : Type 0
LawOverRuns = (cs : List Call) (s : JobState) (m : Meaning) (j : Rule) → Run cs s m j → is_open s.phase ≡ true → Law cs s m j
