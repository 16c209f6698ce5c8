-- Work that draws the first entry of least key each time: it is one of the ways in which work may go.
-- Assumes nothing.
use Rattle.std.proofs.Common.{ℕ, zero, suc, List, [], ◌∷◌, Some, None, Option}
use Rattle.queue.specs.declared.Entry.{Entry}
use Rattle.queue.specs.Meaning.{Meaning, Least}
use Rattle.walks.specs.Search.{free}
use Rattle.model.specs.State.{JobState}
use Rattle.model.specs.Calls.{after_unit, queue_after, Worked, spent, empty, unit}
use Rattle.runs.specs.Lists.{Rule, Ends, ends_of, reach_in}
use Rattle.runs.proofs.Kept.{Open}
use Rattle.runs.proofs.Units.{one_unit}
use Rattle.runs.proofs.Fitness.{fit}
use Rattle.worked.proofs.First.{first, first_is_least}

-- the entries drawn, and what is left
pub record Outcome : Type 0 where
  pub entries : List Entry
  pub state : JobState
  pub queue : Meaning

-- a unit that draws the entry, if any, and so many units after it
abbrev then : (JobState → Meaning → Outcome) → (ℕ → ℕ → ℕ) → JobState → Meaning → Option Entry → Outcome
then more join s m None = record { entries = []; state = s; queue = m }
then more join s m (Some e) =
    let rest : Outcome = more (after_unit join s m e) (queue_after join s m e) in
    record { entries = e ∷ rest.entries; state = rest.state; queue = rest.queue }

unfoldable pub units : (ℕ → ℕ → ℕ) → ℕ → JobState → Meaning → Outcome
units join zero s m = record { entries = []; state = s; queue = m }
units join (suc b) s m = then (units join b) join s m (first m)

-- the outcome is one that work may have
abbrev pub Goes : Rule → ℕ → JobState → Meaning → Outcome → Type 0
Goes j b s m w = Worked j.join (reach_in j s) b s m w.entries w.state w.queue

pub worked : (b g : ℕ) (ds ts : List Ends) (s : JobState) (m : Meaning) (j : Rule) → Open g ds ts s m j free →
    Goes j b s m (units j.join b s m)
unfolding units
worked zero g ds ts s m j was = spent
worked (suc b) g ds ts s m j was =
    by (first m) (first_is_least m)
    (λ e least. worked b (suc g) (ends_of s e ∷ ds) (ends_of s e ∷ ts) (after_unit j.join s m e) (queue_after j.join s m e) j
    (one_unit g ds ts s m j was e least))
  where
    by : (o : Option Entry) → Least m o →
        ((e : Entry) → Least m (Some e) →
        Goes j b (after_unit j.join s m e) (queue_after j.join s m e)
        (units j.join b (after_unit j.join s m e) (queue_after j.join s m e))) →
        Goes j (suc b) s m (then (units j.join b) j.join s m o)
    by None none rest = empty none
    by (Some e) least rest = unit least (fit g ds ts s m j free was (Some e) least) (rest e least)
