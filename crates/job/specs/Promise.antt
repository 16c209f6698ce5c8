-- What a job promises beyond its single calls.
--   Trusted   what holds of a job in a state, after every list of calls that led there
--   Longer    a call makes a list longer: as itself where it is accepted, as one that only asked where it is refused
--   Outcomes  so does every outcome that the calls' contracts allow: none falls outside the lists
-- A refused call may have taken any queue and rule; an opening takes them for the job's own.
use Rattle.std.specs.Prelude.{◌≡◌, ℕ, true, List, ◌∷◌, map, length, Ok, Err, Option, Result}
use Rattle.queue.specs.Meaning.{Meaning, Least}
use Rattle.queue.specs.declared.Entry.{Entry}
use Rattle.walks.specs.Hall.{Lawful}
use Rattle.model.specs.State.{JobState, is_open}
use Rattle.model.specs.Calls.{Makes, Lays, Opens, Draws, Spreads, Works, Abandons, Reopens}
use Rattle.model.specs.declared.Refusal.{Refusal}
use Rattle.runs.specs.Lists.{Call, makes, lays, opens, draws, spreads, works, empties, asks, Rule, ends_of, reach_in, Run}
use Rattle.runs.specs.Law.{Law}
use Rattle.job.specs.declared.permits.LayingPermit.{LayingPermit}
use Rattle.job.specs.declared.permits.RestingPermit.{RestingPermit}
use Rattle.job.specs.declared.permits.Docket.{Docket}
use Rattle.job.specs.declared.permits.Refused.{Refused}
use Rattle.job.specs.declared.working.Worked.{Worked}

abbrev pub Trusted : JobState → Type 0
Trusted s = (cs : List Call) (m : Meaning) (j : Rule) → Run cs s m j → is_open s.phase ≡ true → Law cs s m j

abbrev pub Longer : {T E : Type 0} → Result T E → (T → Type 0) → Type 0 → Type 0
Longer (Ok x) Itself Asked = Itself x
Longer (Err x) Itself Asked = Asked

-- of a job in state s, after a list of calls, with the queue and the rule of its opening
pub record Outcomes (cs : List Call) (s : JobState) (m : Meaning) (j : Rule) : Type 0 where
  pub making : (n c : ℕ) (r : Result LayingPermit Refusal) (t : JobState) → Makes (λ x. x) s n c r t →
      Longer r (λ x. Run (makes ∷ cs) t m j) (Run (asks ∷ cs) t m j)
  pub laying : (f g k : ℕ) (r : Result ℕ Refusal) (t : JobState) → Lays (λ x. x) s f g k r t →
      Longer r (λ x. Run (lays ∷ cs) t m j) (Run (asks ∷ cs) t m j)
  pub opening : (q o : Meaning) (k : Rule) (r : Result RestingPermit (Refused LayingPermit)) (t : JobState) →
      Lawful k.join k.reach → Opens (λ x. x.refusal) s q (reach_in k s) r t o →
      Longer r (λ x. Run (opens ∷ cs) t o k) (Run (asks ∷ cs) t m j)
  pub drawing : (e : Option Entry) (o : Meaning) (r : Result Docket (Refused RestingPermit)) (t : JobState) → Least m e →
      Draws (λ x. x.refusal) (λ d. d.from) (λ d. d.to) s m e r t o →
      Longer r (λ d. Run (draws (record { from = d.from; to = d.to }) ∷ cs) t o j) (Run (asks ∷ cs) t m j)
  pub spreading : (u v : ℕ) (e : Option Entry) (o : Meaning) (r : Result RestingPermit (Refused Docket)) (t : JobState) →
      Least m e → Spreads (λ x. x.refusal) j.join (reach_in j s) s u v m e r t o →
      Longer r (λ x. Run (spreads (record { from = u; to = v }) ∷ cs) t o j) (Run (asks ∷ cs) t m j)
  pub working : (b : ℕ) (e : Option Entry) (o : Meaning) (r : Result Worked (Refused RestingPermit)) (t : JobState) →
      Least m e → Works (λ x. x.refusal) (λ w. w.settled) j.join (reach_in j s) s m e b r t o →
      Longer r (λ x. (es : List Entry) × (x.settled ≡ length es) × Run (works b (map (ends_of s) es) ∷ cs) t o j) (Run (asks ∷ cs) t m j)
  pub abandoning : (u v : ℕ) (r : Result LayingPermit Refusal) (t : JobState) → Abandons (λ x. x) s u v r t →
      Longer r (λ x. Run (empties ∷ cs) t m j) (Run (asks ∷ cs) t m j)
  pub reopening : (r : Result LayingPermit (Refused RestingPermit)) (t : JobState) → Reopens (λ x. x.refusal) s r t →
      Longer r (λ x. Run (empties ∷ cs) t m j) (Run (asks ∷ cs) t m j)

abbrev pub OutcomesListed : JobState → Type 0
OutcomesListed s = (cs : List Call) (m : Meaning) (j : Rule) → Run cs s m j → Outcomes cs s m j
