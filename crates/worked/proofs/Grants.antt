-- Work as a further call of a list that leaves the hall at rest.
-- Assumes nothing.
use Rattle.std.proofs.Common.{◌≡◌, ℕ, ◌≤◌, List, ◌∷◌, map, None, Option, refl, ap, ◌∙◌}
use Rattle.std.proofs.lemmas.Bool.{le-ltb}
use Rattle.queue.specs.declared.Entry.{Entry}
use Rattle.queue.specs.Meaning.{Meaning, Least}
use Rattle.model.specs.State.{JobState, is_resting}
use Rattle.model.specs.Calls.{Worked, spent, empty, unit, unfit, work_due, budget_limit}
use Rattle.runs.specs.Lists.{Rule, works, ends_of, reach_in, granted, settled_by, spread_by, working}
use Rattle.runs.proofs.Work.{work}
use Rattle.worked.specs.Cases.{Rest}
use Rattle.worked.proofs.First.{first, first_is_least}
use Rattle.worked.proofs.Units.{units, worked}
use Rattle.worked.proofs.Compared.{rest_at, open_at, law_at}

pub same_hall : {join : ℕ → ℕ → ℕ} {r b : ℕ} {s t : JobState} {m o : Meaning} {es : List Entry} → Worked join r b s m es t o →
    t.hall ≡ s.hall
same_hall spent = refl
same_hall (empty none) = refl
same_hall (unit least fits more) = same_hall more
same_hall (unfit f least fits is to next bad) = ap (λ x. x.hall) is

module _ (j : Rule) (l : Rest j) (b : ℕ) (few : b ≤ budget_limit) where
  -- nothing is due
  pub work_ok : (e : Option Entry) → Least l.queue e → work_due l.state l.queue e (reach_in j l.state) b ≡ None
  work_ok e least = rw (l.resting, le-ltb budget_limit b few, (law_at j l).fit e least)

  module _ (e : Option Entry) (least : Least l.queue e) (es : List Entry) (t : JobState) (o : Meaning)
      (done : Worked j.join (reach_in j l.state) b l.state l.queue es t o) where
    unfoldable pub worked_on : Rest j
    worked_on = record {
      calls = works b (map (ends_of l.state) es) ∷ l.calls;
      state = t;
      queue = o;
      run = working e b es l.run least (work_ok e least) done;
      same = same_hall done ∙ l.same;
      resting = ap is_resting (work j (reach_in j l.state) done (granted l.calls) (settled_by l.calls) (spread_by l.calls) refl
          (rest_at j l).0 (rest_at j l).1).0;
    }

  -- by the first entry of least key each time
  unfoldable pub grant : Rest j
  grant =
      worked_on (first l.queue) (first_is_least l.queue) (units j.join b l.state l.queue).entries
      (units j.join b l.state l.queue).state (units j.join b l.state l.queue).queue
      (worked b (granted l.calls) (settled_by l.calls) (spread_by l.calls) l.state l.queue j (open_at j l))
