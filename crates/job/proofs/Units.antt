-- Work by units: how the units done go on.
use Rattle.std.proofs.Common.{◌≡◌, ℕ, ◌+◌, ◌-◌, ◌<◌, ◌≤◌, true, false, List, [], ◌∷◌, length, Some, None, Option, ◌∙◌, subst, arith}
use Rattle.queue.specs.Meaning.{Meaning, Least}
use Rattle.queue.specs.declared.Entry.{Entry}
use Rattle.model.specs.State.{JobState}
use Rattle.model.specs.Calls.{Worked, spent, empty, unit, unfit, fits, after_unit, queue_after}
use Rattle.job.specs.Units.{Ran}

module _ (join : ℕ → ℕ → ℕ) (reach budget : ℕ) (first : JobState) (begun : Meaning) where
  -- from s and m, with so many units done, whatever the rest is makes the whole
  abbrev pub Goes : ℕ → JobState → Meaning → Type 0
  Goes done s m = (es : List Entry) (t : JobState) (o : Meaning) → Worked join reach (budget - done) s m es t o
      → Ran join reach budget first begun (done + length es) t o

  at_budget : {b c : ℕ} {s t : JobState} {m o : Meaning} {es : List Entry} → b ≡ c → Worked join reach b s m es t o → Worked join reach c s m es t o
  at_budget {s} {t} {m} {o} {es} p w = subst (λ b. Worked join reach b s m es t o) p w

  ran_at : {n k : ℕ} {t : JobState} {o : Meaning} → k ≡ n → Ran join reach budget first begun n t o → Ran join reach budget first begun k t o
  ran_at p r = (r.0, p ∙ r.1, r.2)

  pub goes_none : Goes 0 first begun
  goes_none es t o w = (es, omega arith, at_budget (omega arith) w)

  module _ (done : ℕ) (s : JobState) (m : Meaning) (goes : Goes done s m) where
    pub goes_empty : Least m None → Ran join reach budget first begun done s m
    goes_empty l = ran_at (omega arith) (goes [] s m (empty l))

    pub goes_spent : budget ≤ done → Ran join reach budget first begun done s m
    goes_spent h = ran_at (omega arith) (goes [] s m (at_budget (omega arith) spent))

    pub goes_more : (e : Entry) → done < budget → Least m (Some e) → fits s m (Some e) reach ≡ true
        → Goes (done + 1) (after_unit join s m e) (queue_after join s m e)
    goes_more e h l f es t o w = ran_at (omega arith) (goes (e ∷ es) t o (at_budget (omega arith) (unit l f w)))

    pub goes_unfit : (e : Entry) (t : JobState) (o : Meaning) (n : Option Entry) → done < budget → Least m (Some e) → fits s m (Some e) reach ≡ true
        → t ≡ after_unit join s m e → o ≡ queue_after join s m e → Least o n → fits t o n reach ≡ false
        → Ran join reach budget first begun (done + 1) t o
    goes_unfit e t o n h l f p q k z =
        ran_at (omega arith) (goes (e ∷ []) t o (at_budget (omega arith) (unfit {b = budget - (done + 1)} n l f p q k z)))
