-- The hall opened on a heap of 16 cells, and so many units later: lists of calls of which the tables can be computed.
-- Assumes nothing.
use Rattle.std.proofs.Common.{◌≡◌, ℕ, ◌≤◌, Bool, true, leb, [], ◌∷◌, None, refl}
use Rattle.std.proofs.lemmas.Bool.{leb-true}
use Rattle.figures.specs.Limits.{dwell_limit}
use Rattle.rules.specs.Proved.{running_lawful, worst_lawful}
use Rattle.queue.specs.Meaning.{Meaning}
use Rattle.heap.specs.Contents.{fresh}
use Rattle.walks.specs.Hall.{Lawful}
use Rattle.model.specs.State.{JobState}
use Rattle.model.specs.Calls.{made, laid, open_due, opened, start_queue, budget_limit}
use Rattle.runs.specs.Lists.{makes, lays, opens, reach_in, Run, start, making, laying, opening}
use Rattle.worked.specs.Cases.{By, time, worst, rule, Rest}
use Rattle.worked.proofs.Grants.{grant}

-- a rule that can be made
abbrev pub lawful_by : By → Bool
lawful_by (time dwell) = leb dwell dwell_limit
lawful_by worst = true

lawful : (by : By) → lawful_by by ≡ true → Lawful (rule by).join (rule by).reach
lawful (time dwell) e = running_lawful dwell (leb-true dwell dwell_limit e)
lawful worst e = worst_lawful

abbrev pub laid_out : JobState
laid_out = laid (laid (laid (laid (made 4 9) 0 1 2) 1 2 2) 0 2 5) 2 0 9

abbrev pub queue : Meaning
queue = fresh 16

module _ (by : By) (MadeSo : lawful_by by ≡ true) (ok : open_due laid_out queue (reach_in (rule by) laid_out) ≡ None) where
  pub run : Run (opens ∷ lays ∷ lays ∷ lays ∷ lays ∷ makes ∷ []) (opened laid_out queue (reach_in (rule by) laid_out))
      (start_queue 4 4 queue) (rule by)
  run =
      opening
      (laying 2 0 9 (laying 0 2 5 (laying 1 2 2 (laying 0 1 2 (making 4 9 (start queue (rule by)) refl) refl) refl) refl) refl)
      (lawful by MadeSo) ok

  unfoldable pub begun : Rest (rule by)
  begun = record {
    calls = opens ∷ lays ∷ lays ∷ lays ∷ lays ∷ makes ∷ [];
    state = opened laid_out queue (reach_in (rule by) laid_out);
    queue = start_queue 4 4 queue;
    run = run;
    same = refl;
    resting = refl;
  }

  unfoldable pub after : (b : ℕ) → b ≤ budget_limit → Rest (rule by)
  after b few = grant (rule by) begun b few
