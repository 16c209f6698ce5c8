-- Lists of calls on one job, in any order, refused or not.
--   Rule        a joining rule by its meaning
--   Call        a call that changed the job, or one that only asked or was refused
--   granted     the units granted since the opening
--   settled_by  the pairs drawn since the opening, alone or in work
--   spread_by   the pairs spread since the opening
--   Run         after the list of calls the job is in this state, and the queue of its opening has this meaning
-- A list has its newest call first. While a job is open, each accepted call that takes a queue or a rule takes that of
-- its opening, and nothing else changes that queue; a refused call may take any.
use Rattle.std.specs.Prelude.{◌≡◌, ℕ, suc, ◌+◌, false, List, [], ◌∷◌, ◌++◌, map, None, Option}
use Rattle.queue.specs.Meaning.{Meaning, Least}
use Rattle.queue.specs.declared.Entry.{Entry}
use Rattle.walks.specs.Hall.{Lawful}
use Rattle.model.specs.State.{JobState, blank, is_open}
use Rattle.model.specs.Calls.{make_due, made, lay_due, laid, open_due, opened, start_queue, draw_due, DrawsEntry, spread_due, spread, spread_desk, abandon_due, reopen_due, emptied, work_due, Worked, from_of, to_of}

pub record Rule : Type 0 where
  pub join : ℕ → ℕ → ℕ
  pub reach : ℕ → ℕ

pub record Ends : Type 0 where
  pub from : ℕ
  pub to : ℕ

pub data Call : Type 0 where
  -- an accepted making
  makes : Call
  -- an accepted laying
  lays : Call
  -- an accepted opening
  opens : Call
  -- an accepted drawing of a pair
  draws : Ends → Call
  -- an accepted spreading of a docket for a pair, from whichever job
  spreads : Ends → Call
  -- accepted work: its budget, and the pairs that it drew and spread
  works : ℕ → List Ends → Call
  -- an accepted abandoning or reopening
  empties : Call
  -- a refused sheet, which leaves a blank job
  blanks : Call
  -- a look-up, a route, a listing, a tally, or a call that was refused
  asks : Call

abbrev pub granted : List Call → ℕ
granted [] = 0
granted (makes ∷ cs) = 0
granted (lays ∷ cs) = 0
granted (opens ∷ cs) = 0
granted (draws p ∷ cs) = suc (granted cs)
granted (spreads p ∷ cs) = granted cs
granted (works b ps ∷ cs) = b + granted cs
granted (empties ∷ cs) = 0
granted (blanks ∷ cs) = 0
granted (asks ∷ cs) = granted cs

abbrev pub settled_by : List Call → List Ends
settled_by [] = []
settled_by (makes ∷ cs) = []
settled_by (lays ∷ cs) = []
settled_by (opens ∷ cs) = []
settled_by (draws p ∷ cs) = p ∷ settled_by cs
settled_by (spreads p ∷ cs) = settled_by cs
settled_by (works b ps ∷ cs) = ps ++ settled_by cs
settled_by (empties ∷ cs) = []
settled_by (blanks ∷ cs) = []
settled_by (asks ∷ cs) = settled_by cs

abbrev pub spread_by : List Call → List Ends
spread_by [] = []
spread_by (makes ∷ cs) = []
spread_by (lays ∷ cs) = []
spread_by (opens ∷ cs) = []
spread_by (draws p ∷ cs) = spread_by cs
spread_by (spreads p ∷ cs) = p ∷ spread_by cs
spread_by (works b ps ∷ cs) = ps ++ spread_by cs
spread_by (empties ∷ cs) = []
spread_by (blanks ∷ cs) = []
spread_by (asks ∷ cs) = spread_by cs

-- the pair of an entry of a job's queue
abbrev pub ends_of : JobState → Entry → Ends
ends_of s e = record { from = from_of s e; to = to_of s e }

-- the rule's reach of the job's bound
abbrev pub reach_in : Rule → JobState → ℕ
reach_in j s = j.reach s.hall.bound

pub data Run : List Call → JobState → Meaning → Rule → Type 0 where
  -- a new job
  start : (m : Meaning) (j : Rule) → Run [] blank m j
  -- while a job is not open, queues and rules are free
  free : {cs : List Call} {s : JobState} {m : Meaning} {j : Rule} → Run cs s m j → is_open s.phase ≡ false →
      (o : Meaning) (k : Rule) → Run cs s o k
  making : {cs : List Call} {s : JobState} {m : Meaning} {j : Rule} (n c : ℕ) → Run cs s m j →
      make_due n c ≡ None → Run (makes ∷ cs) (made n c) m j
  laying : {cs : List Call} {s : JobState} {m : Meaning} {j : Rule} (f g k : ℕ) → Run cs s m j →
      lay_due s f g k ≡ None → Run (lays ∷ cs) (laid s f g k) m j
  opening : {cs : List Call} {s : JobState} {m : Meaning} {j : Rule} → Run cs s m j →
      Lawful j.join j.reach → open_due s m (reach_in j s) ≡ None →
      Run (opens ∷ cs) (opened s m (reach_in j s)) (start_queue s.hall.points s.hall.points m) j
  drawing : {cs : List Call} {s t : JobState} {m o : Meaning} {j : Rule} (e : Option Entry) (u v : ℕ) → Run cs s m j →
      Least m e → draw_due s m e ≡ None → DrawsEntry s m e u v t o → Run (draws (record { from = u; to = v }) ∷ cs) t o j
  spreading : {cs : List Call} {s : JobState} {m : Meaning} {j : Rule} (e : Option Entry) (u v : ℕ) → Run cs s m j →
      Least m e → spread_due s u v m e (reach_in j s) ≡ None →
      Run (spreads (record { from = u; to = v }) ∷ cs) (spread j.join s u v m) (spread_desk j.join s u v m).queue j
  working : {cs : List Call} {s t : JobState} {m o : Meaning} {j : Rule} (e : Option Entry) (b : ℕ) (es : List Entry) →
      Run cs s m j → Least m e → work_due s m e (reach_in j s) b ≡ None → Worked j.join (reach_in j s) b s m es t o →
      Run (works b (map (ends_of s) es) ∷ cs) t o j
  abandoning : {cs : List Call} {s : JobState} {m : Meaning} {j : Rule} (u v : ℕ) → Run cs s m j →
      abandon_due s u v ≡ None → Run (empties ∷ cs) (emptied s) m j
  reopening : {cs : List Call} {s : JobState} {m : Meaning} {j : Rule} → Run cs s m j →
      reopen_due s ≡ None → Run (empties ∷ cs) (emptied s) m j
  blanking : {cs : List Call} {s : JobState} {m : Meaning} {j : Rule} → Run cs s m j → Run (blanks ∷ cs) blank m j
  asking : {cs : List Call} {s : JobState} {m : Meaning} {j : Rule} → Run cs s m j → Run (asks ∷ cs) s m j
