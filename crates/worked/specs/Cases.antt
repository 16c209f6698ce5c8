-- Worked cases: one small hall and some figures, and what comes of them.
--   hall     four points, bound 9 and four legs
--   By       a joining rule by its name: running time with a dwell, or worst leg; `rule` is what it means
--   Kind     a kind of queue with its sizes
--   Made     what such a queue may mean when it is made
--   Trial    what its trial may answer
--   Surely   something is such, and whatever is such is so
--   Rest     a list of calls that leaves the job at rest, open with the hall and a rule
--   Case     a case with its numbers; an answer is a refusal's number, or none
--   Holds    what a case says: of every list of calls, of every queue, and of every answer that the contracts allow
--   cases    the cases
use Rattle.std.specs.Prelude.{◌≡◌, ℕ, ◌<◌, true, List, [], ◌∷◌, length, is_ok, Some, None, Ok, Err, Option, Result}
use Rattle.figures.specs.Limits.{out_of_range_number}
use Rattle.figures.specs.declared.OutOfRange.{OutOfRange}
use Rattle.rules.specs.Meanings.{running_time, running_reach, worst_leg, worst_reach}
use Rattle.chains.specs.declared.Chain.{Chain}
use Rattle.queue.specs.declared.Entry.{Entry}
use Rattle.queue.specs.declared.Offered.{Offered}
use Rattle.queue.specs.declared.Offered.TheVariants.{Entered}
use Rattle.queue.specs.declared.OfferRefusal.{OfferRefusal}
use Rattle.queue.specs.Meaning.{Meaning, key_of, Least, Offers, offer_number}
use Rattle.chains.specs.declared.cells.Cell.{Cell}
use Rattle.ring.specs.Standing.{fits, meant, fresh as fresh_ring}
use Rattle.heap.specs.Contents.{fresh as fresh_heap, Tried as HeapTried}
use Rattle.wheel.specs.Wheels.{Fresh as FreshWheel, Tried as WheelTried}
use Rattle.walks.specs.Hall.{Hall}
use Rattle.model.specs.declared.Phase.TheVariants.{Laying}
use Rattle.model.specs.declared.Answer.{Answer}
use Rattle.model.specs.declared.Answer.TheVariants.{NoWay, NotYet}
use Rattle.model.specs.declared.Refusal.{Refusal}
use Rattle.model.specs.Refusals.{refusal_number}
use Rattle.model.specs.State.{JobState, is_resting, is_finished, pair_at, value_of, route}
use Rattle.model.specs.Calls.{open_due, Works, Looks, tally_of}
use Rattle.runs.specs.Lists.{Rule, Call, granted, reach_in, Run}
use Rattle.runs.specs.Law.{ValueOf}

abbrev pub hall : Hall
hall = record {
  points = 4;
  bound = 9;
  legs =
      record { from = 0; to = 1; cost = 2 }
      ∷ record { from = 1; to = 2; cost = 2 }
      ∷ record { from = 0; to = 2; cost = 5 }
      ∷ record { from = 2; to = 0; cost = 9 }
      ∷ [];
}

pub data By : Type 0 where
  time : ℕ → By
  worst : By

abbrev pub rule : By → Rule
rule (time dwell) = record { join = running_time dwell; reach = running_reach dwell }
rule worst = record { join = worst_leg; reach = worst_reach }

pub data Kind : Type 0 where
  -- slots and cells
  ring : ℕ → ℕ → Kind
  -- cells
  heap : ℕ → Kind
  -- a width, and the queue below
  wheel : ℕ → Kind → Kind

abbrev pub Made : Kind → Meaning → Type 0
Made (ring slots cells) m = m ≡ fresh_ring slots cells
Made (heap cells) m = m ≡ fresh_heap cells
Made (wheel width below) m = (b : Meaning) × Made below b × FreshWheel width b m

abbrev pub Trial : Kind → Result (Unit {0}) OutOfRange → Type 0
Trial (ring slots cells) r = is_ok r ≡ fits slots cells
Trial (heap cells) r = HeapTried cells r
Trial (wheel width below) r = (b : Meaning) × Made below b × WheelTried width b.band r

abbrev pub Surely : {A : Type 0} → (A → Type 0) → (A → Type 0) → Type 0
Surely {A} Such So = ((a : A) × Such a) × ((a : A) → Such a → So a)

-- where it leaves the job and the queue; any calls, any queue
pub record Rest (j : Rule) : Type 0 where
  pub calls : List Call
  pub state : JobState
  pub queue : Meaning
  pub run : Run calls state queue j
  pub same : state.hall ≡ hall
  pub resting : is_resting state.phase ≡ true

pub data Case : Type 0 where
  -- by the rule, pair (u, v) has the value x, and in a finished job the route r
  settles : (by : By) (u v x : ℕ) (r : List ℕ) → Case
  -- after g units, looking up (u, v) answers a
  looks_up : (by : By) (g u v : ℕ) (a : Answer) → Case
  -- work on a job just opened, with the budget b, settles n pairs and tries l legs
  works : (by : By) (b n l : ℕ) → Case
  -- the trial of a queue
  tries : (q : Kind) (a : Option ℕ) → Case
  -- opening a hall of n points with bound c on a queue just made
  opens : (n c : ℕ) (by : By) (q : Kind) (a : Option ℕ) → Case
  -- offering key k to a ring of some slots, with the floor f, for an item that does not wait
  offers : (slots f k : ℕ) (a : Option ℕ) → Case

abbrev pub trial_number : Result (Unit {0}) OutOfRange → Option ℕ
trial_number (Ok x) = None
trial_number (Err e) = Some out_of_range_number

abbrev pub due_number : Option Refusal → Option ℕ
due_number None = None
due_number (Some e) = Some (refusal_number e)

-- the item enters, or is refused with the number
abbrev pub Told : Option ℕ → Result Offered OfferRefusal → Type 0
Told None r = r ≡ Ok Entered
Told (Some n) r = (e : OfferRefusal) × (r ≡ Err e) × (offer_number e ≡ n)

abbrev pub Holds : Case → Type 0
Holds (settles by u v x r) =
    ValueOf hall (rule by) u v x
    × Surely {A = Rest (rule by)} (λ l. is_finished l.state ≡ true)
    (λ l. (value_of (pair_at l.state u v) ≡ Some x) × (route l.state u v ≡ r))
Holds (looks_up by g u v a) =
    Surely {A = Rest (rule by)} (λ l. granted l.calls ≡ g)
    (λ l. (e : Option Entry) → Least l.queue e →
    Surely {A = Result Answer Refusal} (λ r. Looks (λ why. why) l.state u v l.queue e r) (λ r. r ≡ Ok a))
Holds (works by b n legs) =
    Surely {A = Rest (rule by)} (λ l. granted l.calls ≡ 0)
    (λ l. (e : Option Entry) → Least l.queue e →
    Surely {A = (Result ℕ Refusal) × JobState × Meaning}
    (λ w. Works (λ why. why) (λ n. n) (rule by).join (reach_in (rule by) l.state) l.state l.queue e b w.0 w.1 w.2)
    (λ w. (w.0 ≡ Ok n) × ((tally_of w.1).tried ≡ legs)))
Holds (tries q a) = Surely (Trial q) (λ r. trial_number r ≡ a)
Holds (opens n c by q a) =
    Surely (Made q) (λ m. (s : JobState) → s.phase ≡ Laying → s.hall.points ≡ n → s.hall.bound ≡ c →
    due_number (open_due s m (reach_in (rule by) s)) ≡ a)
Holds (offers slots f k a) =
    (ss : List Chain) (cs : List Cell) (i : ℕ) → length ss ≡ slots → i < length cs → key_of (meant ss cs f) i ≡ None →
    Surely {A = (Result Offered OfferRefusal) × Meaning} (λ w. Offers (meant ss cs f) i k w.0 w.1) (λ w. Told a w.0)

-- a wheel on the ring that halltable uses; its own has width 64
abbrev pub on_ring : ℕ → Kind
on_ring width = wheel width (ring 64 1600)

abbrev pub cases : List Case
cases =
    settles (time 0) 0 2 4 (0 ∷ 1 ∷ [])
    ∷ settles (time 3) 0 2 8 (2 ∷ [])
    ∷ settles worst 0 2 2 (0 ∷ 1 ∷ [])
    ∷ looks_up (time 0) 7 2 0 (NotYet 4)
    ∷ looks_up (time 0) 7 0 3 (NotYet 4)
    ∷ looks_up (time 0) 10 0 3 NoWay
    ∷ works (time 0) 20 10 12
    ∷ tries (ring 10 16) None
    ∷ opens 4 9 (time 0) (ring 10 16) None
    ∷ opens 4 9 (time 0) (ring 9 16) (Some 7)
    ∷ tries (on_ring 64) None
    ∷ opens 40 4095 (time 0) (on_ring 64) None
    ∷ tries (on_ring 63) None
    ∷ opens 40 4095 (time 0) (on_ring 63) (Some 7)
    ∷ tries (on_ring 65) (Some 9)
    ∷ tries (heap 1600) None
    ∷ opens 40 4095 (time 415335) (heap 1600) None
    ∷ opens 40 4095 (time 415336) (heap 1600) (Some 8)
    ∷ offers 10 2 11 None
    ∷ offers 10 2 12 (Some 22)
    ∷ offers 10 2 1 (Some 21)
    ∷ []
