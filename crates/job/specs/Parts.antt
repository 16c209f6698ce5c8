-- A job's state by its parts, for calls that hold only some of them.
--   desk      a table and the queue beside it
--   Told      what the test of fitness answers
--   Drawable  the job rests, and notes the entry that a queue names
--   Found     what a pair is, if the job is open and has it
--   Stepped   what a step back along a route writes and answers
use Rattle.std.specs.Prelude.{◌≡◌, ℕ, true, false, not, ◌&&◌, List, Some, None, Ok, Err, Option, Result, slice_set}
use Rattle.queue.specs.Meaning.{Meaning}
use Rattle.queue.specs.declared.Entry.{Entry}
use Rattle.model.specs.Calls.{Desk, fits, noted}
use Rattle.model.specs.State.{JobState, is_open, is_point, pair_at}
use Rattle.model.specs.declared.Pair.{Pair}
use Rattle.model.specs.declared.Phase.TheVariants.{Resting}
use Rattle.model.specs.declared.Refusal.{Refusal}
use Rattle.model.specs.declared.Refusal.TheVariants.{WrongPhase, NoSuchPoint, Unfit}
use Rattle.model.specs.Refusals.{due, Answers}
use Rattle.walks.specs.Hall.{Hall, leg}

abbrev pub desk : List Pair → Meaning → Desk
desk ps m = record { table = ps; queue = m }

-- unfit, or the entry that the queue names
abbrev pub Told : JobState → Meaning → Option Entry → ℕ → Result (Option Entry) Refusal → Type 0
Told s m e reach (Err why) = (why ≡ Unfit) × (fits s m e reach ≡ false)
Told s m e reach (Ok x) = (x ≡ e) × (fits s m e reach ≡ true)

abbrev pub Drawable : JobState → Option Entry → Type 0
Drawable s e = (s.phase ≡ Resting) × (noted s.table e ≡ true)

abbrev pub Found : JobState → ℕ → ℕ → Result Pair Refusal → Type 0
Found s u v r =
    Answers (due (not (is_open s.phase)) WrongPhase (due (not (is_point s u && is_point s v)) NoSuchPoint None))
    (λ x. x) r (Unit {0}) (λ p. p ≡ pair_at s u v)

-- by the last leg of the pair, if it has one; b is the route before, c after
abbrev pub Stepped : Hall → Option ℕ → ℕ → List ℕ → Option ℕ → List ℕ → Type 0
Stepped h last place b None c = (last ≡ None) × (c ≡ b)
Stepped h last place b (Some from) c = (i : ℕ) × (last ≡ Some i) × (from ≡ (leg h i).from) × (c ≡ slice_set b place i)
