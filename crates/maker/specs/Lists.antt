-- The listing of a job.
--   list_due  the refusal due to the call, if any: the cases in the order in which they are tried
--   ListsJob the call with its answer, of a buffer that holds b before it and c after
use Rattle.std.specs.Prelude.{◌≡◌, ℕ, not, List, ◌++◌, length, drop, None, Option, Result, nat_lt}
use Rattle.listing.specs.Listing.{listing}
use Rattle.model.specs.Refusals.{due, Answers}
use Rattle.model.specs.State.{JobState, is_resting, waiting_in}
use Rattle.model.specs.declared.Refusal.{Refusal}
use Rattle.model.specs.declared.Refusal.TheVariants.{WrongPhase, Unfinished, BufferShort}
use Rattle.maker.specs.Tables.{cells}

-- the bytes of a job's listing
abbrev pub text_of : JobState → List ℕ
text_of s = listing s.hall.points (cells s)

abbrev pub list_due : JobState → List ℕ → Option Refusal
list_due s b =
    due (not (is_resting s.phase)) WrongPhase
    (due (nat_lt 0 (waiting_in s.table)) Unfinished
    (due (nat_lt (length b) (length (text_of s))) BufferShort None))

abbrev pub ListsJob : JobState → List ℕ → Result ℕ Refusal → List ℕ → Type 0
ListsJob s b r c =
    Answers (list_due s b) (λ e. e) r (c ≡ b)
    (λ n. (n ≡ length (text_of s)) × (c ≡ text_of s ++ drop (length (text_of s)) b))
