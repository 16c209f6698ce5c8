-- Refusals: their numbers, and which one is due.
--   refusal_number  the number of a refusal
--   refusal_text    what is said of it
--   due             a case that a call tries, its refusal, and the cases tried after it
--   Answers         a call is refused exactly when a case holds, with the first; then `Same` holds of what it may write,
--                   and else `Done` of its result
use Rattle.std.specs.Prelude.{◌≡◌, ℕ, Bool, cond, List, codes, Some, None, Ok, Err, Option, Result}
use Rattle.model.specs.declared.Refusal.{Refusal}
use Rattle.model.specs.declared.Refusal.TheVariants.{Points, Bound, LegPoint, LegCost, LegsFull, Capacity, Band, Range, WrongPhase, Unfit, NoSuchPoint, BufferShort, Unsettled, NothingWaits, Unfinished, Budget}

abbrev pub refusal_number : Refusal → ℕ
refusal_number Points = 1
refusal_number Bound = 2
refusal_number LegPoint = 3
refusal_number LegCost = 4
refusal_number LegsFull = 5
refusal_number Capacity = 6
refusal_number Band = 7
refusal_number Range = 8
refusal_number WrongPhase = 10
refusal_number Unfit = 11
refusal_number NoSuchPoint = 12
refusal_number BufferShort = 13
refusal_number Unsettled = 14
refusal_number NothingWaits = 15
refusal_number Unfinished = 16
refusal_number Budget = 17

abbrev pub refusal_text : Refusal → List ℕ
refusal_text Points = codes "points not 1 to 40"
refusal_text Bound = codes "bound not 1 to 4095"
refusal_text LegPoint = codes "a leg's point is none of the hall"
refusal_text LegCost = codes "a leg's cost is above the bound"
refusal_text LegsFull = codes "as many legs stand as may"
refusal_text Capacity = codes "the queue has too few items"
refusal_text Band = codes "the queue's band is too small"
refusal_text Range = codes "values could pass the largest key"
refusal_text WrongPhase = codes "the job is in another phase"
refusal_text Unfit = codes "the queue or the rule does not fit the job"
refusal_text NoSuchPoint = codes "there is no such point"
refusal_text BufferShort = codes "the buffer is too short"
refusal_text Unsettled = codes "the pair is not settled"
refusal_text NothingWaits = codes "nothing waits for a drawing"
refusal_text Unfinished = codes "the job is not finished"
refusal_text Budget = codes "the budget is above 65535"

abbrev pub due : Bool → Refusal → Option Refusal → Option Refusal
due holds why later = cond holds (Some why) later

abbrev pub Answers : {T E : Type 0} → Option Refusal → (E → Refusal) → Result T E → Type 0 → (T → Type 0) → Type 0
Answers (Some e) why (Err x) Same Done = (why x ≡ e) × Same
Answers (Some e) why (Ok t) Same Done = ⊥
Answers None why (Err x) Same Done = ⊥
Answers None why (Ok t) Same Done = Done t
