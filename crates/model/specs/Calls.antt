-- What each call of a job does: which refusal is due, what it answers, and the state after it.
--   fits      the queue and the rule are as the job left them, so far as questions tell
--   NAME-due  the refusal due to a call, if any: the cases in the order in which they are tried
--   Makes, Lays, Opens, Draws, Spreads, Abandons, Works, Looks, Reads, Reopens   a call with its answer and the state after it
--   tally_of  what the tally tells
-- s and t are the job's states before and after, m and o the queue's meanings; e is the entry that the queue names.
use Rattle.std.specs.Prelude.{◌≡◌, ℕ, zero, suc, ◌+◌, ◌*◌, ◌/◌, ◌%◌, Bool, true, false, cond, not, ◌&&◌, List, [], ◌∷◌, ◌++◌, length, drop, replicate, is_some, Some, None, Option, Result, ◌==◌, nat_le, nat_lt, slice_index_or, slice_set}
use Rattle.figures.specs.Limits.{value_limit, cost_limit}
use Rattle.queue.specs.Meaning.{Meaning, capacity, key_of, waiting, cleared, put, taken, Least}
use Rattle.queue.specs.declared.Entry.{Entry}
use Rattle.walks.specs.Hall.{Hall, Leg, leg}
use Rattle.model.specs.declared.Phase.TheVariants.{Laying, Resting, Drawn}
use Rattle.model.specs.declared.Pair.{Pair}
use Rattle.model.specs.declared.Pair.TheVariants.{Unseen, Waiting, Settled}
use Rattle.model.specs.declared.Answer.{Answer}
use Rattle.model.specs.declared.Answer.TheVariants.{Value, NoWay, NotYet}
use Rattle.model.specs.declared.Tally.{Tally}
use Rattle.model.specs.declared.Refusal.{Refusal}
use Rattle.model.specs.declared.Refusal.TheVariants.{Points, Bound, LegPoint, LegCost, LegsFull, Capacity, Band, Range, WrongPhase, Unfit, NoSuchPoint, BufferShort, Unsettled, NothingWaits, Budget}
use Rattle.model.specs.Refusals.{due, Answers}
use Rattle.model.specs.State.{JobState, closed, is_laying, is_resting, is_open, is_drawn, is_finished, is_point, pair_at, value_of, noted_key, last_leg, settled_in, waiting_in, leaving, route}

abbrev pub point_limit : ℕ
point_limit = 40

abbrev pub leg_limit : ℕ
leg_limit = 1600

abbrev pub budget_limit : ℕ
budget_limit = 65535

-- from low to high
abbrev pub between : ℕ → ℕ → ℕ → Bool
between low n high = nat_le low n && nat_le n high

-- Making: a hall of n points with bound c, in which no leg stands.
abbrev pub make_due : ℕ → ℕ → Option Refusal
make_due n c = due (not (between 1 n point_limit)) Points (due (not (between 1 c cost_limit)) Bound None)

abbrev pub made : ℕ → ℕ → JobState
made n c = closed Laying (record { points = n; bound = c; legs = [] })

abbrev pub Makes : {T E : Type 0} → (E → Refusal) → JobState → ℕ → ℕ → Result T E → JobState → Type 0
Makes why s n c r t = Answers (make_due n c) why r (t ≡ s) (λ _. t ≡ made n c)

-- Laying: one leg more, and its number.
abbrev pub lay_due : JobState → ℕ → ℕ → ℕ → Option Refusal
lay_due s from to cost =
    due (not (is_laying s.phase)) WrongPhase
    (due (not (is_point s from && is_point s to)) LegPoint
    (due (nat_lt s.hall.bound cost) LegCost
    (due (nat_le leg_limit (length s.hall.legs)) LegsFull None)))

abbrev pub with_leg : Hall → Leg → Hall
with_leg h l = record { points = h.points; bound = h.bound; legs = h.legs ++ l ∷ [] }

abbrev pub laid : JobState → ℕ → ℕ → ℕ → JobState
laid s f g k = closed Laying (with_leg s.hall (record { from = f; to = g; cost = k }))

abbrev pub Lays : {E : Type 0} → (E → Refusal) → JobState → ℕ → ℕ → ℕ → Result ℕ E → JobState → Type 0
Lays why s f g k r t =
    Answers (lay_due s f g k) why r (t ≡ s) (λ number. (number ≡ length s.hall.legs) × (t ≡ laid s f g k))

-- Opening: the queue is cleared, and every pair (u, u) offered at 0. `reach` is the rule's, of the hall's bound.
abbrev pub open_due : JobState → Meaning → ℕ → Option Refusal
open_due s m reach =
    due (not (is_laying s.phase)) WrongPhase
    (due (nat_lt value_limit (s.hall.points * reach)) Range
    (due (nat_lt (capacity m) (s.hall.points * s.hall.points)) Capacity
    (due (nat_lt m.band reach) Band None)))

-- the pairs (u, u) of the first i points wait at 0
abbrev pub start_table : ℕ → ℕ → List Pair
start_table n zero = replicate (n * n) Unseen
start_table n (suc u) = slice_set (start_table n u) (u * n + u) (Waiting 0 None)

abbrev pub start_queue : ℕ → ℕ → Meaning → Meaning
start_queue n zero m = cleared m
start_queue n (suc u) m = put (start_queue n u m) (u * n + u) 0

abbrev pub opened : JobState → Meaning → ℕ → JobState
opened s m r = record {
  phase = Resting;
  hall = s.hall;
  table = start_table s.hall.points s.hall.points;
  opening = record { reach = r; capacity = capacity m; band = m.band };
  floor = 0;
  tried = 0;
}

abbrev pub Opens : {T E : Type 0} → (E → Refusal) → JobState → Meaning → ℕ → Result T E → JobState → Meaning → Type 0
Opens why s m reach r t o =
    Answers (open_due s m reach) why r ((t ≡ s) × (o ≡ m))
    (λ _. (t ≡ opened s m reach) × (o ≡ start_queue s.hall.points s.hall.points m))

-- Fitness. Of the named entry: it waits in the job at the same key.
abbrev pub at_key : Option ℕ → ℕ → Bool
at_key None k = false
at_key (Some l) k = l == k

abbrev pub noted : List Pair → Option Entry → Bool
noted table None = true
noted table (Some e) = at_key (noted_key (slice_index_or table e.item Unseen)) e.key

abbrev pub fits : JobState → Meaning → Option Entry → ℕ → Bool
fits s m e reach =
    (reach == s.opening.reach) && capacity m == s.opening.capacity && m.band == s.opening.band
    && m.floor == s.floor && waiting m == waiting_in s.table && noted s.table e
    && nat_le (s.floor + reach) value_limit

-- Drawing: the named entry is taken, and its pair settled at its key.
abbrev pub draw_due : JobState → Meaning → Option Entry → Option Refusal
draw_due s m e =
    due (not (is_resting s.phase)) WrongPhase
    (due (not (fits s m e s.opening.reach)) Unfit
    (due (not (is_some e)) NothingWaits None))

abbrev pub settle : Pair → ℕ → Pair
settle p k = Settled k (last_leg p)

abbrev pub from_of : JobState → Entry → ℕ
from_of s e = e.item / s.hall.points

abbrev pub to_of : JobState → Entry → ℕ
to_of s e = e.item % s.hall.points

abbrev pub drawn : JobState → Entry → JobState
drawn s e = record {
  phase = Drawn (from_of s e) (to_of s e);
  hall = s.hall;
  table = slice_set s.table e.item (settle (slice_index_or s.table e.item Unseen) e.key);
  opening = s.opening;
  floor = e.key;
  tried = s.tried;
}

-- the pair of the docket, and what is left
abbrev pub DrawsEntry : JobState → Meaning → Option Entry → ℕ → ℕ → JobState → Meaning → Type 0
DrawsEntry s m None u v t o = ⊥
DrawsEntry s m (Some e) u v t o =
    (u ≡ from_of s e) × (v ≡ to_of s e) × (t ≡ drawn s e) × (o ≡ taken m e.item e.key)

abbrev pub Draws : {T E : Type 0} → (E → Refusal) → (T → ℕ) → (T → ℕ) → JobState → Meaning → Option Entry → Result T E → JobState → Meaning → Type 0
Draws why from to s m e r t o =
    Answers (draw_due s m e) why r ((t ≡ s) × (o ≡ m)) (λ d. DrawsEntry s m e (from d) (to d) t o)

-- Spreading: each leg that leaves the far end is tried, the latest laid first. An offer changes the queue where the
-- item may be offered the key, and does not wait as low already.
abbrev pub waits_as_low : Option ℕ → ℕ → Bool
waits_as_low None k = false
waits_as_low (Some l) k = nat_le l k

abbrev pub may_offer : Meaning → ℕ → ℕ → Bool
may_offer m i k = nat_lt i (capacity m) && nat_le m.floor k && nat_le k (m.floor + m.band) && nat_le k value_limit

abbrev pub lowers : Meaning → ℕ → ℕ → Bool
lowers m i k = may_offer m i k && not (waits_as_low (key_of m i) k)

abbrev pub is_settled : Pair → Bool
is_settled p = is_some (value_of p)

-- a table and the queue beside it
pub record Desk : Type 0 where
  pub table : List Pair
  pub queue : Meaning

-- item i is offered key k over a leg
abbrev pub offered : Desk → ℕ → ℕ → ℕ → Desk
offered d i k number =
    cond (not (is_settled (slice_index_or d.table i Unseen)) && lowers d.queue i k)
    (record { table = slice_set d.table i (Waiting k (Some number)); queue = put d.queue i k })
    d

-- u is the start, x the value of the pair that is spread
abbrev pub tries : (ℕ → ℕ → ℕ) → Hall → ℕ → ℕ → List ℕ → Desk → Desk
tries join h u x [] d = d
tries join h u x (number ∷ rest) d =
    tries join h u x rest (offered d (u * h.points + (leg h number).to) (join x (leg h number).cost) number)

-- the pair (u, v) is spread; its value was drawn last, so it is the floor
abbrev pub spread_desk : (ℕ → ℕ → ℕ) → JobState → ℕ → ℕ → Meaning → Desk
spread_desk join s u v m = tries join s.hall u s.floor (leaving s.hall v) (record { table = s.table; queue = m })

abbrev pub spread : (ℕ → ℕ → ℕ) → JobState → ℕ → ℕ → Meaning → JobState
spread join s u v m = record {
  phase = Resting;
  hall = s.hall;
  table = (spread_desk join s u v m).table;
  opening = s.opening;
  floor = s.floor;
  tried = s.tried + length (leaving s.hall v);
}

abbrev pub spread_due : JobState → ℕ → ℕ → Meaning → Option Entry → ℕ → Option Refusal
spread_due s u v m e reach =
    due (not (is_drawn s.phase u v)) WrongPhase
    (due (not (fits s m e reach)) Unfit None)

abbrev pub Spreads : {T E : Type 0} → (E → Refusal) → (ℕ → ℕ → ℕ) → ℕ → JobState → ℕ → ℕ → Meaning → Option Entry → Result T E → JobState → Meaning → Type 0
Spreads why join reach s u v m e r t o =
    Answers (spread_due s u v m e reach) why r ((t ≡ s) × (o ≡ m))
    (λ _. (t ≡ spread join s u v m) × (o ≡ (spread_desk join s u v m).queue))

-- Abandoning and reopening: the legs stand, the table is emptied.
abbrev pub emptied : JobState → JobState
emptied s = closed Laying s.hall

abbrev pub abandon_due : JobState → ℕ → ℕ → Option Refusal
abandon_due s u v = due (not (is_drawn s.phase u v)) WrongPhase None

abbrev pub Abandons : {T E : Type 0} → (E → Refusal) → JobState → ℕ → ℕ → Result T E → JobState → Type 0
Abandons why s u v r t = Answers (abandon_due s u v) why r (t ≡ s) (λ _. t ≡ emptied s)

abbrev pub reopen_due : JobState → Option Refusal
reopen_due s = due (not (is_resting s.phase)) WrongPhase None

abbrev pub Reopens : {T E : Type 0} → (E → Refusal) → JobState → Result T E → JobState → Type 0
Reopens why s r t = Answers (reopen_due s) why r (t ≡ s) (λ _. t ≡ emptied s)

-- Work: units, each a drawing and its spreading, one pair each.
abbrev pub after_unit : (ℕ → ℕ → ℕ) → JobState → Meaning → Entry → JobState
after_unit join s m e = spread join (drawn s e) (from_of s e) (to_of s e) (taken m e.item e.key)

abbrev pub queue_after : (ℕ → ℕ → ℕ) → JobState → Meaning → Entry → Meaning
queue_after join s m e = (spread_desk join (drawn s e) (from_of s e) (to_of s e) (taken m e.item e.key)).queue

-- From a fit job, so many units of a budget were done: all of it, or until nothing waits, or until the job is unfit after
-- a unit. Which entry of least key is drawn is open. The list is of the entries drawn, the first one first.
pub data Worked (join : ℕ → ℕ → ℕ) (reach : ℕ) : ℕ → JobState → Meaning → List Entry → JobState → Meaning → Type 0 where
  spent : {s : JobState} {m : Meaning} → Worked join reach 0 s m [] s m
  empty : {b : ℕ} {s : JobState} {m : Meaning} → Least m None → Worked join reach b s m [] s m
  unit : {b : ℕ} {s t : JobState} {m o : Meaning} {e : Entry} {es : List Entry} →
      Least m (Some e) → fits s m (Some e) reach ≡ true →
      Worked join reach b (after_unit join s m e) (queue_after join s m e) es t o →
      Worked join reach (suc b) s m (e ∷ es) t o
  unfit : {b : ℕ} {s t : JobState} {m o : Meaning} {e : Entry} (f : Option Entry) →
      Least m (Some e) → fits s m (Some e) reach ≡ true →
      t ≡ after_unit join s m e → o ≡ queue_after join s m e →
      Least o f → fits t o f reach ≡ false →
      Worked join reach (suc b) s m (e ∷ []) t o

abbrev pub work_due : JobState → Meaning → Option Entry → ℕ → ℕ → Option Refusal
work_due s m e reach budget =
    due (not (is_resting s.phase)) WrongPhase
    (due (nat_lt budget_limit budget) Budget
    (due (not (fits s m e reach)) Unfit None))

abbrev pub Works : {T E : Type 0} → (E → Refusal) → (T → ℕ) → (ℕ → ℕ → ℕ) → ℕ → JobState → Meaning → Option Entry → ℕ → Result T E → JobState → Meaning → Type 0
Works why count join reach s m e budget r t o =
    Answers (work_due s m e reach budget) why r ((t ≡ s) × (o ≡ m))
    (λ x. (es : List Entry) × (count x ≡ length es) × Worked join reach budget s m es t o)

-- Looking up a pair.
abbrev pub look_due : JobState → ℕ → ℕ → Meaning → Option Entry → Option Refusal
look_due s u v m e =
    due (not (is_open s.phase)) WrongPhase
    (due (not (is_point s u && is_point s v)) NoSuchPoint
    (due (not (fits s m e s.opening.reach)) Unfit None))

abbrev pub seen : JobState → Pair → Answer
seen s Unseen = cond (is_finished s) NoWay (NotYet s.floor)
seen s (Waiting k l) = cond (is_finished s) NoWay (NotYet s.floor)
seen s (Settled x l) = Value x l

abbrev pub Looks : {E : Type 0} → (E → Refusal) → JobState → ℕ → ℕ → Meaning → Option Entry → Result Answer E → Type 0
Looks why s u v m e r = Answers (look_due s u v m e) why r (Unit {0}) (λ a. a ≡ seen s (pair_at s u v))

-- Reading a route into a buffer, of which b is what it holds before and c after.
abbrev pub read_due : JobState → ℕ → ℕ → List ℕ → Option Refusal
read_due s u v b =
    due (not (is_open s.phase)) WrongPhase
    (due (not (is_point s u && is_point s v)) NoSuchPoint
    (due (not (is_settled (pair_at s u v))) Unsettled
    (due (nat_lt (length b) (length (route s u v))) BufferShort None)))

abbrev pub Reads : {E : Type 0} → (E → Refusal) → JobState → ℕ → ℕ → List ℕ → Result ℕ E → List ℕ → Type 0
Reads why s u v b r c =
    Answers (read_due s u v b) why r (c ≡ b)
    (λ n. (n ≡ length (route s u v)) × (c ≡ route s u v ++ drop (length (route s u v)) b))

abbrev pub tally_of : JobState → Tally
tally_of s = record {
  phase = s.phase;
  legs = length s.hall.legs;
  settled = settled_in s.table;
  waiting = waiting_in s.table;
  tried = s.tried;
}
