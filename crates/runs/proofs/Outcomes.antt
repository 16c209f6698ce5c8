-- No outcome falls outside the lists: what a call's contract says of its answer makes one list of calls longer.
-- An accepted call is listed as itself; a refused one as a call that asked, and it may have taken any queue and rule.
-- Assumes nothing.
use Rattle.std.proofs.Common.{◌≡◌, ℕ, ◌*◌, true, false, ltb, List, ◌∷◌, map, length, None, Ok, Err, Option, Result, refl}
use Rattle.std.proofs.lemmas.Bool.{both_ways}
use Rattle.figures.specs.Limits.{value_limit}
use Rattle.queue.specs.declared.Entry.{Entry}
use Rattle.queue.specs.Meaning.{Meaning, capacity, Least}
use Rattle.walks.specs.Hall.{Lawful}
use Rattle.model.specs.declared.Phase.{Phase}
use Rattle.model.specs.declared.Phase.TheVariants.{Blank, Laying, Resting, Drawn}
use Rattle.model.specs.declared.Refusal.{Refusal}
use Rattle.model.specs.declared.Refusal.TheVariants.{Capacity, Band, Range, WrongPhase}
use Rattle.model.specs.Refusals.{due, Answers}
use Rattle.model.specs.State.{JobState, is_laying, is_open}
use Rattle.model.specs.Calls.{make_due, made, Makes, lay_due, laid, Lays, open_due, opened, start_queue, Opens, draw_due, DrawsEntry, Draws, spread_due, spread, spread_desk, Spreads, abandon_due, emptied, Abandons, reopen_due, Reopens, work_due, Worked, Works}
use Rattle.runs.specs.Lists.{Rule, ends_of, Call, makes, lays, opens, draws, spreads, works, empties, asks, reach_in, Run}
use Rattle.runs.specs.Lists.{free, making, laying, opening, drawing, spreading, working, abandoning, reopening, asking}
use Rattle.runs.proofs.Answered.{accepted, refused, holds_true}

abbrev pub Listed : {T E : Type 0} → Result T E → (T → Type 0) → Type 0 → Type 0
Listed (Ok x) Itself Asked = Itself x
Listed (Err x) Itself Asked = Asked

laying_is_shut : (p : Phase) → is_laying p ≡ true → is_open p ≡ false
laying_is_shut Blank e = refl
laying_is_shut Laying e = refl
laying_is_shut Resting e = absurd (both_ways false refl e)
laying_is_shut (Drawn u v) e = absurd (both_ways false refl e)

module _ {T E : Type 0} (why : E → Refusal) where
  listed : (o : Option Refusal) (Same : Type 0) (Done : T → Type 0) (Itself : T → Type 0) (Asked : Type 0) (r : Result T E) →
      (o ≡ None → (x : T) → Done x → Itself x) → (Same → Asked) → Answers o why r Same Done → Listed r Itself Asked
  listed o Same Done Itself Asked (Ok x) itself asked answer =
      let (none, done) = accepted why Same Done o x answer in itself none x done
  listed o Same Done Itself Asked (Err x) itself asked answer = asked (refused why Same Done o x answer).1

  module _ {cs : List Call} {s : JobState} {m : Meaning} {j : Rule} (run : Run cs s m j) (t : JobState) (r : Result T E) where
    pub asked : t ≡ s → Run (asks ∷ cs) t m j
    asked same = rw same (asking run)

    pub make_listed : (n c : ℕ) → Makes why s n c r t → Listed r (λ x. Run (makes ∷ cs) t m j) (Run (asks ∷ cs) t m j)
    make_listed n c =
        listed (make_due n c) (t ≡ s) (λ x. t ≡ made n c) (λ x. Run (makes ∷ cs) t m j) (Run (asks ∷ cs) t m j) r
        (λ ok x is. rw is (making n c run ok)) asked

    -- a queue and a rule are taken for the job's own by its opening
    pub open_listed : (q : Meaning) (k : Rule) (o : Meaning) → Lawful k.join k.reach → Opens why s q (reach_in k s) r t o →
        Listed r (λ x. Run (opens ∷ cs) t o k) (Run (asks ∷ cs) t m j)
    open_listed q k o lawful =
        listed (open_due s q (reach_in k s)) ((t ≡ s) × (o ≡ q))
        (λ x. (t ≡ opened s q (reach_in k s)) × (o ≡ start_queue s.hall.points s.hall.points q))
        (λ x. Run (opens ∷ cs) t o k) (Run (asks ∷ cs) t m j) r
        (λ ok x is. rw (is.0, is.1) (opening (free run (shut ok) q k) lawful ok)) (λ p. asked p.0)
      where
        shut : open_due s q (reach_in k s) ≡ None → is_open s.phase ≡ false
        shut ok =
            laying_is_shut s.phase (holds_true (is_laying s.phase) WrongPhase
            (due (ltb value_limit (s.hall.points * reach_in k s)) Range
            (due (ltb (capacity q) (s.hall.points * s.hall.points)) Capacity
            (due (ltb q.band (reach_in k s)) Band None))) ok).0

    pub draw_listed : (from to : T → ℕ) (e : Option Entry) (o : Meaning) → Least m e → Draws why from to s m e r t o →
        Listed r (λ d. Run (draws (record { from = from d; to = to d }) ∷ cs) t o j) (Run (asks ∷ cs) t m j)
    draw_listed from to e o least =
        listed (draw_due s m e) ((t ≡ s) × (o ≡ m)) (λ d. DrawsEntry s m e (from d) (to d) t o)
        (λ d. Run (draws (record { from = from d; to = to d }) ∷ cs) t o j) (Run (asks ∷ cs) t m j) r
        (λ ok d is. drawing e (from d) (to d) run least ok is) (λ p. asked p.0)

    pub spread_listed : (u v : ℕ) (e : Option Entry) (o : Meaning) → Least m e → Spreads why j.join (reach_in j s) s u v m e r t o →
        Listed r (λ x. Run (spreads (record { from = u; to = v }) ∷ cs) t o j) (Run (asks ∷ cs) t m j)
    spread_listed u v e o least =
        listed (spread_due s u v m e (reach_in j s)) ((t ≡ s) × (o ≡ m))
        (λ x. (t ≡ spread j.join s u v m) × (o ≡ (spread_desk j.join s u v m).queue))
        (λ x. Run (spreads (record { from = u; to = v }) ∷ cs) t o j) (Run (asks ∷ cs) t m j) r
        (λ ok x is. rw (is.0, is.1) (spreading e u v run least ok)) (λ p. asked p.0)

    pub abandon_listed : (u v : ℕ) → Abandons why s u v r t → Listed r (λ x. Run (empties ∷ cs) t m j) (Run (asks ∷ cs) t m j)
    abandon_listed u v =
        listed (abandon_due s u v) (t ≡ s) (λ x. t ≡ emptied s) (λ x. Run (empties ∷ cs) t m j) (Run (asks ∷ cs) t m j) r
        (λ ok x is. rw is (abandoning u v run ok)) asked

    pub reopen_listed : Reopens why s r t → Listed r (λ x. Run (empties ∷ cs) t m j) (Run (asks ∷ cs) t m j)
    reopen_listed =
        listed (reopen_due s) (t ≡ s) (λ x. t ≡ emptied s) (λ x. Run (empties ∷ cs) t m j) (Run (asks ∷ cs) t m j) r
        (λ ok x is. rw is (reopening run ok)) asked

    -- so many units as the call counts
    pub work_listed : (count : T → ℕ) (e : Option Entry) (b : ℕ) (o : Meaning) → Least m e →
        Works why count j.join (reach_in j s) s m e b r t o →
        Listed r (λ x. (es : List Entry) × (count x ≡ length es) × Run (works b (map (ends_of s) es) ∷ cs) t o j) (Run (asks ∷ cs) t m j)
    work_listed count e b o least =
        listed (work_due s m e (reach_in j s) b) ((t ≡ s) × (o ≡ m))
        (λ x. (es : List Entry) × (count x ≡ length es) × Worked j.join (reach_in j s) b s m es t o)
        (λ x. (es : List Entry) × (count x ≡ length es) × Run (works b (map (ends_of s) es) ∷ cs) t o j) (Run (asks ∷ cs) t m j) r
        (λ ok x is. (is.0, is.1, working e b is.0 run least ok is.2)) (λ p. asked p.0)

module _ {E : Type 0} (why : E → Refusal) {cs : List Call} {s : JobState} {m : Meaning} {j : Rule} (run : Run cs s m j) where
  pub lay_listed : (t : JobState) (r : Result ℕ E) (f g k : ℕ) → Lays why s f g k r t →
      Listed r (λ x. Run (lays ∷ cs) t m j) (Run (asks ∷ cs) t m j)
  lay_listed t r f g k =
      listed why (lay_due s f g k) (t ≡ s) (λ number. (number ≡ length s.hall.legs) × (t ≡ laid s f g k))
      (λ x. Run (lays ∷ cs) t m j) (Run (asks ∷ cs) t m j) r
      (λ ok x is. rw is.1 (laying f g k run ok)) (λ same. rw same (asking run))
