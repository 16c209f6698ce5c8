-- Cases of lists of calls, from one finished table of the hall.
-- Assumes nothing.
use Rattle.std.proofs.Common.{◌≡◌, ℕ, ◌+◌, ◌<◌, ◌≤◌, min, Bool, true, false, cond, List, [], ◌∷◌, ◌++◌, map, length, Some, None, Ok, Err, Option, Result, sym, refl, ap, ◌∙◌, subst, arith, length-append}
use lib.ListN.{length-map}
use Rattle.std.proofs.lemmas.Bool.{both_ways, le-leb, lt-ltb}
use Rattle.queue.specs.declared.Entry.{Entry}
use Rattle.queue.specs.Meaning.{Meaning, Least}
use Rattle.walks.specs.Hall.{Walk}
use Rattle.walks.proofs.Places.{clash}
use Rattle.model.specs.declared.Pair.{Pair}
use Rattle.model.specs.declared.Pair.TheVariants.{Unseen, Waiting, Settled}
use Rattle.model.specs.declared.Answer.{Answer}
use Rattle.model.specs.declared.Answer.TheVariants.{NoWay, NotYet}
use Rattle.model.specs.declared.Refusal.{Refusal}
use Rattle.model.specs.Refusals.{Answers}
use Rattle.model.specs.State.{JobState, is_finished, pair_at, value_of, settled_in, route}
use Rattle.model.specs.Calls.{fits, look_due, Looks, seen, Worked, budget_limit, work_due}
use Rattle.runs.specs.Lists.{ends_of, reach_in, granted, settled_by, spread_by}
use Rattle.runs.proofs.Answered.{accepted}
use Rattle.worked.specs.Cases.{hall, By, rule, Surely, Rest, Holds, settles, looks_up, works}
use Rattle.worked.proofs.Routes.{routes, one_route}
use Rattle.worked.proofs.Compared.{passing, at_most, value_in, value_at, open_at, open_phase, law_at, least_at, end_at, settled_at, over_at, same_at, same_tried, settled_low, floor_at}
use Rattle.worked.proofs.Units.{Outcome, units as first_work, Goes, worked}
use Rattle.worked.proofs.Grants.{work_ok, worked_on}

module _ {T E : Type 0} (why : E → Refusal) (Same : Type 0) (Done : T → Type 0) where
  -- where nothing is due, a call answers what it does
  answers : (o : Option Refusal) → o ≡ None → (x : T) → Done x → Answers o why (Ok x) Same Done
  answers o none x done = subst (λ d. Answers d why (Ok x) Same Done) (sym none) done

  answered : (o : Option Refusal) → o ≡ None → (r : Result T E) → Answers o why r Same Done → (x : T) × (r ≡ Ok x) × Done x
  answered o none (Ok x) answer = (x, refl, (accepted why Same Done o x answer).1)
  answered o none (Err x) answer =
      absurd (subst (λ d. Answers d why (Err x) Same Done) none answer)

unsettled_seen : (s : JobState) (p : Pair) → value_of p ≡ None → seen s p ≡ cond (is_finished s) NoWay (NotYet s.floor)
unsettled_seen s Unseen e = refl
unsettled_seen s (Waiting k l) e = refl
unsettled_seen s (Settled x l) e = clash e refl

module _ (by : By) where
  -- a look-up at points of the hall answers what is seen
  module _ (l : Rest (rule by)) (u v : ℕ) (lu : u < 4) (lv : v < 4) (e : Option Entry) (least : Least l.queue e) where
    look_ok : look_due l.state u v l.queue e ≡ None
    look_ok =
        let points : (u < l.state.hall.points) × (v < l.state.hall.points) =
        subst (λ h. (u < h.points) × (v < h.points)) (sym l.same) (lu, lv) in
        let fit : fits l.state l.queue e l.state.opening.reach ≡ true =
        subst (λ r. fits l.state l.queue e r ≡ true) (sym (open_at (rule by) l).reach) ((law_at (rule by) l).fit e least) in
        rw (
          open_phase (rule by) l,
          lt-ltb u l.state.hall.points points.0,
          lt-ltb v l.state.hall.points points.1,
          fit,
        )

    look : (a : Answer) → seen l.state (pair_at l.state u v) ≡ a →
        Surely {A = Result Answer Refusal} (λ r. Looks (λ why. why) l.state u v l.queue e r) (λ r. r ≡ Ok a)
    look a is = (
      (
        Ok a,
        answers (λ why. why) (Unit {0}) (λ x. x ≡ seen l.state (pair_at l.state u v)) (look_due l.state u v l.queue e) look_ok a
            (sym is),
      ),
      λ r answer.
          let (x, here, done) = answered (λ why. why) (Unit {0}) (λ x. x ≡ seen l.state (pair_at l.state u v))
          (look_due l.state u v l.queue e) look_ok r answer in
          here ∙ ap (λ x. Ok x) (done ∙ is),
    )

  module _ (f : Rest (rule by)) (over : is_finished f.state ≡ true) where
    pub settling : (u v x : ℕ) (r : List ℕ) → value_in (rule by) f u v ≡ Some x → routes hall (rule by).join u v x 4 ≡ r ∷ [] →
        Holds (settles by u v x r)
    settling u v x r e one = (
      least_at (rule by) f u v x e,
      (
        (f, over),
        λ l done.
            let at = end_at (rule by) l f done u v x e in
            let walk = ((law_at (rule by) l).routes u v x at).0 in
            let short = (law_at (rule by) l).short u v x at in
            let both : Walk hall (rule by).join u v x (route l.state u v) × (length (route l.state u v) < 4) =
            subst (λ h. Walk h (rule by).join u v x (route l.state u v) × (length (route l.state u v) < h.points)) l.same (walk, short) in
            (at, one_route hall (rule by).join 4 r both.0 both.1 one),
      ),
    )

    -- after as many units as there are values up to y: a pair of a higher value, or of none, is not settled yet
    pub looking : (g y u v a b : ℕ) → u < 4 → v < 4 → at_most y (value_in (rule by) f u v) ≡ false → value_in (rule by) f a b ≡ Some y →
        passing (λ i. at_most y (value_at (rule by) f i)) 16 ≡ g → g < settled_in f.state.table →
        (some : Rest (rule by)) → granted some.calls ≡ g → Holds (looks_up by g u v (NotYet y))
    looking g y u v a b lu lv high last exact early some units =
        ((some, units), λ l granted_so e least. look l u v lu lv e least (NotYet y) (seen_so l granted_so))
      where
        exact_at : (l : Rest (rule by)) → granted l.calls ≡ g → settled_in l.state.table ≡ passing (λ i. at_most y (value_at (rule by) f i)) 16
        exact_at l granted_so = omega (arith, settled_at (rule by) f over l)

        new : (l : Rest (rule by)) → granted l.calls ≡ g → (o : Option ℕ) → value_in (rule by) l u v ≡ o → value_in (rule by) l u v ≡ None
        new l granted_so None e = e
        new l granted_so (Some x) e =
            let low = settled_low (rule by) f over l y (exact_at l granted_so) u v x e in
            absurd (both_ways (at_most y (value_in (rule by) f u v)) high (ap (at_most y) (end_at (rule by) f l over u v x e) ∙ le-leb x y low))

        unfinished : (l : Rest (rule by)) → granted l.calls ≡ g → (b : Bool) → is_finished l.state ≡ b → is_finished l.state ≡ false
        unfinished l granted_so false e = e
        unfinished l granted_so true e = let late = (over_at (rule by) f over l).0 e in absurd (omega arith)

        seen_so : (l : Rest (rule by)) → granted l.calls ≡ g → seen l.state (pair_at l.state u v) ≡ NotYet y
        seen_so l granted_so =
            unsettled_seen l.state (pair_at l.state u v) (new l granted_so (value_in (rule by) l u v) refl)
            ∙ rw (unfinished l granted_so (is_finished l.state) refl, floor_at (rule by) f over l y (exact_at l granted_so) a b last)

    -- after all units: a pair of no value has no way
    pub ending : (g u v : ℕ) → u < 4 → v < 4 → value_in (rule by) f u v ≡ None → settled_in f.state.table ≤ g →
        (some : Rest (rule by)) → granted some.calls ≡ g → Holds (looks_up by g u v NoWay)
    ending g u v lu lv none late some units =
        ((some, units), λ l granted_so e least. look l u v lu lv e least NoWay (seen_so l granted_so))
      where
        seen_so : (l : Rest (rule by)) → granted l.calls ≡ g → seen l.state (pair_at l.state u v) ≡ NoWay
        seen_so l granted_so =
            let done = (over_at (rule by) f over l).1 (omega arith) in
            unsettled_seen l.state (pair_at l.state u v) (same_at (rule by) f over l done u v ∙ none) ∙ rw done

    -- work that outlasts what there is to settle
    pub working : (b n t : ℕ) → settled_in f.state.table ≡ n → n ≤ b → b ≤ budget_limit → f.state.tried ≡ t →
        (some : Rest (rule by)) → granted some.calls ≡ 0 → Holds (works by b n t)
    unfolding worked_on
    working b n t all enough few tried some units = (
      (some, units),
      λ l granted_so e least. (
        (
          (Ok (length (first_units l).entries), (first_units l).state, (first_units l).queue),
          answers (λ why. why) (((first_units l).state ≡ l.state) × ((first_units l).queue ≡ l.queue))
              (Done l (first_units l).state (first_units l).queue) (work_due l.state l.queue e (reach_in (rule by) l.state) b)
              (work_ok (rule by) l b few e least) (length (first_units l).entries) ((first_units l).entries, refl, goes l),
        ),
        λ w answer.
            let (x, here, (es, count, done)) = answered (λ why. why) ((w.1 ≡ l.state) × (w.2 ≡ l.queue)) (Done l w.1 w.2)
            (work_due l.state l.queue e (reach_in (rule by) l.state) b) (work_ok (rule by) l b few e least) w.0 answer in
            let k = worked_on (rule by) l b few e least es w.1 w.2 done in
            let enough_so : settled_in f.state.table ≤ b + granted l.calls = omega arith in
            let finished = (over_at (rule by) f over k).1 enough_so in
            let before = settled_at (rule by) f over l in
            let after : settled_in w.1.table ≡ min (b + granted l.calls) (settled_in f.state.table) = settled_at (rule by) f over k in
            let before_once = (law_at (rule by) l).once in
            let after_once : settled_in w.1.table ≡ length (map (ends_of l.state) es ++ settled_by l.calls) = (law_at (rule by) k).once in
            let sum = length-append (map (ends_of l.state) es) (settled_by l.calls) in
            let many : length (map (ends_of l.state) es) ≡ length es = length-map es (ends_of l.state) in
            let value : x ≡ n = omega arith in
            (here ∙ ap (λ x. Ok x) value, same_tried (rule by) f over k finished ∙ tried),
      ),
    )
      where
        first_units : Rest (rule by) → Outcome
        first_units l = first_work (rule by).join b l.state l.queue

        Done : Rest (rule by) → JobState → Meaning → ℕ → Type 0
        Done l t o x = (es : List Entry) × (x ≡ length es) × Worked (rule by).join (reach_in (rule by) l.state) b l.state l.queue es t o

        goes : (l : Rest (rule by)) → Goes (rule by) b l.state l.queue (first_units l)
        goes l = worked b (granted l.calls) (settled_by l.calls) (spread_by l.calls) l.state l.queue (rule by) (open_at (rule by) l)
