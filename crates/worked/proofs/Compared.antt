-- The hall after any list of calls, held against one finished table of it by the same rule.
-- Assumes nothing.
use Rattle.std.proofs.Common.{◌≡◌, ℕ, zero, suc, ◌+◌, ◌*◌, ◌/◌, ◌%◌, ◌<◌, ◌≤◌, min, Bool, true, false, cond, leb, ◌↔◌, length, Some, None, Option, sym, refl, ap, ◌∙◌, subst, inl, inr, arith}
use lib.Arith.{digits_lt, digits_div, digits_mod}
use Rattle.std.proofs.lemmas.Bool.{both_ways, leb-true, le-leb, lt-leb, cases_lt}
use Rattle.walks.specs.Search.{free, weigh, weighed, held}
use Rattle.walks.specs.Units.{Counted, none, has, lacks, legs_from}
use Rattle.walks.proofs.Places.{clash, weighed_same}
use Rattle.walks.proofs.Links.{count_is_one}
use Rattle.walks.proofs.Tallies.{held_at_least, held_fewer}
use Rattle.model.specs.declared.Phase.TheVariants.{Resting}
use Rattle.model.specs.State.{is_open, is_finished, pair_at, value_of, settled_in, route}
use Rattle.runs.specs.Lists.{Rule, granted, settled_by, spread_by}
use Rattle.runs.specs.Law.{Law, WalksOf, ValueOf, Reached}
use Rattle.runs.proofs.Known.{inside}
use Rattle.runs.proofs.Counts.{settled_same}
use Rattle.runs.proofs.Kept.{Open}
use Rattle.runs.proofs.Phases.{when_resting}
use Rattle.runs.proofs.Runs.{kept}
use Rattle.runs.proofs.Stands.{law}
use Rattle.worked.specs.Cases.{hall, Rest}

-- how many numbers below n pass a test
abbrev pub passing : (ℕ → Bool) → ℕ → ℕ
passing test zero = 0
passing test (suc n) = cond (test n) (suc (passing test n)) (passing test n)

counted_passing : (test : ℕ → Bool) (n : ℕ) → Counted (λ i. test i ≡ true) n (passing test n)
counted_passing test zero = none
counted_passing test (suc n) = by (test n) refl (counted_passing test n)
  where
    by : (b : Bool) → test n ≡ b → Counted (λ i. test i ≡ true) n (passing test n) →
        Counted (λ i. test i ≡ true) (suc n) (cond b (suc (passing test n)) (passing test n))
    by true e rest = has e rest
    by false e rest = lacks (both_ways (test n) e) rest

-- how many numbers below n hold something
counted_held : (f : ℕ → Option ℕ) (n : ℕ) → Counted (λ i. (x : ℕ) × (f i ≡ Some x)) n (held f n)
counted_held f zero = none
counted_held f (suc n) = by (f n) refl (counted_held f n)
  where
    by : (o : Option ℕ) → f n ≡ o → Counted (λ i. (x : ℕ) × (f i ≡ Some x)) n (held f n) →
        Counted (λ i. (x : ℕ) × (f i ≡ Some x)) (suc n) (weigh 1 o (held f n))
    by None e rest = lacks (λ p. clash e p.1) rest
    by (Some x) e rest = let one : suc (held f n) ≡ 1 + held f n = omega arith in rw (← one) (has (x, e) rest)

-- a value not above y
abbrev pub at_most : ℕ → Option ℕ → Bool
at_most y None = false
at_most y (Some x) = leb x y

abbrev mark : Bool → Option ℕ
mark true = Some 0
mark false = None

marked : (b : Bool) (z : ℕ) → mark b ≡ Some z → b ≡ true
marked true z e = refl
marked false z e = clash refl e

module _ (j : Rule) where
  abbrev pub value_in : Rest j → ℕ → ℕ → Option ℕ
  value_in l u v = value_of (pair_at l.state u v)

  -- by its item
  abbrev pub value_at : Rest j → ℕ → Option ℕ
  value_at l i = value_in l (i / 4) (i % 4)

  pub rest_at : (l : Rest j) →
      (l.state.phase ≡ Resting) × Open (granted l.calls) (settled_by l.calls) (spread_by l.calls) l.state l.queue j free
  rest_at l =
      when_resting (granted l.calls) (settled_by l.calls) (spread_by l.calls) l.state l.queue j l.state.phase
      l.resting (kept l.run)

  pub open_at : (l : Rest j) → Open (granted l.calls) (settled_by l.calls) (spread_by l.calls) l.state l.queue j free
  open_at l = (rest_at l).1

  pub open_phase : (l : Rest j) → is_open l.state.phase ≡ true
  open_phase l = ap is_open (rest_at l).0

  pub law_at : (l : Rest j) → Law l.calls l.state l.queue j
  law_at l = law l.calls l.state l.queue j (kept l.run) (open_phase l)

  points_at : (l : Rest j) → l.state.hall.points ≡ 4
  points_at l = ap (λ h. h.points) l.same

  -- what is settled is settled at its least value
  pub least_at : (l : Rest j) (u v x : ℕ) → value_in l u v ≡ Some x → ValueOf hall j u v x
  least_at l u v x e =
      let (walk, low) = (law_at l).routes u v x e in
      subst (λ h. ValueOf h j u v x) l.same ((route l.state u v, walk), low)

  -- only pairs of points are settled
  inside_at : (l : Rest j) (u v x : ℕ) → value_in l u v ≡ Some x → (u < 4) × (v < 4)
  inside_at l u v x e = elim (inside l.state.hall.points l.state.table u v) [
    | inl p ↦ subst (λ n. (u < n) × (v < n)) (points_at l) p
    | inr unseen ↦ clash (ap value_of unseen) e
  ]

  -- no pair is settled before a nearer one
  nearest_at : (l k : Rest j) (a b x u v y : ℕ) → value_in l a b ≡ Some x → value_in l u v ≡ None → value_in k u v ≡ Some y → x ≤ y
  nearest_at l k a b x u v y e new f =
      (law_at l).nearest a b x u v y e new (subst (λ h. WalksOf h j u v y) (sym l.same) (least_at k u v y f).0)

  -- what is settled after some list is settled in a finished table
  pub end_at : (l k : Rest j) → is_finished l.state ≡ true → (u v x : ℕ) → value_in k u v ≡ Some x → value_in l u v ≡ Some x
  end_at l k over u v x e =
      let (lu, lv) = subst (λ n. (u < n) × (v < n)) (sym (points_at l)) (inside_at k u v x e) in
      (((law_at l).finished over u v lu lv).0 x).1 (subst (λ h. ValueOf h j u v x) (sym l.same) (least_at k u v x e))

  held_at : (l : Rest j) → settled_in l.state.table ≡ held (value_at l) 16
  held_at l =
      subst (λ n. settled_in l.state.table ≡ held (λ i. value_in l (i / n) (i % n)) (n * n)) (points_at l)
      (settled_same l.state.hall l.state.table (open_at l).agrees.size)

  -- legs tried are those that leave the settled pairs' far ends
  tried_at : (l : Rest j) → l.state.tried + 0 ≡ weighed (λ i. length (legs_from hall (i % 4))) (value_at l) 16
  tried_at l =
      subst (λ h. l.state.tried + 0 ≡
      weighed (λ i. length (legs_from h (i % h.points))) (λ i. value_in l (i / h.points) (i % h.points)) (h.points * h.points))
      l.same (open_at l).tallied.tried

  -- how many pairs have a walk, and how many of them are settled
  count_at : (l : Rest j) → (w : ℕ) × Counted (Reached hall j) 16 w × (settled_in l.state.table ≡ min (granted l.calls) w)
  count_at l = subst (λ h. (w : ℕ) × Counted (Reached h j) (h.points * h.points) w ×
      (settled_in l.state.table ≡ min (granted l.calls) w)) l.same (law_at l).counted

  done_at : (l : Rest j) (w : ℕ) → Counted (Reached hall j) 16 w → (is_finished l.state ≡ true) ↔ (w ≤ granted l.calls)
  done_at l w count =
      (law_at l).done l.resting w
      (subst (λ h. Counted (Reached h j) (h.points * h.points) w) (sym l.same) count)

  -- against a finished table f
  module _ (f : Rest j) (over : is_finished f.state ≡ true) where
    all_counted : Counted (Reached hall j) 16 (settled_in f.state.table)
    all_counted =
        let (w, count, settled) = count_at f in
        let most = (done_at f w count).0 over in
        let same : w ≡ settled_in f.state.table = omega arith in
        subst (λ n. Counted (Reached hall j) 16 n) same count

    -- so many pairs are settled as units were granted, or as there are to settle
    pub settled_at : (l : Rest j) → settled_in l.state.table ≡ min (granted l.calls) (settled_in f.state.table)
    settled_at l =
        let (w, count, settled) = count_at l in
        let same : w ≡ settled_in f.state.table = count_is_one count all_counted in
        rw (← same) settled

    pub over_at : (l : Rest j) → (is_finished l.state ≡ true) ↔ (settled_in f.state.table ≤ granted l.calls)
    over_at l = done_at l (settled_in f.state.table) all_counted

    -- two finished tables have the same values
    pub same_at : (l : Rest j) → is_finished l.state ≡ true → (u v : ℕ) → value_in l u v ≡ value_in f u v
    same_at l done u v = by (value_in l u v) (value_in f u v) refl refl
      where
        by : (a b : Option ℕ) → value_in l u v ≡ a → value_in f u v ≡ b → a ≡ b
        by None None e g = refl
        by None (Some x) e g = clash e (end_at l f done u v x g)
        by (Some x) None e g = clash g (end_at f l over u v x e)
        by (Some x) (Some y) e g = sym e ∙ end_at l f done u v y g

    pub same_tried : (l : Rest j) → is_finished l.state ≡ true → l.state.tried ≡ f.state.tried
    same_tried l done =
        let same : weighed (λ i. length (legs_from hall (i % 4))) (value_at l) 16 ≡ weighed (λ i. length (legs_from hall (i % 4))) (value_at f) 16 =
        weighed_same (λ i. length (legs_from hall (i % 4))) (value_at f) (value_at l) 16 (λ i b. same_at l done (i / 4) (i % 4)) in
        omega (arith, tried_at l, tried_at f, same)

    -- where as many pairs are settled as have values up to y, those are the settled ones
    module _ (l : Rest j) (y : ℕ) (exact : settled_in l.state.table ≡ passing (λ i. at_most y (value_at f i)) 16) where
      abbrev low : ℕ → Bool
      low i = at_most y (value_at f i)

      low_value : (o : Option ℕ) → at_most y o ≡ true → (z : ℕ) × (o ≡ Some z) × (z ≤ y)
      low_value None e = absurd (both_ways false refl e)
      low_value (Some z) e = (z, refl, leb-true z y e)

      -- a pair that is settled at more than y comes after all those
      not_high : (u v x : ℕ) → value_in l u v ≡ Some x → y < x → ⊥
      not_high u v x e high =
          let (lu, lv) = inside_at l u v x e in
          let here : value_at l (u * 4 + v) ≡ Some x = rw (digits_div u lv, digits_mod u lv) e in
          let there : value_at f (u * 4 + v) ≡ Some x = end_at f l over ((u * 4 + v) / 4) ((u * 4 + v) % 4) x here in
          let out : low (u * 4 + v) ≡ false = ap (at_most y) there ∙ lt-leb x y high in
          let fewer = held_fewer (λ i. mark (low i)) only (counted_held (value_at l) 16) (u * 4 + v) (digits_lt lu lv) (x, here) (ap mark out) in
          let all = held_at_least (λ i. mark (low i)) (λ i p. (0, ap mark p)) (counted_passing low 16) in
          omega (arith, held_at l, exact, fewer, all)
        where
          settled : (k z : ℕ) → value_at f k ≡ Some z → z ≤ y → (o : Option ℕ) → value_at l k ≡ o → (w : ℕ) × (value_at l k ≡ Some w)
          settled k z g le (Some w) new = (w, new)
          settled k z g le None new = let far = nearest_at l f u v x (k / 4) (k % 4) z e new g in absurd (omega arith)

          only : (k z : ℕ) → mark (low k) ≡ Some z → (w : ℕ) × (value_at l k ≡ Some w)
          only k z m =
              let (w, g, le) = low_value (value_at f k) (marked (low k) z m) in
              settled k w g le (value_at l k) refl

      pub settled_low : (u v x : ℕ) → value_in l u v ≡ Some x → x ≤ y
      settled_low u v x e = elim (cases_lt y x) [ inl high ↦ absurd (not_high u v x e high) | inr le ↦ le ]

      -- an unsettled pair comes before none of those
      not_new : (u v x : ℕ) → value_in f u v ≡ Some x → x ≤ y → value_in l u v ≡ None → ⊥
      not_new u v x e le new =
          let (lu, lv) = inside_at f u v x e in
          let here : value_at l (u * 4 + v) ≡ None = rw (digits_div u lv, digits_mod u lv) new in
          let there : value_at f (u * 4 + v) ≡ Some x = rw (digits_div u lv, digits_mod u lv) e in
          let fewer = held_fewer (value_at l) only (counted_passing low 16) (u * 4 + v) (digits_lt lu lv)
          (ap (at_most y) there ∙ le-leb x y le) here in
          omega (arith, held_at l, exact, fewer)
        where
          only : (k z : ℕ) → value_at l k ≡ Some z → low k ≡ true
          only k z s =
              let near = nearest_at l f (k / 4) (k % 4) z u v x s new e in
              ap (at_most y) (end_at f l over (k / 4) (k % 4) z s) ∙ le-leb z y (omega arith)

      pub low_settled : (u v x : ℕ) → value_in f u v ≡ Some x → x ≤ y → value_in l u v ≡ Some x
      low_settled u v x e le = by (value_in l u v) refl
        where
          by : (o : Option ℕ) → value_in l u v ≡ o → value_in l u v ≡ Some x
          by None new = absurd (not_new u v x e le new)
          by (Some z) s = s ∙ sym (end_at f l over u v z s) ∙ e

      pub floor_at : (u v : ℕ) → value_in f u v ≡ Some y → l.state.floor ≡ y
      floor_at u v e =
          let front = (open_at l).front in
          let above = front.below u v y (low_settled u v y e (omega arith)) in
          elim front.drawn [
            | inl start ↦ omega arith
            | inr at ↦ let within = settled_low at.0 at.1 l.state.floor at.2 in omega arith
          ]
