-- The opening makes a front, and a drawing keeps it.
-- Assumes nothing.
use Rattle.std.proofs.Common.{◌≡◌, ℕ, suc, ◌<◌, ◌≤◌, ◌⊎◌, List, [], length, Some, sym, refl, ◌∙◌, subst₂, inl, inr, arith}
use native.Mathlib.Decide.{ℕ_discrete}
use Rattle.walks.specs.Hall.{Hall, Leads, Sized}
use Rattle.walks.specs.Search.{State, free, holds, Owes, Opens, Draws, Leaving, Route, own, Within, settled, waiting, settled_from, Front, Apart}
use Rattle.walks.proofs.Places.{clash, same_pair, weighed_same, weighed_more}
use Rattle.walks.proofs.Routes.{stays, inside}

pub opened : (h : Hall) (join : ℕ → ℕ → ℕ) (s : State) → Opens h s → Front h join s 0 free
opened h join s o = record {
  settled_by = λ u v x e. clash (o.settled u v) e;
  waits_by = λ u v k e. ([], first u v k e, omega arith);
  unsettled = λ u v k e. o.settled u v;
  own = λ u l. waiting 0 (o.own u l) (omega arith);
  entered = λ u v x i w k e leads. clash (o.settled u v) e;
  below = λ u v x e. clash (o.settled u v) e;
  above = λ u v k e. omega arith;
  drawn = inl refl;
  inhand = tt;
}
  where
    first : (u v k : ℕ) → s.waits u v ≡ Some k → Route h join s u v k []
    first u v k e =
        let (l, same) = o.others u v k e in
        let at = o.own u l in
        let nought : 0 ≡ k = cc in
        subst₂ (λ b y. Route h join s u b y []) same nought (own l (o.last u u))

module _ (h : Hall) (join : ℕ → ℕ → ℕ) (sized : Sized h) (s t : State) (u v k floor : ℕ) (is : List ℕ)
    (front : Front h join s floor free) (draws : Draws s u v k t) where
  -- a settled pair keeps its value
  pub settled_stays : (a b y : ℕ) → s.settled a b ≡ Some y → t.settled a b ≡ Some y
  settled_stays a b y e = elim (same_pair a b u v) [
    | yes p ↦
        let (pa, pb) = p in
        let was = front.unsettled u v k draws.waited in
        clash {o = s.settled a b} (cc) e
    | no apart ↦ draws.settled_same a b apart ∙ e
  ]

  settled_cases : (a b y : ℕ) → t.settled a b ≡ Some y → ((a ≡ u) × (b ≡ v) × (y ≡ k)) ⊎ (s.settled a b ≡ Some y)
  settled_cases a b y e = elim (same_pair a b u v) [
    | yes p ↦ let (pa, pb) = p in let now = draws.settled in inl (pa, pb, (cc))
    | no apart ↦ inr (sym (draws.settled_same a b apart) ∙ e)
  ]

  waits_was : (a b l : ℕ) → t.waits a b ≡ Some l → Apart a b u v × (s.waits a b ≡ Some l)
  waits_was a b l e = elim (same_pair a b u v) [
    | yes p ↦ let (pa, pb) = p in let gone = draws.gone in clash {o = t.waits a b} (cc) e
    | no apart ↦ (apart, sym (draws.waits_same a b apart) ∙ e)
  ]

  within_stays : (a b y : ℕ) → Within s a b y → Within t a b y
  within_stays a b y (settled z e le) = settled z (settled_stays a b z e) le
  within_stays a b y (waiting l e le) = elim (same_pair a b u v) [
    | yes p ↦
        let (pa, pb) = p in
        let was = draws.waited in
        let now = draws.settled in
        settled l (cc) le
    | no apart ↦ waiting l (draws.waits_same a b apart ∙ e) le
  ]

  one_more : settled_from h t u ≡ suc (settled_from h s u)
  one_more =
      let (r, route, short) = front.waits_by u v k draws.waited in
      let more = weighed_more (λ i. 1) (s.settled u) (t.settled u) v k h.points (inside h join sized route).1
      (front.unsettled u v k draws.waited) draws.settled
      (λ b other. draws.settled_same u b (λ p. other p.1)) in
      omega arith

  no_fewer : (a : ℕ) → settled_from h s a ≤ settled_from h t a
  no_fewer a = elim (ℕ_discrete a u) [
    | yes e ↦ rw e (omega (arith, one_more))
    | no ne ↦
        let same : settled_from h t a ≡ settled_from h s a =
        weighed_same (λ i. 1) (s.settled a) (t.settled a) h.points (λ b l. draws.settled_same a b (λ p. ne p.0)) in
        omega arith
  ]

  route_stays : (a b x : ℕ) (r : List ℕ) → Route h join s a b x r → Route h join t a b x r
  route_stays a b x r =
      stays h join (λ c y e. (settled_stays a c y e, draws.last_same a c)) (draws.last_same a b)

  settled_by : (a b y : ℕ) → t.settled a b ≡ Some y →
      (r : List ℕ) × Route h join t a b y r × (length r < settled_from h t a)
  settled_by a b y e = elim (settled_cases a b y e) [
    | inl p ↦
        let (pa, pb, py) = p in
        let (r, route, short) = front.waits_by u v k draws.waited in
        (r, rw (pa, pb, py) (route_stays u v k r route), rw pa (omega (arith, one_more)))
    | inr was ↦
        let (r, route, short) = front.settled_by a b y was in
        (r, route_stays a b y r route, omega (arith, no_fewer a))
  ]

  waits_by : (a b l : ℕ) → t.waits a b ≡ Some l →
      (r : List ℕ) × Route h join t a b l r × (length r ≤ settled_from h t a)
  waits_by a b l e =
      let (r, route, short) = front.waits_by a b l (waits_was a b l e).1 in
      (r, route_stays a b l r route, omega (arith, no_fewer a))

  entered : Leaving h v is → (a b x i w c : ℕ) → t.settled a b ≡ Some x → Leads h i b w c →
      Owes (holds u v is) a b i ⊎ Within t a w (join x c)
  entered leaving a b x i w c e leads = elim (settled_cases a b x e) [
    | inl p ↦ inl (p.0, p.1, leaving i w c (rw p.1 at leads))
    | inr was ↦ elim (front.entered a b x i w c was leads) [
      | inl never ↦ absurd never
      | inr within ↦ inr (within_stays a w (join x c) within)
    ]
  ]

  below : (a b x : ℕ) → t.settled a b ≡ Some x → x ≤ k
  below a b x e = elim (settled_cases a b x e) [
    | inl p ↦ omega (arith, p.2)
    | inr was ↦ omega (arith, front.below a b x was, front.above u v k draws.waited)
  ]

  pub drawn : Leaving h v is → Front h join t k (holds u v is)
  drawn leaving = record {
    settled_by = settled_by;
    waits_by = waits_by;
    unsettled = λ a b l e.
        let (apart, was) = waits_was a b l e in draws.settled_same a b apart ∙ front.unsettled a b l was;
    own = λ a l. within_stays a a 0 (front.own a l);
    entered = entered leaving;
    below = below;
    above = λ a b l e. draws.lowest a b l (waits_was a b l e).1;
    drawn = inr (u, v, draws.settled);
    inhand = draws.settled;
  }
