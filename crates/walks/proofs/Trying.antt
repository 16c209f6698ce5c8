-- A try of the next leg keeps the front, and the last one leaves it at rest.
-- Assumes nothing.
use Rattle.std.proofs.Common.{◌≡◌, ℕ, ◌<◌, ◌≤◌, ◌⊎◌, List, [], ◌∷◌, ◌++◌, length, Some, None, sym, ◌∙◌, inl, inr, arith, length-append}
use mathlib.Core.List.Memᴰ
use Rattle.walks.specs.Hall.{Hall, Leads, Sized, Lawful}
use Rattle.walks.specs.Search.{State, free, holds, Owes, Offered, Route, by, Within, settled, waiting, settled_from, Front}
use Rattle.walks.proofs.Places.{clash, same_pair, weighed_same}
use Rattle.walks.proofs.Routes.{stays}

pub spread : (h : Hall) (join : ℕ → ℕ → ℕ) (s : State) (floor u v : ℕ) → Front h join s floor (holds u v []) → Front h join s floor free
spread h join s floor u v front = record {
  settled_by = front.settled_by;
  waits_by = front.waits_by;
  unsettled = front.unsettled;
  own = front.own;
  entered = λ a b x i w k e leads. elim (front.entered a b x i w k e leads) [
    | inl owes ↦ absurd (Memᴰ.not-nil owes.2)
    | inr within ↦ inr within
  ];
  below = front.below;
  above = front.above;
  drawn = front.drawn;
  inhand = tt;
}

module _ (h : Hall) (join : ℕ → ℕ → ℕ) (reach : ℕ → ℕ) (lawful : Lawful join reach) (sized : Sized h)
    (s t : State) (u v floor i w k : ℕ) (is : List ℕ)
    (front : Front h join s floor (holds u v (i ∷ is))) (leads : Leads h i v w k)
    (offered : Offered s u w (join floor k) i t) where
  -- a settled pair keeps its value and its last leg
  pub settled_stays : (a b y : ℕ) → s.settled a b ≡ Some y → (t.settled a b ≡ Some y) × (t.last a b ≡ s.last a b)
  settled_stays a b y e = (
    offered.settled_same a b ∙ e,
    elim (same_pair a b u w) [
      | yes p ↦
          let (pa, pb) = p in
          elim offered.cases [
            | inl kept ↦ let same = kept.last in cc
            | inr low ↦ let new = low.unsettled in clash {o = s.settled a b} (cc) e
          ]
      | no apart ↦ offered.last_same a b apart
    ],
  )

  settled_was : (a b y : ℕ) → t.settled a b ≡ Some y → s.settled a b ≡ Some y
  settled_was a b y e = sym (offered.settled_same a b) ∙ e

  as_many : (a : ℕ) → settled_from h t a ≡ settled_from h s a
  as_many a = weighed_same (λ i. 1) (s.settled a) (t.settled a) h.points (λ b l. offered.settled_same a b)

  -- what waits did so before, with its last leg, or it entered or was lowered now
  waits_cases : (a b l : ℕ) → t.waits a b ≡ Some l →
      ((s.waits a b ≡ Some l) × (t.last a b ≡ s.last a b)) ⊎
      ((a ≡ u) × (b ≡ w) × (l ≡ join floor k) × (t.last u w ≡ Some i) × (s.settled u w ≡ None))
  waits_cases a b l e = elim (same_pair a b u w) [
    | yes p ↦
        let (pa, pb) = p in
        elim offered.cases [
          | inl kept ↦ let waits = kept.waits in let same = kept.last in inl ((cc), (cc))
          | inr low ↦ let waits = low.waits in inr (pa, pb, (cc), low.last, low.unsettled)
        ]
    | no apart ↦ inl (sym (offered.waits_same a b apart) ∙ e, offered.last_same a b apart)
  ]

  within_stays : (a b y : ℕ) → Within s a b y → Within t a b y
  within_stays a b y (settled z e le) = settled z (offered.settled_same a b ∙ e) le
  within_stays a b y (waiting l e le) = elim (same_pair a b u w) [
    | yes p ↦
        let (pa, pb) = p in
        elim offered.cases [
          | inl kept ↦ let waits = kept.waits in waiting l (cc) le
          | inr low ↦
              let waits = low.waits in
              let was : s.waits u w ≡ Some l = cc in
              waiting (join floor k) (cc) (omega (arith, low.higher l was))
        ]
    | no apart ↦ waiting l (offered.waits_same a b apart ∙ e) le
  ]

  route_stays : (a b x : ℕ) (r : List ℕ) → t.last a b ≡ s.last a b → Route h join s a b x r → Route h join t a b x r
  route_stays a b x r = stays h join (settled_stays a)

  settled_by : (a b y : ℕ) → t.settled a b ≡ Some y →
      (r : List ℕ) × Route h join t a b y r × (length r < settled_from h t a)
  settled_by a b y e =
      let was = settled_was a b y e in
      let (r, route, short) = front.settled_by a b y was in
      (r, route_stays a b y r (settled_stays a b y was).1 route, omega (arith, as_many a))

  waits_by : (a b l : ℕ) → t.waits a b ≡ Some l →
      (r : List ℕ) × Route h join t a b l r × (length r ≤ settled_from h t a)
  waits_by a b l e = elim (waits_cases a b l e) [
    | inl p ↦
        let (was, same) = p in
        let (r, route, short) = front.waits_by a b l was in
        (r, route_stays a b l r same route, omega (arith, as_many a))
    | inr p ↦
        let (pa, pb, pl, last, none) = p in
        let (r, route, short) = settled_by u v floor (offered.settled_same u v ∙ front.inhand) in (
          r ++ i ∷ [],
          rw (pa, pb, pl) (by route (offered.settled_same u v ∙ front.inhand) leads last),
          rw pa (simp length-append (omega arith)),
        )
  ]

  grown : floor ≤ join floor k
  grown = lawful.rises floor k (omega (arith, sized.bound, sized.cost i v w k leads))

  -- the pair tried is settled or waits, at no more than it was offered
  tried : Within t u w (join floor k)
  tried = elim offered.cases [
    | inl kept ↦ elim kept.low [
      | inl p ↦ settled p.0 (offered.settled_same u w ∙ p.1) (omega (arith, front.below u w p.0 p.1, grown))
      | inr p ↦ waiting p.0 (kept.waits ∙ p.1) p.2
    ]
    | inr low ↦ waiting (join floor k) low.waits (omega arith)
  ]

  entered : (a b x j c m : ℕ) → t.settled a b ≡ Some x → Leads h j b c m → Owes (holds u v is) a b j ⊎ Within t a c (join x m)
  entered a b x j c m e legs = elim (front.entered a b x j c m (settled_was a b x e) legs) [
    | inl owes ↦
        let (pa, pb, among) = owes in
        elim (Memᴰ.cases_cons among) [
          | inl same ↦
              let was = settled_was a b x e in
              let inhand = front.inhand in
              let px : x ≡ floor = cc in
              let to = leads.to in let at = legs.to in
              let cost = leads.cost in let now = legs.cost in
              let pc : c ≡ w = cc in
              let pm : m ≡ k = cc in
              inr (rw (pa, pc, px, pm) tried)
          | inr rest ↦ inl (pa, pb, rest)
        ]
    | inr within ↦ inr (within_stays a c (join x m) within)
  ]

  pub tries : Front h join t floor (holds u v is)
  tries = record {
    settled_by = settled_by;
    waits_by = waits_by;
    unsettled = λ a b l e. elim (waits_cases a b l e) [
      | inl p ↦ offered.settled_same a b ∙ front.unsettled a b l p.0
      | inr p ↦ offered.settled_same a b ∙ rw (p.0, p.1) p.4
    ];
    own = λ a l. within_stays a a 0 (front.own a l);
    entered = entered;
    below = λ a b x e. front.below a b x (settled_was a b x e);
    above = λ a b l e. elim (waits_cases a b l e) [
      | inl p ↦ front.above a b l p.0
      | inr p ↦ omega (arith, grown, p.2)
    ];
    drawn = inr (u, v, offered.settled_same u v ∙ front.inhand);
    inhand = offered.settled_same u v ∙ front.inhand;
  }
