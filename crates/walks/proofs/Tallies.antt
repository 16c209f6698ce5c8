-- What units come to.
-- Assumes nothing.
use Rattle.std.proofs.Common.{◌≡◌, ℕ, suc, ◌+◌, ◌/◌, ◌%◌, ◌<◌, ◌≤◌, min, eqb, ◌↔◌, List, [], ◌∷◌, length, Some, None, Option, sym, refl, ap, ◌∙◌, inl, inr, add-zero, div-add-mod', arith}
use native.Mathlib.Decide.{ℕ_discrete}
use lib.Arith.{digits_lt, digits_div, digits_mod}
use Rattle.std.specs.Map.{update}
use Rattle.std.proofs.lemmas.Map.{update_here, update_apart}
use Rattle.walks.specs.Hall.{Hall, Sized, Lawful}
use Rattle.walks.specs.Search.{State, Hand, free, holds, Opens, Draws, Offered, Route, weigh, weighed, held, Front}
use Rattle.walks.specs.Units.{Counted, none, has, lacks, pairs, item, Linked, settled_item, settled_count, legs_from, Idle, Tallied, Spreads, done, tried, Runs, opened, unit, idle}
use Rattle.walks.proofs.Places.{clash, weighed_same, weighed_none, weighed_more}
use Rattle.walks.proofs.Routes.{walk, inside}
use Rattle.walks.proofs.Drawing.{opened as begun, drawn}
use Rattle.walks.proofs.Trying.{spread, tries}
use Rattle.walks.proofs.Legs.{listed}
use Rattle.walks.proofs.Reaching.{has_walk, settles}

-- If only numbers that have the property hold something, they are no more than its count.
pub held_at_most : {P : ℕ → Type 0} {m c : ℕ} (f : ℕ → Option ℕ) → ((j x : ℕ) → f j ≡ Some x → P j) → Counted P m c → held f m ≤ c
held_at_most f only none = omega arith
held_at_most f only (has {m} {c} p rest) =
    let below : held f m ≤ c = held_at_most f only rest in
    elim (f m) as (λ o. weigh 1 o (held f m) ≤ suc c) [ Some x ↦ omega arith | None ↦ omega arith ]
held_at_most f only (lacks {m} {c} np rest) = here (f m) refl (held_at_most f only rest)
  where
    here : (o : Option ℕ) → f m ≡ o → held f m ≤ c → weigh 1 o (held f m) ≤ c
    here None e below = below
    here (Some x) e below = absurd (np (only m x e))

-- If one of them holds nothing, they are fewer.
pub held_fewer : {P : ℕ → Type 0} {m c : ℕ} (f : ℕ → Option ℕ) → ((j x : ℕ) → f j ≡ Some x → P j) → Counted P m c →
    (j : ℕ) → j < m → P j → f j ≡ None → held f m < c
held_fewer {P} {m} {c} f only counted j l p e =
    let g : ℕ → Option ℕ = update eqb f j (Some 0) in
    let more : held g m ≡ 1 + held f m =
    weighed_more (λ i. 1) f g j 0 m l e (update_here f j (Some 0)) (λ b other. update_apart f j (Some 0) b other) in
    let most : held g m ≤ c = held_at_most g held_only counted in
    omega arith
  where
    held_only : (b x : ℕ) → update eqb f j (Some 0) b ≡ Some x → P b
    held_only b x h = elim (ℕ_discrete b j) [
      | yes same ↦ rw same p
      | no other ↦ only b x (sym (update_apart f j (Some 0) b other) ∙ h)
    ]

-- If all numbers that have the property hold something, they are no fewer.
pub held_at_least : {P : ℕ → Type 0} {m c : ℕ} (f : ℕ → Option ℕ) → ((j : ℕ) → P j → (x : ℕ) × (f j ≡ Some x)) → Counted P m c → c ≤ held f m
held_at_least f all none = omega arith
held_at_least f all (has {m} {c} p rest) =
    let below : c ≤ held f m = held_at_least f all rest in
    rw (all m p).1 (omega arith)
held_at_least f all (lacks {m} {c} np rest) =
    let below : c ≤ held f m = held_at_least f all rest in
    elim (f m) as (λ o. c ≤ weigh 1 o (held f m)) [ Some x ↦ omega arith | None ↦ omega arith ]

pub opening : (h : Hall) (s : State) → Opens h s → Tallied h s 0 0 free
opening h s o = record {
  units = inl (weighed_none (λ j. 1) (settled_item h s) (pairs h) (λ j. o.settled (j / h.points) (j % h.points)));
  tried =
      sym (weighed_none (λ j. length (legs_from h (j % h.points))) (settled_item h s) (pairs h)
      (λ j. o.settled (j / h.points) (j % h.points)));
}

-- a pair of a route has its place among the items
placed : (h : Hall) (join : ℕ → ℕ → ℕ) → Sized h → {s : State} {u v x : ℕ} {r : List ℕ} → Route h join s u v x r →
    (item h u v / h.points ≡ u) × (item h u v % h.points ≡ v) × (item h u v < pairs h)
placed h join sized {u = u} route =
    let (iu, iv) = inside h join sized route in
    (digits_div u iv, digits_mod u iv, digits_lt iu iv)

-- a drawing adds the weight of its pair
drawn_weight : (h : Hall) (join : ℕ → ℕ → ℕ) → Sized h → (s t : State) (u v k floor : ℕ) → Front h join s floor free →
    Draws s u v k t → (c : ℕ → ℕ) →
    weighed c (settled_item h t) (pairs h) ≡ c (item h u v) + weighed c (settled_item h s) (pairs h)
drawn_weight h join sized s t u v k floor front draws c =
    let (r, route, short) = front.waits_by u v k draws.waited in
    let (row, column, below) = placed h join sized route in
    let was : s.settled (item h u v / h.points) (item h u v % h.points) ≡ None = rw (row, column) (front.unsettled u v k draws.waited) in
    let now : t.settled (item h u v / h.points) (item h u v % h.points) ≡ Some k = rw (row, column) draws.settled in
    weighed_more c (settled_item h s) (settled_item h t) (item h u v) k (pairs h) below was now
    (λ j other. draws.settled_same (j / h.points) (j % h.points)
    (λ p. other (sym (div-add-mod' j h.points) ∙ rw (p.0, p.1))))

pub drawing : (h : Hall) (join : ℕ → ℕ → ℕ) → Sized h → (s t : State) (u v k floor g m : ℕ) → Front h join s floor free →
    Draws s u v k t → Tallied h s g m free → Tallied h t (suc g) m (holds u v (legs_from h v))
drawing h join sized s t u v k floor g m front draws tallied =
    let (r, route, short) = front.waits_by u v k draws.waited in
    let one = drawn_weight h join sized s t u v k floor front draws (λ j. 1) in
    let legs = drawn_weight h join sized s t u v k floor front draws (λ j. length (legs_from h (j % h.points))) in
    let far : length (legs_from h (item h u v % h.points)) ≡ length (legs_from h v) =
    ap (λ b. length (legs_from h b)) (placed h join sized route).1 in
    let was : settled_count h s ≡ g = elim tallied.units [
      | inl all ↦ all
      | inr over ↦ clash (over.0 u v) draws.waited
    ] in
    record { units = omega arith; tried = omega (arith, tallied.tried) }

pub trying : (h : Hall) (s t : State) (u v i w key g m : ℕ) (is : List ℕ) → Offered s u w key i t →
    Tallied h s g m (holds u v (i ∷ is)) → Tallied h t g (suc m) (holds u v is)
trying h s t u v i w key g m is offered tallied =
    let same : (c : ℕ → ℕ) → weighed c (settled_item h t) (pairs h) ≡ weighed c (settled_item h s) (pairs h) = λ c.
    weighed_same c (settled_item h s) (settled_item h t) (pairs h) (λ j l. offered.settled_same (j / h.points) (j % h.points)) in
    record {
      units = same (λ j. 1) ∙ tallied.units;
      tried = omega (arith, tallied.tried, same (λ j. length (legs_from h (j % h.points))));
    }

pub ending : (h : Hall) (s : State) (u v g m : ℕ) → Tallied h s g m (holds u v []) → Tallied h s g m free
ending h s u v g m tallied = record { units = inl tallied.units; tried = tallied.tried }

pub idling : (h : Hall) (s : State) (g b m : ℕ) → Idle s → Tallied h s g m free → Tallied h s (g + b) m free
idling h s g b m over tallied = record {
  units = inr (over, elim tallied.units [ inl all ↦ omega (arith, all) | inr few ↦ omega (arith, few.1) ]);
  tried = tallied.tried;
}

module _ (h : Hall) (join : ℕ → ℕ → ℕ) (reach : ℕ → ℕ) (lawful : Lawful join reach) (sized : Sized h)
    (s : State) (floor : ℕ) where
  linked : (hand : Hand) → Front h join s floor hand → (j x : ℕ) → settled_item h s j ≡ Some x → Linked h join j
  linked hand front j x e = (x, has_walk h join reach lawful sized s floor hand front (j / h.points) (j % h.points) x e)

  pub all_settled : (c : ℕ) → Front h join s floor free → Counted (Linked h join) (pairs h) c → Idle s → settled_count h s ≡ c
  all_settled c front counted over =
      omega (
        arith,
        held_at_most (settled_item h s) (linked free front) counted,
        held_at_least (settled_item h s) at counted,
      )
    where
      at : (j : ℕ) → Linked h join j → (x : ℕ) × (settled_item h s j ≡ Some x)
      at j (y, p) =
          let (x, e, le) = settles h join reach lawful sized s floor front over (j / h.points) (j % h.points) y p in
          (x, e)

  pub settle : (g m c : ℕ) (hand : Hand) → Front h join s floor hand → Tallied h s g m hand →
      Counted (Linked h join) (pairs h) c → settled_count h s ≡ min g c
  settle g m c (holds u v is) front tallied counted =
      omega (arith, tallied.units, held_at_most (settled_item h s) (linked (holds u v is) front) counted)
  settle g m c free front tallied counted = elim tallied.units [
    | inl all ↦ omega (arith, all, held_at_most (settled_item h s) (linked free front) counted)
    | inr over ↦ omega (arith, over.1, all_settled c front counted over.0)
  ]

  pub idle_is_done : (c : ℕ) → Front h join s floor free → Counted (Linked h join) (pairs h) c → Idle s ↔ (settled_count h s ≡ c)
  idle_is_done c front counted = (all_settled c front counted, λ all u v. stopped all u v (s.waits u v) refl)
    where
      stopped : settled_count h s ≡ c → (u v : ℕ) (o : Option ℕ) → s.waits u v ≡ o → s.waits u v ≡ None
      stopped all u v None e = e
      stopped all u v (Some k) e =
          let (r, route, short) = front.waits_by u v k e in
          let (row, column, below) = placed h join sized route in
          let new : s.settled (item h u v / h.points) (item h u v % h.points) ≡ None =
          rw (row, column) (front.unsettled u v k e) in
          let way : Linked h join (item h u v) = (k, (r, rw (row, column) (walk h join route))) in
          let fewer = held_fewer (settled_item h s) (linked free front) counted (item h u v) below way new in
          absurd (omega arith)

-- the whole spreading of a pair in hand
pub spreading : (h : Hall) (join : ℕ → ℕ → ℕ) (reach : ℕ → ℕ) → Lawful join reach → Sized h → (u v floor g : ℕ) →
    {s z : State} {is : List ℕ} → Spreads h join u v floor s is z → (m : ℕ) →
    Front h join s floor (holds u v is) → Tallied h s g m (holds u v is) →
    Front h join z floor free × Tallied h z g (m + length is) free
spreading h join reach lawful sized u v floor g (done {s}) m front tallied =
    (spread h join s floor u v front, rw (add-zero m) (ending h s u v g m tallied))
spreading h join reach lawful sized u v floor g (tried {s} {t} {z} {i} {w} {k} {is} leads offered rest) m front tallied =
    let (front', tallied') = spreading h join reach lawful sized u v floor g rest (suc m)
    (tries h join reach lawful sized s t u v floor i w k is front leads offered)
    (trying h s t u v i w (join floor k) g m is offered tallied) in
    let same : suc m + length is ≡ m + length (i ∷ is) = omega arith in
    (front', rw same at tallied')

pub runs : (h : Hall) (join : ℕ → ℕ → ℕ) (reach : ℕ → ℕ) → Lawful join reach → Sized h → {g m floor : ℕ} {s : State} →
    Runs h join g m s floor → Front h join s floor free × Tallied h s g m free
runs h join reach lawful sized (opened {s} o) = (begun h join s o, opening h s o)
runs h join reach lawful sized (unit {g} {m} {floor} {u} {v} {k} {s} {t} {z} run draws spreads) =
    let (front, tallied) = runs h join reach lawful sized run in
    spreading h join reach lawful sized u v k (suc g) spreads m
    (drawn h join sized s t u v k floor (legs_from h v) front draws (listed h v).every)
    (drawing h join sized s t u v k floor g m front draws tallied)
runs h join reach lawful sized (idle {g} {m} {floor} {s} run over) =
    let (front, tallied) = runs h join reach lawful sized run in
    let same : g + 1 ≡ suc g = omega arith in
    (front, rw same at (idling h s g 1 m over tallied))
