-- Every walk has its pair behind the front, or meets the front.
-- Assumes nothing.
use Rattle.std.proofs.Common.{◌≡◌, ℕ, ◌≤◌, ◌⊎◌, ◌↔◌, List, Some, None, Option, refl, inl, inr, le_antisymm, arith}
use Rattle.walks.specs.Hall.{Hall, Sized, Lawful, Walk, stay, go}
use Rattle.walks.specs.Search.{State, Hand, free, holds, Owes, Held, Within, settled, waiting, Front}
use Rattle.walks.specs.Laws.{Least, Worth, Ahead}
use Rattle.walks.proofs.Places.{clash}
use Rattle.walks.proofs.Routes.{walk}

module _ (h : Hall) (join : ℕ → ℕ → ℕ) (reach : ℕ → ℕ) (lawful : Lawful join reach) (sized : Sized h)
    (s : State) (floor : ℕ) where
  -- (u, v) is settled at no more than y, or a pair with the start u waits at no more than y, or one is in hand and the floor is no more than y
  Met : Hand → ℕ → ℕ → ℕ → Type 0
  Met hand u v y = Ahead s u v y ⊎ (((b : ℕ) × (i : ℕ) × Owes hand u b i) × (floor ≤ y))

  within : {u v y : ℕ} → Within s u v y → Ahead s u v y
  within (settled z e le) = inl (z, e, le)
  within {v = v} (waiting l e le) = inr (v, l, e, le)

  owed : (hand : Hand) → Held s floor hand → (u v i x : ℕ) → Owes hand u v i → s.settled u v ≡ Some x → x ≡ floor
  owed free held u v i x owes e = absurd owes
  owed (holds a b is) held u v i x owes e = let (pa, pb, among) = owes in cc

  module _ (hand : Hand) (front : Front h join s floor hand) where
    met : {u v y : ℕ} {r : List ℕ} → Walk h join u v y r → Met hand u v y
    unfolding Met
    met (stay {u} l) = inl (within (front.own u l))
    met (go {u} {v} {x = y} {i} {w} {k} p leads) = elim (met p) [
      | inl ahead ↦ elim ahead [
        | inl at ↦
            let (x, e, le) = at in
            let more = lawful.monotone x y k small le in
            elim (front.entered u v x i w k e leads) [
              | inl owes ↦
                  let same = owed hand front.inhand u v i x owes e in
                  inr ((v, i, owes), omega (arith, lawful.rises x k small))
              | inr there ↦ inl (within (further there more))
            ]
        | inr later ↦ let (b, l, e, le) = later in inl (inr (b, l, e, omega (arith, grown)))
      ]
      | inr held ↦ inr (held.0, omega (arith, held.1, grown))
    ]
      where
        small : k ≤ 4095
        small = omega (arith, sized.bound, sized.cost i v w k leads)

        grown : y ≤ join y k
        grown = lawful.rises y k small

        further : {a b c d : ℕ} → Within s a b c → c ≤ d → Within s a b d
        further (settled z e le) more = settled z e (omega arith)
        further (waiting l e le) more = waiting l e (omega arith)

    -- so a walk has its pair settled at no more, or is no shorter than the floor
    behind : {u v y : ℕ} → Worth h join u v y → ((x : ℕ) × (s.settled u v ≡ Some x) × (x ≤ y)) ⊎ (floor ≤ y)
    unfolding Met
    behind {u} (r, p) = elim (met p) [
      | inl ahead ↦ elim ahead [
        | inl at ↦ inl at
        | inr later ↦ let (b, l, e, le) = later in inr (omega (arith, front.above u b l e))
      ]
      | inr held ↦ inr held.1
    ]

    pub has_walk : (u v x : ℕ) → s.settled u v ≡ Some x → Worth h join u v x
    has_walk u v x e = let (r, route, short) = front.settled_by u v x e in (r, walk h join route)

    pub least : (u v x : ℕ) → s.settled u v ≡ Some x → Least (Worth h join u v) x
    least u v x e = (
      has_walk u v x e,
      λ y p. elim (behind p) [
        | inl at ↦ let (z, f, le) = at in let same : x ≡ z = cc in omega arith
        | inr far ↦ omega (arith, front.below u v x e)
      ],
    )

    pub nearest : (a b x : ℕ) → s.settled a b ≡ Some x → (u v y : ℕ) → s.settled u v ≡ None → Worth h join u v y → x ≤ y
    nearest a b x e u v y new p = elim (behind p) [
      | inl at ↦ clash new at.1
      | inr far ↦ omega (arith, front.below a b x e)
    ]

  module _ (front : Front h join s floor free) where
    pub frontier : (u v y : ℕ) → Worth h join u v y → Ahead s u v y
    unfolding Met
    frontier u v y (r, p) = elim (met free front p) [
      | inl ahead ↦ ahead
      | inr held ↦ absurd held.0.2
    ]

    pub progress : (u v y : ℕ) → s.settled u v ≡ None → Worth h join u v y → (w : ℕ) × (l : ℕ) × (s.waits u w ≡ Some l) × (l ≤ y)
    progress u v y new p = elim (frontier u v y p) [
      | inl at ↦ clash new at.1
      | inr later ↦ later
    ]

    module _ (over : (u v : ℕ) → s.waits u v ≡ None) where
      pub settles : (u v y : ℕ) → Worth h join u v y → (x : ℕ) × (s.settled u v ≡ Some x) × (x ≤ y)
      settles u v y p = elim (frontier u v y p) [
        | inl at ↦ at
        | inr later ↦ clash (over u later.0) later.2
      ]

      pub finished : (u v : ℕ) →
          ((x : ℕ) → (s.settled u v ≡ Some x) ↔ Least (Worth h join u v) x) ×
          ((s.settled u v ≡ None) ↔ ((y : ℕ) → Worth h join u v y → ⊥))
      finished u v = (λ x. (least free front u v x, at x), (never, none))
        where
          at : (x : ℕ) → Least (Worth h join u v) x → s.settled u v ≡ Some x
          at x (p, low) =
              let (z, e, le) = settles u v x p in
              let same : z ≡ x = le_antisymm le (low z (has_walk free front u v z e)) in
              cc

          never : s.settled u v ≡ None → (y : ℕ) → Worth h join u v y → ⊥
          never new y p = clash new (settles u v y p).1

          empty : (o : Option ℕ) → s.settled u v ≡ o → ((y : ℕ) → Worth h join u v y → ⊥) → s.settled u v ≡ None
          empty None e no_walk = e
          empty (Some x) e no_walk = absurd (no_walk x (has_walk free front u v x e))

          none : ((y : ℕ) → Worth h join u v y → ⊥) → s.settled u v ≡ None
          none = empty (s.settled u v) refl
