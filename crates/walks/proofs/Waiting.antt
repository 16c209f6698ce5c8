-- What waits at rest, and at which key.
-- Assumes nothing.
use Rattle.std.proofs.Common.{◌≡◌, ℕ, ◌≤◌, List, Some, None, refl, subst, inl, inr, le_antisymm, arith}
use Rattle.walks.specs.Hall.{Hall}
use Rattle.walks.specs.Search.{State, free, Route, own, by, Within, settled, waiting, Front}
use Rattle.walks.specs.Laws.{Least, Entrance, at_start, over, Entries}
use Rattle.walks.proofs.Places.{clash}

module _ (h : Hall) (join : ℕ → ℕ → ℕ) (s : State) (floor : ℕ) (front : Front h join s floor free) where
  entrance : {u w x : ℕ} {r : List ℕ} → Route h join s u w x r → Entrance h join s u w x
  entrance (own l e) = at_start l refl
  entrance (by p is leads e) = over is leads

  waits_within : {u w y : ℕ} → s.settled u w ≡ None → Within s u w y → (l : ℕ) × (s.waits u w ≡ Some l) × (l ≤ y)
  waits_within new (settled z e le) = clash new e
  waits_within new (waiting l e le) = (l, e, le)

  enters : (u w y : ℕ) → s.settled u w ≡ None → Entrance h join s u w y → (l : ℕ) × (s.waits u w ≡ Some l) × (l ≤ y)
  enters u w y new (at_start l same) = waits_within new (subst (λ b. Within s u b 0) same (front.own u l))
  enters u w y new (over {v} {x} {i} {k} e leads) = elim (front.entered u v x i w k e leads) [
    | inl never ↦ absurd never
    | inr within ↦ waits_within new within
  ]

  pub entries : Entries h join s
  entries = record { keys = λ u w l. (at u w l, back u w l); enters = enters }
    where
      at : (u w l : ℕ) → s.waits u w ≡ Some l → (s.settled u w ≡ None) × Least (Entrance h join s u w) l
      at u w l e =
          let new = front.unsettled u w l e in
          let (r, route, short) = front.waits_by u w l e in (
            new,
            (
              entrance route,
              λ y p.
                  let (m, f, le) = enters u w y new p in
                  let same : l ≡ m = cc in
                  omega arith,
            ),
          )

      back : (u w l : ℕ) → (s.settled u w ≡ None) × Least (Entrance h join s u w) l → s.waits u w ≡ Some l
      back u w l (new, (p, low)) =
          let (m, f, le) = enters u w l new p in
          let (r, route, short) = front.waits_by u w m f in
          let same : m ≡ l = le_antisymm le (low m (entrance route)) in
          cc
