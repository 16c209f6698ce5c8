-- The legs that leave a point.
-- Assumes nothing.
use Rattle.std.proofs.Common.{◌≡◌, ℕ, zero, suc, ◌<◌, Bool, true, false, cond, eqb, ◌∷◌, length, refl, inl, inr, arith}
use mathlib.Core.List.Memᴰ
use mathlib.Core.List.{Memᴰ}
use native.Mathlib.Decide.{ℕ_discrete}
use Rattle.std.proofs.lemmas.Bool.{eqb-true, eqb-false, eq-eqb}
use Rattle.walks.specs.Hall.{Hall, leg}
use Rattle.walks.specs.Units.{Counted, none, has, lacks, legs_below, Listed}

module _ (h : Hall) (v : ℕ) where
  every : (m i : ℕ) → i < m → (leg h i).from ≡ v → Memᴰ i (legs_below h v m)
  every zero i l e = absurd (omega arith)
  every (suc m) i l e = elim (ℕ_discrete i m) [
    | yes same ↦
        let here : (leg h m).from ≡ v = rw same at e in
        rw (eq-eqb (leg h m).from v here) (Memᴰ.head same)
    | no other ↦ kept (eqb (leg h m).from v) (every m i (omega arith) e)
  ]
    where
      kept : (b : Bool) → Memᴰ i (legs_below h v m) → Memᴰ i (cond b (m ∷ legs_below h v m) (legs_below h v m))
      kept true p = Memᴰ.tail p
      kept false p = p

  only : (m i : ℕ) → Memᴰ i (legs_below h v m) → (i < m) × ((leg h i).from ≡ v)
  only zero i p = absurd (Memᴰ.not-nil p)
  only (suc m) i p = pick (eqb (leg h m).from v) refl p (λ q. only m i q)
    where
      pick : (b : Bool) → eqb (leg h m).from v ≡ b → Memᴰ i (cond b (m ∷ legs_below h v m) (legs_below h v m)) →
          (Memᴰ i (legs_below h v m) → (i < m) × ((leg h i).from ≡ v)) → (i < suc m) × ((leg h i).from ≡ v)
      pick true e q earlier = elim (Memᴰ.cases_cons q) [
        | inl same ↦ let here = eqb-true (leg h m).from v e in (omega arith, rw same here)
        | inr rest ↦ (omega (arith, (earlier rest).0), (earlier rest).1)
      ]
      pick false e q earlier = (omega (arith, (earlier q).0), (earlier q).1)

  once : (m : ℕ) → Counted (λ i. (leg h i).from ≡ v) m (length (legs_below h v m))
  once zero = none
  once (suc m) = pick (eqb (leg h m).from v) refl (once m)
    where
      pick : (b : Bool) → eqb (leg h m).from v ≡ b → Counted (λ i. (leg h i).from ≡ v) m (length (legs_below h v m)) →
          Counted (λ i. (leg h i).from ≡ v) (suc m) (length (cond b (m ∷ legs_below h v m) (legs_below h v m)))
      pick true e rest = has (eqb-true (leg h m).from v e) rest
      pick false e rest = lacks (eqb-false (leg h m).from v e) rest

  pub listed : Listed h v
  listed = record {
    every = λ i w k leads. every (length h.legs) i leads.there leads.from;
    only = λ i p.
        let (l, e) = only (length h.legs) i p in
        ((leg h i).to, (leg h i).cost, record { there = l; from = e; to = refl; cost = refl });
    once = once (length h.legs);
  }
