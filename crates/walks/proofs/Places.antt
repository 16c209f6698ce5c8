-- The weights of the places that hold something, before and after one more does.
-- Assumes nothing.
use Rattle.std.proofs.Common.{◌≡◌, ℕ, zero, suc, ◌+◌, ◌<◌, ◌≤◌, Some, None, Option, refl, arith}
use native.Mathlib.Decide.{ℕ_discrete}
use Rattle.walks.specs.Search.{weigh, weighed, held}

-- a place does not hold something and nothing
pub clash : {A : Type 0} {o : Option ℕ} {x : ℕ} → o ≡ None → o ≡ Some x → A
clash e f = let z : ◌≡◌ {A = ℕ} 0 1 = cc in absurd (omega arith)

-- two pairs are the same or apart
pub same_pair : (a b u v : ℕ) → Dec ((a ≡ u) × (b ≡ v))
same_pair a b u v =
    elim (ℕ_discrete a u) [
      | yes p ↦ elim (ℕ_discrete b v) [ yes q ↦ yes (p, q) | no q ↦ no (λ e. q e.1) ]
      | no p ↦ no (λ e. p e.0)
    ]

pub weighed_same : (c : ℕ → ℕ) (f g : ℕ → Option ℕ) (n : ℕ) → ((b : ℕ) → b < n → g b ≡ f b) → weighed c g n ≡ weighed c f n
weighed_same c f g zero same = refl
weighed_same c f g (suc n) same =
    let here : g n ≡ f n = same n (omega arith) in
    let rest : weighed c g n ≡ weighed c f n = weighed_same c f g n (λ b l. same b (omega arith)) in
    cc

pub weighed_none : (c : ℕ → ℕ) (f : ℕ → Option ℕ) (n : ℕ) → ((b : ℕ) → f b ≡ None) → weighed c f n ≡ 0
weighed_none c f zero none = refl
weighed_none c f (suc n) none = rw (none n) (weighed_none c f n none)

-- one more place holds something: its weight is added
pub weighed_more : (c : ℕ → ℕ) (f g : ℕ → Option ℕ) (v k n : ℕ) → v < n → f v ≡ None → g v ≡ Some k →
    ((b : ℕ) → (b ≡ v → ⊥) → g b ≡ f b) → weighed c g n ≡ c v + weighed c f n
weighed_more c f g v k zero l was is same = absurd (omega arith)
weighed_more c f g v k (suc n) l was is same = elim (ℕ_discrete n v) [
  | yes e ↦ top e
  | no ne ↦ under ne (weighed_more c f g v k n (omega arith) was is same)
]
  where
    top : n ≡ v → weighed c g (suc n) ≡ c v + weighed c f (suc n)
    top e =
        let rest : weighed c g n ≡ weighed c f n = weighed_same c f g n (λ b m. same b (λ q. omega arith)) in
        let gn : g n ≡ Some k = cc in
        let fn : f n ≡ None = cc in
        rw (gn, fn, rest, e)

    grow : (o : Option ℕ) → weigh (c n) o (c v + weighed c f n) ≡ c v + weigh (c n) o (weighed c f n)
    grow (Some x) = omega arith
    grow None = refl

    under : (n ≡ v → ⊥) → weighed c g n ≡ c v + weighed c f n → weighed c g (suc n) ≡ c v + weighed c f (suc n)
    under ne rest = rw (same n ne, rest) (grow (f n))

pub held_le : (f : ℕ → Option ℕ) (n : ℕ) → held f n ≤ n
held_le f zero = omega arith
held_le f (suc n) =
    let below : held f n ≤ n = held_le f n in
    elim (f n) as (λ o. weigh 1 o (held f n) ≤ suc n) [ Some x ↦ omega arith | None ↦ omega arith ]
