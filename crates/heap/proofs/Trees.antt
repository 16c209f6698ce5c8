-- Ranks of the places of a tree: how an exchange of a place and its parent, or of a place and its lower child, moves
-- the one place where the order may fail.
use Rattle.std.proofs.Common.{◌≡◌, ℕ, zero, suc, ◌+◌, ◌-◌, ◌<◌, ◌≤◌, ◌≢◌, arith}
use Rattle.heap.specs.Order.{parent, Ordered, Rising, Sinking, Lower}

-- s is r with the ranks of p and q exchanged
pub record Exchange (r s : ℕ → ℕ) (n p q : ℕ) : Type 0 where
  pub first : s p ≡ r q
  pub second : s q ≡ r p
  pub rest : (c : ℕ) → c < n → c ≢ p → c ≢ q → s c ≡ r c

module _ (r : ℕ → ℕ) (n p : ℕ) where
  pub ordered_from_rising : Rising r n p → (0 < p → r (parent p) ≤ r p) → Ordered r n
  ordered_from_rising u h c l m = grind arith

  pub ordered_from_sinking : Sinking r n p → ((c : ℕ) → 0 < c → c < n → parent c ≡ p → r p ≤ r c) → Ordered r n
  ordered_from_sinking u h c l m = grind arith

module _
    (r s : ℕ → ℕ)
    (n p : ℕ)
    (up : 0 < p)
    (u : Rising r n p)
    (x : Exchange r s n p (parent p))
    (lt : r p < r (parent p)) where
  pub rises : Rising s n (parent p)
  rises = grind arith

module _
    (r s : ℕ → ℕ)
    (n p q : ℕ)
    (u : Sinking r n p)
    (low : Lower r n p q)
    (x : Exchange r s n p q)
    (lt : r q < r p) where
  pub sinks : Sinking s n q
  sinks = grind arith

-- no rank is below the root's
pub root_least : (r : ℕ → ℕ) (n : ℕ) → Ordered r n → (m p : ℕ) → p < m → p < n → r 0 ≤ r p
root_least r n o zero p l h = absurd (omega arith)
root_least r n o (suc m) zero l h = omega arith
root_least r n o (suc m) (suc p) l h =
    let up = o (suc p) (omega arith) h in
    let more = root_least r n o m (parent (suc p)) (omega arith) (omega arith) in
    omega arith

-- a heap with a lower rank at p
pub rising_lowered : (r s : ℕ → ℕ) (n p : ℕ) → Ordered r n → p < n → s p ≤ r p → ((c : ℕ) → c < n → c ≢ p → s c ≡ r c) → Rising s n p
rising_lowered r s n p o h low same = grind arith

-- a heap with one place more
pub rising_entered : (r s : ℕ → ℕ) (n : ℕ) → Ordered r n → ((c : ℕ) → c < n → s c ≡ r c) → Rising s (n + 1) n
rising_entered r s n o same = grind arith

-- a heap without its last place, whose rank is now that of p, where a least one was
pub sinking_removed : (r s : ℕ → ℕ) (n p : ℕ) → Ordered r n → p < n → ((c : ℕ) → c < n → r p ≤ r c)
    → ((c : ℕ) → c < n - 1 → c ≢ p → s c ≡ r c) → (p < n - 1 → s p ≡ r (n - 1)) → Sinking s (n - 1) p
sinking_removed r s n p o h least same moved = grind arith
