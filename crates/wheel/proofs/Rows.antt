-- Lemmas on rows of keys: what `joined` reads, how it changes, and how many it holds.
use Rattle.std.proofs.Common.{◌≡◌, ℕ, zero, suc, ◌+◌, ◌<◌, List, [], ◌∷◌, length, get_or, set, Some, None, Option, refl, ap, arith}
use Rattle.queue.specs.Meaning.{held}
use Rattle.chains.proofs.Threads.{none_some}
use Rattle.wheel.specs.Banded.{none_read}
use Rattle.wheel.specs.Joined.{either_key, joined}

-- a write to both rows at one place is a write to the joined row
pub joined_set : (base : ℕ) (ks bs : List (Option ℕ)) (i : ℕ) (k b : Option ℕ) → i < length bs
    → joined base (set ks i k) (set bs i b) ≡ set (joined base ks bs) i (either_key base k b)
joined_set base [] bs i k b h = refl
joined_set base (x ∷ ks) [] i k b h = absurd (omega arith)
joined_set base (x ∷ ks) (y ∷ bs) zero k b h = refl
joined_set base (x ∷ ks) (y ∷ bs) (suc i) k b h = ap (λ r. either_key base x y ∷ r) (joined_set base ks bs i k b (omega arith))

pub held_none : (ks : List (Option ℕ)) → ((i : ℕ) → get_or ks i None ≡ None) → held ks ≡ 0
held_none [] h = refl
held_none (None ∷ ks) h = held_none ks (λ i. h (suc i))
held_none (Some k ∷ ks) h = absurd (let e = h 0 in let z : ◌≡◌ {A = ℕ} 0 1 = cc in omega arith)

-- where no item waits in both, the joined row holds what the two hold together
pub held_joined : (base : ℕ) (ks bs : List (Option ℕ))
    → ((i k : ℕ) → get_or ks i None ≡ Some k → get_or bs i None ≡ None)
    → ((i k : ℕ) → get_or bs i None ≡ Some k → i < length ks)
    → held (joined base ks bs) ≡ held bs + held ks
held_joined base [] bs apart inside =
    let e = held_none bs (λ i. none_read (get_or bs i None) (λ k q. let z = inside i k q in omega arith)) in omega arith
held_joined base (None ∷ ks) [] apart inside =
    let e = held_joined base ks [] (λ i k h. refl) (λ i k h. absurd (none_some refl h)) in omega arith
held_joined base (Some k ∷ ks) [] apart inside =
    let e = held_joined base ks [] (λ i k h. refl) (λ i k h. absurd (none_some refl h)) in omega arith
held_joined base (None ∷ ks) (None ∷ bs) apart inside =
    held_joined base ks bs (λ i k h. apart (suc i) k h) (λ i k h. let z = inside (suc i) k h in omega arith)
held_joined base (None ∷ ks) (Some b ∷ bs) apart inside =
    let e = held_joined base ks bs (λ i k h. apart (suc i) k h) (λ i k h. let z = inside (suc i) k h in omega arith)
    in omega arith
held_joined base (Some k ∷ ks) (None ∷ bs) apart inside =
    let e = held_joined base ks bs (λ i k h. apart (suc i) k h) (λ i k h. let z = inside (suc i) k h in omega arith)
    in omega arith
held_joined base (Some k ∷ ks) (Some b ∷ bs) apart inside = absurd (none_some (apart 0 k refl) refl)
