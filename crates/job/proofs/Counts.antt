-- How the counts of a table change where one pair is set.
use Rattle.std.proofs.Common.{◌≡◌, ℕ, ◌+◌, ◌*◌, ◌<◌, ◌≤◌, List, [], ◌∷◌, length, get_or, set, sum_by, Some, None, Option, refl, mul-le-mul, arith}
use Rattle.std.proofs.lemmas.List.Sums.{sum_by-cons, sum_by-set}
use Rattle.model.specs.State.{one_if, value_of, noted_key, settled_in, waiting_in}
use Rattle.model.specs.declared.Pair.{Pair}
use Rattle.model.specs.declared.Pair.TheVariants.{Unseen}

-- the pairs of a table that have something
abbrev pub having : (Pair → Option ℕ) → List Pair → ℕ
having f ps = sum_by (λ p. one_if (f p) 0) ps

pub having_set : (f : Pair → Option ℕ) (ps : List Pair) (i : ℕ) (p : Pair) → i < length ps →
    having f (set ps i p) + one_if (f (get_or ps i Unseen)) 0 ≡ having f ps + one_if (f p) 0
having_set f ps i p h = sum_by-set (λ q. one_if (f q) 0) ps i p Unseen h

one_if_add : (o : Option ℕ) (n : ℕ) → one_if o n ≡ one_if o 0 + n
one_if_add None n = omega arith
one_if_add (Some x) n = omega arith

pub settled_having : (ps : List Pair) → settled_in ps ≡ having value_of ps
settled_having [] = refl
settled_having (p ∷ ps) = omega (arith, one_if_add (value_of p) (settled_in ps), settled_having ps, sum_by-cons (λ q. one_if (value_of q) 0) p ps)

pub waiting_having : (ps : List Pair) → waiting_in ps ≡ having noted_key ps
waiting_having [] = refl
waiting_having (p ∷ ps) = omega (arith, one_if_add (noted_key p) (waiting_in ps), waiting_having ps, sum_by-cons (λ q. one_if (noted_key q) 0) p ps)

one_if_most : (o : Option ℕ) (n : ℕ) → one_if o n ≤ n + 1
one_if_most None n = omega arith
one_if_most (Some x) n = omega arith

-- no more pairs wait or are settled than there are
pub waiting_most : (ps : List Pair) → waiting_in ps ≤ length ps
waiting_most [] = omega arith
waiting_most (p ∷ ps) = omega (arith, waiting_most ps, one_if_most (noted_key p) (waiting_in ps))

pub settled_most : (ps : List Pair) → settled_in ps ≤ length ps
settled_most [] = omega arith
settled_most (p ∷ ps) = omega (arith, settled_most ps, one_if_most (value_of p) (settled_in ps))

-- there are at most 1,600 pairs
pub few_pairs : (n : ℕ) → n ≤ 40 → n * n ≤ 1600
few_pairs n h = mul-le-mul h h
