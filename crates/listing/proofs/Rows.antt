-- How long a listing can be, and how many pairs can have a value.
use Rattle.std.proofs.Common.{ℕ, zero, suc, ◌*◌, ◌^◌, ◌<◌, ◌≤◌, List, [], ◌∷◌, length, Some, None, codes, Option, zero-le, suc-mul, arith, length-append}
use Rattle.listing.specs.Listing.{pair_line, in_order, total, has, row, found_from, found_pairs, listing}
use Rattle.listing.proofs.Lines.{line_le}

pair_line_le : (u v : ℕ) (value : Option ℕ) → length (pair_line u v value) ≤ 200
pair_line_le u v (Some w) = omega (arith, line_le (codes "PR") (u ∷ v ∷ w ∷ []))
pair_line_le u v None = omega (arith, line_le (codes "NO") (u ∷ v ∷ []))

has_le : (value : Option ℕ) → has value ≤ 1
has_le (Some w) = omega arith
has_le None = omega arith

in_order_le : (f : ℕ → List ℕ) (most : ℕ) → ((k : ℕ) → length (f k) ≤ most) → (n : ℕ) → length (in_order n f) ≤ n * most
in_order_le f most each zero = zero-le
in_order_le f most each (suc n) = rw suc-mul (simp length-append (omega (arith, in_order_le f most each n, each n)))

total_le : (f : ℕ → ℕ) (most : ℕ) → ((k : ℕ) → f k ≤ most) → (n : ℕ) → total n f ≤ n * most
total_le f most each zero = zero-le
total_le f most each (suc n) = rw suc-mul (omega (arith, total_le f most each n, each n))

-- a row, with at most 200 bytes a line
row_le : (n : ℕ) (value : ℕ → ℕ → Option ℕ) (u : ℕ) → length (row n value u) ≤ n * 200
row_le n value u = in_order_le (λ v. pair_line u v (value u v)) 200 (λ v. pair_line_le u v (value u v)) n

pub found_from_le : (n : ℕ) (value : ℕ → ℕ → Option ℕ) (u : ℕ) → found_from n value u ≤ n
found_from_le n value u = omega (arith, total_le (λ v. has (value u v)) 1 (λ v. has_le (value u v)) n)

pub found_le : (n m : ℕ) (value : ℕ → ℕ → Option ℕ) → n ≤ 40 → total m (found_from n value) ≤ m * 40
found_le n m value h = total_le (found_from n value) 40 (λ u. omega (arith, found_from_le n value u)) m

pub listing_le : (n : ℕ) (value : ℕ → ℕ → Option ℕ) → n ≤ 40 → length (listing n value) < 2 ^ 32
unfolding listing
listing_le n value h =
    simp length-append
    (omega (
      arith,
      line_le (codes "TB") (n ∷ []),
      line_le (codes "EN") (found_pairs n value ∷ []),
      in_order_le (row n value) 8000 (λ u. omega (arith, row_le n value u)) n,
    ))
