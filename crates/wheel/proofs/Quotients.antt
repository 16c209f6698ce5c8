-- Lemmas on keys, the numbers of their compartments, and the places of these in the table.
use Rattle.std.proofs.Common.{◌≡◌, ℕ, ◌+◌, ◌*◌, ◌/◌, ◌%◌, ◌<◌, ◌≤◌, ap, ◌∙◌, ⊎_elim, mul-le-mul_right, add-mul, one-mul, div-mul-le_self, arith}
use native.Mathlib.Nat.{lt-div-mul-add, div-zero}
use Rattle.std.proofs.lemmas.Bool.{cases_lt}

-- 64 numbers in a row have 64 places
pub same_place : (x q r : ℕ) → x ≤ q → q < x + 64 → x ≤ r → r < x + 64 → q % 64 ≡ r % 64 → q ≡ r
same_place x q r a b c d e = omega arith

-- where a key of compartment q lies
pub quotient_low : (w k q : ℕ) → q ≤ k / w → q * w ≤ k
quotient_low w k q h = let m : q * w ≤ k / w * w = mul-le-mul_right w h in let d = div-mul-le_self k w in omega arith

pub quotient_high : (w k q : ℕ) → 0 < w → k / w ≤ q → k < q * w + w
quotient_high w k q p h =
    let m : k / w * w ≤ q * w = mul-le-mul_right w h in let d : k < k / w * w + w = lt-div-mul-add p in omega arith

-- an earlier compartment has the lower keys
pub quotient_lt : (w k l : ℕ) → k / w < l / w → k < l
quotient_lt w k l h = ⊎_elim
    (λ p. let a = quotient_high w k (k / w) p (omega arith) in
    let b = quotient_low w l (k / w + 1) (omega arith) in
    let e = add-mul (k / w) 1 w in let o = one-mul w in omega arith)
    (λ z. let e : l / w ≡ 0 = ap (λ v. l / v) (omega arith) ∙ div-zero l in absurd (omega arith))
    (cases_lt 0 w)

-- the number of a key's compartment is at least q where the key is
pub quotient_from : (w k q : ℕ) → 0 < w → q * w ≤ k → q ≤ k / w
quotient_from w k q p h = ⊎_elim
    (λ l. let a = quotient_high w k (k / w) p (omega arith) in
    let b : (k / w + 1) * w ≤ q * w = mul-le-mul_right w (omega arith) in
    let e = add-mul (k / w) 1 w in let o = one-mul w in absurd (omega arith))
    (λ g. g)
    (cases_lt (k / w) q)
