-- Counting round a ring of n places.
use Rattle.std.proofs.Common.{◌≡◌, ℕ, ◌+◌, ◌*◌, ◌/◌, ◌%◌, ◌<◌, ◌≤◌, sym, ◌∙◌, inl, inr, mod-eq_of_lt, mul-le-mul_left, mul-add, arith}
use native.Mathlib.Nat.{mod-add-mod, div-add-mod}
use Rattle.std.proofs.lemmas.Bool.{cases_lt}

-- the place after one that is not the last
pub next_place : (n k : ℕ) → k % n + 1 < n → (k + 1) % n ≡ k % n + 1
next_place n k h = sym (mod-add-mod k n 1) ∙ mod-eq_of_lt h

-- of n keys in a row no two have one place
pub one_key : (n k l : ℕ) → k ≤ l → l < k + n → l % n ≡ k % n → l ≡ k
one_key n k l low high e =
    let a = div-add-mod k n in
    let b = div-add-mod l n in
    elim (cases_lt (k / n) (l / n)) [
      | inl lt ↦
          let up : k / n + 1 ≤ l / n = omega arith in
          let m : n * (k / n + 1) ≤ n * (l / n) = mul-le-mul_left n up in
          let d = mul-add n (k / n) 1 in
          absurd (omega arith)
      | inr ge ↦
          let m : n * (l / n) ≤ n * (k / n) = mul-le-mul_left n ge in
          omega arith
    ]
