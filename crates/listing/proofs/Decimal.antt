-- How many figures a number has.
use Rattle.std.proofs.Common.{◌≡◌, ℕ, zero, suc, ◌+◌, ◌*◌, ◌/◌, ◌%◌, ◌^◌, ◌<◌, ◌≤◌, true, false, cond, eqb, List, [], ◌∷◌, length, Some, None, Option, IfNone, IfSome, MatchOption, decimal, sym, ◌∙◌, pow-suc, arith, length-append}
use Rattle.std.proofs.lemmas.Fmt.{decimal_digit, decimal_step}
use Rattle.std.specs.Fmt.{digits, digits_onto, digit_glyph}

-- one more than the power of ten that it has
length_decimal : (k n : ℕ) → 10 ^ k ≤ n → n < 10 * 10 ^ k → n < 2 ^ 64 → length (decimal n) ≡ k + 1
length_decimal zero n low high h = rw (decimal_digit n (omega arith)) (omega arith)
length_decimal (suc k) n low high h =
    let e : 10 ^ suc k ≡ 10 ^ k * 10 = pow-suc 10 k in
    rw (decimal_step n (omega arith) h) (simp length-append (omega (arith, length_decimal k (n / 10) (omega arith) (omega arith) (omega arith))))

-- the same of a logarithm that zero has not
pub length_logged : (n : ℕ) (log : Option ℕ) (len : ℕ) (At : ℕ → Type 0) → n < 2 ^ 64
    → IfNone log (n ≡ 0) → IfSome log (λ k. 10 ^ k ≤ n) → IfSome log (λ k. n < 10 * 10 ^ k)
    → ((k : ℕ) → At k → len ≡ k + 1) → MatchOption log (len ≡ 1) At → len ≡ length (decimal n)
length_logged n None len At h none low high each m = rw (none, decimal_digit 0 (omega arith)) m
length_logged n (Some k) len At h none low high each m = each k m ∙ sym (length_decimal k n low high h)

-- no number has more than 64
spelled_le : (k n : ℕ) (acc : List ℕ) → length (digits_onto k 10 false n acc) ≤ k + length acc
spelled_le zero n acc = omega arith
spelled_le (suc k) n acc =
    elim (eqb (n / 10) 0) as (λ b. length (cond b (digit_glyph false (n % 10) ∷ acc) (digits_onto k 10 false (n / 10) (digit_glyph false (n % 10) ∷ acc))) ≤ suc k + length acc)
    [ true ↦ omega arith | false ↦ omega (arith, spelled_le k (n / 10) (digit_glyph false (n % 10) ∷ acc)) ]

pub decimal_le : (n : ℕ) → length (decimal n) ≤ 64
unfolding digits
decimal_le n = omega (arith, spelled_le 64 n [])
