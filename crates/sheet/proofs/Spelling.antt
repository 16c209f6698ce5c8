-- Figures and the numbers that they spell.
use Rattle.std.proofs.Common.{◌≡◌, ℕ, zero, suc, [], ◌∷◌, add-one, mod-lt, Bor, Iter, fold, zero-add, ◌+◌, ◌-◌, ◌*◌, ◌%◌, ◌<◌, ◌≤◌, List, ◌++◌, map, length, get_or, decimal, sym, refl, ap, ◌∙◌, subst, mod-eq_of_lt, arith}
use native.Mathlib.Nat.{add-mod_right}
use Rattle.std.specs.Iterator.{Yields}
use Rattle.std.specs.Slice.Iter.{iter_rest}
use Rattle.std.proofs.lemmas.Fn.{fronts}
use Rattle.std.specs.Int.{IsInRange}
use Rattle.std.specs.List.{AllByRecursion}
use Rattle.std.specs.Int.Digits.{number_from_digits, number_from_digits_after}
use Rattle.std.proofs.lemmas.List.{length_push, take_all}
use Rattle.std.proofs.lemmas.Str.Parse.{IsNumeralModel, numerals_by_fold, digits_value_short}
use Rattle.std.proofs.lemmas.Fmt.{decimal-digits_value, digits_value-decimal, length-decimal-le}
use Rattle.sheet.specs.Form.{Figure}
use Rattle.sheet.specs.Numbers.{figure, spelled}

figure_is : (b : ℕ) → IsInRange 48 57 b → figure b ≡ b - 48
figure_is b h =
    let e : b + 208 ≡ (b - 48) + 256 = omega arith in
    let l : b - 48 < 256 = omega arith in
    ap (λ x. x % 256) e ∙ (add-mod_right (b - 48) 256 ∙ mod-eq_of_lt l)

own : IsNumeralModel (λ ds. AllByRecursion Figure ds) (λ ds. number_from_digits 10 (map figure ds))
own =
    numerals_by_fold (λ ds. AllByRecursion Figure ds)
    record { empty = tt; parts = λ c cs h. h; more = λ c cs h k. (h, k) }
    (λ n ds. number_from_digits_after 10 n (map figure ds))
    record { empty = λ n. refl; more = λ n c cs h. ap (λ x. number_from_digits_after 10 (n * 10 + x) (map figure cs)) (figure_is c h) }

spelled_short : (ds : List ℕ) → length ds ≤ 5 → spelled ds ≡ number_from_digits 10 (map figure ds)
spelled_short ds h = ap (λ x. number_from_digits 10 (map figure x)) (take_all 5 ds h)

-- a number is what its figures spell
pub spelled_decimal : (k : ℕ) → k < 100000 → spelled (decimal k) ≡ k
spelled_decimal k h =
    let l : length (decimal k) ≤ 5 = length-decimal-le 5 k (omega arith) h (omega arith) in
    spelled_short (decimal k) l ∙ digits_value-decimal own k (omega arith)

pub record Plain (ds : List ℕ) : Type 0 where
  pub written : ds ≡ decimal (spelled ds)
  pub small : spelled ds < 100000

-- one to five figures with no leading 0 are a number's figures
pub plain_figures : (ds : List ℕ) → AllByRecursion Figure ds → 0 < length ds → length ds ≤ 5 → (get_or ds 0 0 ≡ 48 → length ds ≡ 1) → Plain ds
plain_figures ds all some five lead =
    let e = spelled_short ds five in
    let v : number_from_digits 10 (map figure ds) < 100000 = digits_value_short own ds 5 all five in
    let d : decimal (number_from_digits 10 (map figure ds)) ≡ ds = decimal-digits_value own ds all some lead (omega arith) in
    record { written = sym (ap decimal e ∙ d); small = omega arith }

-- the most that k bytes and one more spell
abbrev pub most : ℕ → ℕ
most zero = 255
most (suc k) = most k * 10 + 255

pub most_small : (k : ℕ) → k < 5 → most k ≤ 2833305
most_small zero h = omega arith
most_small (suc zero) h = omega arith
most_small (suc (suc zero)) h = omega arith
most_small (suc (suc (suc zero))) h = omega arith
most_small (suc (suc (suc (suc zero)))) h = omega arith
most_small (suc (suc (suc (suc (suc k))))) h = absurd (omega arith)

pub most_push : (xs : List (Bor ℕ)) (x : Bor ℕ) (v n : ℕ) → n ≤ most (length xs) → v ≡ n * 10 + figure x.now → v ≤ most (length (xs ++ (x ∷ [])))
most_push xs x v n h e =
    let l : length (xs ++ (x ∷ [])) ≡ suc (length xs) = length_push xs x ∙ add-one (length xs) in
    let b : figure x.now < 256 = mod-lt _ (omega arith) in
    subst (λ k. v ≤ most k) (sym l) (omega arith)

-- as many items came as are no longer left
pub items_came : (xs : List (Bor ℕ)) (s t : Iter ℕ) → Yields fronts s xs t → length xs + length (iter_rest t) ≡ length (iter_rest s)
items_came [] s t y = ap (λ x. 0 + length (iter_rest x)) (sym y) ∙ zero-add (length (iter_rest s))
items_came (x ∷ xs) s t (j, h, y) = let e = items_came xs j t y in let k = ap length h in omega arith

fold_digits : (fs : List ℕ) (n : ℕ) → fold (λ v b. v * 10 + figure b) n fs ≡ number_from_digits_after 10 n (map figure fs)
fold_digits [] n = refl
fold_digits (b ∷ fs) n = fold_digits fs (n * 10 + figure b)

-- the fold is the number
pub number_by_fold : (fs : List ℕ) (r : ℕ) → r ≡ fold (λ v b. v * 10 + figure b) 0 fs → r ≡ number_from_digits 10 (map figure fs)
number_by_fold fs r h = h ∙ fold_digits fs 0
