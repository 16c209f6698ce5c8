-- What a table knows of each pair, as a state of a search, and what one write changes.
-- Assumes nothing.
use Rattle.std.proofs.Common.{◌≡◌, ℕ, zero, suc, ◌+◌, ◌*◌, ◌/◌, ◌%◌, ◌<◌, Bool, true, false, cond, ◌&&◌, ltb, ◌⊎◌, List, length, get_or, set, sym, refl, ap, ◌∙◌, inl, inr, arith}
use lib.Arith.{digits_lt, digits_div, digits_mod}
use Rattle.std.proofs.lemmas.List.{get_or-set_same, get_or-set_other}
use Rattle.std.proofs.lemmas.Bool.{ltb-true, lt-ltb}
use Rattle.std.proofs.lemmas.Nat.{div-add-mod', div_below, mod_below}
use Rattle.walks.specs.Search.{State, Apart}
use Rattle.model.specs.declared.Pair.{Pair}
use Rattle.model.specs.declared.Pair.TheVariants.{Unseen}
use Rattle.model.specs.State.{value_of, noted_key, last_leg}

-- of the pair (u, v), in the table of n points
abbrev pub known : ℕ → List Pair → ℕ → ℕ → Pair
known n ps u v = cond (ltb u n && ltb v n) (get_or ps (u * n + v) Unseen) Unseen

abbrev pub board : ℕ → List Pair → State
board n ps = record {
  settled = λ u v. value_of (known n ps u v);
  waits = λ u v. noted_key (known n ps u v);
  last = λ u v. last_leg (known n ps u v);
}

module _ (n : ℕ) (ps : List Pair) where
  pub known_at : (u v : ℕ) → u < n → v < n → known n ps u v ≡ get_or ps (u * n + v) Unseen
  known_at u v lu lv = rw (lt-ltb u n lu, lt-ltb v n lv)

  -- what is known is known of points
  pub inside : (u v : ℕ) → ((u < n) × (v < n)) ⊎ (known n ps u v ≡ Unseen)
  inside u v = rows (ltb u n) (ltb v n) refl refl
    where
      rows : (a b : Bool) → ltb u n ≡ a → ltb v n ≡ b →
          ((u < n) × (v < n)) ⊎ (cond (a && b) (get_or ps (u * n + v) Unseen) Unseen ≡ Unseen)
      rows true true ea eb = inl (ltb-true u n ea, ltb-true v n eb)
      rows true false ea eb = inr refl
      rows false b ea eb = inr refl

  -- an item below n·n is that of a pair
  pub split : (i : ℕ) → i < n * n → (i / n < n) × (i % n < n) × (i / n * n + i % n ≡ i)
  split i l = (div_below i n n (some n l) l, mod_below i n (some n l), div-add-mod' i n)
    where
      some : (k : ℕ) → i < k * k → 0 < k
      some zero l = absurd (omega arith)
      some (suc k) l = omega arith

  pub known_item : (i : ℕ) → i < n * n → known n ps (i / n) (i % n) ≡ get_or ps i Unseen
  known_item i l =
      let (lu, lv, e) = split i l in
      known_at (i / n) (i % n) lu lv ∙ ap (λ j. get_or ps j Unseen) e

-- items of two pairs are the same only if the pairs are
pub one_item : (n a b u v : ℕ) → b < n → v < n → a * n + b ≡ u * n + v → (a ≡ u) × (b ≡ v)
one_item n a b u v lb lv e = (
  sym (digits_div a lb) ∙ ap (λ j. j / n) e ∙ digits_div u lv,
  sym (digits_mod a lb) ∙ ap (λ j. j % n) e ∙ digits_mod u lv,
)

-- one write, at the item of (u, v)
module _ (n : ℕ) (ps : List Pair) (size : length ps ≡ n * n) (u v : ℕ) (lu : u < n) (lv : v < n) (i : ℕ) (at : u * n + v ≡ i) (p : Pair) where
  pub known_set : known n (set ps i p) u v ≡ p
  known_set =
      known_at n (set ps i p) u v lu lv
      ∙ rw at (get_or-set_same ps i p Unseen (rw (size, ← at) (digits_lt lu lv)))

  pub known_apart : (a b : ℕ) → Apart a b u v → known n (set ps i p) a b ≡ known n ps a b
  known_apart a b apart = rows (ltb a n) (ltb b n) refl
    where
      rows : (c d : Bool) → ltb b n ≡ d →
          cond (c && d) (get_or (set ps i p) (a * n + b) Unseen) Unseen ≡ cond (c && d) (get_or ps (a * n + b) Unseen) Unseen
      rows true true e =
          get_or-set_other ps i (a * n + b) p Unseen (λ same. apart (one_item n a b u v (ltb-true b n e) lv (same ∙ sym at)))
      rows true false e = refl
      rows false d e = refl
