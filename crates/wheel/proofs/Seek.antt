-- Lemmas on the search for the first later compartment that holds something.
use Rattle.std.proofs.Common.{◌≡◌, ℕ, zero, suc, ◌+◌, ◌%◌, ◌<◌, ◌≤◌, ltb, List, map, length, mod-lt, get_or, Some, None, Option, sym, refl, ap, ◌∙◌, subst, ⊎_elim, arith}
use Rattle.std.proofs.lemmas.List.{get_or-map}
use Rattle.std.proofs.lemmas.Bool.{cases_eq, cond_both, cond-true, cond-false, ltb-true, ltb-false, lt-ltb, le-ltb}
use Rattle.std.specs.List.{find, range_with_len}
use Rattle.wheel.specs.declared.rim.Compartment.{Compartment}
use Rattle.wheel.specs.Compartments.{vacant, counts_of}
use Rattle.wheel.specs.Later.{first_held}

-- the compartments from number q to before number s hold nothing
abbrev pub Bare : List ℕ → ℕ → ℕ → Type 0
Bare counts q s = (t : ℕ) → q < t → t < s → get_or counts (t % 64) 0 ≡ 0

-- number s is the first after q whose compartment, at place p, holds something
pub record First (counts : List ℕ) (q n p : ℕ) : Type 0 where
  pub number : ℕ
  pub after : q < number
  pub within : number ≤ q + n
  pub place : p ≡ number % 64
  pub holds : 0 < get_or counts p 0
  pub bare : Bare counts q number

abbrev pub Sought : List ℕ → ℕ → ℕ → Option ℕ → Type 0
Sought counts q n None = Bare counts q (q + n + 1)
Sought counts q n (Some p) = First counts q n p

-- a search that begins one number earlier, where nothing lies
sought_back : (counts : List ℕ) (n q : ℕ) (o : Option ℕ) → get_or counts (suc q % 64) 0 ≡ 0
    → Sought counts (suc q) n o → Sought counts q (suc n) o
sought_back counts n q None here s = λ t a b. ⊎_elim
    (λ e. subst (λ x. get_or counts (x % 64) 0 ≡ 0) (sym e) here) (λ ne. s t (omega arith) (omega arith)) (cases_eq t (suc q))
sought_back counts n q (Some p) here s = record {
  number = s.number;
  after = omega arith;
  within = let z = s.within in omega arith;
  place = s.place;
  holds = s.holds;
  bare = λ t a b. ⊎_elim (λ e. subst (λ x. get_or counts (x % 64) 0 ≡ 0) (sym e) here)
      (λ ne. s.bare t (omega arith) b) (cases_eq t (suc q));
}

-- a search that is over, and one that goes on
pub first_held_none : (counts : List ℕ) (q : ℕ) → first_held counts 0 q ≡ None
unfolding first_held
first_held_none counts q = refl

pub first_held_here : (counts : List ℕ) (n q : ℕ) → 0 < get_or counts (suc q % 64) 0
    → first_held counts (suc n) q ≡ Some (suc q % 64)
unfolding first_held
first_held_here counts n q h = cond-true _ _ _ (lt-ltb 0 (get_or counts (suc q % 64) 0) h)

pub first_held_later : (counts : List ℕ) (n q : ℕ) → get_or counts (suc q % 64) 0 ≡ 0
    → first_held counts (suc n) q ≡ first_held counts n (suc q)
unfolding first_held
first_held_later counts n q h = cond-false _ _ _ (le-ltb 0 (get_or counts (suc q % 64) 0) (omega arith))

pub sought : (counts : List ℕ) (n q : ℕ) → Sought counts q n (first_held counts n q)
unfolding first_held
sought counts zero q = λ t a b. absurd (omega arith)
sought counts (suc n) q = cond_both (ltb 0 (get_or counts (suc q % 64) 0)) (Some (suc q % 64)) (first_held counts n (suc q))
    (Sought counts q (suc n))
    (λ e. record {
      number = suc q;
      after = omega arith;
      within = omega arith;
      place = refl;
      holds = ltb-true 0 (get_or counts (suc q % 64) 0) e;
      bare = λ t a b. absurd (omega arith);
    })
    (λ e. let z = ltb-false 0 (get_or counts (suc q % 64) 0) e in
    sought_back counts n q (first_held counts n (suc q)) (omega arith) (sought counts n (suc q)))

-- one turn of the search, at its number of steps
-- the chain of `first_held`, from step a on
pub found : (table : List Compartment) → length table ≡ 64 → (n a q : ℕ)
    → find (λ p. ltb 0 (get_or table p vacant).count) (map (λ s. (q + s + 1) % 64) (range_with_len a n)) ≡ first_held (counts_of table) n (q + a)
found table long zero a q = sym (first_held_none (counts_of table) (q + a))
found table long (suc n) a q =
    let p = (q + a + 1) % 64 in
    let s = suc (q + a) % 64 in
    let place : p ≡ s = ap (λ v. v % 64) (omega arith) in
    let l : p < length table = (let z = mod-lt (q + a + 1) {m = 64} (omega arith) in omega arith) in
    let read : (get_or table p vacant).count ≡ get_or (counts_of table) s 0 =
    sym (get_or-map (λ c. c.count) table p vacant 0 l) ∙ ap (λ v. get_or (counts_of table) v 0) place in
    let later = found table long n (a + 1) q in
    let next : q + (a + 1) ≡ suc (q + a) = omega arith in
    cond_both (ltb 0 (get_or table p vacant).count) (Some p)
    (find (λ p. ltb 0 (get_or table p vacant).count) (map (λ s. (q + s + 1) % 64) (range_with_len (a + 1) n)))
    (λ o. o ≡ first_held (counts_of table) (suc n) (q + a))
    (λ t. let z = ltb-true 0 (get_or table p vacant).count t in
    ap (λ v. Some v) place ∙ sym (first_held_here (counts_of table) n (q + a) (omega arith)))
    (λ f. let z = ltb-false 0 (get_or table p vacant).count f in
    later ∙ ap (first_held (counts_of table) n) next ∙ sym (first_held_later (counts_of table) n (q + a) (omega arith)))

pub held_place : (counts : List ℕ) (n q p : ℕ) → Some p ≡ first_held counts n q → p < 64
held_place counts n q p e =
    let s : First counts q n p = subst (Sought counts q n) (sym e) (sought counts n q) in
    let z = mod-lt s.number {m = 64} (omega arith) in
    let y = s.place in omega arith
