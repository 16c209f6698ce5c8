-- Lemmas on the meaning of any waiting queue: how many items wait, that each key stays in its band, and that an item of
-- lowest key can be taken.
use Rattle.std.proofs.Common.{◌≡◌, ℕ, zero, suc, ◌+◌, ◌<◌, ◌≤◌, ◌⊎◌, List, [], ◌∷◌, length, get_or, set, replicate, IfErr, Some, None, Ok, Err, Option, Result, sym, refl, ap, ◌∙◌, inl, inr, arith}
use Rattle.std.proofs.lemmas.List.{get_or-set_same, get_or-set_other, set_past}
use Rattle.std.proofs.lemmas.Bool.{cases_eq, cases_lt}
use Rattle.queue.specs.declared.TakeRefusal.{TakeRefusal}
use Rattle.queue.specs.declared.TakeRefusal.TheVariants.{NotWaiting, NotLeast}
use Rattle.queue.specs.Meaning.{Meaning, Banded, Allowed, Lowest, Takes, key_of, held, one_if, put, taken}

one_more : (k : Option ℕ) (n : ℕ) → one_if k n ≡ n + one_if k 0
one_more None n = omega arith
one_more (Some k) n = omega arith

pub held_set : (ks : List (Option ℕ)) (i : ℕ) (k : Option ℕ) → i < length ks
    → held (set ks i k) + one_if (get_or ks i None) 0 ≡ held ks + one_if k 0
held_set [] i k l = absurd (omega arith)
held_set (h ∷ ks) zero k l = let a = one_more k (held ks) in let b = one_more h (held ks) in omega arith
held_set (h ∷ ks) (suc i) k l =
    let a = one_more h (held (set ks i k)) in
    let b = one_more h (held ks) in
    let more = held_set ks i k (omega arith) in
    omega arith

pub held_most : (ks : List (Option ℕ)) → held ks ≤ length ks
held_most [] = omega arith
held_most (None ∷ ks) = let more = held_most ks in omega arith
held_most (Some k ∷ ks) = let more = held_most ks in omega arith

module _ (ks : List (Option ℕ)) (i k : ℕ) where
  pub held_enter : i < length ks → get_or ks i None ≡ None → held (set ks i (Some k)) ≡ held ks + 1
  held_enter l e = let s = rw e at (held_set ks i (Some k) l) in omega arith

  pub held_lower : (old : ℕ) → i < length ks → get_or ks i None ≡ Some old → held (set ks i (Some k)) ≡ held ks
  held_lower old l e = let s = rw e at (held_set ks i (Some k) l) in omega arith

  pub held_take : i < length ks → get_or ks i None ≡ Some k → held (set ks i None) + 1 ≡ held ks
  held_take l e = let s = rw e at (held_set ks i None l) in omega arith

-- where an item does not wait, not all do
pub held_room : (ks : List (Option ℕ)) (i : ℕ) → i < length ks → get_or ks i None ≡ None → held ks < length ks
held_room [] i l e = absurd (omega arith)
held_room (None ∷ ks) zero l e = let most = held_most ks in omega arith
held_room (Some k ∷ ks) zero l e = let z : ◌≡◌ {A = ℕ} 0 1 = cc in absurd (omega arith)
held_room (None ∷ ks) (suc i) l e = let most = held_most ks in omega arith
held_room (Some k ∷ ks) (suc i) l e = let more = held_room ks i (omega arith) e in omega arith

pub held_replicate : (n : ℕ) → held (replicate n None) ≡ 0
held_replicate zero = refl
held_replicate (suc n) = held_replicate n

pub none_held : (ks : List (Option ℕ)) → held ks ≡ 0 → ks ≡ replicate (length ks) None
none_held [] e = refl
none_held (None ∷ ks) e = ap (λ xs. None ∷ xs) (none_held ks e)
none_held (Some k ∷ ks) e = absurd (omega arith)

-- what stands in a list after a write stood there before, or is what was written
pub set_cases : (ks : List (Option ℕ)) (i : ℕ) (k : Option ℕ) (j l : ℕ) → get_or (set ks i k) j None ≡ Some l
    → (k ≡ Some l) ⊎ (get_or ks j None ≡ Some l)
set_cases ks i k j l e =
    elim (cases_eq j i) [
      | inl h ↦
          elim (cases_lt i (length ks)) [
            | inl lt ↦ inl (sym (get_or-set_same ks i k None lt) ∙ ap (λ n. get_or (set ks i k) n None) (sym h) ∙ e)
            | inr ge ↦ inr (ap (λ xs. get_or xs j None) (sym (set_past ks i k ge)) ∙ e)
          ]
      | inr ne ↦ inr (sym (get_or-set_other ks i j k None ne) ∙ e)
    ]

pub never : (l : ℕ) → None ≡ Some l → ⊥
never l e = let z : ◌≡◌ {A = ℕ} 0 1 = cc in omega arith

pub none_in_replicate : (n j : ℕ) → ◌≡◌ {A = Option ℕ} (get_or (replicate n None) j None) None
none_in_replicate zero j = refl
none_in_replicate (suc n) zero = refl
none_in_replicate (suc n) (suc j) = none_in_replicate n j

some_same : (k l : ℕ) → Some k ≡ Some l → l ≡ k
some_same k l e = cc

pub banded_put : (m : Meaning) (i k : ℕ) → Banded m → Allowed m i k → Banded (put m i k)
banded_put m i k b a = record {
  low = b.low;
  above = λ j l e.
      elim (set_cases m.waits i (Some k) j l e) [
        | inl s ↦ let same = some_same k l s in let h = a.above in omega arith
        | inr old ↦ b.above j l old
      ];
  within = λ j l e.
      elim (set_cases m.waits i (Some k) j l e) [
        | inl s ↦ let same = some_same k l s in let h = a.within in omega arith
        | inr old ↦ b.within j l old
      ];
  small = λ j l e.
      elim (set_cases m.waits i (Some k) j l e) [
        | inl s ↦ let same = some_same k l s in let h = a.small in omega arith
        | inr old ↦ b.small j l old
      ];
}

pub banded_taken : (m : Meaning) (i k : ℕ) → Banded m → key_of m i ≡ Some k → Lowest m k → Banded (taken m i k)
banded_taken m i k b e low = record {
  low = b.small i k e;
  above = λ j l f.
      elim (set_cases m.waits i None j l f) [ inl s ↦ absurd (never l s) | inr old ↦ low j l old ];
  within = λ j l f.
      elim (set_cases m.waits i None j l f) [
        | inl s ↦ absurd (never l s)
        | inr old ↦ let w = b.within j l old in let up = b.above i k e in omega arith
      ];
  small = λ j l f.
      elim (set_cases m.waits i None j l f) [ inl s ↦ absurd (never l s) | inr old ↦ b.small j l old ];
}

-- where nothing waits, above floor 0
pub banded_none : (n d : ℕ) → Banded (record { waits = replicate n None; floor = 0; band = d })
banded_none n d = record {
  low = omega arith;
  above = λ j l f. absurd (never l (sym (none_in_replicate n j) ∙ f));
  within = λ j l f. absurd (never l (sym (none_in_replicate n j) ∙ f));
  small = λ j l f. absurd (never l (sym (none_in_replicate n j) ∙ f));
}

-- the taking of an item of lowest key is not refused
pub not_refused : (m : Meaning) (i k : ℕ) → key_of m i ≡ Some k → Lowest m k
    → (r : Result (Unit {0}) TakeRefusal) (n : Meaning) (P : TakeRefusal → Type 0) → Takes m i r n → IfErr r P
not_refused m i k waits low (Ok x) n P t = tt
not_refused m i k waits low (Err NotWaiting) n P t = absurd (never k (sym t.0 ∙ waits))
not_refused m i k waits low (Err NotLeast) n P t =
    let other = t.0.2 in
    let same = some_same k t.0.0 (sym waits ∙ t.0.1) in
    let above = low other.0 other.1 other.2 in
    absurd (omega arith)
