-- Routes, one leg back at a time.
use Rattle.std.proofs.Common.{◌≡◌, ℕ, zero, suc, pred, ◌<◌, List, [], ◌∷◌, ◌++◌, length, Some, None, Option, sym, ap, ◌∙◌, subst, arith}
use Rattle.std.proofs.lemmas.List.{length_push}
use Rattle.std.specs.Iterator.{Drains}
use Rattle.std.specs.Iterator.Runs.{Run}
use Rattle.std.specs.Iterator.Adapters.{take_steps, take_count, take_source, successors_steps, successors_next, successors_callee}
use Rattle.std.specs.Fn.{CalledAt}
use Rattle.std.proofs.lemmas.Option.{none-some}
use Rattle.std.specs.declared.iter.Take.{Take}
use Rattle.std.specs.declared.iter.Successors.{Successors}
use Rattle.walks.specs.Hall.{leg}
use Rattle.model.specs.State.{JobState, last_leg, pair_at, followed, back}

module _ (s : JobState) (u v : ℕ) where
  -- the last leg is i, which leaves w
  pub followed_on : (m i w : ℕ) → 0 < m → Some i ≡ last_leg (pair_at s u v) → w ≡ (leg s.hall i).from →
      followed s m u v ≡ followed s (pred m) u w ++ i ∷ []
  followed_on zero i w h is from = absurd (omega arith)
  followed_on (suc m) i w h is from =
      ap (back s (followed s m u)) (sym is) ∙ ap (λ x. followed s m u x ++ i ∷ []) (sym from)

  -- what has a leg was followed at least once
  pub followed_some : (m : ℕ) → 0 < length (followed s m u v) → 0 < m
  followed_some zero h = absurd (omega arith)
  followed_some (suc m) h = omega arith

-- a source whose item in hand is the last leg at a point, and then the one at the point which that leg leaves
module _ (s : JobState) (u : ℕ) {S : Type 0} (steps : S → Option ℕ → S → Type 0) (At : S → Option ℕ → Type 0)
    (gives : (t : S) (o r : Option ℕ) (t' : S) → At t o → steps t r t' → r ≡ o)
    (goes : (t : S) (i : ℕ) (t' : S) → At t (Some i) → steps t (Some i) t' → At t' (last_leg (pair_at s u (leg s.hall i).from))) where
  stepped : (n : ℕ) → ((v : ℕ) (t : Take S) (xs : List ℕ) → take_count t ≡ n → At (take_source t) (last_leg (pair_at s u v))
      → Drains (take_steps steps) t xs → length xs ≡ length (followed s n u v))
      → (o : Option ℕ) (t : Take S) (xs : List ℕ) → take_count t ≡ suc n → At (take_source t) o
      → Drains (take_steps steps) t xs → length xs ≡ length (back s (followed s n u) o)
  stepped n more None t [] c a d = omega arith
  stepped n more None t (x ∷ xs) c a d =
      absurd (none-some x (sym (gives (take_source t) None (Some x) (take_source d.1.1.0) a d.1.1.1.0)))
  stepped n more (Some i) t [] c a d =
      let same : t ≡ d.1.0 = d.1.1 in
      let none = d.1.2 (omega (arith, c, ap take_count same)) in
      absurd (none-some i (gives (take_source d.1.0) (Some i) None (take_source d.0) (subst (λ t. At (take_source t) (Some i)) same a) none))
  stepped n more (Some i) t (x ∷ xs) c a d =
      let j = d.1.1.0 in
      let step = d.1.1.1 in
      let is = gives (take_source t) (Some i) (Some x) (take_source j) a step.0 in
      let on = goes (take_source t) i (take_source j) a (subst (λ r. steps (take_source t) r (take_source j)) is step.0) in
      let rest = more (leg s.hall i).from j xs (omega (arith, c, step.1)) on (d.0, (d.1.0, d.1.1.2, d.1.2)) in
      omega (arith, rest, length_push (followed s n u (leg s.hall i).from) i)

  -- at most n of its items: as many as the legs of the route
  pub followed_len : (n v : ℕ) (t : Take S) (xs : List ℕ) → take_count t ≡ n → At (take_source t) (last_leg (pair_at s u v))
      → Drains (take_steps steps) t xs → length xs ≡ length (followed s n u v)
  followed_len zero v t [] c a d = omega arith
  followed_len zero v t (x ∷ xs) c a d = absurd (omega (arith, c, d.1.1.1.1))
  followed_len (suc n) v t xs c a d = stepped n (followed_len n) (last_leg (pair_at s u v)) t xs c a d

-- the same for `successors`, of a closure that answers the last leg at the point which its leg leaves
pub followed_back : {F : Type 0} {g : _} → Run (take_steps (successors_steps {F = F} {A = ℕ} g)) → (t : Take (Successors ℕ F)) (xs : List ℕ)
    → Drains (take_steps (successors_steps {F = F} {A = ℕ} g)) t xs → (s : JobState) (u v n : ℕ) (f : F)
    → take_count t ≡ n → successors_next (take_source t) ≡ last_leg (pair_at s u v) → successors_callee (take_source t) ≡ f
    → ((i : ℕ) (o : Option ℕ) (f' : F) → CalledAt g f i o f' → (o ≡ last_leg (pair_at s u (leg s.hall i).from)) × (f' ≡ f))
    → length xs ≡ length (followed s n u v)
followed_back {g} run t xs d s u v n f c o k calls =
    followed_len s u (successors_steps g) (λ t o. (successors_next t ≡ o) × (successors_callee t ≡ f))
    (λ t o r t' a h. h.0 ∙ a.0)
    (λ t i t' a h. calls i (successors_next t') (successors_callee t') (subst (λ f. CalledAt g f i (successors_next t') (successors_callee t')) a.1 h.1))
    n v t xs c (o, k) d
