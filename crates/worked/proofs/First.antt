-- The first item of least key, of those that wait: one of the entries that a queue may name.
-- Assumes nothing.
use Rattle.std.proofs.Common.{◌≡◌, ℕ, zero, suc, ◌+◌, ◌≤◌, Bool, true, false, cond, leb, List, [], ◌∷◌, get_or, Some, None, Option, refl, ap, ◌∙◌, arith}
use Rattle.std.proofs.lemmas.Bool.{leb-true, leb-false}
use Rattle.queue.specs.declared.Entry.{Entry}
use Rattle.queue.specs.Meaning.{Meaning, key_of, Least}
use Rattle.walks.proofs.Places.{clash}

-- item i at its key, if it waits, unless one after it waits lower
abbrev sooner : ℕ → Option ℕ → Option Entry → Option Entry
sooner i None later = later
sooner i (Some k) None = Some (record { item = i; key = k })
sooner i (Some k) (Some e) = cond (leb k e.key) (Some (record { item = i; key = k })) (Some e)

abbrev first_from : ℕ → List (Option ℕ) → Option Entry
first_from i [] = None
first_from i (k ∷ ks) = sooner i k (first_from (suc i) ks)

abbrev pub first : Meaning → Option Entry
first m = first_from 0 m.waits

-- the keys ks are those of the items from i on
abbrev Found : ℕ → List (Option ℕ) → Option Entry → Type 0
Found i ks None = (j : ℕ) → get_or ks j None ≡ None
Found i ks (Some e) =
    ((p : ℕ) × (e.item ≡ i + p) × (get_or ks p None ≡ Some e.key)) × ((j l : ℕ) → get_or ks j None ≡ Some l → e.key ≤ l)

found_sooner : (i : ℕ) (k : Option ℕ) (ks : List (Option ℕ)) (later : Option Entry) → Found (suc i) ks later →
    Found i (k ∷ ks) (sooner i k later)
found_sooner i None ks None rest = elim [ zero ↦ refl | suc j ↦ rest j ]
found_sooner i None ks (Some e) ((p, item, at), low) =
    ((suc p, omega arith, at), elim [ zero ↦ λ l f. clash refl f | suc j ↦ λ l f. low j l f ])
found_sooner i (Some k) ks None rest =
    ((0, omega arith, refl), elim [ zero ↦ λ l f. let same : k ≡ l = cc in omega arith | suc j ↦ λ l f. clash (rest j) f ])
found_sooner i (Some k) ks (Some e) ((p, item, at), low) = by (leb k e.key) refl
  where
    by : (b : Bool) → leb k e.key ≡ b → Found i (Some k ∷ ks) (cond b (Some (record { item = i; key = k })) (Some e))
    by true t = (
      (0, omega arith, refl),
      elim [
        | zero ↦ λ l f. let same : k ≡ l = cc in omega arith
        | suc j ↦ λ l f. let below = low j l f in omega (arith, leb-true k e.key t)
      ],
    )
    by false t = (
      (suc p, omega arith, at),
      elim [
        | zero ↦ λ l f. let same : k ≡ l = cc in omega (arith, leb-false k e.key t)
        | suc j ↦ λ l f. low j l f
      ],
    )

found : (i : ℕ) (ks : List (Option ℕ)) → Found i ks (first_from i ks)
found i [] = λ j. refl
found i (k ∷ ks) = found_sooner i k ks (first_from (suc i) ks) (found (suc i) ks)

pub first_is_least : (m : Meaning) → Least m (first m)
first_is_least m = by (first m) (found 0 m.waits)
  where
    by : (o : Option Entry) → Found 0 m.waits o → Least m o
    by None none = none
    by (Some e) ((p, item, at), low) =
        let here : e.item ≡ p = omega arith in
        (ap (key_of m) here ∙ at, low)
