-- The first of a row that is something: what `find_map` finds, and what the scan round a ring finds.
use Rattle.std.proofs.Common.{◌≡◌, ℕ, zero, suc, ◌+◌, ◌-◌, ◌%◌, ◌<◌, ◌≤◌, List, [], ◌∷◌, map, length, get_or, take, drop, Some, None, Option, Bor, sym, refl, ap, ◌∙◌, inl, inr, arith, zero-add, add-one, drop-cons, mod-lt}
use denote.Param.Members.{Mut, Called}
use lib.ListN.{length-map}
use Rattle.std.specs.Option.{IsSomeAnd, IfSome, MatchOption, option_map}
use Rattle.std.specs.Bool.{IsTrue}
use Rattle.std.specs.Iterator.Runs.{Run, ItemsMapTo, AllItemsGive, IsFirstToGive, CallKeepsClosure}
use Rattle.std.proofs.lemmas.List.{get_or-map, get_or_past, take_rest, drop-map, take-map}
use Rattle.std.proofs.lemmas.Bool.{cases_lt}
use Rattle.chains.specs.declared.Chain.{Chain}
use Rattle.chains.proofs.Threads.{none_some}
use native.Mathlib.Nat.{mod_self, mod-add-mod}
use Rattle.ring.specs.Standing.{heads, or_else, first_some, scanned}
use Rattle.ring.proofs.Turns.{next_place}

first_at : (row : List (Option ℕ)) (i y : ℕ) → get_or row i None ≡ Some y → ((j : ℕ) → j < i → get_or row j None ≡ None) → first_some row ≡ Some y
first_at [] i y e h = absurd (none_some refl e)
first_at (o ∷ os) zero y e h = ap (λ x. or_else x (first_some os)) e
first_at (o ∷ os) (suc i) y e h =
    ap (λ x. or_else x (first_some os)) (h 0 (omega arith)) ∙ first_at os i y e (λ j l. h (suc j) (omega arith))

first_none : (row : List (Option ℕ)) → ((i : ℕ) → get_or row i None ≡ None) → first_some row ≡ None
first_none [] h = refl
first_none (o ∷ os) h = ap (λ x. or_else x (first_some os)) (h 0) ∙ first_none os (λ i. h (suc i))

-- `find_map` over a run of the elements of a slice, by a closure that acts as h
module _ {S A F : Type 0} {steps : S → Option (Bor A) → S → Type 0} (g : Mut F (Bor A × Unit {0}) (Option ℕ)) (f : F) (h : A → Option ℕ)
    (acts : (x : Bor A) (r : Option ℕ) (q : F) → Called g f (x, tt) r q → (q ≡ f) × (r ≡ h x.now))
    (p : Run steps) (xs : List A) (is : ItemsMapTo p (λ y. y.now) xs) where
  keeps : CallKeepsClosure g f
  keeps a r q c = (acts a.0 r q c).0

  by_item : (k : ℕ) (r : Option ℕ) (o : Option (Bor A)) → k < length xs → IsSomeAnd o (λ x. Called g f (x, tt) r f)
      → IfSome o (λ x. x.now ≡ get_or xs k x.now) → get_or (map h xs) k None ≡ r
  by_item k r None l s i = absurd s
  by_item k r (Some x) l s i = get_or-map h xs k x.now None l ∙ (ap h (sym i) ∙ sym (acts x r f s).1)

  some_and : (P : Bor A → Type 0) {y : A} (o : Option (Bor A)) → option_map (λ z. z.now) o ≡ Some y → IfSome o P → IsSomeAnd o P
  some_and P None e i = cc
  some_and P (Some x) e i = i

  item : (i : ℕ) → i < length xs → A
  item i l = element xs i l
    where
      element : (ys : List A) (j : ℕ) → j < length ys → A
      element [] j k = absurd (omega arith)
      element (y ∷ ys) j k = y

  pub found : (r : Option ℕ)
      → MatchOption r (IsTrue p.whole × AllItemsGive p g f None)
      (λ y. (i : ℕ) × (i < p.len) × (p.len ≡ i + 1) × IsFirstToGive p g f (Some y) None i)
      → r ≡ first_some (map h xs)
  found None e =
      let n : p.len ≡ length xs = is.1 e.0 in
      sym (first_none (map h xs) (λ i. elim (cases_lt i (length xs)) [
        | inl l ↦
            by_item i None (p.at i) l
            (some_and (λ x. Called g f (x, tt) None f) (p.at i) (is.2 i (get_or xs i (item i l)) (omega arith)) (e.1 keeps i)) (is.8 i)
        | inr l ↦ let m = length-map xs h in get_or_past (map h xs) i None (omega arith)
      ]))
  found (Some y) e =
      let i = e.0 in
      let few = is.0 in
      let first = e.3 keeps in
      sym (first_at (map h xs) i y (by_item i (Some y) (p.at i) (omega arith) first.0 (is.8 i))
      (λ j l. by_item j None (p.at j) (omega arith) (first.1 j l) (is.8 j)))

-- The scan round a ring of slots, as two walks along its row of heads.
or_else_assoc : (x y z : Option ℕ) → or_else (or_else x y) z ≡ or_else x (or_else y z)
or_else_assoc None y z = refl
or_else_assoc (Some i) y z = refl

scanned_add : (row : List (Option ℕ)) (a b k : ℕ) → scanned (a + b) row k ≡ or_else (scanned a row k) (scanned b row (k + a))
scanned_add row zero b k = let m : k ≡ k + 0 = omega arith in ap (λ n. scanned n row k) (zero-add b) ∙ ap (scanned b row) m
scanned_add row (suc a) b k =
    let n : suc a + b ≡ suc (a + b) = omega arith in
    let m : suc k + a ≡ k + suc a = omega arith in
    let head = get_or row (k % length row) None in
    ap (λ x. scanned x row k) n
    ∙ (ap (or_else head) (scanned_add row a b (suc k) ∙ ap (λ x. or_else (scanned a row (suc k)) (scanned b row x)) m)
    ∙ sym (or_else_assoc head (scanned a row (suc k)) (scanned b row (k + suc a))))

-- no further than the end of the row
scanned_on : (row : List (Option ℕ)) (n k s : ℕ) → k % length row ≡ s → s + n ≤ length row → scanned n row k ≡ first_some (take n (drop s row))
scanned_on row zero k s e l = refl
scanned_on row (suc zero) k s e l =
    ap (λ t. or_else (get_or row t None) None) e ∙ ap (λ r. first_some (take 1 r)) (sym (drop-cons row s None (omega arith)))
scanned_on row (suc (suc m)) k s e l =
    let t : suc k % length row ≡ suc s =
    ap (λ x. x % length row) (sym (add-one k)) ∙ (next_place (length row) k (omega arith) ∙ (let q : k % length row + 1 ≡ suc s = omega arith in q)) in
    ap (λ x. or_else (get_or row x None) (scanned (suc m) row (suc k))) e
    ∙ (ap (or_else (get_or row s None)) (scanned_on row (suc m) (suc k) (suc s) t (omega arith))
    ∙ ap (λ r. first_some (take (suc (suc m)) r)) (sym (drop-cons row s None (omega arith))))

-- round the whole ring from slot s on
scanned_round : (row : List (Option ℕ)) (k s : ℕ) → k % length row ≡ s → s < length row
    → scanned (length row) row k ≡ or_else (first_some (drop s row)) (first_some (take s row))
scanned_round row k s e l =
    let n : length row - s + s ≡ length row = omega arith in
    let t : (k + (length row - s)) % length row ≡ 0 =
    sym (mod-add-mod k (length row) (length row - s))
    ∙ (ap (λ x. x % length row) (let q : k % length row + (length row - s) ≡ length row = omega arith in q) ∙ mod_self (length row)) in
    let on = scanned_on row (length row - s) k s e (omega arith) ∙ ap first_some (take_rest row s) in
    let before : scanned s row (k + (length row - s)) ≡ first_some (take s row) = scanned_on row s (k + (length row - s)) 0 t (omega arith) in
    ap (λ x. scanned x row k) (sym n)
    ∙ (scanned_add row (length row - s) s k
    ∙ (ap (λ o. or_else o (scanned s row (k + (length row - s)))) on ∙ ap (or_else (first_some (drop s row))) before))

-- the same, of the slots from slot s on and of those before it
pub scanned_slots : (slots : List Chain) (k s : ℕ) → s ≤ length slots → (0 < length slots → s ≡ k % length slots)
    → or_else (first_some (heads (drop s slots))) (first_some (heads (take s slots))) ≡ scanned (length slots) (heads slots) k
scanned_slots [] k zero l e = refl
scanned_slots [] k (suc s) l e = absurd (omega arith)
scanned_slots (c ∷ cs) k s l e =
    let row = heads (c ∷ cs) in
    let n : length row ≡ length (c ∷ cs) = length-map (c ∷ cs) (λ x. x.first) in
    let p : 0 < length (c ∷ cs) = omega arith in
    let m = mod-lt k p in
    let at : k % length row ≡ s = ap (λ x. k % x) n ∙ sym (e p) in
    sym (ap (λ x. scanned x row k) (sym n)
    ∙ (scanned_round row k s at (omega arith)
    ∙ (ap (λ r. or_else (first_some r) (first_some (take s row))) (drop-map (λ x. x.first) s (c ∷ cs))
    ∙ ap (λ r. or_else (first_some (heads (drop s (c ∷ cs)))) (first_some r)) (take-map (λ x. x.first) s (c ∷ cs)))))
