-- What writes to rows of links do to the lists that they thread.
use Rattle.std.proofs.Common.{◌≡◌, ℕ, zero, suc, ◌+◌, ◌<◌, ◌≤◌, cond, eqb, ◌⊎◌, List, [], ◌∷◌, length, get_or, set, Some, None, Option, sym, refl, ap, ◌∙◌, subst, inl, inr, arith, length-set}
use Rattle.std.proofs.lemmas.List.{get_or-set_same, get_or-set_other}
use Rattle.std.proofs.lemmas.Bool.{cases_eq, cond_both, eqb-true, eqb-false, eq-eqb, ne_eqb, cond-true, cond-false}
use Rattle.chains.specs.Links.{put_at, onward, bypassed, unlinked_nexts, unlinked_prevs}
use Rattle.chains.specs.Threads.{Mem, Distinct, without, Chained, Backed}

-- a write at a place, if there is one
pub length_put_at : (row : List (Option ℕ)) (at v : Option ℕ) → length (put_at row at v) ≡ length row
length_put_at row None v = refl
length_put_at row (Some i) v = length-set row i v

-- no place of a list is written
abbrev pub Misses : Option ℕ → List ℕ → Type 0
Misses at xs = (b : ℕ) → at ≡ Some b → Mem b xs → ⊥

pub get_or_put_other : (row : List (Option ℕ)) (at v : Option ℕ) (j : ℕ) → ((b : ℕ) → at ≡ Some b → j ≡ b → ⊥) → get_or (put_at row at v) j None ≡ get_or row j None
get_or_put_other row None v j h = refl
get_or_put_other row (Some i) v j h = get_or-set_other row i j v None (h i refl)

-- writes outside a list keep it
pub chained_put : (nexts : List (Option ℕ)) (at v head : Option ℕ) (xs : List ℕ)
    → Misses at xs → Chained nexts head xs → Chained (put_at nexts at v) head xs
chained_put nexts at v head [] m h = h
chained_put nexts at v head (x ∷ xs) m h = (
  h.0,
  subst (λ n. x < n) (sym (length_put_at nexts at v)) h.1,
  subst (λ a. Chained (put_at nexts at v) a xs) (sym (get_or_put_other nexts at v x (λ b e f. m b e (inl (sym f)))))
      (chained_put nexts at v (get_or nexts x None) xs (λ b e f. m b e (inr f)) h.2),
)

pub backed_put : (prevs : List (Option ℕ)) (at v before : Option ℕ) (xs : List ℕ)
    → Misses at xs → Backed prevs before xs → Backed (put_at prevs at v) before xs
backed_put prevs at v before [] m h = tt
backed_put prevs at v before (x ∷ xs) m h = (
  get_or_put_other prevs at v x (λ b e f. m b e (inl (sym f))) ∙ h.0,
  backed_put prevs at v (Some x) xs (λ b e f. m b e (inr f)) h.1,
)

pub none_some : {o : Option ℕ} {x : ℕ} → o ≡ None → o ≡ Some x → ⊥
none_some p q = cc

pub same_some : {o : Option ℕ} {x y : ℕ} → o ≡ Some x → o ≡ Some y → x ≡ y
same_some p q = cc

-- the first element of a chain stands in it
pub first_in : (nexts : List (Option ℕ)) (head : Option ℕ) (i : ℕ) (xs : List ℕ)
    → Chained nexts head xs → head ≡ Some i → Mem i xs
first_in nexts head i [] h e = none_some h e
first_in nexts head i (x ∷ xs) h e = inl (same_some e h.0)

-- an element of a chain is an element of the slice
pub in_range : (nexts : List (Option ℕ)) (head : Option ℕ) (i : ℕ) (xs : List ℕ)
    → Chained nexts head xs → Mem i xs → i < length nexts
in_range nexts head i [] h m = absurd m
in_range nexts head i (x ∷ xs) h (inl e) = subst (λ j. j < length nexts) (sym e) h.1
in_range nexts head i (x ∷ xs) h (inr m) = in_range nexts (get_or nexts x None) i xs h.2 m

-- element i is put in front
pub chained_pushed : (nexts : List (Option ℕ)) (head : Option ℕ) (i : ℕ) (xs : List ℕ)
    → i < length nexts → (Mem i xs → ⊥) → Chained nexts head xs → Chained (set nexts i head) (Some i) (i ∷ xs)
chained_pushed nexts head i xs l n h = (
  refl,
  subst (λ m. i < m) (sym (length-set nexts i head)) l,
  subst (λ a. Chained (set nexts i head) a xs) (sym (get_or-set_same nexts i head None l))
      (chained_put nexts (Some i) head head xs (λ b e m. n (subst (λ j. Mem j xs) (same_some e refl) m)) h),
)

-- a step of a walk
pub chained_rest : (nexts : List (Option ℕ)) (head : Option ℕ) (x : ℕ) (xs : List ℕ)
    → Chained nexts head (x ∷ xs) → Chained nexts (onward nexts head) xs
chained_rest nexts head x xs h = subst (λ a. Chained nexts (onward nexts a) xs) (sym h.0) h.2

-- what stands after an element of a chain stands in it too
pub next_in : (nexts : List (Option ℕ)) (head : Option ℕ) (i m : ℕ) (xs : List ℕ)
    → Chained nexts head xs → Mem i xs → get_or nexts i None ≡ Some m → Mem m xs
next_in nexts head i m [] h t n = absurd t
next_in nexts head i m (x ∷ xs) h (inl e) n =
    inr (first_in nexts (get_or nexts x None) m xs h.2 (subst (λ j. get_or nexts j None ≡ Some m) e n))
next_in nexts head i m (x ∷ xs) h (inr t) n = inr (next_in nexts (get_or nexts x None) i m xs h.2 t n)

-- what stands before an element is its previous link
abbrev pub Before : (prevs : List (Option ℕ)) (before head : Option ℕ) (xs : List ℕ) (i : ℕ) → Type 0
Before prevs before head xs i =
    ((head ≡ Some i) × (get_or prevs i None ≡ before))
    ⊎ ((b : ℕ) × (get_or prevs i None ≡ Some b) × Mem b xs × (head ≡ Some i → ⊥))

pub prev_in : (nexts prevs : List (Option ℕ)) (before head : Option ℕ) (i : ℕ) (xs : List ℕ)
    → Chained nexts head xs → Backed prevs before xs → Distinct xs → Mem i xs → Before prevs before head xs i
prev_in nexts prevs before head i [] h b d m = absurd m
prev_in nexts prevs before head i (x ∷ xs) h b d (inl e) =
    inl (h.0 ∙ ap Some (sym e), subst (λ j. get_or prevs j None ≡ before) (sym e) b.0)
prev_in nexts prevs before head i (x ∷ xs) h b d (inr m) =
    let ne : head ≡ Some i → ⊥ = λ e. d.0 (subst (λ j. Mem j xs) (same_some e h.0) m) in
    elim (prev_in nexts prevs (Some x) (get_or nexts x None) i xs h.2 b.1 d.1 m) [
      | inl p ↦ inr (x, p.1, inl refl, ne)
      | inr p ↦ inr (p.0, p.1, inr p.2, ne)
    ]

-- the first element of a list is told what stands before it
pub rebacked : (nexts prevs : List (Option ℕ)) (head before v : Option ℕ) (xs : List ℕ)
    → length prevs ≡ length nexts → Chained nexts head xs → Backed prevs before xs → Distinct xs → Backed (put_at prevs head v) v xs
rebacked nexts prevs head before v [] long h b d = tt
rebacked nexts prevs head before v (y ∷ ys) long h b d =
    let l : y < length prevs = omega (arith, h.1) in
    subst (λ a. Backed (put_at prevs a v) v (y ∷ ys)) (sym h.0) (
      get_or-set_same prevs y v None l,
      backed_put prevs (Some y) v (Some y) ys (λ c e m. d.0 (subst (λ j. Mem j ys) (sym (same_some refl e)) m)) b.1,
    )

-- `without`
pub without_here : (i x : ℕ) (xs : List ℕ) → x ≡ i → without i (x ∷ xs) ≡ xs
without_here i x xs e = cond-true (eqb x i) xs (x ∷ without i xs) (eq-eqb x i e)

pub without_other : (i x : ℕ) (xs : List ℕ) → (x ≡ i → ⊥) → without i (x ∷ xs) ≡ x ∷ without i xs
without_other i x xs e = cond-false (eqb x i) xs (x ∷ without i xs) (ne_eqb x i e)

pub mem_without : (i j : ℕ) (xs : List ℕ) → Mem j (without i xs) → Mem j xs
mem_without i j [] = λ m. m
mem_without i j (x ∷ xs) =
    cond_both (eqb x i) xs (x ∷ without i xs) (λ l. Mem j l → Mem j (x ∷ xs)) (λ e m. inr m)
    (λ e m. elim m [ inl p ↦ inl p | inr p ↦ inr (mem_without i j xs p) ])

pub without_keeps : (i j : ℕ) (xs : List ℕ) → (j ≡ i → ⊥) → Mem j xs → Mem j (without i xs)
without_keeps i j [] ne m = m
without_keeps i j (x ∷ xs) ne (inl p) =
    subst (λ l. Mem j l) (sym (without_other i x xs (λ e. ne (p ∙ e)))) (inl p)
without_keeps i j (x ∷ xs) ne (inr p) =
    cond_both (eqb x i) xs (x ∷ without i xs) (λ l. Mem j l) (λ e. p) (λ e. inr (without_keeps i j xs ne p))

pub without_gone : (i : ℕ) (xs : List ℕ) → Distinct xs → Mem i (without i xs) → ⊥
without_gone i [] d = λ m. m
without_gone i (x ∷ xs) d =
    cond_both (eqb x i) xs (x ∷ without i xs) (λ l. Mem i l → ⊥) (λ e m. d.0 (subst (λ j. Mem j xs) (sym (eqb-true x i e)) m))
    (λ e m. elim m [ inl p ↦ eqb-false x i e (sym p) | inr p ↦ without_gone i xs d.1 p ])

pub distinct_without : (i : ℕ) (xs : List ℕ) → Distinct xs → Distinct (without i xs)
distinct_without i [] d = tt
distinct_without i (x ∷ xs) d =
    cond_both (eqb x i) xs (x ∷ without i xs) (λ l. Distinct l) (λ e. d.1)
    (λ e. (λ m. d.0 (mem_without i x xs m), distinct_without i xs d.1))

pub length_without : (i : ℕ) (xs : List ℕ) → Mem i xs → length (without i xs) + 1 ≡ length xs
length_without i [] m = absurd m
length_without i (x ∷ xs) (inl p) = let e = ap length (without_here i x xs (sym p)) in omega arith
length_without i (x ∷ xs) (inr p) =
    cond_both (eqb x i) xs (x ∷ without i xs) (λ l. length l + 1 ≡ suc (length xs)) (λ e. omega arith)
    (λ e. let h = length_without i xs p in omega arith)

pub cases_mem : (i : ℕ) (xs : List ℕ) → Mem i xs ⊎ (Mem i xs → ⊥)
cases_mem i [] = inr (λ m. m)
cases_mem i (x ∷ xs) =
    elim (cases_eq i x) [
      | inl e ↦ inl (inl e)
      | inr n ↦ elim (cases_mem i xs) [ inl m ↦ inl (inr m) | inr m ↦ inr (λ t. elim t [ inl e ↦ n e | inr u ↦ m u ]) ]
    ]

-- a list of distinct elements below n has at most n of them
pub length_distinct : (n : ℕ) (xs : List ℕ) → Distinct xs → ((i : ℕ) → Mem i xs → i < n) → length xs ≤ n
length_distinct zero [] d b = omega arith
length_distinct zero (x ∷ xs) d b = let h = b x (inl refl) in omega arith
length_distinct (suc n) xs d b =
    elim (cases_mem n xs) [
      | inl m ↦
          let h = length_distinct n (without n xs) (distinct_without n xs d)
          (λ i t. let l = b i (mem_without n i xs t) in
          elim (cases_eq i n) [ inl e ↦ absurd (without_gone n xs d (subst (λ j. Mem j (without n xs)) e t)) | inr ne ↦ omega arith ]) in
          let e = length_without n xs m in omega arith
      | inr m ↦
          let h = length_distinct n xs d
          (λ i t. let l = b i t in elim (cases_eq i n) [ inl e ↦ absurd (m (subst (λ j. Mem j xs) e t)) | inr ne ↦ omega arith ]) in
          omega arith
    ]

-- Element i leaves the list that it stands in.
module _ (nexts prevs : List (Option ℕ)) (long : length prevs ≡ length nexts) (i : ℕ) where
  -- the list's head then
  abbrev pub relinked : Option ℕ → Option ℕ
  relinked None = None
  relinked (Some x) = cond (eqb x i) (get_or nexts i None) (Some x)

  pub relinked_here : (head : Option ℕ) → head ≡ Some i → relinked head ≡ get_or nexts i None
  relinked_here head e = ap relinked e ∙ cond-true (eqb i i) (get_or nexts i None) (Some i) (eq-eqb i i refl)

  pub relinked_other : (head : Option ℕ) → (head ≡ Some i → ⊥) → relinked head ≡ head
  relinked_other None ne = refl
  relinked_other (Some x) ne = cond-false (eqb x i) (get_or nexts i None) (Some x) (ne_eqb x i (λ e. ne (ap Some e)))

  abbrev pub Both : Option ℕ → Option ℕ → List ℕ → Type 0
  Both before head xs = Chained (unlinked_nexts nexts prevs i) head xs × Backed (unlinked_prevs nexts prevs i) before xs

  unlinked_here : (before head : Option ℕ) (x : ℕ) (xs : List ℕ) → x ≡ i
      → Chained nexts head (x ∷ xs) → Backed prevs before (x ∷ xs) → Distinct (x ∷ xs) → Misses before (x ∷ xs)
      → Both before (get_or nexts i None) xs
  unlinked_here before head x xs e h b d m =
      let p : get_or prevs i None ≡ before = subst (λ j. get_or prevs j None ≡ before) e b.0 in
      let n : Chained nexts (get_or nexts i None) xs = subst (λ j. Chained nexts (get_or nexts j None) xs) e h.2 in (
        chained_put nexts (get_or prevs i None) (get_or nexts i None) (get_or nexts i None) xs
            (λ c q t. m c (sym p ∙ q) (inr t)) n,
        subst (λ a. Backed (unlinked_prevs nexts prevs i) a xs) p
            (rebacked nexts prevs (get_or nexts i None) (Some x) (get_or prevs i None) xs long n b.1 d.1),
      )

  pub thread_unlinked : (before head : Option ℕ) (xs : List ℕ)
      → Chained nexts head xs → Backed prevs before xs → Distinct xs → Misses before xs → Mem i xs
      → Both before (relinked head) (without i xs)
  thread_unlinked before head [] h b d m t = absurd t
  thread_unlinked before head (x ∷ xs) h b d m (inl e) =
      subst (λ a. Both before a (without i (x ∷ xs))) (sym (relinked_here head (h.0 ∙ ap Some (sym e))))
      (subst (λ l. Both before (get_or nexts i None) l) (sym (without_here i x xs (sym e)))
      (unlinked_here before head x xs (sym e) h b d m))
  thread_unlinked before head (x ∷ xs) h b d m (inr t) =
      let ne : x ≡ i → ⊥ = λ e. d.0 (subst (λ j. Mem j xs) (sym e) t) in
      let ih = thread_unlinked (Some x) (get_or nexts x None) xs h.2 b.1 d.1
      (λ c q u. d.0 (subst (λ j. Mem j xs) (sym (same_some refl q)) u)) t in
      let hd : relinked head ≡ Some x = relinked_other head (λ q. ne (same_some h.0 q)) ∙ h.0 in
      let lx : x < length (unlinked_nexts nexts prevs i) =
      subst (λ n. x < n) (sym (length_put_at nexts (get_or prevs i None) (get_or nexts i None))) h.1 in
      let px : get_or (unlinked_prevs nexts prevs i) x None ≡ before =
      get_or_put_other prevs (get_or nexts i None) (get_or prevs i None) x
      (λ c q u. d.0 (subst (λ j. Mem j xs) (sym u) (next_in nexts (get_or nexts x None) i c xs h.2 t q))) ∙ b.0 in
      let nx : get_or (unlinked_nexts nexts prevs i) x None ≡ relinked (get_or nexts x None) =
      elim (prev_in nexts prevs (Some x) (get_or nexts x None) i xs h.2 b.1 d.1 t) [
        | inl p ↦ ap (λ a. get_or (put_at nexts a (get_or nexts i None)) x None) p.1
            ∙ (get_or-set_same nexts x (get_or nexts i None) None h.1 ∙ sym (relinked_here (get_or nexts x None) p.0))
        | inr p ↦ get_or_put_other nexts (get_or prevs i None) (get_or nexts i None) x
            (λ c q u. d.0 (subst (λ j. Mem j xs) (same_some p.1 q ∙ sym u) p.2))
            ∙ sym (relinked_other (get_or nexts x None) p.3)
      ] in
      subst (λ l. Both before (relinked head) l) (sym (without_other i x xs ne))
      ((hd, lx, subst (λ a. Chained (unlinked_nexts nexts prevs i) a (without i xs)) (sym nx) ih.0), (px, ih.1))

  -- the head that the code gives is that one
  pub bypassed_is : (head : Option ℕ) (xs : List ℕ) → Chained nexts head xs → Backed prevs None xs → Distinct xs → Mem i xs
      → bypassed (get_or prevs i None) (get_or nexts i None) head ≡ relinked head
  bypassed_is head xs h b d t = elim (prev_in nexts prevs None head i xs h b d t) [
    | inl p ↦ ap (λ a. bypassed a (get_or nexts i None) head) p.1 ∙ sym (relinked_here head p.0)
    | inr p ↦ ap (λ a. bypassed a (get_or nexts i None) head) p.1 ∙ sym (relinked_other head p.3)
  ]
