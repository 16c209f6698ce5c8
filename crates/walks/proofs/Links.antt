-- The pairs that have a walk can be told, and counted: mark the start, and mark along legs until no leg leads from a marked
-- point to an unmarked one. Then the marked points are those that a walk reaches.
-- Assumes nothing.
use Rattle.std.proofs.Common.{◌≡◌, ℕ, zero, suc, ◌+◌, ◌/◌, ◌%◌, ◌<◌, ◌≤◌, eqb, ◌⊎◌, List, [], ◌∷◌, ◌++◌, length, Some, None, Option, sym, refl, ap, ◌∙◌, inl, inr, arith}
use native.Mathlib.Decide.{ℕ_discrete, dec_lt}
use Rattle.std.specs.Map.{update}
use Rattle.std.proofs.lemmas.Map.{update_here, update_apart}
use Rattle.walks.specs.Hall.{Hall, leg, Leads, Sized, Walk, stay, go}
use Rattle.walks.specs.Search.{held}
use Rattle.walks.specs.Laws.{Worth}
use Rattle.walks.specs.Units.{Counted, none, has, lacks, pairs, Linked}
use Rattle.walks.proofs.Places.{clash, held_le, weighed_more}

pub count_is_one : {P : ℕ → Type 0} {m c d : ℕ} → Counted P m c → Counted P m d → c ≡ d
count_is_one none none = refl
count_is_one (has p a) (has q b) = ap suc (count_is_one a b)
count_is_one (has p a) (lacks q b) = absurd (q p)
count_is_one (lacks p a) (has q b) = absurd (p q)
count_is_one (lacks p a) (lacks q b) = count_is_one a b

pub count : (P : ℕ → Type 0) → ((j : ℕ) → Dec (P j)) → (m : ℕ) → (c : ℕ) × Counted P m c
count P told zero = (0, none)
count P told (suc m) =
    let (c, rest) = count P told m in
    elim (told m) [ yes p ↦ (suc c, has p rest) | no np ↦ (c, lacks np rest) ]

module _ (h : Hall) (join : ℕ → ℕ → ℕ) (sized : Sized h) (u : ℕ) where
  -- a mark stands for a walk from u, and u is marked
  record Marks (f : ℕ → Option ℕ) : Type 0 where
    walks : (w x : ℕ) → f w ≡ Some x → Worth h join u w x
    start : (x : ℕ) × (f u ≡ Some x)

  -- a leg leads from a marked point to an unmarked one
  record Onward (f : ℕ → Option ℕ) : Type 0 where
    i : ℕ
    v : ℕ
    w : ℕ
    k : ℕ
    x : ℕ
    leads : Leads h i v w k
    marked : f v ≡ Some x
    new : f w ≡ None

  Closed : (ℕ → Option ℕ) → ℕ → Type 0
  Closed f m = (i v w k x : ℕ) → i < m → Leads h i v w k → f v ≡ Some x → (y : ℕ) × (f w ≡ Some y)

  onward : (f : ℕ → Option ℕ) (m : ℕ) → m ≤ length h.legs → Onward f ⊎ Closed f m
  unfolding Closed
  onward f zero le = inr (λ i v w k x l leads e. absurd (omega arith))
  onward f (suc m) le = elim (onward f m (omega arith)) [
    | inl found ↦ inl found
    | inr closed ↦ ends (f (leg h m).from) (f (leg h m).to) refl refl closed
  ]
    where
      more : ((x : ℕ) → f (leg h m).from ≡ Some x → (y : ℕ) × (f (leg h m).to ≡ Some y)) → Closed f m → Closed f (suc m)
      more here closed i v w k x l leads e = elim (ℕ_discrete i m) [
        | yes same ↦
            let from = leads.from in let to = leads.to in
            let at : f (leg h m).from ≡ Some x = cc in
            let (y, there) = here x at in
            (y, (cc))
        | no other ↦ closed i v w k x (omega arith) leads e
      ]

      ends : (a b : Option ℕ) → f (leg h m).from ≡ a → f (leg h m).to ≡ b → Closed f m → Onward f ⊎ Closed f (suc m)
      ends None b ea eb closed = inr (more (λ x e. clash ea e) closed)
      ends (Some x) (Some y) ea eb closed = inr (more (λ z e. (y, eb)) closed)
      ends (Some x) None ea eb closed = inl (record {
        i = m;
        v = (leg h m).from;
        w = (leg h m).to;
        k = (leg h m).cost;
        x = x;
        leads = record { there = le; from = refl; to = refl; cost = refl };
        marked = ea;
        new = eb;
      })

  module _ (f : ℕ → Option ℕ) (marks : Marks f) (o : Onward f) where
    abbrev marked : ℕ → Option ℕ
    marked = update eqb f o.w (Some (join o.x o.k))

    marked_walks : (b y : ℕ) → marked b ≡ Some y → Worth h join u b y
    marked_walks b y e = elim (ℕ_discrete b o.w) [
      | yes same ↦
          let here = update_here f o.w (Some (join o.x o.k)) in
          let (r, p) = marks.walks o.v o.x o.marked in
          let at : marked o.w ≡ Some y = rw same at e in
          let value : y ≡ join o.x o.k = cc in
          (r ++ o.i ∷ [], rw (same, value) (go p o.leads))
      | no other ↦ marks.walks b y (sym (update_apart f o.w (Some (join o.x o.k)) b other) ∙ e)
    ]

    marked_start : (x : ℕ) × (marked u ≡ Some x)
    marked_start =
        let (x, e) = marks.start in
        let other : u ≡ o.w → ⊥ = λ same. clash {o = f u} (ap f same ∙ o.new) e in
        (x, update_apart f o.w (Some (join o.x o.k)) u other ∙ e)

    one_more : held marked h.points ≡ 1 + held f h.points
    one_more =
        weighed_more (λ i. 1) f marked o.w (join o.x o.k) h.points (sized.to o.i o.v o.w o.k o.leads)
        o.new (update_here f o.w (Some (join o.x o.k))) (λ b other. update_apart f o.w (Some (join o.x o.k)) b other)

  -- until no leg leads onward: at most m more marks
  grown : (m : ℕ) (f : ℕ → Option ℕ) → Marks f → h.points ≤ held f h.points + m →
      (g : ℕ → Option ℕ) × Marks g × Closed g (length h.legs)
  grown zero f marks left = elim (onward f (length h.legs) (omega arith)) [
    | inr closed ↦ (f, marks, closed)
    | inl o ↦ absurd (omega (arith, one_more f marks o, held_le (marked f marks o) h.points))
  ]
  grown (suc m) f marks left = elim (onward f (length h.legs) (omega arith)) [
    | inr closed ↦ (f, marks, closed)
    | inl o ↦
        grown m (marked f marks o) (record { walks = marked_walks f marks o; start = marked_start f marks o })
        (omega (arith, one_more f marks o))
  ]

  module _ (g : ℕ → Option ℕ) (marks : Marks g) (closed : Closed g (length h.legs)) where
    reached : {a v y : ℕ} {r : List ℕ} → Walk h join a v y r → a ≡ u → (x : ℕ) × (g v ≡ Some x)
    unfolding Closed
    reached (stay {u = a} l) same = let (x, e) = marks.start in (x, ap g same ∙ e)
    reached (go {v = v} {i = i} {w = w} {k = k} p leads) same =
        let (x, e) = reached p same in
        closed i v w k x leads.there leads e

    told_by : (v : ℕ) (o : Option ℕ) → g v ≡ o → Dec ((y : ℕ) × Worth h join u v y)
    told_by v (Some x) e = yes (x, marks.walks v x e)
    told_by v None e = no (λ p. clash e (reached p.1.1 refl).1)

  abbrev nowhere : ℕ → Option ℕ
  nowhere b = None

  abbrev start_mark : ℕ → Option ℕ
  start_mark = update eqb nowhere u (Some 0)

  first : u < h.points → Marks start_mark
  first l = record { walks = walks; start = (0, update_here nowhere u (Some 0)) }
    where
      walks : (b x : ℕ) → start_mark b ≡ Some x → Worth h join u b x
      walks b x e = elim (ℕ_discrete b u) [
        | yes same ↦
            let here : start_mark u ≡ Some 0 = update_here nowhere u (Some 0) in
            let at : start_mark u ≡ Some x = rw same at e in
            let value : x ≡ 0 = cc in
            ([], rw (same, value) (stay l))
        | no other ↦ clash (update_apart nowhere u (Some 0) b other) e
      ]

  begins : {a v y : ℕ} {r : List ℕ} → Walk h join a v y r → a < h.points
  begins (stay l) = l
  begins (go p leads) = begins p

  pub told : (v : ℕ) → Dec ((y : ℕ) × Worth h join u v y)
  told v = elim (dec_lt u h.points) [
    | yes l ↦
        let (g, marks, closed) = grown h.points start_mark (first l) (omega arith) in
        told_by g marks closed v (g v) refl
    | no out ↦ no (λ p. out (begins p.1.1))
  ]

pub counted : (h : Hall) (join : ℕ → ℕ → ℕ) → Sized h →
    (c : ℕ) × Counted (Linked h join) (pairs h) c × ((d : ℕ) → Counted (Linked h join) (pairs h) d → d ≡ c)
counted h join sized =
    let (c, p) = count (Linked h join) (λ j. told h join sized (j / h.points) (j % h.points)) (pairs h) in
    (c, p, λ d q. count_is_one q p)
