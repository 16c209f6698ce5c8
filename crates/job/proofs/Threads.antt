-- The chains of the points, and the legs that leave them.
use Rattle.std.proofs.Common.{◌≡◌, ℕ, zero, suc, ◌+◌, ◌<◌, ◌≤◌, cond, eqb, ◌≢◌, List, [], ◌∷◌, ◌++◌, map, length, get_or, set, replicate, Some, None, Option, sym, refl, ap, ◌∙◌, subst, inl, inr, add-one, arith, length-append}
use mathlib.Core.Logic.{∥∥₁_elim, ∥∥₁_prop}
use base.Stored.{Coded-set, coded_ℕ, coded_via}
use native.Mathlib.Bridge.{le_prop}
use lib.ListN.{length-map}
use Rattle.std.proofs.lemmas.List.{get_or_append_left, get_or_push, get_or-set_same, get_or-set_other, map-append, length_push, set_at}
use Rattle.std.proofs.lemmas.Bool.{cases_eq, cases_lt, cond-true, cond-false, eq-eqb, ne_eqb}
use Rattle.chains.specs.declared.Chain.{Chain}
use Rattle.chains.specs.Threads.{Chained}
use Rattle.walks.specs.Hall.{Hall, leg}
use Rattle.walks.specs.Hall as walks
use Rattle.model.specs.State.{leaving, leaving_of}
use Rattle.model.specs.Calls.{with_leg}
use Rattle.job.specs.declared.leg.Leg.{Leg}
use Rattle.job.specs.Legs.{leg_of, hall_of, nexts, no_chain, first_of}
use Rattle.job.specs.Shape.{Within, Threaded}

-- no chain has an element
abbrev pub Bare : List Chain → Type 0
Bare chains = (v : ℕ) → first_of chains v ≡ None

pub bare_replicate : (n : ℕ) (c : Chain) → c.first ≡ None → Bare (replicate n c)
bare_replicate zero c e v = refl
bare_replicate (suc n) c e zero = e
bare_replicate (suc n) c e (suc v) = bare_replicate n c e v

-- a chain is put at a place
pub first_set_same : (chains : List Chain) (v : ℕ) (c : Chain) → v < length chains → first_of (set chains v c) v ≡ c.first
first_set_same chains v c l = ap (λ d. d.first) (get_or-set_same chains v c no_chain l)

pub first_set_other : (chains : List Chain) (v w : ℕ) (c : Chain) → w ≢ v → first_of (set chains v c) w ≡ first_of chains w
first_set_other chains v w c ne = ap (λ d. d.first) (get_or-set_other chains v w c no_chain ne)

-- where no leg stands
pub none_there : (legs : List Leg) (i : ℕ) → legs ≡ [] → i < length legs → ⊥
none_there legs i e l = let z = ap length e in omega arith

pub threaded_none : (n b : ℕ) (legs : List Leg) (chains : List Chain) → legs ≡ [] → Bare chains → Threaded n b legs chains
threaded_none n b legs chains e h =
    subst (λ ls. Threaded n b ls chains) (sym e) (λ v. ∣ h v ∣₁)

-- One leg more is laid. The legs that leave a point, of the first m.
pub leaving_more : (h : Hall) (l : walks.Leg) (m v : ℕ) → m ≤ length h.legs → leaving_of (with_leg h l) m v ≡ leaving_of h m v
leaving_more h l zero v b = refl
leaving_more h l (suc m) v b =
    let e : leg (with_leg h l) m ≡ leg h m = get_or_append_left h.legs (l ∷ []) _ m (omega arith) in
    let r = leaving_more h l m v (omega arith) in
    cc

pub leaving_push : (h : Hall) (l : walks.Leg) (v : ℕ)
    → leaving (with_leg h l) v ≡ cond (eqb l.from v) (length h.legs ∷ leaving h v) (leaving h v)
leaving_push h l v =
    let n = length h.legs in
    let e : length (h.legs ++ l ∷ []) ≡ suc n = length_push h.legs l ∙ add-one n in
    let g : leg (with_leg h l) n ≡ l = get_or_push h.legs l _ n refl in
    let r = leaving_more h l n v (omega arith) in
    ap (λ m. leaving_of (with_leg h l) m v) e
    ∙ (ap (λ x. cond (eqb x.from v) (n ∷ leaving_of (with_leg h l) n v) (leaving_of (with_leg h l) n v)) g
    ∙ ap (λ xs. cond (eqb l.from v) (n ∷ xs) xs) r)

-- a chain stays one where links are added at the end
pub chained_more : (row more : List (Option ℕ)) (head : Option ℕ) (xs : List ℕ) → Chained row head xs → Chained (row ++ more) head xs
chained_more row more head [] c = c
chained_more row more head (x ∷ xs) c = (
  c.0,
  (let e = length-append row more in omega (arith, c.1)),
  subst (λ n. Chained (row ++ more) n xs) (sym (get_or_append_left row more None x c.1))
      (chained_more row more (get_or row x None) xs c.2),
)

pub chained_push : (row : List (Option ℕ)) (head : Option ℕ) (xs : List ℕ) → Chained row head xs
    → Chained (row ++ head ∷ []) (Some (length row)) (length row ∷ xs)
chained_push row head xs c = (
  refl,
  (let e = length_push row head in omega arith),
  subst (λ n. Chained (row ++ head ∷ []) n xs) (sym (get_or_push row head None (length row) refl))
      (chained_more row (head ∷ []) head xs c),
)

pub chained_at : {row row' : List (Option ℕ)} {head head' : Option ℕ} {xs xs' : List ℕ}
    → row' ≡ row → head' ≡ head → xs' ≡ xs → Chained row head xs → Chained row' head' xs'
chained_at {row} {row'} {head} {head'} {xs} {xs'} p q r c =
    subst (λ a. Chained a head' xs') (sym p) (subst (λ a. Chained row a xs') (sym q) (subst (λ a. Chained row head a) (sym r) c))

-- `more` are the legs with leg l in front of its chain
module _ (n b : ℕ) (legs more : List Leg) (l : Leg) (e : map leg_of more ≡ map leg_of legs ++ leg_of l ∷ []) where
  pub length_laid : length more ≡ length legs + 1
  length_laid =
      let p = ap length e in
      let q = length_push (map leg_of legs) (leg_of l) in
      let r = length-map legs leg_of in
      let t = length-map more leg_of in
      omega arith

  leg_laid : (i : ℕ) → leg (hall_of n b more) i ≡ leg (with_leg (hall_of n b legs) (leg_of l)) i
  leg_laid i = ap (λ ls. leg (record { points = n; bound = b; legs = ls }) i) e

  pub within_push : Within n b legs → l.from < n → l.to < n → l.cost ≤ b → Within n b more
  within_push w f t k i lt =
      let m = length_laid in
      let r = length-map legs leg_of in
      let P : walks.Leg → Type 0 = λ x. (x.from < n) × (x.to < n) × (x.cost ≤ b) in
      subst P (sym (leg_laid i))
      (elim (cases_lt i (length legs)) [
        | inl c ↦ subst P (sym (get_or_append_left (map leg_of legs) (leg_of l ∷ []) _ i (omega arith))) (w i c)
        | inr c ↦ subst P (sym (get_or_push (map leg_of legs) (leg_of l) _ i (omega arith))) (f, t, k)
      ])

  pub threaded_push : (chains new : List Chain) → nexts more ≡ nexts legs ++ first_of chains l.from ∷ []
      → new ≡ set chains l.from (record { first = Some (length legs) }) → l.from < length chains
      → Threaded n b legs chains → Threaded n b more new
  threaded_push chains new f g k t v =
      let h = hall_of n b legs in
      let x = l.from in
      let row = nexts legs in
      let chain : Chain = record { first = Some (length legs) } in
      let rl : length row ≡ length legs = length-map legs (λ y. y.next) in
      let ll : length (map leg_of legs) ≡ length legs = length-map legs leg_of in
      let lv : leaving (hall_of n b more) v ≡ cond (eqb x v) (length legs ∷ leaving h v) (leaving h v) =
      ap (λ ls. leaving (record { points = n; bound = b; legs = ls }) v) e
      ∙ (leaving_push h (leg_of l) v ∙ ap (λ m. cond (eqb x v) (m ∷ leaving h v) (leaving h v)) ll) in
      ∥∥₁_elim (t v) ∥∥₁_prop (λ c. ∣
      (elim (cases_eq x v) [
        | inl q ↦ chained_at (f ∙ ap (λ w. row ++ first_of chains w ∷ []) q)
            (ap (λ cs. first_of cs v) g
            ∙ (subst (λ w. first_of (set chains x chain) w ≡ Some (length legs)) q (first_set_same chains x chain k) ∙ ap Some (sym rl)))
            (lv ∙ (cond-true (eqb x v) _ _ (eq-eqb x v q) ∙ ap (λ m. m ∷ leaving h v) (sym rl)))
            (chained_push row (first_of chains v) (leaving h v) c)
        | inr ne ↦ chained_at f
            (ap (λ cs. first_of cs v) g ∙ first_set_other chains x v chain (λ q. ne (sym q)))
            (lv ∙ cond-false (eqb x v) _ _ (ne_eqb x v ne))
            (chained_more row (first_of chains x ∷ []) (first_of chains v) (leaving h v) c)
      ]) ∣₁)

-- what a push to a chain leaves of the legs
abbrev pub bare : Leg → Leg
bare l = record { from = l.from; to = l.to; cost = l.cost; next = None }

map_bare : (xs : List Leg) → map leg_of (map bare xs) ≡ map leg_of xs
map_bare [] = refl
map_bare (x ∷ xs) = ap (λ r. leg_of x ∷ r) (map_bare xs)

pub legs_pushed : (xs ys : List Leg) (l : Leg) → map bare ys ≡ map bare (xs ++ l ∷ []) → map leg_of ys ≡ map leg_of xs ++ leg_of l ∷ []
legs_pushed xs ys l e =
    sym (map_bare ys) ∙ (ap (map leg_of) e ∙ (map_bare (xs ++ l ∷ []) ∙ map-append leg_of xs (l ∷ [])))

pub nexts_pushed : (xs ys : List Leg) (l : Leg) (i : ℕ) (head : Option ℕ) → length xs ≡ i
    → nexts ys ≡ set (nexts (xs ++ l ∷ [])) i head → nexts ys ≡ nexts xs ++ head ∷ []
nexts_pushed xs ys l i head k e =
    e ∙ (ap (λ r. set r i head) (map-append (λ y. y.next) xs (l ∷ []))
    ∙ set_at (nexts xs) l.next [] head i (length-map xs (λ y. y.next) ∙ k))

-- that a list is chained is shown in one way at most
number : Option ℕ → ℕ
number None = 0
number (Some n) = suc n

number_once : (x y : Option ℕ) → number x ≡ number y → x ≡ y
unfolding number
number_once None None e = refl
number_once None (Some n) e = absurd (omega arith)
number_once (Some m) None e = absurd (omega arith)
number_once (Some m) (Some n) e = let f : m ≡ n = omega arith in ap Some f

same_option : (x y : Option ℕ) → IsProp (x ≡ y)
same_option = Coded-set (coded_via coded_ℕ number number_once)

pub chained_once : (row : List (Option ℕ)) (head : Option ℕ) (xs : List ℕ) → IsProp (Chained row head xs)
chained_once row head [] = same_option head None
chained_once row head (x ∷ xs) = λ p q i. (
  same_option head (Some x) p.0 q.0 i,
  le_prop p.1 q.1 i,
  chained_once row (get_or row x None) xs p.2 q.2 i,
)

pub chain_of : (n b : ℕ) (legs : List Leg) (chains : List Chain) (v : ℕ) → Threaded n b legs chains
    → Chained (nexts legs) (first_of chains v) (leaving (hall_of n b legs) v)
chain_of n b legs chains v t = ∥∥₁_elim (t v) (chained_once (nexts legs) (first_of chains v) (leaving (hall_of n b legs) v)) (λ c. c)
