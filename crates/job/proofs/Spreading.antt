-- The legs that leave a point, and the turns of a spreading along them.
use Rattle.std.proofs.Common.{◌≡◌, ℕ, zero, suc, ◌+◌, ◌*◌, ◌<◌, ◌≤◌, min, eqb, List, [], ◌∷◌, length, vec_len, get_or, Some, None, Option, sym, refl, ap, ◌∙◌, subst, arith}
use native.Mathlib.Nat.{min-eq_left}
use lib.Arith.{digits_lt}
use Rattle.std.proofs.lemmas.List.{get_or-map, length-map}
use Rattle.std.proofs.lemmas.Bool.{cond_both}
use Rattle.chains.specs.Threads.{Chained}
use Rattle.figures.specs.Limits.{value_limit, cost_limit}
use Rattle.walks.specs.Hall.{leg}
use Rattle.walks.specs.Hall as walks
use Rattle.model.specs.State.{leaving, leaving_of}
use Rattle.model.specs.Calls.{Desk, offered, tries}
use Rattle.job.specs.declared.hall.Hall.{Hall}
use Rattle.job.specs.declared.leg.Leg.{Leg}
use Rattle.job.specs.Legs.{leg_of, nexts}
use Rattle.job.specs.View.{hall_in}
use Rattle.job.proofs.Counts.{few_pairs}

-- no more legs leave a point than there are
pub leaving_short : (h : walks.Hall) (m v : ℕ) → length (leaving_of h m v) ≤ m
leaving_short h zero v = omega arith
leaving_short h (suc m) v =
    let less : length (leaving_of h m v) ≤ m = leaving_short h m v in
    cond_both (eqb (leg h m).from v) (m ∷ leaving_of h m v) (leaving_of h m v) (λ is. length is ≤ suc m)
    (λ _. omega arith) (λ _. omega arith)

-- of a hall at most 1,600
pub tried_short : (h : Hall) (v : ℕ) → (length (leaving (hall_in h) v) ≤ vec_len h.legs) × (length (leaving (hall_in h) v) ≤ 1600)
tried_short h v =
    let short : length (leaving (hall_in h) v) ≤ vec_len h.legs =
    omega (arith, leaving_short (hall_in h) (length (hall_in h).legs) v, length-map h.legs.items leg_of, h.legs.ok) in
    (short, omega (arith, h.sized))

-- the first of a chain, and what is left
pub unchain : (row : List (Option ℕ)) (head : Option ℕ) (i : ℕ) (is : List ℕ) → head ≡ Some i → Chained row head is →
    (rest : List ℕ) × (is ≡ i ∷ rest) × (i < length row) × Chained row (get_or row i None) rest
unchain row head i [] at h = absurd (let z : ◌≡◌ {A = ℕ} 0 1 = cc in omega arith)
unchain row head i (x ∷ xs) at h =
    let first : head ≡ Some x = h.0 in
    let same : x ≡ i = cc in
    (xs, ap (λ y. y ∷ xs) same, subst (λ y. y < length row) same h.1, subst (λ y. Chained row (get_or row y None) xs) same h.2)

abbrev pub no_leg : Leg
no_leg = record { from = 0; to = 0; cost = 0; next = None }

-- What is known where leg i is the next of `is`. The legs are `ls`, as the loop reads them.
pub record Turn (h : Hall) (ls : List Leg) (i : ℕ) (is : List ℕ) : Type 0 where
  pub rest : List ℕ
  pub first : is ≡ i ∷ rest
  pub there : i < length ls
  pub few : i < 1600
  pub on : Chained (nexts h.legs.items) (get_or ls i no_leg).next rest
  pub is_leg : leg (hall_in h) i ≡ leg_of (get_or ls i no_leg)
  pub to : (get_or ls i no_leg).to < h.points
  pub cost : (get_or ls i no_leg).cost ≤ cost_limit

pub turn : (h : Hall) (ls : List Leg) → ls ≡ h.legs.items → (head : Option ℕ) (i : ℕ) (is : List ℕ) → head ≡ Some i
    → Chained (nexts h.legs.items) head is → Turn h ls i is
turn h ls same head i is at chained =
    let next = unchain (nexts h.legs.items) head i is at chained in
    let there : i < length h.legs.items = omega (arith, next.2, length-map h.legs.items (λ l. l.next)) in
    let is_leg : leg (hall_in h) i ≡ leg_of (get_or h.legs.items i no_leg) =
    get_or-map leg_of h.legs.items i no_leg (record { from = 0; to = 0; cost = 0 }) there in
    let link = get_or-map (λ l. l.next) h.legs.items i no_leg None there in
    let within = h.within i there in
    let made : Turn h h.legs.items i is = record {
      rest = next.0;
      first = next.1;
      there = there;
      few = omega (arith, h.sized, h.legs.ok);
      on = subst (λ o. Chained (nexts h.legs.items) o next.0) link next.3;
      is_leg = is_leg;
      to = subst (λ l. l.to < h.points) is_leg within.1;
      cost = (let c = subst (λ l. l.cost ≤ h.bound) is_leg within.2 in omega (arith, h.sized));
    } in
    subst (λ xs. Turn h xs i is) (sym same) made

pub ended : (row : List (Option ℕ)) (head : Option ℕ) (is : List ℕ) → head ≡ None → Chained row head is → is ≡ []
ended row head [] at h = refl
ended row head (x ∷ xs) at h = absurd (let first : head ≡ Some x = h.0 in let z : ◌≡◌ {A = ℕ} 0 1 = cc in omega arith)

module _ (h : Hall) (ls : List Leg) (i : ℕ) (is : List ℕ) (t : Turn h ls i is) where
  -- the item of the pair that the leg leads to
  pub item_below : (u : ℕ) → u < h.points → (u * h.points + (get_or ls i no_leg).to < h.points * h.points) × (h.points * h.points ≤ 1600)
  item_below u below = (digits_lt below t.to, few_pairs h.points h.sized.0)

  -- what is left gives the same end
  pub turn_desk : (join : ℕ → ℕ → ℕ) (u x key : ℕ) (d e end : Desk) → x ≤ value_limit →
      key ≡ join (min x value_limit) (min (get_or ls i no_leg).cost cost_limit) →
      e ≡ offered d (u * h.points + (get_or ls i no_leg).to) key i →
      tries join (hall_in h) u x is d ≡ end → tries join (hall_in h) u x t.rest e ≡ end
  turn_desk join u x key d e end low joins off so =
      let plain : key ≡ join x (get_or ls i no_leg).cost =
      joins ∙ ap (λ y. join y (min (get_or ls i no_leg).cost cost_limit)) (min-eq_left low) ∙ ap (join x) (min-eq_left t.cost) in
      let made : e ≡ offered d (u * h.points + (get_or ls i no_leg).to) (join x (get_or ls i no_leg).cost) i =
      off ∙ ap (λ k. offered d (u * h.points + (get_or ls i no_leg).to) k i) plain in
      ap (tries join (hall_in h) u x t.rest)
      (made ∙ ap (λ l. offered d (u * h.points + l.to) (join x l.cost) i) (sym t.is_leg))
      ∙ sym (ap (λ js. tries join (hall_in h) u x js d) t.first) ∙ so
