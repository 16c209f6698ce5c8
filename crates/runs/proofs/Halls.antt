-- Halls: laying keeps them sized; a job's legs and routes are those of the search.
-- Assumes nothing.
use Rattle.std.proofs.Common.{◌≡◌, ℕ, zero, suc, ◌<◌, ◌≤◌, cond, eqb, ◌⊎◌, List, [], ◌∷◌, ◌++◌, length, Some, None, Option, sym, refl, ap, ◌∙◌, inl, inr, arith}
use mathlib.Core.List.{Memᴰ}
use Rattle.std.proofs.lemmas.List.{get_or_append_left, get_or_push, length_push}
use Rattle.std.proofs.lemmas.Bool.{cases_lt}
use Rattle.figures.specs.Limits.{cost_limit}
use Rattle.walks.specs.Hall.{Hall, Leg, leg, Leads, Sized}
use Rattle.walks.specs.Search.{Leaving}
use Rattle.walks.specs.Laws.{before, route_of, followed as reads}
use Rattle.walks.specs.Units.{legs_from, legs_below}
use Rattle.walks.proofs.Legs.{listed}
use Rattle.model.specs.State.{JobState, pair_at, last_leg, leaving, leaving_of, back, followed, route}
use Rattle.model.specs.Calls.{with_leg}
use Rattle.runs.proofs.Known.{board}

-- a hall without legs
pub bare : (n c : ℕ) → c ≤ cost_limit → Sized (record { points = n; bound = c; legs = [] })
bare n c l = record {
  bound = l;
  from = λ i v w k p. absurd (omega (arith, p.there));
  to = λ i v w k p. absurd (omega (arith, p.there));
  cost = λ i v w k p. absurd (omega (arith, p.there));
}

module _ (h : Hall) (sized : Sized h) (l : Leg) (from : l.from < h.points) (to : l.to < h.points) (cost : l.cost ≤ h.bound) where
  -- the leg was there, or it is the one laid now
  which : (i v w k : ℕ) → Leads (with_leg h l) i v w k → Leads h i v w k ⊎ ((l.from ≡ v) × (l.to ≡ w) × (l.cost ≡ k))
  which i v w k p = elim (cases_lt i (length h.legs)) [
    | inl less ↦
        let same = get_or_append_left h.legs (l ∷ []) (record { from = 0; to = 0; cost = 0 }) i less in
        inl (record {
          there = less;
          from = ap (λ x. x.from) (sym same) ∙ p.from;
          to = ap (λ x. x.to) (sym same) ∙ p.to;
          cost = ap (λ x. x.cost) (sym same) ∙ p.cost;
        })
    | inr more ↦
        let last : length h.legs ≡ i = omega (arith, p.there, length_push h.legs l) in
        let same = get_or_push h.legs l (record { from = 0; to = 0; cost = 0 }) i last in
        inr (ap (λ x. x.from) (sym same) ∙ p.from, ap (λ x. x.to) (sym same) ∙ p.to, ap (λ x. x.cost) (sym same) ∙ p.cost)
  ]

  pub one_more : Sized (with_leg h l)
  one_more = record {
    bound = sized.bound;
    from = λ i v w k p. elim (which i v w k p) [ inl old ↦ sized.from i v w k old | inr new ↦ rw (← new.0) from ];
    to = λ i v w k p. elim (which i v w k p) [ inl old ↦ sized.to i v w k old | inr new ↦ rw (← new.1) to ];
    cost = λ i v w k p. elim (which i v w k p) [ inl old ↦ sized.cost i v w k old | inr new ↦ rw (← new.2) cost ];
  }

leaving_below : (h : Hall) (m v : ℕ) → leaving_of h m v ≡ legs_below h v m
leaving_below h zero v = refl
leaving_below h (suc m) v = ap (λ is. cond (eqb (leg h m).from v) (m ∷ is) is) (leaving_below h m v)

pub leaving_same : (h : Hall) (v : ℕ) → leaving h v ≡ legs_from h v
leaving_same h v = leaving_below h (length h.legs) v

pub leaving_every : (h : Hall) (v : ℕ) → Leaving h v (leaving h v)
leaving_every h v = rw (leaving_same h v) (listed h v).every

pub leaving_only : (h : Hall) (v i : ℕ) → Memᴰ i (leaving h v) → Leads h i v (leg h i).to (leg h i).cost
leaving_only h v i among =
    let (w, k, leads) = (listed h v).only i (rw (leaving_same h v) at among) in
    record { there = leads.there; from = leads.from; to = refl; cost = refl }

module _ (s : JobState) where
  back_same : (f g : ℕ → List ℕ) (o : Option ℕ) → ((w : ℕ) → f w ≡ g w) → back s f o ≡ before s.hall g o
  back_same f g None same = refl
  back_same f g (Some i) same = ap (λ r. r ++ i ∷ []) (same (leg s.hall i).from)

  followed_same : (m u v : ℕ) → followed s m u v ≡ reads s.hall (board s.hall.points s.table) m u v
  followed_same zero u v = refl
  followed_same (suc m) u v =
      back_same (followed s m u) (reads s.hall (board s.hall.points s.table) m u) (last_leg (pair_at s u v)) (followed_same m u)

  pub route_same : (u v : ℕ) → route s u v ≡ route_of s.hall (board s.hall.points s.table) u v
  route_same u v = followed_same s.hall.points u v
