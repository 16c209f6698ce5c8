-- All routes of a pair that have a value and fewer legs than n, as a list that can be computed.
-- Assumes nothing.
use Rattle.std.proofs.Common.{◌≡◌, ℕ, zero, suc, ◌<◌, Bool, true, false, cond, ◌&&◌, eqb, List, [], ◌∷◌, ◌++◌, map, length, sym, refl, ap, ◌∙◌, subst, inl, inr, arith, length-append}
use mathlib.Core.List.{Memᴰ}
use native.Mathlib.Decide.{ℕ_discrete}
use Rattle.std.proofs.lemmas.Bool.{eq-eqb}
use Rattle.walks.specs.Hall.{Hall, leg, Walk, stay, go}
use Rattle.model.specs.State.{leaving}
use Rattle.runs.proofs.Halls.{leaving_every}

-- a walk: where it ends, its value and its route
record Way : Type 0 where
  end : ℕ
  value : ℕ
  route : List ℕ

module _ (h : Hall) (join : ℕ → ℕ → ℕ) where
  abbrev longer : Way → ℕ → Way
  longer w i = record { end = (leg h i).to; value = join w.value (leg h i).cost; route = w.route ++ i ∷ [] }

  abbrev onward : List Way → List Way
  onward [] = []
  onward (w ∷ ws) = map (longer w) (leaving h w.end) ++ onward ws

  -- those of n legs that leave u
  abbrev ways : ℕ → ℕ → List Way
  ways u zero = record { end = u; value = 0; route = [] } ∷ []
  ways u (suc n) = onward (ways u n)

  among_longer : (w : Way) (i : ℕ) (is : List ℕ) → Memᴰ i is → Memᴰ (longer w i) (map (longer w) is)
  among_longer w i [] among = elim among [ ]
  among_longer w i (k ∷ is) among = elim (mathlib.Core.List.Memᴰ.cases_cons among) [
    | inl e ↦ mathlib.Core.List.Memᴰ.head (ap (longer w) e)
    | inr rest ↦ mathlib.Core.List.Memᴰ.tail (among_longer w i is rest)
  ]

  among_onward : (w : Way) (i : ℕ) (ws : List Way) → Memᴰ w ws → Memᴰ i (leaving h w.end) →
      Memᴰ (longer w i) (onward ws)
  among_onward w i [] among leaves = elim among [ ]
  among_onward w i (x ∷ ws) among leaves = elim (mathlib.Core.List.Memᴰ.cases_cons among) [
    | inl e ↦
        mathlib.Core.List.Memᴰ.append_left (onward ws)
        (subst (λ y. Memᴰ (longer w i) (map (longer y) (leaving h y.end))) e (among_longer w i (leaving h w.end) leaves))
    | inr rest ↦ mathlib.Core.List.Memᴰ.append_right (map (longer x) (leaving h x.end)) (among_onward w i ws rest leaves)
  ]

  among_ways : {u v x : ℕ} {r : List ℕ} → Walk h join u v x r →
      Memᴰ (record { end = v; value = x; route = r }) (ways u (length r))
  among_ways (stay l) = mathlib.Core.List.Memᴰ.head refl
  among_ways (go {u} {v} {x} {i} {w} {k} {r} walk leads) =
      let before : Way = record { end = v; value = x; route = r } in
      let next : Memᴰ (longer before i) (ways u (suc (length r))) =
      among_onward before i (ways u (length r)) (among_ways walk) (leaving_every h v i w k leads) in
      let more : suc (length r) ≡ length (r ++ i ∷ []) = sym (length-append r (i ∷ []) ∙ omega arith) in
      let to : w ≡ (leg h i).to = sym leads.to in
      let cost : k ≡ (leg h i).cost = sym leads.cost in
      subst (λ n. Memᴰ (record { end = w; value = join x k; route = r ++ i ∷ [] }) (ways u n)) more
      (mathlib.Core.List.Memᴰ.cast (rw (to, cost)) next)

-- the routes of the walks that end at v with value x
abbrev routes_in : ℕ → ℕ → List Way → List (List ℕ)
routes_in v x [] = []
routes_in v x (w ∷ ws) = cond (eqb w.end v && eqb w.value x) (w.route ∷ routes_in v x ws) (routes_in v x ws)

among_routes : (w : Way) (ws : List Way) → Memᴰ w ws → Memᴰ w.route (routes_in w.end w.value ws)
among_routes w [] among = elim among [ ]
among_routes w (y ∷ ws) among = elim (mathlib.Core.List.Memᴰ.cases_cons among) [
  | inl e ↦ subst (λ z. Memᴰ w.route (routes_in w.end w.value (z ∷ ws))) e
      (rw (eq-eqb w.end w.end refl, eq-eqb w.value w.value refl) (mathlib.Core.List.Memᴰ.head refl))
  | inr rest ↦ later (eqb y.end w.end && eqb y.value w.value) (among_routes w ws rest)
]
  where
    later : (b : Bool) → Memᴰ w.route (routes_in w.end w.value ws) →
        Memᴰ w.route (cond b (y.route ∷ routes_in w.end w.value ws) (routes_in w.end w.value ws))
    later true rest = mathlib.Core.List.Memᴰ.tail rest
    later false rest = rest

abbrev pub routes : Hall → (ℕ → ℕ → ℕ) → ℕ → ℕ → ℕ → ℕ → List (List ℕ)
routes h join u v x zero = []
routes h join u v x (suc n) = routes_in v x (ways h join u n) ++ routes h join u v x n

listed : (h : Hall) (join : ℕ → ℕ → ℕ) {u v x : ℕ} {r : List ℕ} → Walk h join u v x r → (n : ℕ) → length r < n →
    Memᴰ r (routes h join u v x n)
listed h join walk zero l = absurd (omega arith)
listed h join {u} {v} {x} {r} walk (suc n) l = elim (ℕ_discrete (length r) n) [
  | yes same ↦
      mathlib.Core.List.Memᴰ.append_left (routes h join u v x n)
      (subst (λ k. Memᴰ r (routes_in v x (ways h join u k))) same
      (among_routes (record { end = v; value = x; route = r }) (ways h join u (length r)) (among_ways h join walk)))
  | no other ↦ mathlib.Core.List.Memᴰ.append_right (routes_in v x (ways h join u n)) (listed h join walk n (omega arith))
]

-- where the list has one route, that is the route of every such walk
pub one_route : (h : Hall) (join : ℕ → ℕ → ℕ) {u v x : ℕ} {r : List ℕ} (n : ℕ) (only : List ℕ) → Walk h join u v x r → length r < n →
    routes h join u v x n ≡ only ∷ [] → r ≡ only
one_route h join {u} {v} {x} {r} n only walk l e =
    mathlib.Core.List.Memᴰ.eq_of_singleton (subst (λ rs. Memᴰ r rs) e (listed h join walk n l))
