-- Routes along last legs.
-- Assumes nothing.
use Rattle.std.proofs.Common.{◌≡◌, ℕ, ◌<◌, List, [], ◌∷◌, ◌++◌, Some, None, sym, refl, ◌∙◌}
use Rattle.walks.specs.Hall.{Hall, leg, Leads, Sized, Walk, stay, go}
use Rattle.walks.specs.Search.{State, Route, own, by}
use Rattle.walks.proofs.Places.{clash}

module _ (h : Hall) (join : ℕ → ℕ → ℕ) where
  -- a route is a walk
  pub walk : {s : State} {u v x : ℕ} {r : List ℕ} → Route h join s u v x r → Walk h join u v x r
  walk (own l e) = stay l
  walk (by p is leads e) = go (walk p) leads

  -- A route stays while what is settled stays, with its last legs, and the route's own last leg.
  pub stays : {s t : State} {u v x : ℕ} {r : List ℕ} →
      ((b y : ℕ) → s.settled u b ≡ Some y → (t.settled u b ≡ Some y) × (t.last u b ≡ s.last u b)) →
      t.last u v ≡ s.last u v → Route h join s u v x r → Route h join t u v x r
  stays keeps here (own l e) = own l (here ∙ e)
  stays keeps here (by {v = v} {x = x} p is leads e) =
      by (stays keeps (keeps v x is).1 p) (keeps v x is).0 leads (here ∙ e)

  -- a route goes between points of the hall
  pub inside : Sized h → {s : State} {u v x : ℕ} {r : List ℕ} → Route h join s u v x r → (u < h.points) × (v < h.points)
  inside sized (own l e) = (l, l)
  inside sized (by {v = v} {i = i} {w = w} {k = k} p is leads e) = ((inside sized p).0, sized.to i v w k leads)

  -- a route without a last leg is empty
  pub at_start : {s : State} {u v x : ℕ} {r : List ℕ} → Route h join s u v x r → s.last u v ≡ None →
      (u ≡ v) × (x ≡ 0) × (r ≡ [])
  at_start (own l e) none = (refl, refl, refl)
  at_start (by p is leads e) none = clash none e

  -- the route before the last leg, and what the last leg adds
  pub record Earlier (s : State) (u v x i : ℕ) (r : List ℕ) : Type 0 where
    pub value : ℕ
    pub cost : ℕ
    pub rest : List ℕ
    pub route : Route h join s u (leg h i).from value rest
    pub settled : s.settled u (leg h i).from ≡ Some value
    pub leads : Leads h i (leg h i).from v cost
    pub worth : x ≡ join value cost
    pub legs : r ≡ rest ++ i ∷ []

  pub earlier : {s : State} {u v x : ℕ} {r : List ℕ} (i : ℕ) → Route h join s u v x r → s.last u v ≡ Some i → Earlier s u v x i r
  earlier i (own l e) some = clash e some
  earlier {s} i (by {u} {v} {x} {i = j} {w} {k} {r} p is leads e) some =
      let same : j ≡ i = cc in
      let from : (leg h i).from ≡ v = rw same at leads.from in
      record {
        value = x;
        cost = k;
        rest = r;
        route = rw from p;
        settled = rw from is;
        leads = rw from (rw same at leads);
        worth = refl;
        legs = rw same;
      }

  pub one_route : {s : State} {u v x y : ℕ} {r q : List ℕ} → Route h join s u v x r → Route h join s u v y q → (x ≡ y) × (r ≡ q)
  one_route (own l e) q = let (start, nought, empty) = at_start q e in (sym nought, sym empty)
  one_route (by {i = i} p is leads e) q =
      let back = earlier i q e in
      let (value, rest) = one_route p (rw leads.from at back.route) in
      let cost = leads.cost in
      let cost' = back.leads.cost in
      let worth = back.worth in
      let legs = back.legs in
      ((cc), (cc))
