-- Bounds of values, keys and routes.
-- Assumes nothing.
use Rattle.std.proofs.Common.{◌≡◌, ℕ, zero, suc, ◌+◌, ◌*◌, ◌<◌, ◌≤◌, List, length, Some, refl, inl, inr, mul-le-mul_right, suc-mul, one-mul, arith, length-append}
use Rattle.walks.specs.Hall.{Hall, Leads, Sized, Lawful}
use Rattle.walks.specs.Search.{State, Hand, Route, own, by, settled_from, Front}
use Rattle.walks.specs.Laws.{Bounds, followed, route_of, Read}
use Rattle.walks.proofs.Places.{held_le}
use Rattle.walks.proofs.Routes.{walk}

module _ (h : Hall) (join : ℕ → ℕ → ℕ) (reach : ℕ → ℕ) (lawful : Lawful join reach) (sized : Sized h) where
  adds : {i v w k : ℕ} (x : ℕ) → Leads h i v w k → join x k ≤ x + reach h.bound
  adds {i} {v} {w} {k} x leads = lawful.within x k h.bound (sized.cost i v w k leads) sized.bound

  -- a walk along last legs is worth at most the reach for each leg
  worth : {s : State} {u v x : ℕ} {r : List ℕ} → Route h join s u v x r → x ≤ length r * reach h.bound
  worth (own l e) = omega arith
  worth (by {x = x} {r = r} p is leads e) =
      simp (length-append) (omega (arith, adds x leads, worth p, suc-mul (length r) (reach h.bound)))

  module _ (s : State) (floor : ℕ) (hand : Hand) (front : Front h join s floor hand) where
    in_band : {u v x : ℕ} {r : List ℕ} → Route h join s u v x r → x ≤ floor + reach h.bound
    in_band (own l e) = omega arith
    in_band (by {u} {v} {x} p is leads e) = omega (arith, adds x leads, front.below u v x is)

    settled : (u v x : ℕ) → s.settled u v ≡ Some x → x + reach h.bound ≤ settled_from h s u * reach h.bound
    settled u v x e =
        let (r, route, short) = front.settled_by u v x e in
        omega (arith, worth route, suc-mul (length r) (reach h.bound), mul-le-mul_right (reach h.bound) short)

    most : (u : ℕ) → settled_from h s u * reach h.bound ≤ h.points * reach h.bound
    most u = mul-le-mul_right (reach h.bound) (held_le (s.settled u) h.points)

    low : 0 < h.points → floor + reach h.bound ≤ h.points * reach h.bound
    low some = elim front.drawn [
      | inl none ↦ omega (arith, none, one-mul (reach h.bound), mul-le-mul_right (reach h.bound) some)
      | inr p ↦ let (u, v, e) = p in omega (arith, settled u v floor e, most u)
    ]

    pub bounds : Bounds h join (reach h.bound) s floor
    bounds = record {
      band = λ u v k e. in_band (front.waits_by u v k e).1;
      settled = settled;
      waits = λ u v k e.
          let (r, route, short) = front.waits_by u v k e in
          omega (arith, worth route, mul-le-mul_right (reach h.bound) short);
      offers = λ u v x i w k e leads.
          (omega (arith, adds x leads, front.below u v x e), omega (arith, adds x leads, settled u v x e));
      most = most;
      low = low;
    }

module _ (h : Hall) (join : ℕ → ℕ → ℕ) (s : State) where
  -- last legs followed back, in steps enough, give the route
  pub read : {u v x : ℕ} {r : List ℕ} → Route h join s u v x r → (m : ℕ) → length r ≤ m → followed h s m u v ≡ r
  read (own l e) zero le = refl
  read (own l e) (suc m) le = rw e
  read (by {i = i} {r = r} p is leads e) zero le = absurd (omega (arith, simp length-append at le))
  read (by {u} {v} {i = i} {r = r} p is leads e) (suc m) le =
      let earlier : followed h s m u v ≡ r = read p m (omega (arith, simp length-append at le)) in
      rw (e, leads.from, earlier)

  pub routes : (floor : ℕ) (hand : Hand) → Front h join s floor hand →
      (u v x : ℕ) → s.settled u v ≡ Some x → Read h join s u v x (route_of h s u v)
  routes floor hand front u v x e =
      let (r, route, short) = front.settled_by u v x e in
      let few : length r < h.points = omega (arith, held_le (s.settled u) h.points) in
      let same : followed h s h.points u v ≡ r = read route h.points (omega arith) in
      rw same (record { route = route; walk = walk h join route; short = few })
