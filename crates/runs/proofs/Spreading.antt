-- A spreading tries the legs of a pair in hand one by one, and no offer of it is refused.
-- Assumes nothing.
use Rattle.std.proofs.Common.{◌≡◌, ℕ, ◌+◌, ◌*◌, ◌<◌, ◌≤◌, true, List, [], ◌∷◌, refl, ◌∙◌, arith}
use mathlib.Core.List.{Memᴰ}
use lib.Arith.{digits_lt}
use Rattle.std.proofs.lemmas.Bool.{lt-ltb, le-leb}
use Rattle.figures.specs.Limits.{value_limit}
use Rattle.queue.specs.Meaning.{capacity}
use Rattle.walks.specs.Hall.{Hall, leg, Leads, Sized, Lawful}
use Rattle.walks.specs.Search.{holds, Front}
use Rattle.walks.specs.Units.{Spreads, done, tried as then}
use Rattle.walks.proofs.Routes.{inside}
use Rattle.walks.proofs.Trying.{tries as keeps}
use Rattle.walks.proofs.Measures.{bounds}
use Rattle.model.specs.Calls.{Desk, offered, may_offer, tries}
use Rattle.runs.proofs.Known.{board}
use Rattle.runs.proofs.Agrees.{Agrees, Alike}
use Rattle.runs.proofs.Offers.{tried}

pub record Spread (h : Hall) (join : ℕ → ℕ → ℕ) (u v x : ℕ) (is : List ℕ) (d e : Desk) : Type 0 where
  pub agrees : Agrees h.points e.table e.queue
  pub alike : Alike d.queue e.queue
  pub floor : e.queue.floor ≡ d.queue.floor
  pub spreads : Spreads h join u v x (board h.points d.table) is (board h.points e.table)

module _ (h : Hall) (join : ℕ → ℕ → ℕ) (reach : ℕ → ℕ) (lawful : Lawful join reach) (sized : Sized h)
    (range : h.points * reach h.bound ≤ value_limit) (u v x : ℕ) where
  -- the next leg's item may be offered its key
  may : (d : Desk) (i : ℕ) (is : List ℕ) → Agrees h.points d.table d.queue → d.queue.floor ≡ x →
      reach h.bound ≤ d.queue.band → Front h join (board h.points d.table) x (holds u v (i ∷ is)) →
      Leads h i v (leg h i).to (leg h i).cost →
      (u < h.points) × (may_offer d.queue (u * h.points + (leg h i).to) (join x (leg h i).cost) ≡ true)
  may d i is agrees floor wide front leads =
      let lu = (inside h join sized (front.settled_by u v x front.inhand).1).0 in
      let k : ℕ = join x (leg h i).cost in
      let place = digits_lt lu (sized.to i v (leg h i).to (leg h i).cost leads) in
      let bounded = bounds h join reach lawful sized (board h.points d.table) x (holds u v (i ∷ is)) front in
      let (near, far) = bounded.offers u v x i (leg h i).to (leg h i).cost front.inhand leads in
      let most = bounded.most u in
      let up = lawful.rises x (leg h i).cost (omega (arith, sized.bound, sized.cost i v (leg h i).to (leg h i).cost leads)) in
      let room = agrees.room in (
        lu,
        rw (
          lt-ltb (u * h.points + (leg h i).to) (capacity d.queue) (omega arith),
          le-leb d.queue.floor (join x (leg h i).cost) (omega arith),
          le-leb (join x (leg h i).cost) (d.queue.floor + d.queue.band) (omega arith),
          le-leb (join x (leg h i).cost) value_limit (omega arith),
        ),
      )

  pub spread : (is : List ℕ) (d : Desk) → Agrees h.points d.table d.queue → d.queue.floor ≡ x →
      reach h.bound ≤ d.queue.band → Front h join (board h.points d.table) x (holds u v is) →
      ((i : ℕ) → Memᴰ i is → Leads h i v (leg h i).to (leg h i).cost) →
      Spread h join u v x is d (tries join h u x is d)
  spread [] d agrees floor wide front leads =
      record { agrees = agrees; alike = record { capacity = refl; band = refl }; floor = refl; spreads = done }
  spread (i ∷ is) d agrees floor wide front leads =
      let here = leads i (Memᴰ.head refl) in
      let (lu, free) = may d i is agrees floor wide front here in
      let k : ℕ = join x (leg h i).cost in
      let one = tried h.points d agrees u (leg h i).to (join x (leg h i).cost) i lu
      (sized.to i v (leg h i).to (leg h i).cost here) free in
      let e : Desk = offered d (u * h.points + (leg h i).to) (join x (leg h i).cost) i in
      let rest = spread is e one.agrees (one.floor ∙ floor) (omega (arith, one.alike.band))
      (keeps h join reach lawful sized (board h.points d.table) (board h.points e.table) u v x i (leg h i).to (leg h i).cost is
      front here one.offer)
      (λ j among. leads j (Memᴰ.tail among)) in
      record {
        agrees = rest.agrees;
        alike = record { capacity = rest.alike.capacity ∙ one.alike.capacity; band = rest.alike.band ∙ one.alike.band };
        floor = rest.floor ∙ one.floor;
        spreads = then here one.offer rest.spreads;
      }
