-- A spreading keeps an open job's invariant, and so does work.
-- Assumes nothing.
use Rattle.std.proofs.Common.{◌≡◌, ℕ, suc, ◌*◌, ◌/◌, ◌%◌, List, ◌∷◌, Some, sym, refl, ◌∙◌, arith}
use Rattle.queue.specs.declared.Entry.{Entry}
use Rattle.queue.specs.Meaning.{Meaning, taken, Least}
use Rattle.walks.specs.Hall.{Hall}
use Rattle.walks.specs.Search.{State, free, holds}
use Rattle.walks.specs.Units.{Spreads, done, tried, settled_item}
use Rattle.walks.proofs.Places.{weighed_same}
use Rattle.walks.proofs.Tallies.{spreading}
use Rattle.model.specs.State.{JobState, pair_at, value_of, settled_in, leaving}
use Rattle.model.specs.Calls.{spread, spread_desk, drawn, from_of, to_of, after_unit, queue_after}
use Rattle.runs.specs.Lists.{Rule, Ends, ends_of}
use Rattle.runs.proofs.Counts.{settled_same}
use Rattle.runs.proofs.Halls.{leaving_only}
use Rattle.runs.proofs.Spreading.{Spread, spread as spread_legs}
use Rattle.runs.proofs.Kept.{Open, search_of}
use Rattle.runs.proofs.Drawing.{draw}

-- a spreading settles nothing
settles_none : {h : Hall} {join : ℕ → ℕ → ℕ} {u v x : ℕ} {s z : State} {is : List ℕ} → Spreads h join u v x s is z →
    (a b : ℕ) → z.settled a b ≡ s.settled a b
settles_none done a b = refl
settles_none (tried leads offer rest) a b = settles_none rest a b ∙ offer.settled_same a b

module _ (g : ℕ) (ds ts : List Ends) (s : JobState) (m : Meaning) (j : Rule) (u v : ℕ)
    (was : Open g ds ts s m j (holds u v (leaving s.hall v))) where
  legs : Spread s.hall j.join u v s.floor (leaving s.hall v) (record { table = s.table; queue = m }) (spread_desk j.join s u v m)
  legs = spread_legs s.hall j.join j.reach was.lawful was.sized was.range u v s.floor (leaving s.hall v)
      (record { table = s.table; queue = m }) was.agrees was.floor was.wide was.front (leaving_only s.hall v)

  same : (a b : ℕ) → value_of (pair_at (spread j.join s u v m) a b) ≡ value_of (pair_at s a b)
  same = settles_none legs.spreads

  as_many : settled_in (spread j.join s u v m).table ≡ settled_in s.table
  as_many =
      settled_same s.hall (spread j.join s u v m).table legs.agrees.size
      ∙ weighed_same (λ i. 1) (settled_item s.hall (search_of s)) (settled_item s.hall (search_of (spread j.join s u v m)))
      (s.hall.points * s.hall.points) (λ i l. same (i / s.hall.points) (i % s.hall.points))
      ∙ sym (settled_same s.hall s.table was.agrees.size)

  pub spread_out : Open g ds (record { from = u; to = v } ∷ ts) (spread j.join s u v m) (spread_desk j.join s u v m).queue j free
  spread_out =
      let (front, tallied) = spreading s.hall j.join j.reach was.lawful was.sized u v s.floor g legs.spreads
      s.tried was.front was.tallied in
      record {
        sized = was.sized;
        some = was.some;
        lawful = was.lawful;
        agrees = legs.agrees;
        reach = was.reach;
        capacity = was.capacity ∙ sym legs.alike.capacity;
        band = was.band ∙ sym legs.alike.band;
        floor = legs.floor ∙ was.floor;
        range = was.range;
        wide = omega (arith, was.wide, legs.alike.band);
        front = front;
        tallied = tallied;
        settled = λ a b. (
          λ p. (was.settled a b).0 (p.0, sym (same a b) ∙ p.1),
          λ among. let (x, f) = (was.settled a b).1 among in (x, same a b ∙ f),
        );
        once = as_many ∙ was.once;
        tried = omega (arith, was.tried);
      }

-- a unit: a drawing and its spreading
pub one_unit : (g : ℕ) (ds ts : List Ends) (s : JobState) (m : Meaning) (j : Rule) → Open g ds ts s m j free → (e : Entry) →
    Least m (Some e) → Open (suc g) (ends_of s e ∷ ds) (ends_of s e ∷ ts) (after_unit j.join s m e) (queue_after j.join s m e) j free
one_unit g ds ts s m j was e (key, low) =
    spread_out (suc g) (ends_of s e ∷ ds) ts (drawn s e) (taken m e.item e.key) j (from_of s e) (to_of s e)
    (draw g ds ts s m j was e key low)
