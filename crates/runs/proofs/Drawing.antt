-- A drawing keeps an open job's invariant, and takes its pair in hand.
-- Assumes nothing.
use Rattle.std.proofs.Common.{◌≡◌, ℕ, suc, ◌+◌, ◌*◌, ◌/◌, ◌%◌, ◌<◌, ◌↔◌, List, ◌∷◌, length, get_or, set, Some, None, sym, refl, ap, ◌∙◌, inl, inr, arith, length-set}
use mathlib.Core.List.Memᴰ
use mathlib.Core.List.{Memᴰ}
use Rattle.queue.specs.declared.Entry.{Entry}
use Rattle.queue.specs.Meaning.{Meaning, key_of, taken, Lowest}
use Rattle.walks.specs.Search.{free, holds, Apart, Draws}
use Rattle.walks.specs.Units.{Tallied, legs_from, settled_count}
use Rattle.walks.proofs.Places.{clash, same_pair}
use Rattle.walks.proofs.Drawing.{drawn as front_drawn}
use Rattle.walks.proofs.Tallies.{drawing}
use Rattle.model.specs.declared.Pair.{Pair}
use Rattle.model.specs.declared.Pair.TheVariants.{Unseen}
use Rattle.model.specs.State.{JobState, pair_at, value_of, noted_key, last_leg, settled_in, leaving}
use Rattle.model.specs.Calls.{settle, from_of, to_of, drawn}
use Rattle.runs.specs.Lists.{Rule, Ends, ends_of}
use Rattle.runs.proofs.Known.{known, board, known_item, known_set, known_apart, inside, split}
use Rattle.runs.proofs.Counts.{settled_same}
use Rattle.runs.proofs.Agrees.{Agrees, below, key_known, agrees_set}
use Rattle.runs.proofs.Halls.{leaving_same, leaving_every}
use Rattle.runs.proofs.Kept.{Open, search_of}

module _ (n : ℕ) (ps : List Pair) (m : Meaning) (agrees : Agrees n ps m) (i k : ℕ)
    (key : key_of m i ≡ Some k) (low : Lowest m k) where
  pub item_below : i < n * n
  item_below = below n ps m agrees i k key

  pub from_to : (i / n < n) × (i % n < n) × (i / n * n + i % n ≡ i)
  from_to = split n ps i item_below

  abbrev pub after : List Pair
  after = set ps i (settle (get_or ps i Unseen) k)

  pub at_pair : known n after (i / n) (i % n) ≡ settle (get_or ps i Unseen) k
  at_pair =
      known_set n ps agrees.size (i / n) (i % n) from_to.0 from_to.1 i from_to.2 (settle (get_or ps i Unseen) k)

  pub elsewhere : (a b : ℕ) → Apart a b (i / n) (i % n) → known n after a b ≡ known n ps a b
  elsewhere =
      known_apart n ps agrees.size (i / n) (i % n) from_to.0 from_to.1 i from_to.2 (settle (get_or ps i Unseen) k)

  pub draws : Draws (board n ps) (i / n) (i % n) k (board n after)
  draws = record {
    waited = ap noted_key (known_item n ps i item_below) ∙ sym (agrees.keys i) ∙ key;
    lowest = λ a b l e. elim (inside n ps a b) [
      | inl p ↦ low (a * n + b) l (key_known n ps m agrees a b p.0 p.1 ∙ e)
      | inr none ↦ clash (ap noted_key none) e
    ];
    settled = ap value_of at_pair;
    gone = ap noted_key at_pair;
    settled_same = λ a b apart. ap value_of (elsewhere a b apart);
    waits_same = λ a b apart. ap noted_key (elsewhere a b apart);
    last_same = λ a b. elim (same_pair a b (i / n) (i % n)) [
      | yes p ↦ rw (p.0, p.1) (ap last_leg at_pair ∙ ap last_leg (sym (known_item n ps i item_below)))
      | no apart ↦ ap last_leg (elsewhere a b apart)
    ];
  }

module _ (g : ℕ) (ds ts : List Ends) (s : JobState) (m : Meaning) (j : Rule) (was : Open g ds ts s m j free) (e : Entry)
    (key : key_of m e.item ≡ Some e.key) (low : Lowest m e.key) where
  event : Draws (search_of s) (from_of s e) (to_of s e) e.key (search_of (drawn s e))
  event = draws s.hall.points s.table m was.agrees e.item e.key key low

  tally : (c : ℕ) → Tallied s.hall (search_of s) c s.tried free →
      Tallied s.hall (search_of (drawn s e)) (suc c) s.tried (holds (from_of s e) (to_of s e) (legs_from s.hall (to_of s e)))
  tally c =
      drawing s.hall j.join was.sized (search_of s) (search_of (drawn s e)) (from_of s e) (to_of s e) e.key s.floor c
      s.tried was.front event

  one_more : settled_in (drawn s e).table ≡ suc (settled_in s.table)
  one_more =
      let size : length (drawn s e).table ≡ s.hall.points * s.hall.points =
      length-set s.table e.item (settle (get_or s.table e.item Unseen) e.key) ∙ was.agrees.size in
      let before = settled_same s.hall s.table was.agrees.size in
      let now = settled_same s.hall (drawn s e).table size in
      let more = (tally (settled_count s.hall (search_of s)) (record { units = inl refl; tried = was.tallied.tried })).units in
      omega arith

  members : (a b : ℕ) →
      ((x : ℕ) × (value_of (pair_at (drawn s e) a b) ≡ Some x)) ↔ Memᴰ (record { from = a; to = b }) (ends_of s e ∷ ds)
  members a b = (forth, back)
    where
      forth : (x : ℕ) × (value_of (pair_at (drawn s e) a b) ≡ Some x) → Memᴰ (record { from = a; to = b }) (ends_of s e ∷ ds)
      forth (x, f) = elim (same_pair a b (from_of s e) (to_of s e)) [
        | yes p ↦ Memᴰ.head (rw (p.0, p.1))
        | no apart ↦ Memᴰ.tail ((was.settled a b).0 (x, sym (event.settled_same a b apart) ∙ f))
      ]

      back : Memᴰ (record { from = a; to = b }) (ends_of s e ∷ ds) → (x : ℕ) × (value_of (pair_at (drawn s e) a b) ≡ Some x)
      back among = elim (same_pair a b (from_of s e) (to_of s e)) [
        | yes p ↦ (e.key, rw (p.0, p.1) event.settled)
        | no apart ↦ elim (Memᴰ.cases_cons among) [
          | inl same ↦ absurd (apart (ap (λ q. q.from) same, ap (λ q. q.to) same))
          | inr rest ↦
              let (x, f) = (was.settled a b).1 rest in
              (x, event.settled_same a b apart ∙ f)
        ]
      ]

  pub draw : Open (suc g) (ends_of s e ∷ ds) ts (drawn s e) (taken m e.item e.key) j
      (holds (from_of s e) (to_of s e) (leaving s.hall (to_of s e)))
  draw = record {
    sized = was.sized;
    some = was.some;
    lawful = was.lawful;
    agrees = agrees_set s.hall.points s.table m was.agrees e.item
        (item_below s.hall.points s.table m was.agrees e.item e.key key low)
        (settle (get_or s.table e.item Unseen) e.key) (taken m e.item e.key) refl;
    reach = was.reach;
    capacity = was.capacity ∙ sym (length-set m.waits e.item None);
    band = was.band;
    floor = refl;
    range = was.range;
    wide = was.wide;
    front = front_drawn s.hall j.join was.sized (search_of s) (search_of (drawn s e)) (from_of s e) (to_of s e) e.key
        s.floor (leaving s.hall (to_of s e)) was.front event (leaving_every s.hall (to_of s e));
    tallied = rw (leaving_same s.hall (to_of s e)) (tally g was.tallied);
    settled = members;
    once = one_more ∙ ap suc was.once;
    tried = was.tried;
  }
