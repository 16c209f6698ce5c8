-- The law holds of what is kept.
-- Assumes nothing.
use Rattle.std.proofs.Common.{◌≡◌, ℕ, ◌+◌, ◌*◌, ◌/◌, ◌%◌, ◌<◌, ◌≤◌, min, Bool, true, false, cond, eqb, ◌↔◌, List, get_or, Some, None, sym, refl, ap, ◌∙◌, inl, inr, arith}
use Rattle.std.proofs.lemmas.Bool.{and_parts, and_from, eqb-true, eq-eqb, cases_lt}
use Rattle.std.proofs.lemmas.List.{get_or_past}
use Rattle.queue.specs.Meaning.{Meaning, key_of}
use Rattle.walks.specs.Hall.{Walk}
use Rattle.walks.specs.Search.{Hand, free}
use Rattle.walks.specs.Laws.{Worth, Entrance, at_start, over as over_leg}
use Rattle.walks.specs.Units.{Counted, Linked, Idle, settled_count}
use Rattle.walks.proofs.Measures.{routes as read_routes}
use Rattle.walks.proofs.Reaching.{least, nearest, finished}
use Rattle.walks.proofs.Waiting.{entries}
use Rattle.walks.proofs.Links.{counted}
use Rattle.walks.proofs.Tallies.{settle, idle_is_done}
use Rattle.model.specs.declared.Pair.{Pair}
use Rattle.model.specs.declared.Pair.TheVariants.{Unseen, Waiting, Settled}
use Rattle.model.specs.declared.Answer.TheVariants.{NoWay, NotYet}
use Rattle.model.specs.State.{JobState, is_open, is_resting, is_finished, item, pair_at, value_of, noted_key, waiting_in, route}
use Rattle.model.specs.Calls.{seen}
use Rattle.runs.specs.Lists.{Rule, Ends, Call, granted, settled_by, spread_by}
use Rattle.runs.specs.Law.{WalksOf, ValueOf, EntryKey, own, over, WhatWaits, Told, Law}
use Rattle.runs.proofs.Known.{known_at, known_item, inside}
use Rattle.runs.proofs.Counts.{settled_same, none_waits, all_none}
use Rattle.runs.proofs.Agrees.{below, key_known, unsettled}
use Rattle.runs.proofs.Halls.{route_same}
use Rattle.runs.proofs.Kept.{Open, Kept, search_of}
use Rattle.runs.proofs.Phases.{when_open, when_resting}
use Rattle.runs.proofs.Fitness.{fit}

-- the keys by which a pair may wait are those of the search
module _ (s : JobState) (j : Rule) (u w : ℕ) where
  enter : {y : ℕ} → EntryKey s j u w y → Entrance s.hall j.join (search_of s) u w y
  enter (own l e) = at_start l e
  enter (over at leads) = over_leg at leads

  leave : {y : ℕ} → Entrance s.hall j.join (search_of s) u w y → EntryKey s j u w y
  leave (at_start l e) = own l e
  leave (over_leg at leads) = over at leads

-- at rest
module _ (g : ℕ) (ds ts : List Ends) (s : JobState) (m : Meaning) (j : Rule) (was : Open g ds ts s m j free) where
  what_waits : WhatWaits s m j
  what_waits =
      let exact = entries s.hall j.join (search_of s) s.floor was.front in
      let key : (u w : ℕ) → u < s.hall.points → w < s.hall.points → key_of m (item s u w) ≡ noted_key (pair_at s u w) =
      key_known s.hall.points s.table m was.agrees in
      record {
        waits = λ u w l lu lw new. (
          λ e.
              let (none, (at, low)) = (exact.keys u w l).0 (sym (key u w lu lw) ∙ e) in
              (leave s j u w at, λ y p. low y (enter s j u w p)),
          λ p. key u w lu lw ∙ (exact.keys u w l).1 (new, (enter s j u w p.0, λ y q. p.1 y (leave s j u w q))),
        );
        enters = λ u w y lu lw new p.
            let (l, e, le) = exact.enters u w y new (enter s j u w p) in
            (l, key u w lu lw ∙ e);
        only = λ i k e.
            let l = below s.hall.points s.table m was.agrees i k e in (
              l,
              ap value_of (known_item s.hall.points s.table i l)
                  ∙ unsettled (get_or s.table i Unseen) k (sym (was.agrees.keys i) ∙ e),
            );
      }

  over_all : waiting_in s.table ≡ 0 → Idle (search_of s)
  over_all none u v = elim (inside s.hall.points s.table u v) [
    | inl p ↦
        ap noted_key (known_at s.hall.points s.table u v p.0 p.1)
        ∙ none_waits s.table none (u * s.hall.points + v)
    | inr unseen ↦ ap noted_key unseen
  ]

  -- nothing waits in the search exactly if nothing does in the table
  all_over : Idle (search_of s) → waiting_in s.table ≡ 0
  all_over idle = all_none s.table (λ i. elim (cases_lt i (s.hall.points * s.hall.points)) [
    | inl l ↦ ap noted_key (sym (known_item s.hall.points s.table i l)) ∙ idle (i / s.hall.points) (i % s.hall.points)
    | inr g ↦ ap noted_key (get_or_past s.table i Unseen (rw was.agrees.size g))
  ])

  module _ (w : ℕ) (count : Counted (Linked s.hall j.join) (s.hall.points * s.hall.points) w) where
    reached : Idle (search_of s) ↔ (settled_count s.hall (search_of s) ≡ w)
    reached = idle_is_done s.hall j.join j.reach was.lawful was.sized (search_of s) s.floor w was.front count

    units : settled_count s.hall (search_of s) ≡ min g w
    units =
        settle s.hall j.join j.reach was.lawful was.sized (search_of s) s.floor g s.tried w free was.front
        was.tallied count

    finishes : is_resting s.phase ≡ true → (is_finished s ≡ true) ↔ (w ≤ g)
    finishes resting = (
      λ e.
          let none = eqb-true (waiting_in s.table) 0 (and_parts (is_resting s.phase) (eqb (waiting_in s.table) 0) e).1 in
          let all = reached.0 (over_all none) in
          omega (arith, units),
      λ le.
          let all : settled_count s.hall (search_of s) ≡ w = omega (arith, units) in
          and_from (is_resting s.phase) (eqb (waiting_in s.table) 0) resting
          (eq-eqb (waiting_in s.table) 0 (all_over (reached.1 all))),
    )

-- no unsettled pair has a walk of a value below the floor
above_floor : (g : ℕ) (ds ts : List Ends) (s : JobState) (m : Meaning) (j : Rule) (hand : Hand) → Open g ds ts s m j hand →
    (u v y : ℕ) → value_of (pair_at s u v) ≡ None → Worth s.hall j.join u v y → s.floor ≤ y
above_floor g ds ts s m j hand was u v y new p = elim was.front.drawn [
  | inl start ↦ omega arith
  | inr at ↦
      nearest s.hall j.join j.reach was.lawful was.sized (search_of s) s.floor hand was.front
      at.0 at.1 s.floor at.2 u v y new p
]

-- what a look-up tells, from what is settled and what is not
module _ (s : JobState) (j : Rule) (u v : ℕ)
    (settled : (x : ℕ) → value_of (pair_at s u v) ≡ Some x → ValueOf s.hall j u v x)
    (finished : is_finished s ≡ true → value_of (pair_at s u v) ≡ None → (y : ℕ) → WalksOf s.hall j u v y → ⊥)
    (floor : value_of (pair_at s u v) ≡ None → (y : ℕ) → WalksOf s.hall j u v y → s.floor ≤ y) where
  unsettled_told : (b : Bool) → is_finished s ≡ b → value_of (pair_at s u v) ≡ None → Told s j u v (cond b NoWay (NotYet s.floor))
  unsettled_told true e new = finished e new
  unsettled_told false e new = floor new

  tells : (p : Pair) → pair_at s u v ≡ p → Told s j u v (seen s p)
  tells Unseen e = unsettled_told (is_finished s) refl (ap value_of e)
  tells (Waiting k l) e = unsettled_told (is_finished s) refl (ap value_of e)
  tells (Settled x l) e = settled x (ap value_of e)

pub law : (cs : List Call) (s : JobState) (m : Meaning) (j : Rule) → Kept cs s m j → is_open s.phase ≡ true → Law cs s m j
law cs s m j kept open_phase =
    let (hand, was) = when_open (granted cs) (settled_by cs) (spread_by cs) s m j s.phase open_phase kept in
    let rest : is_resting s.phase ≡ true → Open (granted cs) (settled_by cs) (spread_by cs) s m j free = λ e.
    (when_resting (granted cs) (settled_by cs) (spread_by cs) s m j s.phase e kept).1 in
    let (c, all, one) = counted s.hall j.join was.sized in
    let settled : (u v x : ℕ) → value_of (pair_at s u v) ≡ Some x →
    Walk s.hall j.join u v x (route s u v) × ((y : ℕ) → WalksOf s.hall j u v y → x ≤ y) = λ u v x e. (
      rw (route_same s u v) (read_routes s.hall j.join (search_of s) s.floor hand was.front u v x e).walk,
      (least s.hall j.join j.reach was.lawful was.sized (search_of s) s.floor hand was.front u v x e).1,
    ) in
    let floor = above_floor (granted cs) (settled_by cs) (spread_by cs) s m j hand was in
    let ends : is_finished s ≡ true → (u v : ℕ) →
    ((x : ℕ) → (value_of (pair_at s u v) ≡ Some x) ↔ ValueOf s.hall j u v x) ×
    ((value_of (pair_at s u v) ≡ None) ↔ ((y : ℕ) → WalksOf s.hall j u v y → ⊥)) = λ e.
    let (resting, none) = and_parts (is_resting s.phase) (eqb (waiting_in s.table) 0) e in
    let at = rest resting in
    finished s.hall j.join j.reach at.lawful at.sized (search_of s) s.floor at.front
    (over_all (granted cs) (settled_by cs) (spread_by cs) s m j at (eqb-true (waiting_in s.table) 0 none)) in
    record {
      routes = settled;
      short = λ u v x e.
          rw (route_same s u v) (read_routes s.hall j.join (search_of s) s.floor hand was.front u v x e).short;
      nearest = λ a b x u v y e new p.
          nearest s.hall j.join j.reach was.lawful was.sized (search_of s) s.floor hand was.front a b x e u v y new p;
      floor = floor;
      settled = was.settled;
      once = was.once;
      counted = (
        c,
        all,
        settled_same s.hall s.table was.agrees.size
            ∙ settle s.hall j.join j.reach was.lawful was.sized (search_of s) s.floor (granted cs) s.tried c hand
            was.front was.tallied all,
      );
      tried = was.tried;
      waiting = λ e. what_waits (granted cs) (settled_by cs) (spread_by cs) s m j (rest e);
      fit = fit (granted cs) (settled_by cs) (spread_by cs) s m j hand was;
      finished = λ e u v lu lv. ends e u v;
      done = λ e w count. finishes (granted cs) (settled_by cs) (spread_by cs) s m j (rest e) w count e;
      told = λ u v lu lv. tells s j u v (λ x e. let (walk, low) = settled u v x e in ((route s u v, walk), low))
          (λ e. (ends e u v).1.0) (λ new y. floor u v y new) (pair_at s u v) refl;
    }
