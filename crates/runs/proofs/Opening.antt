-- The opening makes an open job.
-- Assumes nothing.
use Rattle.std.proofs.Common.{◌≡◌, ℕ, zero, suc, ◌+◌, ◌*◌, ◌<◌, ◌≤◌, ◌⊎◌, [], get_or, replicate, Some, None, Option, sym, refl, ap, ◌∙◌, inl, inr, arith, length-set}
use mathlib.Core.List.Memᴰ
use native.Mathlib.Decide.{ℕ_discrete}
use lib.Arith.{digits_lt}
use lib.ListN.{length-replicate}
use Rattle.figures.specs.Limits.{value_limit}
use Rattle.queue.specs.Meaning.{Meaning, capacity}
use Rattle.walks.specs.Hall.{Sized, Lawful}
use Rattle.walks.specs.Search.{free, Opens}
use Rattle.walks.proofs.Places.{clash, same_pair}
use Rattle.walks.proofs.Drawing.{opened as front_opened}
use Rattle.walks.proofs.Tallies.{opening}
use Rattle.model.specs.declared.Pair.TheVariants.{Unseen, Waiting}
use Rattle.model.specs.State.{JobState, value_of, noted_key, last_leg, settled_in}
use Rattle.model.specs.Calls.{start_table, start_queue, opened}
use Rattle.runs.specs.Lists.{Rule, reach_in}
use Rattle.runs.proofs.Known.{known, board, known_at, known_set, known_apart, inside}
use Rattle.runs.proofs.Counts.{settled_same}
use Rattle.runs.proofs.Agrees.{Agrees, Alike, agrees_set}
use Rattle.runs.proofs.Kept.{Open}

all_same : {A : Type 0} (n i : ℕ) (a : A) → get_or (replicate n a) i a ≡ a
all_same zero i a = refl
all_same (suc n) zero a = refl
all_same (suc n) (suc i) a = all_same n i a

-- after the first c points: their own pairs wait at 0, and nothing else is known
pub record Starts (n c : ℕ) (m : Meaning) : Type 0 where
  pub agrees : Agrees n (start_table n c) (start_queue n c m)
  pub alike : Alike m (start_queue n c m)
  pub floor : (start_queue n c m).floor ≡ 0
  pub own : (u : ℕ) → u < c → known n (start_table n c) u u ≡ Waiting 0 None
  pub others : (u v : ℕ) → (known n (start_table n c) u v ≡ Unseen) ⊎ ((u < n) × (u ≡ v) × (known n (start_table n c) u v ≡ Waiting 0 None))

module _ (n : ℕ) (m : Meaning) (room : n * n ≤ capacity m) where
  pub starts : (c : ℕ) → c ≤ n → Starts n c m
  starts zero le = record {
    agrees = record {
      size = length-replicate (n * n) Unseen;
      room = rw (length-replicate {A = Option ℕ} (capacity m) None) room;
      keys = λ i. all_same (capacity m) i None ∙ ap noted_key (sym (all_same (n * n) i Unseen));
    };
    alike = record { capacity = length-replicate (capacity m) None; band = refl };
    floor = refl;
    own = λ u l. absurd (omega arith);
    others = λ u v. inl (elim (inside n (start_table n 0) u v) [
      | inl p ↦ known_at n (start_table n 0) u v p.0 p.1 ∙ all_same (n * n) (u * n + v) Unseen
      | inr none ↦ none
    ]);
  }
  starts (suc c) le = more (starts c (omega arith))
    where
      more : Starts n c m → Starts n (suc c) m
      more was =
          let l : c < n = omega arith in
          let here = known_set n (start_table n c) was.agrees.size c c l l (c * n + c) refl (Waiting 0 None) in
          let apart = known_apart n (start_table n c) was.agrees.size c c l l (c * n + c) refl (Waiting 0 None) in
          record {
            agrees = agrees_set n (start_table n c) (start_queue n c m) was.agrees (c * n + c) (digits_lt l l) (Waiting 0 None)
                (start_queue n (suc c) m) refl;
            alike = record {
              capacity = length-set (start_queue n c m).waits (c * n + c) (Some 0) ∙ was.alike.capacity;
              band = was.alike.band;
            };
            floor = was.floor;
            own = λ u less. elim (ℕ_discrete u c) [
              | yes e ↦ rw e here
              | no ne ↦ apart u u (λ p. ne p.0) ∙ was.own u (omega arith)
            ];
            others = λ u v. elim (same_pair u v c c) [
              | yes p ↦ inr (rw p.0 l, p.0 ∙ sym p.1, rw (p.0, p.1) here)
              | no far ↦ elim (was.others u v) [
                | inl none ↦ inl (apart u v far ∙ none)
                | inr q ↦ inr (q.0, q.1, apart u v far ∙ q.2)
              ]
            ];
          }

module _ (s : JobState) (m : Meaning) (j : Rule) (sized : Sized s.hall) (some : 0 < s.hall.points)
    (lawful : Lawful j.join j.reach) (range : s.hall.points * reach_in j s ≤ value_limit)
    (room : s.hall.points * s.hall.points ≤ capacity m) (wide : reach_in j s ≤ m.band) where
  whole : Starts s.hall.points s.hall.points m
  whole = starts s.hall.points m room s.hall.points (omega arith)

  event : Opens s.hall (board s.hall.points (start_table s.hall.points s.hall.points))
  event = record {
    settled = λ u v. elim (whole.others u v) [ inl none ↦ ap value_of none | inr p ↦ ap value_of p.2 ];
    last = λ u v. elim (whole.others u v) [ inl none ↦ ap last_leg none | inr p ↦ ap last_leg p.2 ];
    own = λ u l. ap noted_key (whole.own u l);
    others = λ u v k e. elim (whole.others u v) [
      | inl none ↦ clash (ap noted_key none) e
      | inr p ↦ (p.0, p.1)
    ];
  }

  none_settled : settled_in (start_table s.hall.points s.hall.points) ≡ 0
  none_settled =
      settled_same s.hall (start_table s.hall.points s.hall.points) whole.agrees.size
      ∙ elim (opening s.hall (board s.hall.points (start_table s.hall.points s.hall.points)) event).units [
        | inl e ↦ e
        | inr p ↦ omega (arith, p.1)
      ]

  pub open_job : Open 0 [] [] (opened s m (reach_in j s)) (start_queue s.hall.points s.hall.points m) j free
  open_job = record {
    sized = sized;
    some = some;
    lawful = lawful;
    agrees = whole.agrees;
    reach = refl;
    capacity = sym whole.alike.capacity;
    band = sym whole.alike.band;
    floor = whole.floor;
    range = range;
    wide = omega (arith, whole.alike.band);
    front = front_opened s.hall j.join (board s.hall.points (start_table s.hall.points s.hall.points)) event;
    tallied = opening s.hall (board s.hall.points (start_table s.hall.points s.hall.points)) event;
    settled = λ u v. (λ p. clash (event.settled u v) p.1, λ among. absurd (Memᴰ.not-nil among));
    once = none_settled;
    tried = refl;
  }
