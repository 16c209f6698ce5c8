-- Every list of calls keeps what is kept.
-- Assumes nothing.
use Rattle.std.proofs.Common.{◌≡◌, ℕ, ◌+◌, ◌*◌, not, ◌&&◌, ltb, leb, List, ◌∷◌, ◌++◌, map, length, is_some, Some, None, Option, sym, refl, subst, arith}
use Rattle.std.proofs.lemmas.Bool.{and_parts, leb-true, ltb-true, ltb-false}
use Rattle.figures.specs.Limits.{value_limit, cost_limit}
use Rattle.queue.specs.declared.Entry.{Entry}
use Rattle.queue.specs.Meaning.{Meaning, capacity, Least}
use Rattle.walks.specs.Hall.{Lawful}
use Rattle.walks.specs.Search.{free}
use Rattle.model.specs.declared.Phase.TheVariants.{Resting}
use Rattle.model.specs.declared.Refusal.{Refusal}
use Rattle.model.specs.declared.Refusal.TheVariants.{Points, Bound, LegPoint, LegCost, LegsFull, Capacity, Band, Range, WrongPhase, Unfit, NothingWaits, Budget}
use Rattle.model.specs.Refusals.{due}
use Rattle.model.specs.State.{JobState, is_laying, is_resting, is_drawn, is_point}
use Rattle.model.specs.Calls.{between, point_limit, leg_limit, budget_limit, make_due, made, lay_due, laid, open_due, opened, start_queue, fits, draw_due, DrawsEntry, spread_due, spread, spread_desk, abandon_due, reopen_due, emptied, work_due, Worked}
use Rattle.runs.specs.Lists.{Rule, ends_of, Call, makes, lays, opens, draws, spreads, works, empties, granted, settled_by, spread_by, reach_in, Run}
use Rattle.runs.specs.Lists.{start, free as unbound, making, laying, opening, drawing, spreading, working, abandoning, reopening, blanking, asking}
use Rattle.runs.proofs.Kept.{Open, KeptIn, Kept}
use Rattle.runs.proofs.Answered.{not_due, holds_true}
use Rattle.runs.proofs.Phases.{when_laying, when_resting, when_drawn, when_closed}
use Rattle.runs.proofs.Halls.{bare, one_more}
use Rattle.runs.proofs.Opening.{open_job}
use Rattle.runs.proofs.Drawing.{draw}
use Rattle.runs.proofs.Units.{spread_out}
use Rattle.runs.proofs.Work.{work}

make : (cs : List Call) (m : Meaning) (j : Rule) (n c : ℕ) → make_due n c ≡ None → Kept (makes ∷ cs) (made n c) m j
make cs m j n c ok =
    let (points, rest) = holds_true (between 1 n point_limit) Points (due (not (between 1 c cost_limit)) Bound None) ok in
    let (bound, none) = holds_true (between 1 c cost_limit) Bound None rest in (
      bare n c (leb-true c cost_limit (and_parts (leb 1 c) (leb c cost_limit) bound).1),
      leb-true 1 n (and_parts (leb 1 n) (leb n point_limit) points).0,
    )

module _ (cs : List Call) (s : JobState) (m : Meaning) (j : Rule) (was : Kept cs s m j) where
  lay : (f g k : ℕ) → lay_due s f g k ≡ None → Kept (lays ∷ cs) (laid s f g k) m j
  lay f g k ok =
      let full : Option Refusal = due (leb leg_limit (length s.hall.legs)) LegsFull None in
      let dear : Option Refusal = due (ltb s.hall.bound k) LegCost full in
      let (phase, rest) = holds_true (is_laying s.phase) WrongPhase (due (not (is_point s f && is_point s g)) LegPoint dear) ok in
      let (points, cost) = holds_true (is_point s f && is_point s g) LegPoint dear rest in
      let (low, space) = not_due (ltb s.hall.bound k) LegCost full cost in
      let (sized, some) = when_laying (granted cs) (settled_by cs) (spread_by cs) s m j s.phase phase was in
      let (from, to) = and_parts (is_point s f) (is_point s g) points in (
        one_more s.hall sized (record { from = f; to = g; cost = k }) (ltb-true f s.hall.points from)
            (ltb-true g s.hall.points to) (ltb-false s.hall.bound k low),
        some,
      )

  begin : Lawful j.join j.reach → open_due s m (reach_in j s) ≡ None →
      Kept (opens ∷ cs) (opened s m (reach_in j s)) (start_queue s.hall.points s.hall.points m) j
  begin lawful ok =
      let narrow : Option Refusal = due (ltb m.band (reach_in j s)) Band None in
      let small : Option Refusal = due (ltb (capacity m) (s.hall.points * s.hall.points)) Capacity narrow in
      let (phase, rest) = holds_true (is_laying s.phase) WrongPhase (due (ltb value_limit (s.hall.points * reach_in j s)) Range small) ok in
      let (range, later) = not_due (ltb value_limit (s.hall.points * reach_in j s)) Range small rest in
      let (room, last) = not_due (ltb (capacity m) (s.hall.points * s.hall.points)) Capacity narrow later in
      let (wide, none) = not_due (ltb m.band (reach_in j s)) Band None last in
      let (sized, some) = when_laying (granted cs) (settled_by cs) (spread_by cs) s m j s.phase phase was in
      open_job s m j sized some lawful (ltb-false value_limit (s.hall.points * reach_in j s) range)
      (ltb-false (capacity m) (s.hall.points * s.hall.points) room) (ltb-false m.band (reach_in j s) wide)

  resting : (later : Option Refusal) → due (not (is_resting s.phase)) WrongPhase later ≡ None →
      (s.phase ≡ Resting) × Open (granted cs) (settled_by cs) (spread_by cs) s m j free
  resting later ok =
      when_resting (granted cs) (settled_by cs) (spread_by cs) s m j s.phase
      (holds_true (is_resting s.phase) WrongPhase later ok).0 was

  drew : (t : JobState) (o : Meaning) (e : Option Entry) (u v : ℕ) → Least m e → draw_due s m e ≡ None → DrawsEntry s m e u v t o →
      Kept (draws (record { from = u; to = v }) ∷ cs) t o j
  drew t o None u v least ok never = absurd never
  drew t o (Some e) u v (key, low) ok (pu, pv, pt, po) =
      let (phase, at) = resting
      (due (not (fits s m (Some e) s.opening.reach)) Unfit (due (not (is_some (Some e))) NothingWaits None)) ok in
      rw (pu, pv, pt, po) (draw (granted cs) (settled_by cs) (spread_by cs) s m j at e key low)

  spread_one : (e : Option Entry) (u v : ℕ) → spread_due s u v m e (reach_in j s) ≡ None →
      Kept (spreads (record { from = u; to = v }) ∷ cs) (spread j.join s u v m) (spread_desk j.join s u v m).queue j
  spread_one e u v ok =
      let (phase, rest) = holds_true (is_drawn s.phase u v) WrongPhase (due (not (fits s m e (reach_in j s))) Unfit None) ok in
      spread_out (granted cs) (settled_by cs) (spread_by cs) s m j u v
      (when_drawn (granted cs) (settled_by cs) (spread_by cs) s m j s.phase u v phase was)

  worked : (t : JobState) (o : Meaning) (e : Option Entry) (b : ℕ) (es : List Entry) → work_due s m e (reach_in j s) b ≡ None →
      Worked j.join (reach_in j s) b s m es t o → Kept (works b (map (ends_of s) es) ∷ cs) t o j
  worked t o e b es ok done =
      let (phase, at) = resting (due (ltb budget_limit b) Budget (due (not (fits s m e (reach_in j s))) Unfit None)) ok in
      let (rest, after) = work j (reach_in j s) done (granted cs) (settled_by cs) (spread_by cs) refl phase at in
      subst (λ p. KeptIn p (b + granted cs) (map (ends_of s) es ++ settled_by cs) (map (ends_of s) es ++ spread_by cs) t o j) (sym rest) after

  abandon : (u v : ℕ) → abandon_due s u v ≡ None → Kept (empties ∷ cs) (emptied s) m j
  abandon u v ok =
      let at = when_drawn (granted cs) (settled_by cs) (spread_by cs) s m j s.phase u v
      (holds_true (is_drawn s.phase u v) WrongPhase None ok).0 was in
      (at.sized, at.some)

  reopen : reopen_due s ≡ None → Kept (empties ∷ cs) (emptied s) m j
  reopen ok = let (phase, at) = resting None ok in (at.sized, at.some)

pub kept : {cs : List Call} {s : JobState} {m : Meaning} {j : Rule} → Run cs s m j → Kept cs s m j
kept (start m j) = bare 0 0 (omega arith)
kept (unbound {cs} {s} {m} {j} run shut o k) = when_closed (granted cs) (settled_by cs) (spread_by cs) s m j s.phase shut o k (kept run)
kept (making {cs} {s} {m} {j} n c run ok) = make cs m j n c ok
kept (laying {cs} {s} {m} {j} f g k run ok) = lay cs s m j (kept run) f g k ok
kept (opening {cs} {s} {m} {j} run lawful ok) = begin cs s m j (kept run) lawful ok
kept (drawing {cs} {s} {t} {m} {o} {j} e u v run least ok entry) = drew cs s m j (kept run) t o e u v least ok entry
kept (spreading {cs} {s} {m} {j} e u v run least ok) = spread_one cs s m j (kept run) e u v ok
kept (working {cs} {s} {t} {m} {o} {j} e b es run least ok done) = worked cs s m j (kept run) t o e b es ok done
kept (abandoning {cs} {s} {m} {j} u v run ok) = abandon cs s m j (kept run) u v ok
kept (reopening {cs} {s} {m} {j} run ok) = reopen cs s m j (kept run) ok
kept (blanking run) = bare 0 0 (omega arith)
kept (asking run) = kept run
