-- What is kept, read off the phase that a call found.
-- Assumes nothing.
use Rattle.std.proofs.Common.{◌≡◌, ℕ, ◌<◌, true, false, eqb, List, refl}
use Rattle.std.proofs.lemmas.Bool.{both_ways, and_parts, eqb-true}
use Rattle.queue.specs.Meaning.{Meaning}
use Rattle.walks.specs.Hall.{Sized}
use Rattle.walks.specs.Search.{Hand, free, holds}
use Rattle.model.specs.declared.Phase.{Phase}
use Rattle.model.specs.declared.Phase.TheVariants.{Blank, Laying, Resting, Drawn}
use Rattle.model.specs.State.{JobState, is_laying, is_resting, is_open, is_drawn, leaving}
use Rattle.runs.specs.Lists.{Rule, Ends}
use Rattle.runs.proofs.Kept.{Open, KeptIn}

module _ (g : ℕ) (ds ts : List Ends) (s : JobState) (m : Meaning) (j : Rule) where
  pub when_laying : (p : Phase) → is_laying p ≡ true → KeptIn p g ds ts s m j → Sized s.hall × (0 < s.hall.points)
  when_laying Blank e k = absurd (both_ways false refl e)
  when_laying Laying e k = k
  when_laying Resting e k = absurd (both_ways false refl e)
  when_laying (Drawn u v) e k = absurd (both_ways false refl e)

  pub when_resting : (p : Phase) → is_resting p ≡ true → KeptIn p g ds ts s m j → (p ≡ Resting) × Open g ds ts s m j free
  when_resting Blank e k = absurd (both_ways false refl e)
  when_resting Laying e k = absurd (both_ways false refl e)
  when_resting Resting e k = (refl, k)
  when_resting (Drawn u v) e k = absurd (both_ways false refl e)

  pub when_drawn : (p : Phase) (u v : ℕ) → is_drawn p u v ≡ true → KeptIn p g ds ts s m j →
      Open g ds ts s m j (holds u v (leaving s.hall v))
  when_drawn Blank u v e k = absurd (both_ways false refl e)
  when_drawn Laying u v e k = absurd (both_ways false refl e)
  when_drawn Resting u v e k = absurd (both_ways false refl e)
  when_drawn (Drawn a b) u v e k =
      let (pa, pb) = and_parts (eqb a u) (eqb b v) e in
      let from : a ≡ u = eqb-true a u pa in
      let to : b ≡ v = eqb-true b v pb in
      rw (from, to) at k

  pub when_open : (p : Phase) → is_open p ≡ true → KeptIn p g ds ts s m j → (hand : Hand) × Open g ds ts s m j hand
  when_open Blank e k = absurd (both_ways false refl e)
  when_open Laying e k = absurd (both_ways false refl e)
  when_open Resting e k = (free, k)
  when_open (Drawn u v) e k = (holds u v (leaving s.hall v), k)

  -- what is kept of a job that is not open is free of queues and rules
  pub when_closed : (p : Phase) → is_open p ≡ false → (o : Meaning) (l : Rule) → KeptIn p g ds ts s m j → KeptIn p g ds ts s o l
  when_closed Blank e o l k = k
  when_closed Laying e o l k = k
  when_closed Resting e o l k = absurd (both_ways true e refl)
  when_closed (Drawn u v) e o l k = absurd (both_ways true e refl)
