-- The queue and the rule of an open job always fit it.
-- Assumes nothing.
use Rattle.std.proofs.Common.{◌≡◌, ℕ, ◌+◌, true, List, get_or, Some, None, Option, sym, refl, ◌∙◌, arith}
use Rattle.std.proofs.lemmas.Bool.{eq-eqb, le-leb}
use Rattle.figures.specs.Limits.{value_limit}
use Rattle.queue.specs.declared.Entry.{Entry}
use Rattle.queue.specs.Meaning.{Meaning, capacity, waiting, Least}
use Rattle.walks.specs.Search.{Hand}
use Rattle.walks.proofs.Measures.{bounds}
use Rattle.model.specs.declared.Pair.TheVariants.{Unseen}
use Rattle.model.specs.State.{JobState, waiting_in, noted_key}
use Rattle.model.specs.Calls.{fits, noted}
use Rattle.runs.specs.Lists.{Rule, Ends, reach_in}
use Rattle.runs.proofs.Counts.{waiting_same}
use Rattle.runs.proofs.Kept.{Open, search_of}

module _ (g : ℕ) (ds ts : List Ends) (s : JobState) (m : Meaning) (j : Rule) (hand : Hand) (was : Open g ds ts s m j hand) where
  -- the named entry waits in the job too
  named : (e : Option Entry) → Least m e → noted s.table e ≡ true
  named None none = refl
  named (Some e) (key, low) =
      let here : noted_key (get_or s.table e.item Unseen) ≡ Some e.key = sym (was.agrees.keys e.item) ∙ key in
      rw here (eq-eqb e.key e.key refl)

  pub fit : (e : Option Entry) → Least m e → fits s m e (reach_in j s) ≡ true
  fit e least =
      let low = (bounds s.hall j.join j.reach was.lawful was.sized (search_of s) s.floor hand was.front).low was.some in
      rw (
        eq-eqb (reach_in j s) s.opening.reach (sym was.reach),
        eq-eqb (capacity m) s.opening.capacity (sym was.capacity),
        eq-eqb m.band s.opening.band (sym was.band),
        eq-eqb m.floor s.floor was.floor,
        eq-eqb (waiting m) (waiting_in s.table) (waiting_same m.waits s.table was.agrees.keys),
        named e least,
        le-leb (s.floor + reach_in j s) value_limit (omega (arith, was.range)),
      )
