-- A table and the queue beside it agree: each place notes the key at which its item waits.
-- Assumes nothing.
use Rattle.std.proofs.Common.{◌≡◌, ℕ, ◌+◌, ◌*◌, ◌<◌, ◌≤◌, List, length, get_or, set, Some, None, sym, refl, ap, ◌∙◌, inl, inr, arith, length-set}
use native.Mathlib.Decide.{ℕ_discrete}
use Rattle.std.proofs.lemmas.List.{get_or-set_same, get_or-set_other, get_or_past}
use Rattle.std.proofs.lemmas.Bool.{cases_lt}
use Rattle.queue.specs.Meaning.{Meaning, capacity, key_of}
use Rattle.walks.proofs.Places.{clash}
use Rattle.model.specs.declared.Pair.{Pair}
use Rattle.model.specs.declared.Pair.TheVariants.{Unseen, Waiting, Settled}
use Rattle.model.specs.State.{value_of, noted_key}
use Rattle.runs.proofs.Known.{known, known_at}

pub record Agrees (n : ℕ) (ps : List Pair) (m : Meaning) : Type 0 where
  pub size : length ps ≡ n * n
  pub room : n * n ≤ capacity m
  pub keys : (i : ℕ) → key_of m i ≡ noted_key (get_or ps i Unseen)

-- what no offer and no taking changes
pub record Alike (m o : Meaning) : Type 0 where
  pub capacity : capacity o ≡ capacity m
  pub band : o.band ≡ m.band

-- what waits is not settled
pub unsettled : (p : Pair) (k : ℕ) → noted_key p ≡ Some k → value_of p ≡ None
unsettled Unseen k e = refl
unsettled (Waiting l x) k e = refl
unsettled (Settled y x) k e = clash refl e

module _ (n : ℕ) (ps : List Pair) (m : Meaning) (agrees : Agrees n ps m) where
  pub below : (i k : ℕ) → key_of m i ≡ Some k → i < n * n
  below i k e = elim (cases_lt i (n * n)) [
    | inl l ↦ l
    | inr g ↦
        let past : get_or ps i Unseen ≡ Unseen = get_or_past ps i Unseen (rw agrees.size g) in
        let none : noted_key (get_or ps i Unseen) ≡ None = ap noted_key past in
        clash none (sym (agrees.keys i) ∙ e)
  ]

  pub key_known : (u v : ℕ) → u < n → v < n → key_of m (u * n + v) ≡ noted_key (known n ps u v)
  key_known u v lu lv = agrees.keys (u * n + v) ∙ ap noted_key (sym (known_at n ps u v lu lv))

  -- one item is written in both
  pub agrees_set : (i : ℕ) → i < n * n → (p : Pair) (o : Meaning) → o.waits ≡ set m.waits i (noted_key p) →
      Agrees n (set ps i p) o
  agrees_set i l p o e = record {
    size = length-set ps i p ∙ agrees.size;
    room = rw e (simp length-set agrees.room);
    keys = λ j. rw e (at j (ℕ_discrete j i));
  }
    where
      at : (j : ℕ) → Dec (j ≡ i) → get_or (set m.waits i (noted_key p)) j None ≡ noted_key (get_or (set ps i p) j Unseen)
      at j (yes same) =
          let here : i < length ps = rw agrees.size l in
          let room = agrees.room in
          rw (same, get_or-set_same m.waits i (noted_key p) None (omega arith), get_or-set_same ps i p Unseen here)
      at j (no other) =
          rw (get_or-set_other m.waits i j (noted_key p) None other, get_or-set_other ps i j p Unseen other) (agrees.keys j)
