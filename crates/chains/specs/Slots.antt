-- Items that wait in the slots of their keys, each slot with a chain of its items.
--   Rows          the keys of the items, their links, and the head of each slot's chain
--   Slotted       each slot's chain holds exactly the items whose key falls into the slot
--   entered       the rows once item i waits at key k, in front of its slot
--   left          the rows once item i, which waits at key k, waits no more
--   more, fewer   the lists of the slots then
-- The slot of a key is any function of it.
use Rattle.std.specs.Prelude.{◌≡◌, ℕ, cond, List, ◌∷◌, length, Some, None, Option, ◌==◌, slice_index_or, slice_set}
use Rattle.chains.specs.Links.{fronted, fronted_prevs, unlinked, unlinked_nexts, unlinked_prevs}
use Rattle.chains.specs.Threads.{Mem, Distinct, without, Chained, Backed}

-- the first three have a place for each item, the last one for each slot
pub record Rows : Type 0 where
  pub keys : List (Option ℕ)
  pub nexts : List (Option ℕ)
  pub prevs : List (Option ℕ)
  pub heads : List (Option ℕ)

-- `lists s` are the items of slot s in their order
pub record Slotted (slot : ℕ → ℕ) (r : Rows) (lists : ℕ → List ℕ) : Type 0 where
  pub nexts_long : length r.nexts ≡ length r.keys
  pub prevs_long : length r.prevs ≡ length r.keys
  pub chained : (s : ℕ) → Chained r.nexts (slice_index_or r.heads s None) (lists s)
  pub backed : (s : ℕ) → Backed r.prevs None (lists s)
  pub distinct : (s : ℕ) → Distinct (lists s)
  pub key : (s i : ℕ) → Mem i (lists s) → (k : ℕ) × (slice_index_or r.keys i None ≡ Some k) × (slot k ≡ s)
  pub waits : (i k : ℕ) → slice_index_or r.keys i None ≡ Some k → Mem i (lists (slot k))

abbrev pub entered : (ℕ → ℕ) → Rows → ℕ → ℕ → Rows
entered slot r i k = record {
  keys = slice_set r.keys i (Some k);
  nexts = slice_set r.nexts i (slice_index_or r.heads (slot k) None);
  prevs = fronted_prevs r.prevs i (slice_index_or r.heads (slot k) None);
  heads = slice_set r.heads (slot k) (fronted r.nexts i (slice_index_or r.heads (slot k) None));
}

abbrev pub left : (ℕ → ℕ) → Rows → ℕ → ℕ → Rows
left slot r i k = record {
  keys = slice_set r.keys i None;
  nexts = unlinked_nexts r.nexts r.prevs i;
  prevs = unlinked_prevs r.nexts r.prevs i;
  heads = slice_set r.heads (slot k) (unlinked r.nexts r.prevs i (slice_index_or r.heads (slot k) None));
}

abbrev pub more : (ℕ → List ℕ) → ℕ → ℕ → ℕ → List ℕ
more lists s i t = cond (t == s) (i ∷ lists t) (lists t)

abbrev pub fewer : (ℕ → List ℕ) → ℕ → ℕ → ℕ → List ℕ
fewer lists s i t = cond (t == s) (without i (lists t)) (lists t)
