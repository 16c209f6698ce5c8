-- Sound trees: what each call leaves of one, and what a heap means after it.
use Rattle.std.proofs.Common.{rules, inl, inr, ◌≡◌, ℕ, zero, suc, ◌<◌, ◌≤◌, List, ◌∷◌, length, get_or, set, replicate, Some, None, sym, refl, ap, ◌∙◌, arith, subst}
use Rattle.std.proofs.lemmas.List.{length-map}
use Rattle.std.proofs.lemmas.Grind.{common_steps}
use Rattle.std.proofs.lemmas.Bool.{cases_eq, ne_eqb}
use Rattle.queue.specs.Meaning.{Banded, Least, Lowest, held, taken}
use Rattle.heap.specs.declared.Cell.{Cell}
use Rattle.heap.specs.declared.tree.Tree.{Tree}
use Rattle.heap.specs.Cells.{blank, place_at, item_at, rank, keys}
use Rattle.heap.specs.Contents.{contents, root, waits, Agrees, SoundTree}
use Rattle.heap.proofs.Rows.{keys_read}
use Rattle.heap.proofs.Trees.{root_least}
use Rattle.queue.proofs.Meanings.{held_room, held_replicate, none_held, banded_taken}

pub blank_keys : (n : ℕ) → keys (replicate n blank) ≡ replicate n None
blank_keys zero = refl
blank_keys (suc n) = ap (λ ks. None ∷ ks) (blank_keys n)

-- the keys of blank cells
pub wiped_keys : (cells : List Cell) (n : ℕ) → cells ≡ replicate n blank → keys cells ≡ replicate n None
wiped_keys cells n e = ap keys e ∙ blank_keys n

module _ (t : Tree) where
  -- where none of n items waits
  module _ (n : ℕ) (zero_is : t.count ≡ 0) (none : waits t ≡ replicate n None) where
    pub empty_sound : SoundTree t
    empty_sound = record {
      heaped = record {
        linked = record {
          few = omega arith;
          waits = λ p h. grind arith;
          stands = λ p h. omega arith;
          below = λ i k e. let key = keys_read t.cells.now i in grind (arith, common_steps);
          back = λ i k e. let key = keys_read t.cells.now i in grind (arith, common_steps);
        };
        ordered = λ c l h. omega arith;
      };
      counted = zero_is ∙ sym (ap held none ∙ held_replicate n);
    }

  module _ (s : SoundTree t) where
    pub none_waits : t.count ≡ 0 → waits t ≡ replicate (length (waits t)) None
    none_waits e = none_held (waits t) (sym s.counted ∙ e)

    pub root_waits : 0 < t.count → get_or (waits t) (item_at t.cells.now 0) None ≡ Some (rank t.cells.now 0)
    root_waits h = keys_read t.cells.now (item_at t.cells.now 0) ∙ s.heaped.linked.waits 0 h

    pub root_lowest : (f : ℕ) → Lowest (contents (waits t) f) (rank t.cells.now 0)
    root_lowest f j l e =
        let key = keys_read t.cells.now j in
        let at = s.heaped.linked.below j l in
        let back = s.heaped.linked.back j l in
        let least = root_least (rank t.cells.now) t.count s.heaped.ordered t.count (place_at t.cells.now j) in
        grind arith

    pub root_is : (f : ℕ) → Least (contents (waits t) f) (root t)
    root_is f =
        elim (cases_eq t.count 0) [
          | inl e ↦ let none = none_waits e in rw e (λ j. grind (arith, common_steps))
          | inr ne ↦ simp (ne_eqb t.count 0 ne) (root_waits (omega arith), root_lowest f)
        ]

    -- there is a place for an item that does not wait
    pub roomy : (i : ℕ) → i < length (waits t) → get_or (waits t) i None ≡ None → t.count < length t.cells.now
    roomy i l e =
        let len = length-map t.cells.now (λ c. c.key) in
        let h = held_room (waits t) i l e in
        let c = s.counted in
        omega arith

-- an item of lowest key is taken
pub taken_agrees : (t after : Tree) (f i k : ℕ) → Agrees t f → get_or (waits t) i None ≡ Some k → ((j l : ℕ) → get_or (waits t) j None ≡ Some l → k ≤ l)
    → waits after ≡ set (waits t) i None → SoundTree after → Agrees after k
taken_agrees t after f i k a some low e s =
    let is : contents (waits after) k ≡ taken (contents (waits t) f) i k = search rules in
    record { tree = s; banded = subst Banded (sym is) (banded_taken _ _ _ a.banded some low) }
