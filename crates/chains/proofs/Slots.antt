-- Items that wait in the slots of their keys: what holds of them, and what keeps it.
use Rattle.std.proofs.Common.{◌≡◌, ℕ, ◌<◌, ◌≤◌, eqb, List, [], ◌∷◌, length, get_or, set, Some, None, Option, sym, refl, ap, ◌∙◌, subst, inl, inr, arith, length-set}
use Rattle.std.proofs.lemmas.List.{get_or-set_same, get_or-set_other, get_or_past}
use Rattle.std.proofs.lemmas.Bool.{cases_eq, cases_lt, cond_both, cond-true, eqb-true, eqb-false, eq-eqb}
use Rattle.chains.specs.Links.{put_at, fronted, unlinked}
use Rattle.chains.specs.Threads.{Mem, Distinct, without, Chained, Backed}
use Rattle.chains.specs.Slots.{Rows, Slotted, entered, left, more, fewer}
use Rattle.chains.proofs.Rows.{fronted_in, fronted_prevs_in, unlinked_in}
use Rattle.chains.proofs.Threads.{Misses, none_some, same_some, first_in, in_range, next_in, prev_in, rebacked, chained_put, chained_pushed, backed_put, length_put_at, mem_without, without_keeps, without_gone, distinct_without, length_distinct, thread_unlinked, bypassed_is, relinked}

-- a place that holds something lies in the row
pub some_lt : (row : List (Option ℕ)) (i x : ℕ) → get_or row i None ≡ Some x → i < length row
some_lt row i x e = elim (cases_lt i (length row)) [ inl l ↦ l | inr g ↦ absurd (none_some (get_or_past row i None g) e) ]

-- nothing waits
pub slotted_none : (slot : ℕ → ℕ) (r : Rows) → length r.nexts ≡ length r.keys → length r.prevs ≡ length r.keys
    → ((i : ℕ) → get_or r.keys i None ≡ None) → ((s : ℕ) → get_or r.heads s None ≡ None) → Slotted slot r (λ s. [])
slotted_none slot r nl pl ks hs = record {
  nexts_long = nl;
  prevs_long = pl;
  chained = λ s. hs s;
  backed = λ s. tt;
  distinct = λ s. tt;
  key = λ s i m. absurd m;
  waits = λ i k e. absurd (none_some (ks i) e);
}

module _ (slot : ℕ → ℕ) (r : Rows) (lists : ℕ → List ℕ) (w : Slotted slot r lists) where
  -- an empty slot: no item waits at a key that falls into it
  pub slot_empty : (s : ℕ) → get_or r.heads s None ≡ None → (i k : ℕ) → get_or r.keys i None ≡ Some k → slot k ≡ s → ⊥
  slot_empty s e i k h q =
      let m : Mem i (lists s) = subst (λ t. Mem i (lists t)) q (w.waits i k h) in
      no_mem (lists s) (w.chained s) m
    where
      no_mem : (xs : List ℕ) → Chained r.nexts (get_or r.heads s None) xs → Mem i xs → ⊥
      no_mem [] c m = m
      no_mem (x ∷ xs) c m = none_some e c.0

  -- a slot with a head: that item waits at a key that falls into it
  pub slot_first : (s i : ℕ) → get_or r.heads s None ≡ Some i → (k : ℕ) × (get_or r.keys i None ≡ Some k) × (slot k ≡ s)
  slot_first s i e = w.key s i (first_in r.nexts (get_or r.heads s None) i (lists s) (w.chained s) e)

  -- a slot's chain is no longer than the row
  pub slot_length : (s : ℕ) → length (lists s) ≤ length r.keys
  slot_length s = length_distinct (length r.keys) (lists s) (w.distinct s)
      (λ i m. let h = in_range r.nexts (get_or r.heads s None) i (lists s) (w.chained s) m in let l = w.nexts_long in omega arith)

  -- where nothing waits each slot is empty
  pub slots_idle : ((i : ℕ) → get_or r.keys i None ≡ None) → (s : ℕ) → get_or r.heads s None ≡ None
  slots_idle ks s = none_from (lists s) (w.chained s) (λ i m. let h = w.key s i m in none_some (ks i) h.1)
    where
      none_from : (xs : List ℕ) → Chained r.nexts (get_or r.heads s None) xs → ((i : ℕ) → Mem i xs → ⊥) → get_or r.heads s None ≡ None
      none_from [] c n = c
      none_from (x ∷ xs) c n = absurd (n x (inl refl))

  -- an item stands in the chain of one slot only
  pub one_slot : (s t i : ℕ) → Mem i (lists s) → Mem i (lists t) → t ≡ s
  one_slot s t i m n =
      let h = w.key s i m in let g = w.key t i n in
      sym g.2 ∙ (ap slot (same_some g.1 h.1) ∙ h.2)

  -- item i, which does not wait, enters at key k
  module _ (i k : ℕ) (within : i < length r.keys) (idle : get_or r.keys i None ≡ None) (place : slot k < length r.heads) where
    -- the item stands in no chain yet
    fresh : (s : ℕ) → Mem i (lists s) → ⊥
    fresh s m = none_some idle (w.key s i m).1

    fresh_misses : (s : ℕ) → Misses (Some i) (lists s)
    fresh_misses s b e m = fresh s (subst (λ j. Mem j (lists s)) (same_some e refl) m)

    -- the first item of the slot stands in no other
    head_misses : (t : ℕ) → (t ≡ slot k → ⊥) → Misses (get_or r.heads (slot k) None) (lists t)
    head_misses t ne b e m =
        ne (one_slot (slot k) t b (first_in r.nexts (get_or r.heads (slot k) None) b (lists (slot k)) (w.chained (slot k)) e) m)

    in_nexts : i < length r.nexts
    in_nexts = let l = w.nexts_long in omega arith

    in_prevs : i < length r.prevs
    in_prevs = let l = w.prevs_long in omega arith

    entered_chained : (t : ℕ) → Chained (entered slot r i k).nexts (get_or (entered slot r i k).heads t None) (more lists (slot k) i t)
    entered_chained t =
        let head = get_or r.heads (slot k) None in
        let top = fronted r.nexts i head in
        cond_both (eqb t (slot k)) (i ∷ lists t) (lists t)
        (λ l. Chained (set r.nexts i head) (get_or (set r.heads (slot k) top) t None) l)
        (λ e.
        let q = eqb-true t (slot k) e in
        subst (λ a. Chained (set r.nexts i head) a (i ∷ lists t))
        (sym (ap (λ u. get_or (set r.heads (slot k) top) u None) q
        ∙ (get_or-set_same r.heads (slot k) top None place ∙ sym (fronted_in r.nexts i head in_nexts))))
        (chained_pushed r.nexts head i (lists t) in_nexts (fresh t)
        (subst (λ u. Chained r.nexts (get_or r.heads u None) (lists t)) q (w.chained t))))
        (λ e.
        subst (λ a. Chained (set r.nexts i head) a (lists t))
        (sym (get_or-set_other r.heads (slot k) t top None (eqb-false t (slot k) e)))
        (chained_put r.nexts (Some i) head (get_or r.heads t None) (lists t) (fresh_misses t) (w.chained t)))

    entered_backed : (t : ℕ) → Backed (entered slot r i k).prevs None (more lists (slot k) i t)
    entered_backed t =
        let head = get_or r.heads (slot k) None in
        let told = put_at r.prevs head (Some i) in
        subst (λ row. Backed row None (more lists (slot k) i t)) (fronted_prevs_in r.prevs i head in_prevs)
        (cond_both (eqb t (slot k)) (i ∷ lists t) (lists t) (λ l. Backed (set told i None) None l)
        (λ e.
        let q = eqb-true t (slot k) e in
        let long : length r.prevs ≡ length r.nexts = w.prevs_long ∙ sym w.nexts_long in
        let c : Chained r.nexts head (lists t) = subst (λ u. Chained r.nexts (get_or r.heads u None) (lists t)) q (w.chained t) in
        let l : i < length told = subst (λ n. i < n) (sym (length_put_at r.prevs head (Some i))) in_prevs in (
          get_or-set_same told i None None l,
          backed_put told (Some i) None (Some i) (lists t) (fresh_misses t)
              (rebacked r.nexts r.prevs head None (Some i) (lists t) long c (w.backed t) (w.distinct t)),
        ))
        (λ e.
        backed_put told (Some i) None None (lists t) (fresh_misses t)
        (backed_put r.prevs head (Some i) None (lists t) (head_misses t (eqb-false t (slot k) e)) (w.backed t))))

    entered_key : (t j : ℕ) → Mem j (more lists (slot k) i t) → (l : ℕ) × (get_or (entered slot r i k).keys j None ≡ Some l) × (slot l ≡ t)
    entered_key t j =
        let old : Mem j (lists t) → (l : ℕ) × (get_or (set r.keys i (Some k)) j None ≡ Some l) × (slot l ≡ t) =
        λ m. let h = w.key t j m in
        (h.0, get_or-set_other r.keys i j (Some k) None (λ e. fresh t (subst (λ a. Mem a (lists t)) e m)) ∙ h.1, h.2) in
        cond_both (eqb t (slot k)) (i ∷ lists t) (lists t)
        (λ l. Mem j l → (l : ℕ) × (get_or (set r.keys i (Some k)) j None ≡ Some l) × (slot l ≡ t))
        (λ e m. elim m [
          | inl p ↦ (k, ap (λ a. get_or (set r.keys i (Some k)) a None) p ∙ get_or-set_same r.keys i (Some k) None within, sym (eqb-true t (slot k) e))
          | inr p ↦ old p
        ])
        (λ e m. old m)

    entered_waits : (j l : ℕ) → get_or (entered slot r i k).keys j None ≡ Some l → Mem j (more lists (slot k) i (slot l))
    entered_waits j l h = elim (cases_eq j i) [
      | inl e ↦
          let s : k ≡ l = same_some (get_or-set_same r.keys i (Some k) None within) (subst (λ a. get_or (set r.keys i (Some k)) a None ≡ Some l) e h) in
          subst (λ xs. Mem j xs) (sym (cond-true (eqb (slot l) (slot k)) (i ∷ lists (slot l)) (lists (slot l)) (eq-eqb (slot l) (slot k) (ap slot (sym s))))) (inl e)
      | inr n ↦
          let m = w.waits j l (sym (get_or-set_other r.keys i j (Some k) None n) ∙ h) in
          cond_both (eqb (slot l) (slot k)) (i ∷ lists (slot l)) (lists (slot l)) (λ xs. Mem j xs) (λ e. inr m) (λ e. m)
    ]

    pub slotted_entered : Slotted slot (entered slot r i k) (more lists (slot k) i)
    slotted_entered =
        let head = get_or r.heads (slot k) None in
        record {
          nexts_long = length-set r.nexts i head ∙ (w.nexts_long ∙ sym (length-set r.keys i (Some k)));
          prevs_long =
              ap length (sym (fronted_prevs_in r.prevs i head in_prevs))
              ∙ (length-set (put_at r.prevs head (Some i)) i None
              ∙ (length_put_at r.prevs head (Some i) ∙ (w.prevs_long ∙ sym (length-set r.keys i (Some k)))));
          chained = entered_chained;
          backed = entered_backed;
          distinct = λ t. cond_both (eqb t (slot k)) (i ∷ lists t) (lists t) (λ l. Distinct l) (λ e. (fresh t, w.distinct t)) (λ e. w.distinct t);
          key = entered_key;
          waits = entered_waits;
        }

  -- item i, which waits at key k, leaves
  module _ (i k : ℕ) (waiting : get_or r.keys i None ≡ Some k) where
    long : length r.prevs ≡ length r.nexts
    long = w.prevs_long ∙ sym w.nexts_long

    stands : Mem i (lists (slot k))
    stands = w.waits i k waiting

    within_nexts : i < length r.nexts
    within_nexts = in_range r.nexts (get_or r.heads (slot k) None) i (lists (slot k)) (w.chained (slot k)) stands

    slot_within : slot k < length r.heads
    slot_within = holds (lists (slot k)) (w.chained (slot k)) stands
      where
        holds : (xs : List ℕ) → Chained r.nexts (get_or r.heads (slot k) None) xs → Mem i xs → slot k < length r.heads
        holds [] c m = absurd m
        holds (x ∷ xs) c m = some_lt r.heads (slot k) x c.0

    prev_misses : (t : ℕ) → (t ≡ slot k → ⊥) → Misses (get_or r.prevs i None) (lists t)
    prev_misses t ne b e m =
        elim (prev_in r.nexts r.prevs None (get_or r.heads (slot k) None) i (lists (slot k)) (w.chained (slot k)) (w.backed (slot k)) (w.distinct (slot k)) stands) [
          | inl p ↦ none_some p.1 e
          | inr p ↦ ne (one_slot (slot k) t b (subst (λ a. Mem a (lists (slot k))) (same_some p.1 e) p.2) m)
        ]

    next_misses : (t : ℕ) → (t ≡ slot k → ⊥) → Misses (get_or r.nexts i None) (lists t)
    next_misses t ne b e m =
        ne (one_slot (slot k) t b (next_in r.nexts (get_or r.heads (slot k) None) i b (lists (slot k)) (w.chained (slot k)) stands e) m)

    -- the slot's chain without the item
    here : Chained (left slot r i k).nexts (get_or (left slot r i k).heads (slot k) None) (without i (lists (slot k)))
        × Backed (left slot r i k).prevs None (without i (lists (slot k)))
    here =
        let head = get_or r.heads (slot k) None in
        let xs = lists (slot k) in
        let both = thread_unlinked r.nexts r.prevs long i None head xs (w.chained (slot k)) (w.backed (slot k)) (w.distinct (slot k))
        (λ b e m. none_some refl e) stands in
        let is : relinked r.nexts r.prevs long i head ≡ get_or (left slot r i k).heads (slot k) None =
        sym (bypassed_is r.nexts r.prevs long i head xs (w.chained (slot k)) (w.backed (slot k)) (w.distinct (slot k)) stands)
        ∙ (unlinked_in r.nexts r.prevs i head within_nexts
        ∙ sym (get_or-set_same r.heads (slot k) (unlinked r.nexts r.prevs i head) None slot_within)) in
        (subst (λ a. Chained (left slot r i k).nexts a (without i xs)) is both.0, both.1)

    left_chained : (t : ℕ) → Chained (left slot r i k).nexts (get_or (left slot r i k).heads t None) (fewer lists (slot k) i t)
    left_chained t =
        cond_both (eqb t (slot k)) (without i (lists t)) (lists t)
        (λ l. Chained (left slot r i k).nexts (get_or (left slot r i k).heads t None) l)
        (λ e. subst (λ u. Chained (left slot r i k).nexts (get_or (left slot r i k).heads u None) (without i (lists u)))
        (sym (eqb-true t (slot k) e)) here.0)
        (λ e.
        let ne = eqb-false t (slot k) e in
        subst (λ a. Chained (left slot r i k).nexts a (lists t))
        (sym (get_or-set_other r.heads (slot k) t (unlinked r.nexts r.prevs i (get_or r.heads (slot k) None)) None ne))
        (chained_put r.nexts (get_or r.prevs i None) (get_or r.nexts i None) (get_or r.heads t None) (lists t) (prev_misses t ne) (w.chained t)))

    left_backed : (t : ℕ) → Backed (left slot r i k).prevs None (fewer lists (slot k) i t)
    left_backed t =
        cond_both (eqb t (slot k)) (without i (lists t)) (lists t) (λ l. Backed (left slot r i k).prevs None l)
        (λ e. subst (λ u. Backed (left slot r i k).prevs None (without i (lists u))) (sym (eqb-true t (slot k) e)) here.1)
        (λ e. backed_put r.prevs (get_or r.nexts i None) (get_or r.prevs i None) None (lists t) (next_misses t (eqb-false t (slot k) e)) (w.backed t))

    left_key : (t j : ℕ) → Mem j (fewer lists (slot k) i t) → (l : ℕ) × (get_or (left slot r i k).keys j None ≡ Some l) × (slot l ≡ t)
    left_key t j =
        let old : Mem j (lists t) → (j ≡ i → ⊥) → (l : ℕ) × (get_or (set r.keys i None) j None ≡ Some l) × (slot l ≡ t) =
        λ m n. let h = w.key t j m in (h.0, get_or-set_other r.keys i j None None n ∙ h.1, h.2) in
        cond_both (eqb t (slot k)) (without i (lists t)) (lists t)
        (λ l. Mem j l → (l : ℕ) × (get_or (set r.keys i None) j None ≡ Some l) × (slot l ≡ t))
        (λ e m. old (mem_without i j (lists t) m)
        (λ q. without_gone i (lists t) (w.distinct t) (subst (λ a. Mem a (without i (lists t))) q m)))
        (λ e m. old m (λ q. eqb-false t (slot k) e (one_slot (slot k) t i stands (subst (λ a. Mem a (lists t)) q m))))

    left_waits : (j l : ℕ) → get_or (left slot r i k).keys j None ≡ Some l → Mem j (fewer lists (slot k) i (slot l))
    left_waits j l h = elim (cases_eq j i) [
      | inl e ↦
          absurd (none_some (get_or-set_same r.keys i None None (some_lt r.keys i k waiting))
          (subst (λ a. get_or (set r.keys i None) a None ≡ Some l) e h))
      | inr n ↦
          let m = w.waits j l (sym (get_or-set_other r.keys i j None None n) ∙ h) in
          cond_both (eqb (slot l) (slot k)) (without i (lists (slot l))) (lists (slot l)) (λ xs. Mem j xs)
          (λ e. without_keeps i j (lists (slot l)) n m) (λ e. m)
    ]

    pub slotted_left : Slotted slot (left slot r i k) (fewer lists (slot k) i)
    slotted_left = record {
      nexts_long = length_put_at r.nexts (get_or r.prevs i None) (get_or r.nexts i None) ∙ (w.nexts_long ∙ sym (length-set r.keys i None));
      prevs_long = length_put_at r.prevs (get_or r.nexts i None) (get_or r.prevs i None) ∙ (w.prevs_long ∙ sym (length-set r.keys i None));
      chained = left_chained;
      backed = left_backed;
      distinct = λ t. cond_both (eqb t (slot k)) (without i (lists t)) (lists t) (λ l. Distinct l)
          (λ e. distinct_without i (lists t) (w.distinct t)) (λ e. w.distinct t);
      key = left_key;
      waits = left_waits;
    }
