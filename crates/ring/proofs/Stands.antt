-- A ring's parts agree when it is made, and after each call.
use Rattle.std.proofs.Common.{◌≡◌, ℕ, ◌+◌, ◌-◌, ◌%◌, ◌<◌, ◌≤◌, List, [], length, get_or, set, replicate, Some, None, Option, sym, refl, ap, ◌∙◌, subst, mod-lt, arith, length-set, ext_get_or, set-set}
use lib.ListN.{length-map, length-replicate}
use Rattle.std.proofs.lemmas.List.{get_or-set_same}
use Rattle.figures.specs.Limits.{cell_limit, slot_limit}
use Rattle.chains.specs.Cells.{keys}
use Rattle.chains.specs.declared.Chain.{Chain}
use Rattle.chains.specs.Slots.{Slotted, entered, left, more, fewer}
use Rattle.chains.proofs.Slots.{slotted_none, slotted_entered, slotted_left, some_lt}
use Rattle.queue.specs.Meaning.{Meaning, Banded, Allowed, Lowest, held, put, taken, cleared}
use Rattle.queue.proofs.Meanings.{held_enter, held_lower, held_take, held_most, held_replicate, none_in_replicate, banded_put, banded_taken, banded_none}
use Rattle.chains.specs.declared.cells.Cell.{Cell}
use Rattle.ring.specs.Standing.{heads, rows, slot_of, meant, Blank, Standing}

pub all_none : (row : List (Option ℕ)) → ((i : ℕ) → get_or row i None ≡ None) → row ≡ replicate (length row) None
all_none row h =
    ext_get_or None row (replicate (length row) None) (sym (length-replicate (length row) None))
    (λ i l. h i ∙ sym (none_in_replicate (length row) i))

-- what a ring means by its keys and the number of its slots
same_meant : (ks ls : List (Option ℕ)) (low a b : ℕ) → ks ≡ ls → a ≡ b
    → ◌≡◌ {A = Meaning} (record { waits = ks; floor = low; band = a - 1 }) (record { waits = ls; floor = low; band = b - 1 })
same_meant ks ls low a b e q = cc

-- nothing waits
module _ {slots : List Chain} {cells : List Cell} (b : Blank slots cells) where
  blank_keys : keys cells ≡ replicate (length cells) None
  blank_keys = all_none (keys cells) b.no_key ∙ ap (λ n. replicate n None) (length-map cells (λ c. c.key))

  pub blank_meant : meant slots cells 0 ≡ record { waits = replicate (length cells) None; floor = 0; band = length slots - 1 }
  blank_meant = same_meant (keys cells) (replicate (length cells) None) 0 (length slots) (length slots) blank_keys refl

  pub blank_stands : length slots ≤ slot_limit → length cells ≤ cell_limit → (0 < length cells → 0 < length slots) → (0 < length slots → 0 < length cells)
      → Standing slots cells 0 0
  blank_stands sl cl ss sc = record {
    lists = λ s. [];
    slotted = slotted_none (slot_of (length slots)) (rows slots cells)
        (length-map cells (λ c. c.next) ∙ sym (length-map cells (λ c. c.key)))
        (length-map cells (λ c. c.prev) ∙ sym (length-map cells (λ c. c.key))) b.no_key b.no_head;
    banded = subst Banded (sym blank_meant) (banded_none (length cells) (length slots - 1));
    counted = sym (ap held blank_keys ∙ held_replicate (length cells));
    few_slots = sl;
    few_cells = cl;
    some_slot = ss;
    some_cell = sc;
  }

-- a ring is cleared
module _ {slots slots' : List Chain} {cells cells' : List Cell} {low count : ℕ} (st : Standing slots cells low count)
    (sl : length slots' ≡ length slots) (cl : length cells' ≡ length cells) (b : Blank slots' cells') where
  pub cleared_meant : meant slots' cells' 0 ≡ cleared (meant slots cells low)
  cleared_meant =
      same_meant (keys cells') (replicate (length (keys cells)) None) 0 (length slots') (length slots)
      (blank_keys b ∙ ap (λ n. replicate n None) (cl ∙ sym (length-map cells (λ c. c.key)))) sl

  pub cleared_stands : Standing slots' cells' 0 0
  cleared_stands = blank_stands b
      (let h = st.few_slots in omega arith) (let h = st.few_cells in omega arith)
      (λ p. let h = st.some_slot (omega arith) in omega arith) (λ p. let h = st.some_cell (omega arith) in omega arith)

-- a ring goes on from one that stands, with as many slots and cells
stands_on : (slots slots' : List Chain) (cells cells' : List Cell) (low low' count count' : ℕ) → Standing slots cells low count
    → length slots' ≡ length slots → length cells' ≡ length cells
    → (lists : ℕ → List ℕ) → Slotted (slot_of (length slots)) (rows slots' cells') lists
    → Banded (meant slots' cells' low') → count' ≡ held (keys cells') → Standing slots' cells' low' count'
stands_on slots slots' cells cells' low low' count count' st sl cl lists w b c = record {
  lists = lists;
  slotted = subst (λ n. Slotted (slot_of n) (rows slots' cells') lists) (sym sl) w;
  banded = b;
  counted = c;
  few_slots = let h = st.few_slots in omega arith;
  few_cells = let h = st.few_cells in omega arith;
  some_slot = λ p. let h = st.some_slot (omega arith) in omega arith;
  some_cell = λ p. let h = st.some_cell (omega arith) in omega arith;
}

pub same_slots : (slots slots' : List Chain) (s : ℕ) (h : Option ℕ) → heads slots' ≡ set (heads slots) s h → length slots' ≡ length slots
same_slots slots slots' s h e =
    sym (length-map slots' (λ c. c.first)) ∙ (ap length e ∙ (length-set (heads slots) s h ∙ length-map slots (λ c. c.first)))

pub same_cells : (cells cells' : List Cell) (i : ℕ) (o : Option ℕ) → keys cells' ≡ set (keys cells) i o → length cells' ≡ length cells
same_cells cells cells' i o e =
    sym (length-map cells' (λ c. c.key)) ∙ (ap length e ∙ (length-set (keys cells) i o ∙ length-map cells (λ c. c.key)))

module _ {slots : List Chain} {cells : List Cell} {low count : ℕ} (st : Standing slots cells low count) where
  place : (k : ℕ) → 0 < length slots → slot_of (length slots) k < length (heads slots)
  place k p = subst (λ n. k % length slots < n) (sym (length-map slots (λ c. c.first))) (mod-lt k p)

  -- an item that there is needs a slot
  pub slot_for : (i : ℕ) → i < length cells → 0 < length slots
  slot_for i l = st.some_slot (omega arith)

  -- an item that waits has a cell
  pub cell_for : (i k : ℕ) → get_or (keys cells) i None ≡ Some k → i < length cells
  cell_for i k e = subst (λ n. i < n) (length-map cells (λ c. c.key)) (some_lt (keys cells) i k e)

  -- the count stays small
  pub count_few : count ≤ cell_limit
  count_few =
      let c = st.counted in let h = held_most (keys cells) in let m = length-map cells (λ c. c.key) in let f = st.few_cells in omega arith

  -- an item that may be offered has a cell
  pub item_for : (i k : ℕ) → Allowed (meant slots cells low) i k → i < length cells
  item_for i k a = subst (λ n. i < n) (length-map cells (λ c. c.key)) a.item

  -- item i enters at key k
  module _ (slots' : List Chain) (cells' : List Cell) (i k : ℕ) (a : Allowed (meant slots cells low) i k) (idle : get_or (keys cells) i None ≡ None)
      (linked : i < length cells → 0 < length slots → rows slots' cells' ≡ entered (slot_of (length slots)) (rows slots cells) i k) where
    e : rows slots' cells' ≡ entered (slot_of (length slots)) (rows slots cells) i k
    e = let l = item_for i k a in linked l (slot_for i l)

    pub entered_meant : meant slots' cells' low ≡ put (meant slots cells low) i k
    entered_meant =
        same_meant (keys cells') (set (keys cells) i (Some k)) low (length slots') (length slots) (ap (λ r. r.keys) e)
        (same_slots slots slots' (slot_of (length slots) k) _ (ap (λ r. r.heads) e))

    pub entered_stands : Standing slots' cells' low ((count + 1) % 18446744073709551616)
    entered_stands =
        let l = item_for i k a in
        stands_on slots slots' cells cells' low low count ((count + 1) % 18446744073709551616) st
        (same_slots slots slots' (slot_of (length slots) k) _ (ap (λ r. r.heads) e))
        (same_cells cells cells' i (Some k) (ap (λ r. r.keys) e))
        (more st.lists (slot_of (length slots) k) i)
        (subst (λ r. Slotted (slot_of (length slots)) r (more st.lists (slot_of (length slots) k) i)) (sym e)
        (slotted_entered (slot_of (length slots)) (rows slots cells) st.lists st.slotted i k a.item idle (place k (slot_for i l))))
        (subst Banded (sym entered_meant) (banded_put (meant slots cells low) i k st.banded a))
        (let h = held_enter (keys cells) i k a.item idle in let c = st.counted in let f = count_few in let q = ap (λ r. held r.keys) e in omega arith)

  -- item i, which waits at key old, goes to key k
  module _ (slots₁ slots₂ : List Chain) (cells₁ cells₂ : List Cell) (i k old : ℕ) (a : Allowed (meant slots cells low) i k)
      (d : get_or (keys cells) i None ≡ Some old)
      (unlinked : i < length cells → 0 < length slots → rows slots₁ cells₁ ≡ left (slot_of (length slots)) (rows slots cells) i old)
      (linked : i < length cells₁ → 0 < length slots₁ → rows slots₂ cells₂ ≡ entered (slot_of (length slots₁)) (rows slots₁ cells₁) i k) where
    e₁ : rows slots₁ cells₁ ≡ left (slot_of (length slots)) (rows slots cells) i old
    e₁ = let l = item_for i k a in unlinked l (slot_for i l)

    lowered_slots : length slots₁ ≡ length slots
    lowered_slots = same_slots slots slots₁ (slot_of (length slots) old) _ (ap (λ r. r.heads) e₁)

    e₂ : rows slots₂ cells₂ ≡ entered (slot_of (length slots₁)) (rows slots₁ cells₁) i k
    e₂ =
        let l = item_for i k a in
        let n = slot_for i l in
        let m = lowered_slots in
        let c = same_cells cells cells₁ i None (ap (λ r. r.keys) e₁) in linked (omega arith) (omega arith)

    lowered_slots₂ : length slots₂ ≡ length slots
    lowered_slots₂ = same_slots slots₁ slots₂ (slot_of (length slots₁) k) _ (ap (λ r. r.heads) e₂) ∙ lowered_slots

    lowered_keys : keys cells₂ ≡ set (keys cells) i (Some k)
    lowered_keys = ap (λ r. r.keys) e₂ ∙ (ap (λ ks. set ks i (Some k)) (ap (λ r. r.keys) e₁) ∙ set-set (keys cells) i None (Some k))

    pub lowered_meant : meant slots₂ cells₂ low ≡ put (meant slots cells low) i k
    lowered_meant = same_meant (keys cells₂) (set (keys cells) i (Some k)) low (length slots₂) (length slots) lowered_keys lowered_slots₂

    lowered_slotted : Slotted (slot_of (length slots)) (rows slots₂ cells₂)
        (more (fewer st.lists (slot_of (length slots) old) i) (slot_of (length slots) k) i)
    lowered_slotted =
        let l = item_for i k a in
        let w₁ = subst (λ r. Slotted (slot_of (length slots)) r (fewer st.lists (slot_of (length slots) old) i)) (sym e₁)
        (slotted_left (slot_of (length slots)) (rows slots cells) st.lists st.slotted i old d) in
        let ks = ap (λ r. r.keys) e₁ in
        let l₁ : i < length (keys cells₁) =
        subst (λ n. i < n) (sym (ap length ks ∙ length-set (keys cells) i None)) a.item in
        let idle : get_or (keys cells₁) i None ≡ None = ap (λ row. get_or row i None) ks ∙ get_or-set_same (keys cells) i None None a.item in
        let p : slot_of (length slots) k < length (heads slots₁) =
        subst (λ n. k % length slots < n) (sym (length-map slots₁ (λ c. c.first) ∙ lowered_slots)) (mod-lt k (slot_for i l)) in
        subst (λ r. Slotted (slot_of (length slots)) r (more (fewer st.lists (slot_of (length slots) old) i) (slot_of (length slots) k) i))
        (sym (e₂ ∙ ap (λ n. entered (slot_of n) (rows slots₁ cells₁) i k) lowered_slots))
        (slotted_entered (slot_of (length slots)) (rows slots₁ cells₁) (fewer st.lists (slot_of (length slots) old) i) w₁ i k l₁ idle p)

    pub lowered_stands : Standing slots₂ cells₂ low count
    lowered_stands =
        stands_on slots slots₂ cells cells₂ low low count count st lowered_slots₂ (same_cells cells cells₂ i (Some k) lowered_keys)
        (more (fewer st.lists (slot_of (length slots) old) i) (slot_of (length slots) k) i)
        lowered_slotted
        (subst Banded (sym lowered_meant) (banded_put (meant slots cells low) i k st.banded a))
        (let h = held_lower (keys cells) i k old a.item d in let c = st.counted in let q = ap held lowered_keys in omega arith)

  -- item i, which waits at a lowest key, is taken
  module _ (slots' : List Chain) (cells' : List Cell) (i k : ℕ) (d : get_or (keys cells) i None ≡ Some k) (least : Lowest (meant slots cells low) k)
      (unlinked : i < length cells → 0 < length slots → rows slots' cells' ≡ left (slot_of (length slots)) (rows slots cells) i k) where
    gone : rows slots' cells' ≡ left (slot_of (length slots)) (rows slots cells) i k
    gone = let l = cell_for i k d in unlinked l (slot_for i l)

    pub taken_meant : meant slots' cells' k ≡ taken (meant slots cells low) i k
    taken_meant =
        same_meant (keys cells') (set (keys cells) i None) k (length slots') (length slots) (ap (λ r. r.keys) gone)
        (same_slots slots slots' (slot_of (length slots) k) _ (ap (λ r. r.heads) gone))

    pub taken_stands : Standing slots' cells' k ((count + 18446744073709551615) % 18446744073709551616)
    taken_stands =
        stands_on slots slots' cells cells' low k count ((count + 18446744073709551615) % 18446744073709551616) st
        (same_slots slots slots' (slot_of (length slots) k) _ (ap (λ r. r.heads) gone))
        (same_cells cells cells' i None (ap (λ r. r.keys) gone))
        (fewer st.lists (slot_of (length slots) k) i)
        (subst (λ r. Slotted (slot_of (length slots)) r (fewer st.lists (slot_of (length slots) k) i)) (sym gone)
        (slotted_left (slot_of (length slots)) (rows slots cells) st.lists st.slotted i k d))
        (subst Banded (sym taken_meant) (banded_taken (meant slots cells low) i k st.banded d least))
        (let h = held_take (keys cells) i k (some_lt (keys cells) i k d) d in let c = st.counted in let f = count_few in let q = ap (λ r. held r.keys) gone in omega arith)
