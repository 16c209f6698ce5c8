-- Lemmas on a rim: what keeps it sound, and what it names.
use Rattle.std.proofs.Common.{◌≡◌, ℕ, zero, suc, ◌+◌, ◌-◌, ◌/◌, ◌%◌, ◌^◌, ◌<◌, ◌≤◌, eqb, ltb, List, [], ◌∷◌, map, length, get_or, set, replicate, Some, None, Option, sym, refl, ap, ◌∙◌, subst, inl, ⊎_elim, mod-lt, arith}
use Rattle.std.proofs.Math.Logic.{∥∥₁_elim, ∥∥₁_map}
use Rattle.std.proofs.Props.{props}
use Rattle.std.specs.Vec.{with_items}
use Rattle.std.proofs.lemmas.List.{with_items_is, get_or-map, map-set, get_or-set_same, get_or-set_other, get_or-replicate, length-map, length-set}
use Rattle.std.proofs.lemmas.Bool.{cases_eq, cases_lt, cond_both, eqb-true, eqb-false, ltb-true, ltb-false}
use Rattle.chains.specs.declared.cells.Cell.{Cell}
use Rattle.chains.specs.Cells.{blank, keys, nexts, prevs}
use Rattle.chains.specs.Links.{fronted, fronted_prevs, unlinked, unlinked_nexts, unlinked_prevs}
use Rattle.chains.specs.Threads.{Mem, Chained, without}
use Rattle.chains.specs.Slots.{Slotted, entered, left, more, fewer}
use Rattle.chains.proofs.Threads.{length_without, none_some, same_some}
use Rattle.chains.proofs.Slots.{slotted_none, slot_empty, slot_first, slotted_entered, slotted_left, slot_length, some_lt}
use Rattle.queue.specs.declared.Entry.{Entry}
use Rattle.queue.specs.Meaning.{held, Least}
use Rattle.queue.proofs.Meanings.{held_enter, held_take, held_most, none_held, none_in_replicate}
use Rattle.wheel.specs.declared.rim.Compartment.{Compartment}
use Rattle.wheel.specs.declared.rim.Rim.{Rim}
use Rattle.wheel.specs.Later.{first_held, nearer, scan}
use Rattle.wheel.specs.Compartments.{vacant, firsts_of, counts_of, rows_of, place_of, RimSound}
use Rattle.wheel.specs.Rims.{rim_keys, rim_nexts, rim_firsts, rim_counts, least_at, rim_least, Lies}
use Rattle.wheel.specs.Banded.{none_read}
use Rattle.wheel.proofs.Rows.{held_none}
use Rattle.wheel.proofs.Quotients.{same_place, quotient_lt}
use Rattle.wheel.proofs.Seek.{Sought, First, sought}

pub map_replicate : {X Y : Type 0} (f : X → Y) (n : ℕ) (x : X) → map f (replicate n x) ≡ replicate n (f x)
map_replicate f zero x = refl
map_replicate f (suc n) x = ap (λ l. f x ∷ l) (map_replicate f n x)

abbrev cell_key : Cell → Option ℕ
cell_key c = c.key

abbrev cell_next : Cell → Option ℕ
cell_next c = c.next

abbrev cell_prev : Cell → Option ℕ
cell_prev c = c.prev

abbrev first_of : Compartment → Option ℕ
first_of c = c.chain.first

abbrev count_of : Compartment → ℕ
count_of c = c.count

-- the counts of lists, one of which is longer or shorter by one item
module _ (cs : List ℕ) (lists : ℕ → List ℕ) (counted : (q : ℕ) → q < 64 → get_or cs q 0 ≡ length (lists q))
    (long : length cs ≡ 64) (p : ℕ) (place : p < 64) (i : ℕ) where
  counted_more : (t : ℕ) → t < 64 → get_or (set cs p (get_or cs p 0 + 1)) t 0 ≡ length (more lists p i t)
  counted_more t l =
      cond_both (eqb t p) (i ∷ lists t) (lists t) (λ x. get_or (set cs p (get_or cs p 0 + 1)) t 0 ≡ length x)
      (λ e. subst (λ u. get_or (set cs p (get_or cs p 0 + 1)) u 0 ≡ suc (length (lists u))) (sym (eqb-true t p e))
      (let c = counted p place in get_or-set_same cs p (get_or cs p 0 + 1) 0 (omega arith) ∙ omega arith))
      (λ e. get_or-set_other cs p t (get_or cs p 0 + 1) 0 (eqb-false t p e) ∙ counted t l)

  counted_fewer : Mem i (lists p) → (t : ℕ) → t < 64
      → get_or (set cs p (get_or cs p 0 - 1)) t 0 ≡ length (fewer lists p i t)
  counted_fewer here t l =
      cond_both (eqb t p) (without i (lists t)) (lists t) (λ x. get_or (set cs p (get_or cs p 0 - 1)) t 0 ≡ length x)
      (λ e. subst (λ u. get_or (set cs p (get_or cs p 0 - 1)) u 0 ≡ length (without i (lists u))) (sym (eqb-true t p e))
      (let c = counted p place in let v = length_without i (lists p) here in
      get_or-set_same cs p (get_or cs p 0 - 1) 0 (omega arith) ∙ omega arith))
      (λ e. get_or-set_other cs p t (get_or cs p 0 - 1) 0 (eqb-false t p e) ∙ counted t l)

-- a place lies in the table
pub place_lt : (w k : ℕ) → place_of w k < 64
place_lt w k = mod-lt (k / w) (omega arith)

-- blank cells and vacant compartments
pub blank_keys : (n : ℕ) (cells : List Cell) → cells ≡ replicate n blank → keys cells ≡ replicate n None
blank_keys n cells is = ap keys is ∙ map_replicate cell_key n blank

pub blank_sound : (w n : ℕ) (cells : List Cell) (table : List Compartment) → cells ≡ replicate n blank → table ≡ replicate 64 vacant
    → ∥ RimSound w 0 cells table ∥₁
blank_sound w n cells table blanks vacants =
    let all : keys cells ≡ replicate n None = blank_keys n cells blanks in
    let none : (i : ℕ) → get_or (keys cells) i None ≡ None = λ i. subst (λ l. get_or l i None ≡ None) (sym all) (none_in_replicate n i) in
    let firsts : firsts_of table ≡ replicate 64 None = ap firsts_of vacants ∙ map_replicate first_of 64 vacant in
    let counts : counts_of table ≡ replicate 64 0 = ap counts_of vacants ∙ map_replicate count_of 64 vacant in
    ∣ record {
      lists = λ s. [];
      slotted = slotted_none (place_of w) (rows_of cells table)
          (length-map cells cell_next ∙ sym (length-map cells cell_key))
          (length-map cells cell_prev ∙ sym (length-map cells cell_key))
          none (λ s. subst (λ l. get_or l s None ≡ None) (sym firsts) (none_in_replicate 64 s));
      counted = λ p l. subst (λ c. get_or c p 0 ≡ 0) (sym counts) (get_or-replicate {A = ℕ} 64 p 0 0 l);
      later_is = sym (held_none (keys cells) none);
    } ∣₁

module _ (w later : ℕ) (cells : List Cell) (table : List Compartment) (h : RimSound w later cells table) where
  -- no more items wait than there are, in all and in one compartment
  pub later_most : later ≤ length (keys cells)
  later_most = let e = h.later_is in let m = held_most (keys cells) in omega arith

  pub count_most : (p : ℕ) → p < 64 → get_or (counts_of table) p 0 ≤ length (keys cells)
  count_most p l =
      let e = h.counted p l in let m = slot_length (place_of w) (rows_of cells table) h.lists h.slotted p in omega arith

  -- an item that waits is counted
  pub later_held : (i k : ℕ) → get_or (keys cells) i None ≡ Some k → 0 < later
  later_held i k here =
      let e = h.later_is in let m = held_take (keys cells) i k (some_lt (keys cells) i k here) here in omega arith

  pub count_held : (i k : ℕ) → get_or (keys cells) i None ≡ Some k → 0 < get_or (counts_of table) (place_of w k) 0
  count_held i k here =
      let e = h.counted (place_of w k) (place_lt w k) in
      let m = length_without i (h.lists (place_of w k)) (h.slotted.waits i k here) in omega arith

  -- what the first item of a compartment's chain tells
  pub first_waits : (p i : ℕ) → get_or (firsts_of table) p None ≡ Some i
      → (k : ℕ) × (get_or (keys cells) i None ≡ Some k) × (place_of w k ≡ p)
  first_waits p i e = slot_first (place_of w) (rows_of cells table) h.lists h.slotted p i e

  pub none_waits : (p : ℕ) → get_or (firsts_of table) p None ≡ None → Lies w (keys cells) p None
  none_waits p e = slot_empty (place_of w) (rows_of cells table) h.lists h.slotted p e

  module _ (long : length table ≡ 64) (ds : List Cell) (c : Compartment) (i k : ℕ) where
    firsts_long : length (firsts_of table) ≡ 64
    firsts_long = length-map table first_of ∙ long

    counts_long : length (counts_of table) ≡ 64
    counts_long = length-map table count_of ∙ long

    -- item i, which does not wait, enters the compartment of key k
    pub linked : i < length (keys cells) → get_or (keys cells) i None ≡ None
        → c.chain.first ≡ fronted (nexts cells) i (get_or (firsts_of table) (place_of w k) None)
        → c.count ≡ get_or (counts_of table) (place_of w k) 0 + 1
        → nexts ds ≡ set (nexts cells) i (get_or (firsts_of table) (place_of w k) None)
        → prevs ds ≡ fronted_prevs (prevs cells) i (get_or (firsts_of table) (place_of w k) None)
        → keys ds ≡ set (keys cells) i (Some k)
        → RimSound w (later + 1) ds (set table (place_of w k) c)
    linked l n first count next prev key =
        let p = place_of w k in
        let in_table : p < 64 = place_lt w k in
        let firsts : firsts_of (set table p c) ≡ set (firsts_of table) p (fronted (nexts cells) i (get_or (firsts_of table) p None))
        = map-set first_of table p c ∙ ap (set (firsts_of table) p) first in
        let counts : counts_of (set table p c) ≡ set (counts_of table) p (get_or (counts_of table) p 0 + 1)
        = map-set count_of table p c ∙ ap (set (counts_of table) p) count in
        let all = slotted_entered (place_of w) (rows_of cells table) h.lists h.slotted i k l n (omega (arith, firsts_long)) in
        let rows : rows_of ds (set table p c) ≡ entered (place_of w) (rows_of cells table) i k = cc in
        record {
          lists = more h.lists p i;
          slotted = subst (λ v. Slotted (place_of w) v (more h.lists p i)) (sym rows) all;
          counted = λ t lt. subst (λ v. get_or v t 0 ≡ length (more h.lists p i t)) (sym counts)
              (counted_more (counts_of table) h.lists h.counted counts_long p in_table i t lt);
          later_is = let e = h.later_is in let a = held_enter (keys cells) i k l n in let b = ap held key in omega arith;
        }

    -- item i, which waits at key k, leaves its compartment
    pub unlinked_too : get_or (keys cells) i None ≡ Some k
        → c.chain.first ≡ unlinked (nexts cells) (prevs cells) i (get_or (firsts_of table) (place_of w k) None)
        → c.count ≡ get_or (counts_of table) (place_of w k) 0 - 1
        → nexts ds ≡ unlinked_nexts (nexts cells) (prevs cells) i
        → prevs ds ≡ unlinked_prevs (nexts cells) (prevs cells) i
        → keys ds ≡ set (keys cells) i None
        → RimSound w (later - 1) ds (set table (place_of w k) c)
    unlinked_too here first count next prev key =
        let p = place_of w k in
        let in_table : p < 64 = place_lt w k in
        let firsts : firsts_of (set table p c) ≡ set (firsts_of table) p (unlinked (nexts cells) (prevs cells) i (get_or (firsts_of table) p None))
        = map-set first_of table p c ∙ ap (set (firsts_of table) p) first in
        let counts : counts_of (set table p c) ≡ set (counts_of table) p (get_or (counts_of table) p 0 - 1)
        = map-set count_of table p c ∙ ap (set (counts_of table) p) count in
        let all = slotted_left (place_of w) (rows_of cells table) h.lists h.slotted i k here in
        let rows : rows_of ds (set table p c) ≡ left (place_of w) (rows_of cells table) i k = cc in
        record {
          lists = fewer h.lists p i;
          slotted = subst (λ v. Slotted (place_of w) v (fewer h.lists p i)) (sym rows) all;
          counted = λ t lt. subst (λ v. get_or v t 0 ≡ length (fewer h.lists p i t)) (sym counts)
              (counted_fewer (counts_of table) h.lists h.counted counts_long p in_table i (h.slotted.waits i k here) t lt);
          later_is =
              let e = h.later_is in let a = held_take (keys cells) i k (some_lt (keys cells) i k here) here in
              let b = ap held key in omega arith;
        }

-- The nearest item along a chain: every item of the list, at its key, is no nearer.
module _ (keys nexts : List (Option ℕ)) where
  -- an entry that waits, or none yet
  abbrev pub Waits : Option Entry → Type 0
  Waits None = Unit {0}
  Waits (Some e) = get_or keys e.item None ≡ Some e.key

  -- no farther than key k
  abbrev pub NoFarther : Option Entry → ℕ → Type 0
  NoFarther None k = ⊥
  NoFarther (Some e) k = e.key ≤ k

  pub scan_end : (n : ℕ) (best : Option Entry) → scan keys nexts n None best ≡ best
  scan_end zero best = refl
  scan_end (suc n) best = refl

  pub scan_none : (n : ℕ) (at : Option ℕ) (best : Option Entry) → at ≡ None → scan keys nexts n at best ≡ best
  scan_none n at best e = ap (λ v. scan keys nexts n v best) e ∙ scan_end n best

  nearer_waits : (best : Option Entry) (i : ℕ) (o : Option ℕ) → get_or keys i None ≡ o → Waits best → Waits (nearer best i o)
  nearer_waits best i None e h = h
  nearer_waits None i (Some k) e h = e
  nearer_waits (Some b) i (Some k) e h = cond_both (ltb k b.key) (Some (record { item = i; key = k })) (Some b) Waits (λ t. e) (λ t. h)

  nearer_new : (best : Option Entry) (i k : ℕ) → NoFarther (nearer best i (Some k)) k
  nearer_new None i k = omega arith
  nearer_new (Some b) i k = cond_both (ltb k b.key) (Some (record { item = i; key = k })) (Some b) (λ o. NoFarther o k)
      (λ t. omega arith) (λ t. ltb-false k b.key t)

  nearer_old : (best : Option Entry) (i : ℕ) (o : Option ℕ) (k : ℕ) → NoFarther best k → NoFarther (nearer best i o) k
  nearer_old best i None k h = h
  nearer_old None i (Some l) k h = absurd h
  nearer_old (Some b) i (Some l) k h = cond_both (ltb l b.key) (Some (record { item = i; key = l })) (Some b) (λ o. NoFarther o k)
      (λ t. let v = ltb-true l b.key t in omega arith) (λ t. h)

  scan_waits : (n : ℕ) (at : Option ℕ) (best : Option Entry) → Waits best → Waits (scan keys nexts n at best)
  scan_waits zero at best h = h
  scan_waits (suc n) None best h = h
  scan_waits (suc n) (Some i) best h =
      scan_waits n (get_or nexts i None) (nearer best i (get_or keys i None)) (nearer_waits best i (get_or keys i None) refl h)

  scan_old : (n : ℕ) (at : Option ℕ) (best : Option Entry) (k : ℕ) → NoFarther best k → NoFarther (scan keys nexts n at best) k
  scan_old zero at best k h = h
  scan_old (suc n) None best k h = h
  scan_old (suc n) (Some i) best k h =
      scan_old n (get_or nexts i None) (nearer best i (get_or keys i None)) k (nearer_old best i (get_or keys i None) k h)

  scan_chain : (n : ℕ) (at : Option ℕ) (best : Option Entry) (xs : List ℕ) → Chained nexts at xs → length xs ≤ n
      → (j k : ℕ) → Mem j xs → get_or keys j None ≡ Some k → NoFarther (scan keys nexts n at best) k
  scan_chain n at best [] c l j k m e = absurd m
  scan_chain zero at best (x ∷ xs) c l j k m e = absurd (omega arith)
  scan_chain (suc n) at best (x ∷ xs) c l j k m e =
      subst (λ a. NoFarther (scan keys nexts (suc n) a best) k) (sym c.0)
      (⊎_elim
      (λ q. scan_old n (get_or nexts x None) (nearer best x (get_or keys x None)) k
      (subst (λ o. NoFarther (nearer best x o) k) (sym (subst (λ y. get_or keys y None ≡ Some k) q e)) (nearer_new best x k)))
      (λ t. scan_chain n (get_or nexts x None) (nearer best x (get_or keys x None)) xs c.2 (omega arith) j k t e)
      m)

-- The walk along a chain that ends: how many steps are left, at most n, and what each does.
module _ (keys nexts : List (Option ℕ)) where
  abbrev pub steps : ℕ → Option ℕ → ℕ
  steps zero at = 0
  steps (suc n) None = 0
  steps (suc n) (Some i) = suc (steps n (get_or nexts i None))

  pub record Walk (n : ℕ) (at : Option ℕ) : Type 0 where
    pub list : List ℕ
    pub chained : Chained nexts at list
    pub short : length list ≤ n

  steps_are : (n : ℕ) (at : Option ℕ) (xs : List ℕ) → Chained nexts at xs → length xs ≤ n → steps n at ≡ length xs
  steps_are zero at [] c l = refl
  steps_are zero at (x ∷ xs) c l = absurd (omega arith)
  steps_are (suc n) at [] c l = ap (steps (suc n)) c
  steps_are (suc n) at (x ∷ xs) c l = ap (steps (suc n)) c.0 ∙ ap suc (steps_are n (get_or nexts x None) xs c.2 (omega arith))

  -- a step more than the list is long changes nothing
  scan_enough : (n : ℕ) (at : Option ℕ) (best : Option Entry) (xs : List ℕ) → Chained nexts at xs → length xs ≤ n
      → scan keys nexts (suc n) at best ≡ scan keys nexts n at best
  scan_enough n at best [] c l = scan_none keys nexts (suc n) at best c ∙ sym (scan_none keys nexts n at best c)
  scan_enough zero at best (x ∷ xs) c l = absurd (omega arith)
  scan_enough (suc n) at best (x ∷ xs) c l =
      ap (λ v. scan keys nexts (suc (suc n)) v best) c.0
      ∙ scan_enough n (get_or nexts x None) (nearer best x (get_or keys x None)) xs c.2 (omega arith)
      ∙ sym (ap (λ v. scan keys nexts (suc n) v best) c.0)

  pub record Step (n i : ℕ) : Type 0 where
    pub within : i < length nexts
    pub rest : Walk n (get_or nexts i None)
    pub smaller : steps n (get_or nexts i None) < steps n (Some i)
    pub same : (best : Option Entry) → scan keys nexts n (get_or nexts i None) (nearer best i (get_or keys i None)) ≡ scan keys nexts n (Some i) best

  step_along : (n i : ℕ) (xs : List ℕ) → Chained nexts (Some i) xs → length xs ≤ n → Step n i
  step_along n i [] c l = absurd (none_some c refl)
  step_along n i (x ∷ xs) c l =
      let is : i ≡ x = same_some refl c.0 in
      let after : Chained nexts (get_or nexts i None) xs = subst (λ v. Chained nexts (get_or nexts v None) xs) (sym is) c.2 in
      let a = steps_are n (Some i) (x ∷ xs) c l in
      let b = steps_are n (get_or nexts i None) xs after (omega arith) in
      let m : n ≡ suc (n - 1) = omega arith in
      record {
        within = let z = c.1 in omega arith;
        rest = record { list = xs; chained = after; short = omega arith };
        smaller = omega arith;
        same = λ best.
            ap (λ v. scan keys nexts v (get_or nexts i None) (nearer best i (get_or keys i None))) m
            ∙ scan_enough (n - 1) (get_or nexts i None) (nearer best i (get_or keys i None)) xs after (omega arith)
            ∙ ap (λ v. scan keys nexts v (Some i) best) (sym m);
      }

  pub step_of : (n i : ℕ) → Walk n (Some i) → Step n i
  step_of n i w = step_along n i w.list w.chained w.short

-- what is known of each rim
module _ (r : Rim) where
  pub later_is : r.later ≡ held (rim_keys r)
  later_is = ∥∥₁_elim r.sound (hlevel props) (λ h. h.later_is)

  pub keys_long : length (rim_keys r) ≡ r.cells.len
  keys_long = length-map r.cells.items cell_key ∙ sym r.cells.ok.0

  pub later_fits : r.later + 1 < 2 ^ 64
  later_fits =
      let most : r.later ≤ length (rim_keys r) = ∥∥₁_elim r.sound (hlevel props) (later_most r.width r.later r.cells.items r.table) in
      let e = keys_long in let z = r.cells.small in omega arith

  pub later_some : (i k : ℕ) → get_or (rim_keys r) i None ≡ Some k → 0 < r.later
  later_some i k here =
      ∥∥₁_elim r.sound (hlevel props) (λ h. later_held r.width r.later r.cells.items r.table h i k here)

  -- what `first_in` answers
  pub lies_none : (p : ℕ) → get_or (rim_firsts r) p None ≡ None → Lies r.width (rim_keys r) p None
  lies_none p e = ∥∥₁_elim r.sound (hlevel props) (λ h. none_waits r.width r.later r.cells.items r.table h p e)

  pub lies_some : (p i k : ℕ) → get_or (rim_firsts r) p None ≡ Some i → get_or (rim_keys r) i None ≡ Some k → place_of r.width k ≡ p
  lies_some p i k e here = ∥∥₁_elim r.sound (hlevel props)
      (λ h. let w = first_waits r.width r.later r.cells.items r.table h p i e in
      ap (place_of r.width) (same_some here w.1) ∙ w.2)

  pub first_has_key : (p i : ℕ) → get_or (rim_firsts r) p None ≡ Some i → get_or (rim_keys r) i None ≡ None → ⊥
  first_has_key p i e none = ∥∥₁_elim r.sound (hlevel props)
      (λ h. let w = first_waits r.width r.later r.cells.items r.table h p i e in none_some none w.1)

  -- the chain of a compartment, as the row has it
  pub first_at : length r.table ≡ 64 → (p : ℕ) → p < 64 → (get_or r.table p vacant).chain.first ≡ get_or (rim_firsts r) p None
  first_at long p l = sym (get_or-map first_of r.table p vacant None (omega arith))

  pub walk_from : length r.table ≡ 64 → (p : ℕ) → p < 64
      → ∥ Walk (rim_keys r) (rim_nexts r) (length (rim_keys r)) (get_or r.table p vacant).chain.first ∥₁
  walk_from long p l = ∥∥₁_map r.sound (λ h. record {
    list = h.lists p;
    chained = subst (λ v. Chained (rim_nexts r) v (h.lists p)) (sym (first_at long p l)) (h.slotted.chained p);
    short = slot_length (place_of r.width) (rows_of r.cells.items r.table) h.lists h.slotted p;
  })

  -- a step of a walk along a chain
  module _ (i : ℕ) (walk : ∥ Walk (rim_keys r) (rim_nexts r) (length (rim_keys r)) (Some i) ∥₁) where
    pub walk_within : i < length r.cells.items
    walk_within =
        let l : i < length (rim_nexts r) = ∥∥₁_elim walk (hlevel props) (λ w. (step_of (rim_keys r) (rim_nexts r) (length (rim_keys r)) i w).within) in
        let e = length-map r.cells.items cell_next in omega arith

    pub walk_rest : ∥ Walk (rim_keys r) (rim_nexts r) (length (rim_keys r)) (get_or (rim_nexts r) i None) ∥₁
    walk_rest = ∥∥₁_map walk (λ w. (step_of (rim_keys r) (rim_nexts r) (length (rim_keys r)) i w).rest)

    pub walk_smaller : steps (rim_keys r) (rim_nexts r) (length (rim_keys r)) (get_or (rim_nexts r) i None)
        < steps (rim_keys r) (rim_nexts r) (length (rim_keys r)) (Some i)
    walk_smaller = ∥∥₁_elim walk (hlevel props) (λ w. (step_of (rim_keys r) (rim_nexts r) (length (rim_keys r)) i w).smaller)

    pub walk_same : (best : Option Entry)
        → scan (rim_keys r) (rim_nexts r) (length (rim_keys r)) (get_or (rim_nexts r) i None) (nearer best i (get_or (rim_keys r) i None))
        ≡ scan (rim_keys r) (rim_nexts r) (length (rim_keys r)) (Some i) best
    walk_same best = ∥∥₁_elim walk (hlevel props) (λ w. (step_of (rim_keys r) (rim_nexts r) (length (rim_keys r)) i w).same best)

  -- a cell, as the rows have it
  pub key_at : (i : ℕ) (d : Cell) → i < length r.cells.items → (get_or r.cells.items i d).key ≡ get_or (rim_keys r) i None
  key_at i d l = sym (get_or-map cell_key r.cells.items i d None l)

  pub next_at : (i : ℕ) (d : Cell) → i < length r.cells.items → (get_or r.cells.items i d).next ≡ get_or (rim_nexts r) i None
  next_at i d l = sym (get_or-map cell_next r.cells.items i d None l)

  -- nothing waits where nothing is counted
  pub idle : r.later ≡ 0 → rim_keys r ≡ replicate (length (rim_keys r)) None
  idle z = none_held (rim_keys r) (sym later_is ∙ z)

  -- The compartment of key k, as `link` and `unlink` read it.
  module _ (long : length r.table ≡ 64) (k p : ℕ) (place : p ≡ place_of r.width k) where
    in_table : p < 64
    in_table = let z = place_lt r.width k in omega arith

    first_is : (get_or r.table p vacant).chain.first ≡ get_or (rim_firsts r) (place_of r.width k) None
    first_is = first_at long p in_table ∙ ap (λ v. get_or (rim_firsts r) v None) place

    count_is : (get_or r.table p vacant).count ≡ get_or (rim_counts r) (place_of r.width k) 0
    count_is = sym (get_or-map count_of r.table p vacant 0 (let z = in_table in omega arith)) ∙ ap (λ v. get_or (rim_counts r) v 0) place

    pub count_fits : (get_or r.table p vacant).count + 1 < 2 ^ 64
    count_fits =
        let most : get_or (rim_counts r) (place_of r.width k) 0 ≤ length (rim_keys r) = ∥∥₁_elim r.sound (hlevel props)
        (λ h. count_most r.width r.later r.cells.items r.table h (place_of r.width k) (place_lt r.width k)) in
        let e = keys_long in let z = r.cells.small in let n = count_is in omega arith

    pub count_some : (i : ℕ) → get_or (rim_keys r) i None ≡ Some k → 0 < (get_or r.table p vacant).count
    count_some i here =
        let most : 0 < get_or (rim_counts r) (place_of r.width k) 0 = ∥∥₁_elim r.sound (hlevel props)
        (λ h. count_held r.width r.later r.cells.items r.table h i k here) in
        let n = count_is in omega arith

    -- the cells are changed through a lent slice
    module _ (es ds : List Cell) (lent : es ≡ r.cells.items) (c : Compartment) (i : ℕ) where
      filled : (o : Option ℕ) → keys ds ≡ set (keys es) i o → (with_items r.cells ds).items ≡ ds
      filled o key = with_items_is r.cells ds
          (sym (length-map ds cell_key) ∙ ap length key ∙ length-set (keys es) i o ∙ length-map es cell_key ∙ ap length lent ∙ sym r.cells.ok.0)

      pub link_sound : i < r.cells.len → get_or (rim_keys r) i None ≡ None
          → c.chain.first ≡ fronted (nexts es) i (get_or r.table p vacant).chain.first
          → c.count ≡ (get_or r.table p vacant).count + 1
          → nexts ds ≡ set (nexts es) i (get_or r.table p vacant).chain.first
          → prevs ds ≡ fronted_prevs (prevs es) i (get_or r.table p vacant).chain.first
          → keys ds ≡ set (keys es) i (Some k)
          → ∥ RimSound r.width (r.later + 1) (with_items r.cells ds).items (set r.table p c) ∥₁
      link_sound l none first count next prev key = ∥∥₁_map r.sound
          (λ h. let e = first_is in let n = count_is in let f = filled (Some k) key in
          subst (λ v. RimSound r.width (r.later + 1) v (set r.table p c)) (sym f)
          (subst (λ v. RimSound r.width (r.later + 1) ds (set r.table v c)) (sym place)
          (linked r.width r.later r.cells.items r.table h long ds c i k (let z = keys_long in omega arith) none
          (first ∙ ap (λ v. fronted (nexts es) i v) e ∙ ap (λ v. fronted (nexts v) i (get_or (rim_firsts r) (place_of r.width k) None)) lent)
          (count ∙ ap (λ v. v + 1) n)
          (next ∙ ap (λ v. set (nexts es) i v) e ∙ ap (λ v. set (nexts v) i (get_or (rim_firsts r) (place_of r.width k) None)) lent)
          (prev ∙ ap (λ v. fronted_prevs (prevs es) i v) e ∙ ap (λ v. fronted_prevs (prevs v) i (get_or (rim_firsts r) (place_of r.width k) None)) lent)
          (key ∙ ap (λ v. set (keys v) i (Some k)) lent))))

      pub unlink_sound : get_or (rim_keys r) i None ≡ Some k
          → c.chain.first ≡ unlinked (nexts es) (prevs es) i (get_or r.table p vacant).chain.first
          → c.count ≡ (get_or r.table p vacant).count - 1
          → nexts ds ≡ unlinked_nexts (nexts es) (prevs es) i
          → prevs ds ≡ unlinked_prevs (nexts es) (prevs es) i
          → keys ds ≡ set (keys es) i None
          → ∥ RimSound r.width (r.later - 1) (with_items r.cells ds).items (set r.table p c) ∥₁
      unlink_sound here first count next prev key = ∥∥₁_map r.sound
          (λ h. let e = first_is in let n = count_is in let f = filled None key in
          subst (λ v. RimSound r.width (r.later - 1) v (set r.table p c)) (sym f)
          (subst (λ v. RimSound r.width (r.later - 1) ds (set r.table v c)) (sym place)
          (unlinked_too r.width r.later r.cells.items r.table h long ds c i k here
          (first ∙ ap (λ v. unlinked (nexts es) (prevs es) i v) e ∙ ap (λ v. unlinked (nexts v) (prevs v) i (get_or (rim_firsts r) (place_of r.width k) None)) lent)
          (count ∙ ap (λ v. v - 1) n)
          (next ∙ ap (λ v. unlinked_nexts (nexts v) (prevs v) i) lent)
          (prev ∙ ap (λ v. unlinked_prevs (nexts v) (prevs v) i) lent)
          (key ∙ ap (λ v. set (keys v) i None) lent))))

-- one proof at most that an entry is a least one
least_prop : (ks : List (Option ℕ)) (o : Option Entry) → IsProp (Least (record { waits = ks; floor = 0; band = 0 }) o)
least_prop ks None = hlevel props
least_prop ks (Some e) = hlevel props

-- a list that is not empty has a first item
some_item : (xs : List ℕ) → 0 < length xs → (x : ℕ) × Mem x xs
some_item [] l = absurd (omega arith)
some_item (x ∷ xs) l = (x, inl refl)

no_item : (xs : List ℕ) (i : ℕ) → length xs ≡ 0 → Mem i xs → ⊥
no_item [] i l m = m
no_item (x ∷ xs) i l m = absurd (omega arith)

-- While each key lies in one of the 64 compartments after number a, the rim names a least item.
module _ (r : Rim) (h : RimSound r.width r.later r.cells.items r.table) (a : ℕ)
    (window : (i k : ℕ) → get_or (rim_keys r) i None ≡ Some k → (a < k / r.width) × (k / r.width ≤ a + 64)) where
  -- a compartment that counts nothing has no key
  bare_place : (i k : ℕ) → get_or (rim_keys r) i None ≡ Some k → get_or (rim_counts r) (place_of r.width k) 0 ≡ 0 → ⊥
  bare_place i k e z =
      no_item (h.lists (place_of r.width k)) i (sym (h.counted (place_of r.width k) (place_lt r.width k)) ∙ z)
      (h.slotted.waits i k e)

  -- the keys of the first compartment that holds something come before all others
  module _ (p : ℕ) (s : First (rim_counts r) a 64 p) (x kx : ℕ) (member : Mem x (h.lists p))
      (key : get_or (rim_keys r) x None ≡ Some kx) (place : place_of r.width kx ≡ p) where
    number_is : kx / r.width ≡ s.number
    number_is =
        let v = window x kx key in
        same_place (a + 1) (kx / r.width) s.number (omega arith) (omega arith)
        (let z = s.after in omega arith) (let z = s.within in omega arith) (place ∙ s.place)

    abbrev NoFartherThan : ℕ → Type 0
    NoFartherThan k = NoFarther (rim_keys r) (rim_nexts r) (least_at r (Some p)) k

    in_place : (j l : ℕ) → Mem j (h.lists p) → get_or (rim_keys r) j None ≡ Some l → NoFartherThan l
    in_place j l m e =
        scan_chain (rim_keys r) (rim_nexts r) (length (rim_keys r)) (get_or (rim_firsts r) p None) None (h.lists p)
        (h.slotted.chained p) (slot_length (place_of r.width) (rows_of r.cells.items r.table) h.lists h.slotted p) j l m e

    farther : (o : Option Entry) (k l : ℕ) → k ≤ l → NoFarther (rim_keys r) (rim_nexts r) o k → NoFarther (rim_keys r) (rim_nexts r) o l
    farther None k l le f = f
    farther (Some e) k l le f = omega arith

    beyond : (j l : ℕ) → get_or (rim_keys r) j None ≡ Some l → (place_of r.width l ≡ p → ⊥) → NoFartherThan l
    beyond j l e other =
        let v = window j l e in
        let n = number_is in
        let past : s.number < l / r.width = ⊎_elim
        (λ before. absurd (bare_place j l e (s.bare (l / r.width) v.0 before)))
        (λ from. ⊎_elim (λ same. absurd (other (ap (λ q. q % 64) same ∙ sym s.place))) (λ ne. omega arith)
        (cases_eq (l / r.width) s.number))
        (cases_lt (l / r.width) s.number) in
        let lt : kx < l = quotient_lt r.width kx l (omega arith) in
        farther (least_at r (Some p)) kx l (omega arith) (in_place x kx member key)

    lowest_there : (j l : ℕ) → get_or (rim_keys r) j None ≡ Some l → NoFartherThan l
    lowest_there j l e = ⊎_elim
        (λ q. in_place j l (subst (λ t. Mem j (h.lists t)) q (h.slotted.waits j l e)) e)
        (beyond j l e)
        (cases_eq (place_of r.width l) p)

    least_there : (o : Option Entry) → least_at r (Some p) ≡ o → Least (record { waits = rim_keys r; floor = 0; band = 0 }) o
    least_there None q = absurd (subst (λ v. NoFarther (rim_keys r) (rim_nexts r) v kx) q (in_place x kx member key))
    least_there (Some e) q = (
      subst (λ v. Waits (rim_keys r) (rim_nexts r) v) q
          (scan_waits (rim_keys r) (rim_nexts r) (length (rim_keys r)) (get_or (rim_firsts r) p None) None tt),
      λ j l k. subst (λ v. NoFarther (rim_keys r) (rim_nexts r) v l) q (lowest_there j l k),
    )

  least_is : (o : Option ℕ) → Sought (rim_counts r) a 64 o → Least (record { waits = rim_keys r; floor = 0; band = 0 }) (least_at r o)
  least_is None s = λ j. none_read (get_or (rim_keys r) j None)
      (λ k e. let v = window j k e in bare_place j k e (s (k / r.width) v.0 (omega arith)))
  least_is (Some p) s =
      let small : p < 64 = (let y = s.place in let z = mod-lt s.number {m = 64} (omega arith) in omega arith) in
      let count : 0 < length (h.lists p) = (let c = h.counted p small in let z = s.holds in omega arith) in
      let x = some_item (h.lists p) count in
      let kx = h.slotted.key p x.0 x.1 in
      least_there p s x.0 kx.0 x.1 kx.1 kx.2 (least_at r (Some p)) refl

  sound_least : Least (record { waits = rim_keys r; floor = 0; band = 0 }) (rim_least a r)
  sound_least = least_is (first_held (rim_counts r) 64 a) (sought (rim_counts r) 64 a)

pub rim_least_is : (r : Rim) (a : ℕ)
    → ((i k : ℕ) → get_or (rim_keys r) i None ≡ Some k → (a < k / r.width) × (k / r.width ≤ a + 64))
    → Least (record { waits = rim_keys r; floor = 0; band = 0 }) (rim_least a r)
rim_least_is r a window = ∥∥₁_elim r.sound (least_prop (rim_keys r) (rim_least a r)) (λ h. sound_least r h a window)

-- what the check is to apply at each call of a rim
pub ruleset blanks = (blank_sound, blank_keys, keys_long, idle)

pub ruleset lying = (first_at, first_has_key, lies_none, lies_some)

pub ruleset linking = (count_fits, link_sound)

pub ruleset unlinking = (later_some, count_some, unlink_sound)

pub ruleset walking = (first_at, key_at, next_at, walk_from, walk_within, walk_rest, walk_smaller, walk_same)
