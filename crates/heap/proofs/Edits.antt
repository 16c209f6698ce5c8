-- A heap with one item more, one at a lower key, and one less, each but for the sift that follows.
use Rattle.std.proofs.Common.{◌≡◌, ℕ, ◌+◌, ◌-◌, ◌<◌, ◌≤◌, ◌≢◌, List, length, Some, None, sym, ap, ◌∙◌, subst, arith}
use Rattle.heap.specs.declared.Cell.{Cell}
use Rattle.heap.specs.Cells.{key_at, place_at, item_at, rank, keyed, stood}
use Rattle.heap.specs.Order.{Linked, Ordered, Rising, Sinking, Heaped}
use Rattle.heap.proofs.Rows.{item_inside, Rekeys, rekeys, Moves, moves}
use Rattle.heap.proofs.Trees.{rising_lowered, rising_entered, sinking_removed, root_least}
use Rattle.heap.proofs.Links.{apart, rank_from_key}

-- item i, which does not wait, enters at the place n
module _
    (cells mid after : List Cell)
    (n i k : ℕ)
    (l : Linked cells n)
    (none : key_at cells i ≡ None)
    (room : n < length cells)
    (R : Rekeys cells mid i (Some k))
    (M : Moves mid after n i) where
  enter_key : (p : ℕ) → p < n → key_at after (item_at after p) ≡ key_at cells (item_at cells p)
  enter_key p h = grind arith

  enter_linked : Linked after (n + 1)
  enter_linked = record {
    few = let a = M.len in let b = R.len in omega arith;
    waits = λ p h. grind arith;
    stands = λ p h. grind arith;
    below = λ j x e. let was = l.below j x in grind arith;
    back = λ j x e. let was = l.back j x in let below = l.below j x in grind arith;
  }

  enter_rising : Ordered (rank cells) n → Rising (rank after) (n + 1) n
  enter_rising o =
      rising_entered (rank cells) (rank after) n o (λ p h. rank_from_key cells after p p (enter_key p h))

-- item i waits at old, and is given the key k
module _
    (cells after : List Cell)
    (n i old k : ℕ)
    (l : Linked cells n)
    (some : key_at cells i ≡ Some old)
    (R : Rekeys cells after i (Some k)) where
  lower_key : (p : ℕ) → p < n → p ≢ place_at cells i → key_at after (item_at after p) ≡ key_at cells (item_at cells p)
  lower_key p h ne = grind arith

  -- an item that waits after waited before
  lower_old : (j x : ℕ) → key_at after j ≡ Some x → (y : ℕ) × (key_at cells j ≡ Some y)
  lower_old j x e = grind arith

  lower_linked : Linked after n
  lower_linked = record {
    few = let few = l.few in let len = R.len in omega arith;
    waits = λ p h. grind arith;
    stands = λ p h. grind arith;
    below = λ j x e. let o = lower_old j x e in let was = l.below j o.0 o.1 in grind arith;
    back = λ j x e. let o = lower_old j x e in let was = l.back j o.0 o.1 in grind arith;
  }

  lower_rising : Ordered (rank cells) n → k ≤ old → Rising (rank after) n (place_at cells i)
  lower_rising o le =
      let back = l.back i old some in
      rising_lowered (rank cells) (rank after) n (place_at cells i) o (l.below i old some) (grind arith)
      (λ p h ne. rank_from_key cells after p p (lower_key p h ne))

-- the item x of the last place moves to the place of item i, which waits no more
module _
    (cells mid after : List Cell)
    (n i k : ℕ)
    (l : Linked cells n)
    (some : key_at cells i ≡ Some k)
    (M : Moves cells mid (place_at cells i) (item_at cells (n - 1)))
    (R : Rekeys mid after i None) where
  take_key : (p : ℕ) → p < n → p ≢ place_at cells i → key_at after (item_at after p) ≡ key_at cells (item_at cells p)
  take_key p h ne = grind arith

  take_key_there : place_at cells i < n - 1
      → key_at after (item_at after (place_at cells i)) ≡ key_at cells (item_at cells (n - 1))
  take_key_there h = grind arith

  take_old : (j x : ℕ) → key_at after j ≡ Some x → key_at cells j ≡ Some x
  take_old j x e = grind arith

  take_linked : Linked after (n - 1)
  take_linked =
      let inside = l.below i k some in
      let stood = l.back i k some in
      record {
        few = let few = l.few in let a = M.len in let b = R.len in omega arith;
        waits = λ p h. let last = l.waits (n - 1) in grind arith;
        stands = λ p h. let other = apart cells n l p (n - 1) in grind arith;
        below = λ j x e.
            let old = take_old j x e in let was = l.below j x old in let back = l.back j x old in grind arith;
        back = λ j x e.
            let old = take_old j x e in let was = l.below j x old in let back = l.back j x old in grind arith;
      }

  take_sinking : Ordered (rank cells) n → k ≤ rank cells 0 → Sinking (rank after) (n - 1) (place_at cells i)
  take_sinking o low =
      let back = l.back i k some in
      sinking_removed (rank cells) (rank after) n (place_at cells i) o (l.below i k some)
      (λ p h. let r = root_least (rank cells) n o n p h h in grind arith)
      (λ p h ne. rank_from_key cells after p p (take_key p (omega arith) ne))
      (λ h. rank_from_key cells after (place_at cells i) (n - 1) (take_key_there h))

pub entered : (cells mid after : List Cell) (n i k : ℕ) → mid ≡ keyed cells i (Some k) → after ≡ stood mid n i → Heaped cells n
    → key_at cells i ≡ None → i < length cells → n < length cells → Linked after (n + 1) × Rising (rank after) (n + 1) n
entered cells mid after n i k e f h none li ln =
    let P : List Cell → Type 0 = λ row. Rekeys cells row i (Some k) in
    let R : Rekeys cells mid i (Some k) = subst P (sym e) (rekeys cells i (Some k) li) in
    let len = R.len in
    let Q : List Cell → Type 0 = λ row. Moves mid row n i in
    let M : Moves mid after n i = subst Q (sym f) (moves mid n i (omega arith) (omega arith)) in (
      enter_linked cells mid after n i k h.linked none ln R M,
      enter_rising cells mid after n i k h.linked none ln R M h.ordered,
    )

pub lowered : (cells after : List Cell) (n i old k p : ℕ) → p ≡ place_at cells i → after ≡ keyed cells i (Some k) → Heaped cells n
    → key_at cells i ≡ Some old → k ≤ old → Linked after n × Rising (rank after) n p
lowered cells after n i old k p a e h some le =
    let P : List Cell → Type 0 = λ row. Rekeys cells row i (Some k) in
    let R : Rekeys cells after i (Some k) = subst P (sym e) (rekeys cells i (Some k) (item_inside cells i old some)) in
    let Q : ℕ → Type 0 = λ q. Rising (rank after) n q in (
      lower_linked cells after n i old k h.linked some R,
      subst Q (sym a) (lower_rising cells after n i old k h.linked some R h.ordered le),
    )

pub taken : (cells mid after : List Cell) (n i k p m x : ℕ) → p ≡ place_at cells i → m ≡ n - 1 → x ≡ item_at cells m
    → mid ≡ stood cells p x → after ≡ keyed mid i None → Heaped cells n → key_at cells i ≡ Some k → k ≤ rank cells 0
    → Linked after m × Sinking (rank after) m p
taken cells mid after n i k p m x a b d e f h some low =
    let l : Linked cells n = h.linked in
    let few = l.few in
    let inside = l.below i k some in
    let last : n - 1 < n = omega arith in
    let q : ℕ = place_at cells i in
    let y : ℕ = item_at cells (n - 1) in
    let xy : x ≡ y = d ∙ ap (item_at cells) b in
    let whole : mid ≡ stood cells q y = e ∙ ap (λ v. stood cells v x) a ∙ ap (stood cells q) xy in
    let P : List Cell → Type 0 = λ row. Moves cells row q y in
    let M : Moves cells mid q y =
    subst P (sym whole) (moves cells q y (omega arith) (item_inside cells y _ (l.waits (n - 1) last))) in
    let long = M.len in
    let Q : List Cell → Type 0 = λ row. Rekeys mid row i None in
    let there = item_inside cells i k some in
    let R : Rekeys mid after i None = subst Q (sym f) (rekeys mid i None (omega arith)) in
    let S : ℕ → Type 0 = λ c. Linked after c in
    let T : ℕ → Type 0 = λ c. Sinking (rank after) c q in
    let U : ℕ → Type 0 = λ c. Sinking (rank after) m c in (
      subst S (sym b) (take_linked cells mid after n i k l some M R),
      subst U (sym a) (subst T (sym b) (take_sinking cells mid after n i k l some M R h.ordered low)),
    )
