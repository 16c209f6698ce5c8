-- The places and the items stay each other's inverse: over an exchange of two places, an entering, another key and a
-- removal.
use Rattle.std.proofs.Common.{◌≡◌, ℕ, ◌<◌, ◌≢◌, List, length, sym, ◌∙◌, arith}
use Rattle.heap.specs.declared.Cell.{Cell}
use Rattle.heap.specs.Cells.{key_at, place_at, item_at, rank, stood, swapped}
use Rattle.heap.specs.Order.{Linked}
use Rattle.heap.proofs.Rows.{item_inside, moves}
use Rattle.heap.proofs.Trees.{Exchange}

pub rank_from_key : (cells after : List Cell) (p q : ℕ)
    → key_at after (item_at after p) ≡ key_at cells (item_at cells q) → rank after p ≡ rank cells q
rank_from_key cells after p q e = grind arith

-- two places hold two items
pub apart : (cells : List Cell) (n : ℕ) → Linked cells n → (p q : ℕ) → p < n → q < n → p ≢ q → item_at cells p ≢ item_at cells q
apart cells n l p q hp hq ne e = grind arith

-- after is cells with the items of p and q exchanged
record Swaps (cells after : List Cell) (p q : ℕ) : Type 0 where
  first : item_at after p ≡ item_at cells q
  second : item_at after q ≡ item_at cells p
  others : (r : ℕ) → r ≢ p → r ≢ q → item_at after r ≡ item_at cells r
  down : place_at after (item_at cells p) ≡ q
  up : place_at after (item_at cells q) ≡ p
  stay : (j : ℕ) → j ≢ item_at cells p → j ≢ item_at cells q → place_at after j ≡ place_at cells j
  key : (j : ℕ) → key_at after j ≡ key_at cells j
  len : length after ≡ length cells

module _ (cells : List Cell) (n : ℕ) (l : Linked cells n) (p q : ℕ) (hp : p < n) (hq : q < n) (ne : p ≢ q) where
  swaps : Swaps cells (swapped cells p q) p q
  swaps =
      let few = l.few in
      let a = item_inside cells _ _ (l.waits p hp) in
      let b = item_inside cells _ _ (l.waits q hq) in
      let m = moves cells p (item_at cells q) (omega arith) b in
      let long = m.len in
      let w = moves (stood cells p (item_at cells q)) q (item_at cells p) (omega arith) (omega arith) in
      record {
        first = w.item_others p ne ∙ m.item_there;
        second = w.item_there;
        others = λ r np nq. w.item_others r nq ∙ m.item_others r np;
        down = w.place_there;
        up = w.place_others _ (λ e. apart cells n l p q hp hq ne (sym e)) ∙ m.place_there;
        stay = λ j na nb. w.place_others j na ∙ m.place_others j nb;
        key = λ j. w.key j ∙ m.key j;
        len = w.len ∙ long;
      }

module _
    (cells after : List Cell)
    (n : ℕ)
    (l : Linked cells n)
    (p q : ℕ)
    (hp : p < n)
    (hq : q < n)
    (ne : p ≢ q)
    (w : Swaps cells after p q) where
  swap_linked : Linked after n
  swap_linked = record {
    few = let few = l.few in let len = w.len in omega arith;
    waits = λ r h. grind arith;
    stands = λ r h. let x = apart cells n l r p in let y = apart cells n l r q in grind arith;
    below = λ i k e. let was = l.below i k in grind arith;
    back = λ i k e. let was = l.back i k in grind arith;
  }

  swap_ranks : Exchange (rank cells) (rank after) n p q
  swap_ranks = grind arith

module _ (cells : List Cell) (n : ℕ) (l : Linked cells n) (p q : ℕ) (hp : p < n) (hq : q < n) (ne : p ≢ q) where
  pub linked_swapped : Linked (swapped cells p q) n
  linked_swapped = swap_linked cells _ n l p q hp hq ne (swaps cells n l p q hp hq ne)

  pub ranks_swapped : Exchange (rank cells) (rank (swapped cells p q)) n p q
  ranks_swapped = swap_ranks cells _ n l p q hp hq ne (swaps cells n l p q hp hq ne)
