-- One turn of each sift, and its end.
use Rattle.std.proofs.Common.{◌≡◌, ℕ, ◌<◌, ◌≤◌, ◌≢◌, List, sym, subst, arith}
use Rattle.heap.specs.declared.Cell.{Cell}
use Rattle.heap.specs.Cells.{rank, swapped}
use Rattle.heap.specs.Order.{Linked, Rising, Sinking, Heaped, Lower, parent}
use Rattle.heap.proofs.Trees.{ordered_from_rising, ordered_from_sinking, rises, sinks}
use Rattle.heap.proofs.Links.{linked_swapped, ranks_swapped}

module _ (cells : List Cell) (n p : ℕ) (l : Linked cells n) where
  pub up_ends : Rising (rank cells) n p → (0 < p → rank cells (parent p) ≤ rank cells p) → Heaped cells n
  up_ends u h = record { linked = l; ordered = ordered_from_rising (rank cells) n p u h }

  pub up_again : (after : List Cell) → after ≡ swapped cells p (parent p) → Rising (rank cells) n p → 0 < p
      → rank cells p < rank cells (parent p) → Linked after n × Rising (rank after) n (parent p)
  up_again after e u h lt =
      let i : p < n = u.inside in
      let q : parent p < n = omega arith in
      let ne : p ≢ parent p = omega arith in
      let P : List Cell → Type 0 = λ row. Linked row n × Rising (rank row) n (parent p) in
      subst P (sym e) (
        linked_swapped cells n l p (parent p) i q ne,
        rises (rank cells) (rank (swapped cells p (parent p))) n p h u (ranks_swapped cells n l p (parent p) i q ne) lt,
      )

  pub down_ends : Sinking (rank cells) n p → ((c : ℕ) → 0 < c → c < n → parent c ≡ p → rank cells p ≤ rank cells c) → Heaped cells n
  down_ends u h = record { linked = l; ordered = ordered_from_sinking (rank cells) n p u h }

  pub down_again : (q : ℕ) (after : List Cell) → after ≡ swapped cells p q → Sinking (rank cells) n p → Lower (rank cells) n p q
      → rank cells q < rank cells p → Linked after n × Sinking (rank after) n q
  down_again q after e u low lt =
      let later : p < q = low.later in
      let j : q < n = low.inside in
      let i : p < n = omega arith in
      let ne : p ≢ q = omega arith in
      let P : List Cell → Type 0 = λ row. Linked row n × Sinking (rank row) n q in
      subst P (sym e) (
        linked_swapped cells n l p q i j ne,
        sinks (rank cells) (rank (swapped cells p q)) n p q u low (ranks_swapped cells n l p q i j ne) lt,
      )
