-- What a call does to a chain and to the rows of links.
--   put_at          a row with a value at a place, if there is a place
--   onward          the element after a chain's head
--   fronted         a chain's head once element i is put in front
--   fronted_prevs   the previous links then
--   unlinked        a chain's head once element i is taken out
--   unlinked_nexts  the next links then
--   unlinked_prevs  the previous links then
use Rattle.std.specs.Prelude.{ℕ, cond, List, length, Some, None, Option, nat_lt, slice_index_or, slice_set}

abbrev pub put_at : List (Option ℕ) → Option ℕ → Option ℕ → List (Option ℕ)
put_at row None v = row
put_at row (Some i) v = slice_set row i v

abbrev pub onward : List (Option ℕ) → Option ℕ → Option ℕ
onward nexts None = None
onward nexts (Some i) = slice_index_or nexts i None

abbrev pub fronted : List (Option ℕ) → ℕ → Option ℕ → Option ℕ
fronted nexts i head = cond (nat_lt i (length nexts)) (Some i) head

abbrev pub fronted_prevs : List (Option ℕ) → ℕ → Option ℕ → List (Option ℕ)
fronted_prevs prevs i head = cond (nat_lt i (length prevs)) (slice_set (put_at prevs head (Some i)) i None) prevs

-- a head once an element with these links is taken out: it stays where another element stands before
abbrev pub bypassed : Option ℕ → Option ℕ → Option ℕ → Option ℕ
bypassed None next head = next
bypassed (Some p) next head = head

abbrev pub unlinked : List (Option ℕ) → List (Option ℕ) → ℕ → Option ℕ → Option ℕ
unlinked nexts prevs i head = cond (nat_lt i (length nexts)) (bypassed (slice_index_or prevs i None) (slice_index_or nexts i None) head) head

abbrev pub unlinked_nexts : List (Option ℕ) → List (Option ℕ) → ℕ → List (Option ℕ)
unlinked_nexts nexts prevs i = put_at nexts (slice_index_or prevs i None) (slice_index_or nexts i None)

abbrev pub unlinked_prevs : List (Option ℕ) → List (Option ℕ) → ℕ → List (Option ℕ)
unlinked_prevs nexts prevs i = put_at prevs (slice_index_or nexts i None) (slice_index_or prevs i None)
