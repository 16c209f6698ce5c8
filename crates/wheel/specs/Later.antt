-- Which item the wheel names in its compartments: one of least key in the first later compartment that holds something.
--   first_held  the first compartment after number q that holds something, looking at the next n of the 64
--   nearer      the nearer of an entry and the item read next, the first where their keys are equal
--   scan        the nearest item along a chain's links, at most n of them
use Rattle.std.specs.Prelude.{ℕ, zero, suc, ◌%◌, cond, List, Some, None, Option, nat_lt, slice_index, slice_index_or}
use Rattle.queue.specs.declared.Entry.{Entry}

unfoldable pub first_held : List ℕ → ℕ → ℕ → Option ℕ
first_held counts zero q = None
first_held counts (suc n) q =
    cond (nat_lt 0 (slice_index counts (suc q % 64))) (Some (suc q % 64)) (first_held counts n (suc q))

abbrev pub nearer : Option Entry → ℕ → Option ℕ → Option Entry
nearer best i None = best
nearer None i (Some k) = Some (record { item = i; key = k })
nearer (Some e) i (Some k) = cond (nat_lt k e.key) (Some (record { item = i; key = k })) (Some e)

abbrev pub scan : List (Option ℕ) → List (Option ℕ) → ℕ → Option ℕ → Option Entry → Option Entry
scan keys nexts zero at best = best
scan keys nexts (suc n) None best = best
scan keys nexts (suc n) (Some i) best = scan keys nexts n (slice_index_or nexts i None) (nearer best i (slice_index_or keys i None))
