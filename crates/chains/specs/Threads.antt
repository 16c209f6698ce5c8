-- Lists that rows of links thread.
--   Mem       an element stands in a list
--   Distinct  no element stands in a list twice
--   without   a list without an element
--   Chained   the next links lead from a head through a list, and end there
--   Backed    the previous links lead back through the list
-- Singly linked elements make `Chained` lists; doubly linked ones make lists that are `Backed` too.
-- Mem and Distinct go along the list, as Chained does; std's Contains goes by places, and its IsDistinct takes a test.
use Rattle.std.specs.Prelude.{◌≡◌, ℕ, ◌<◌, cond, ◌⊎◌, List, [], ◌∷◌, length, Some, None, Option, ◌==◌, slice_index_or}

abbrev pub Mem : ℕ → List ℕ → Type 0
Mem i [] = ⊥
Mem i (x ∷ xs) = (i ≡ x) ⊎ Mem i xs

abbrev pub Distinct : List ℕ → Type 0
Distinct [] = Unit {0}
Distinct (x ∷ xs) = (Mem x xs → ⊥) × Distinct xs

abbrev pub without : ℕ → List ℕ → List ℕ
without i [] = []
without i (x ∷ xs) = cond (x == i) xs (x ∷ without i xs)

abbrev pub Chained : List (Option ℕ) → Option ℕ → List ℕ → Type 0
Chained nexts head [] = head ≡ None
Chained nexts head (x ∷ xs) = (head ≡ Some x) × (x < length nexts) × Chained nexts (slice_index_or nexts x None) xs

-- `before` is what stands before the list
abbrev pub Backed : List (Option ℕ) → Option ℕ → List ℕ → Type 0
Backed prevs before [] = Unit {0}
Backed prevs before (x ∷ xs) = (slice_index_or prevs x None ≡ before) × Backed prevs (Some x) xs
