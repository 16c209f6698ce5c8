-- The listing of a table, byte by byte. Assumes nothing.
--   fields       numbers in decimal, each after one blank
--   line         a mark, its fields and a line end
--   pair_line    the line of a pair: its value, or that there is none
--   in_order     what is made of 0, 1, .. below a number, one after the other
--   total        the sum of what is made of them
--   has          1 for a value, 0 for none
--   row          the lines of the pairs from one point
--   rows         the lines of all pairs, row by row
--   found_from   how many pairs from one point have a value
--   found_pairs  how many pairs have a value
--   listing      the whole
use Rattle.std.specs.Prelude.{ℕ, zero, suc, ◌+◌, List, [], ◌∷◌, ◌++◌, Some, None, codes, decimal, Option}

-- 32 is a blank
abbrev pub fields : List ℕ → List ℕ
fields [] = []
fields (n ∷ ns) = (32 ∷ decimal n) ++ fields ns

-- 10 is a line end
unfoldable pub line : List ℕ → List ℕ → List ℕ
line mark ns = mark ++ (fields ns ++ (10 ∷ []))

abbrev pub pair_line : ℕ → ℕ → Option ℕ → List ℕ
pair_line u v (Some value) = line (codes "PR") (u ∷ v ∷ value ∷ [])
pair_line u v None = line (codes "NO") (u ∷ v ∷ [])

abbrev pub in_order : ℕ → (ℕ → List ℕ) → List ℕ
in_order zero f = []
in_order (suc n) f = in_order n f ++ f n

abbrev pub total : ℕ → (ℕ → ℕ) → ℕ
total zero f = 0
total (suc n) f = total n f + f n

abbrev pub has : Option ℕ → ℕ
has (Some value) = 1
has None = 0

-- from here on n is the number of points, and value u v what the table has for the pair from u to v
abbrev pub row : ℕ → (ℕ → ℕ → Option ℕ) → ℕ → List ℕ
row n value u = in_order n (λ v. pair_line u v (value u v))

abbrev pub rows : ℕ → (ℕ → ℕ → Option ℕ) → List ℕ
rows n value = in_order n (row n value)

abbrev pub found_from : ℕ → (ℕ → ℕ → Option ℕ) → ℕ → ℕ
found_from n value u = total n (λ v. has (value u v))

abbrev pub found_pairs : ℕ → (ℕ → ℕ → Option ℕ) → ℕ
found_pairs n value = total n (found_from n value)

unfoldable pub listing : ℕ → (ℕ → ℕ → Option ℕ) → List ℕ
listing n value = line (codes "TB") (n ∷ []) ++ (rows n value ++ line (codes "EN") (found_pairs n value ∷ []))
