-- The form of a sheet, as bytes.
--   Begins P bs   the first byte of bs is there and is such a byte
--   Figure        one of the ten decimal figures
--   letters       the two letters of a mark, ST, LG or EN
--   width         how many fields a line has: 2, 3 or 1
--   field k       a blank and the figures of the number k, with no leading 0 but for 0 itself
--   fields ks     the fields of some numbers, one after the other
--   Fields ks     each number has at most five figures
--   written       the bytes of a line: its mark, its fields and the line end
--   separator     what is due after i fields of a line of w: a blank, or the line end after the last
use Rattle.std.specs.Prelude.{ℕ, ◌<◌, cond, List, [], ◌∷◌, ◌++◌, decimal, nat_lt}
use Rattle.std.specs.Int.{IsInRange}
use Rattle.std.specs.List.{flat_map, AllByRecursion}
use Rattle.sheet.specs.declared.Kind.{Kind}
use Rattle.sheet.specs.declared.Kind.TheVariants.{Start, Leg, End}

abbrev pub Begins : (ℕ → Type 0) → List ℕ → Type 0
Begins P [] = ⊥
Begins P (b ∷ bs) = P b

abbrev pub Figure : ℕ → Type 0
Figure b = IsInRange 48 57 b

abbrev pub letters : Kind → List ℕ
letters Start = 83 ∷ 84 ∷ []
letters Leg = 76 ∷ 71 ∷ []
letters End = 69 ∷ 78 ∷ []

abbrev pub width : Kind → ℕ
width Start = 2
width Leg = 3
width End = 1

abbrev pub field : ℕ → List ℕ
field k = 32 ∷ decimal k

abbrev pub fields : List ℕ → List ℕ
fields ks = flat_map field ks

abbrev pub Fields : List ℕ → Type 0
Fields ks = AllByRecursion (λ k. k < 100000) ks

abbrev pub written : Kind → List ℕ → List ℕ
written kind ks = letters kind ++ (fields ks ++ (10 ∷ []))

abbrev pub separator : ℕ → ℕ → ℕ
separator w i = cond (nat_lt i w) 32 10
