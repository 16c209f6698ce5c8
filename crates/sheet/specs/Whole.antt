-- Whole sheets: the bytes of one, and a reading from its beginning to its close.
--   Leg           a leg's numbers: from, to and cost
--   sheet_bytes   the bytes of a sheet: the start, the legs in their order, and the end with their number
--   Numbers       each number of a sheet has at most five figures
--   Line          a line's kind and its numbers
--   lines_of      the lines of a sheet
--   Whole s ls    read on from where s stands, record after record with no fault: the lines ls, and then the close
--   Once          a reading is whole just where the bytes are those of a sheet, and it gives the lines of that sheet
use Rattle.std.specs.Prelude.{◌≡◌, ℕ, ◌<◌, ◌≤◌, List, [], ◌∷◌, ◌++◌, map, length}
use Rattle.std.specs.List.{flat_map, AllByRecursion}
use Rattle.sheet.specs.Form.{written}
use Rattle.sheet.specs.Reading.{Standing, Reads, line, close, opening}
use Rattle.sheet.specs.declared.Kind.{Kind}
use Rattle.sheet.specs.declared.Kind.TheVariants.{Start as start, Leg as leg, End as end}

pub record Leg : Type 0 where
  pub from : ℕ
  pub to : ℕ
  pub cost : ℕ

abbrev pub start_line : ℕ → ℕ → List ℕ
start_line n c = written start (n ∷ c ∷ [])

abbrev pub leg_numbers : Leg → List ℕ
leg_numbers l = l.from ∷ l.to ∷ l.cost ∷ []

abbrev pub leg_line : Leg → List ℕ
leg_line l = written leg (leg_numbers l)

abbrev pub leg_lines : List Leg → List ℕ
leg_lines legs = flat_map leg_line legs

abbrev pub end_line : ℕ → List ℕ
end_line m = written end (m ∷ [])

abbrev pub sheet_bytes : ℕ → ℕ → List Leg → List ℕ
sheet_bytes n c legs = start_line n c ++ (leg_lines legs ++ end_line (length legs))

abbrev pub LegNumbers : Leg → Type 0
LegNumbers l = (l.from < 100000) × (l.to < 100000) × (l.cost < 100000)

abbrev pub Numbers : ℕ → ℕ → List Leg → Type 0
Numbers n c legs = (n < 100000) × (c < 100000) × AllByRecursion LegNumbers legs

abbrev pub Line : Type 0
Line = Kind × List ℕ

abbrev pub leg_of : Leg → Line
leg_of l = (leg, leg_numbers l)

-- legs, and then the end with a number
abbrev pub lines_from : List Leg → ℕ → List Line
lines_from legs m = map leg_of legs ++ ((end, m ∷ []) ∷ [])

abbrev pub lines_of : ℕ → ℕ → List Leg → List Line
lines_of n c legs = (start, n ∷ c ∷ []) ∷ lines_from legs (length legs)

pub data Whole : Standing → List Line → Type 0 where
  closes : (s t : Standing) → Reads s close t → Whole s []
  goes : (s t : Standing) (kind : Kind) (ks : List ℕ) (ls : List Line) → Reads s (line kind ks) t → Whole t ls → Whole s ((kind, ks) ∷ ls)

-- the bytes are those of a sheet with these lines
abbrev pub SheetOf : List ℕ → List Line → Type 0
SheetOf bytes ls =
    (n c : ℕ) × (legs : List Leg) × Numbers n c legs × (bytes ≡ sheet_bytes n c legs) × (ls ≡ lines_of n c legs)

abbrev pub Once : Type 0
Once =
    (bytes : List ℕ) (ls : List Line) → length bytes ≤ 32768 →
    (Whole (opening bytes) ls → SheetOf bytes ls) × (SheetOf bytes ls → Whole (opening bytes) ls)
