-- The steps of the reader within a line, which its private functions take.
--   Classed          a byte is of a class; Sees is the class of the next byte
--   Turns            the move from a place, by the class of the next byte
--   left             what is left of the sheet
--   Moved c w d      from c to d the sheet's bytes are w
--   Passes           one step, past the byte that is due
--   LeadingFigures   how many figures begin the bytes, counted to six
--   AsWritten        whether figures stand as a number is written
--   MarkRead, FiguresRead, FieldRead, FieldsRead, TakesLine
--                    a mark, the figures of a field, a blank and a field, the fields of a line, and a whole line, each
--                    read or at fault
use Rattle.std.specs.Prelude.{◌≡◌, ℕ, ◌+◌, ◌<◌, ◌≤◌, ◌⊎◌, Bool, true, false, List, [], ◌∷◌, ◌++◌, length, take, drop, decimal, Some, None, Ok, Err, Option, Result, ◌≢◌, slice_index}
use Rattle.std.specs.Borrow.{Bor}
use Rattle.std.specs.List.{AllByRecursion}
use Rattle.sheet.specs.Form.{Begins, Figure, letters, width, field, fields, Fields, written}
use Rattle.sheet.specs.Numbers.{spelled}
use Rattle.sheet.specs.Records.{number_of, PartAt, kind_of, numbers, Parts}
use Rattle.sheet.specs.Reading.{BadField, Due, NoMark, Broken, Counted, LineFaulty}
use Rattle.sheet.specs.declared.Kind.{Kind}
use Rattle.sheet.specs.declared.Kind.TheVariants.{Start, Leg, End}
use Rattle.sheet.specs.declared.FormFault.{FormFault}
use Rattle.sheet.specs.declared.FormFault.TheVariants.{TooLong, Mark as NotMark, Field as NotField, Separator, Count, Trailing}
use Rattle.sheet.specs.declared.steps.Place.{Place}
use Rattle.sheet.specs.declared.steps.Place.TheVariants.{Mark, Blank, Field, LineEnd, Close}
use Rattle.sheet.specs.declared.steps.Cursor.{Cursor}
use Rattle.sheet.specs.declared.Field.{Field as SheetField}
use Rattle.sheet.specs.declared.Record.{Record}
use Rattle.sheet.specs.declared.steps.Class.{Class}
use Rattle.sheet.specs.declared.steps.Class.TheVariants.{Figure as OfFigure, Blank as OfBlank, LineEnd as OfLineEnd, Letter as OfLetter, Foreign as OfForeign}

-- a letter of a mark
abbrev pub Letter : ℕ → Type 0
Letter b = (b ≡ 83) ⊎ ((b ≡ 84) ⊎ ((b ≡ 76) ⊎ ((b ≡ 71) ⊎ ((b ≡ 69) ⊎ (b ≡ 78)))))

-- a byte is of a class
abbrev pub Classed : ℕ → Class → Type 0
Classed b OfFigure = Figure b
Classed b OfBlank = b ≡ 32
Classed b OfLineEnd = b ≡ 10
Classed b OfLetter = Letter b
Classed b OfForeign = (Figure b → ⊥) × (b ≢ 32) × (b ≢ 10) × (Letter b → ⊥)

-- the class of the next byte, if there is one
abbrev pub Sees : List ℕ → ℕ → Option Class → Type 0
Sees sheet at None = length sheet ≤ at
Sees sheet at (Some c) = (at < length sheet) × Classed (slice_index sheet at) c

-- the class due at a place, or none at the close
abbrev pub class_at : Place → Option Class
class_at Mark = Some OfLetter
class_at Blank = Some OfBlank
class_at Field = Some OfFigure
class_at LineEnd = Some OfLineEnd
class_at Close = None

-- the fault of a place
abbrev pub fault_at : Place → FormFault
fault_at Mark = NotMark
fault_at Blank = Separator
fault_at Field = NotField
fault_at LineEnd = Separator
fault_at Close = Trailing

-- where the reader is after a step that should lead to `then`
abbrev pub next_place : Place → Place → Place
next_place Mark then = then
next_place Blank then = then
next_place Field then = then
next_place LineEnd then = then
next_place Close then = Close

abbrev pub Turns : Place → Option Class → Place → Result Place FormFault → Type 0
Turns place next then (Ok to) = (next ≡ class_at place) × (to ≡ next_place place then)
Turns place next then (Err f) = (next ≢ class_at place) × (f ≡ fault_at place)

-- what is left of the sheet
abbrev pub left : Cursor → List ℕ
left c = drop c.at c.sheet.now

-- the bytes from one place of a sheet to another are w
pub record Moved (c : Cursor) (w : List ℕ) (d : Cursor) : Type 0 where
  pub same : d.sheet.now ≡ c.sheet.now
  pub along : d.at ≡ c.at + length w
  pub bytes : left c ≡ w ++ left d

-- one step: past a byte that is due, or nowhere at the close
abbrev pub Passed : Place → Cursor → Cursor → Type 0
Passed Mark c d = (b : ℕ) × Moved c (b ∷ []) d × Letter b
Passed Blank c d = Moved c (32 ∷ []) d
Passed Field c d = (b : ℕ) × Moved c (b ∷ []) d × Figure b
Passed LineEnd c d = Moved c (10 ∷ []) d
Passed Close c d = left c ≡ []

-- one step refused
abbrev pub Stopped : Place → List ℕ → Type 0
Stopped Mark bs = Begins Letter bs → ⊥
Stopped Blank bs = Begins (λ b. b ≡ 32) bs → ⊥
Stopped Field bs = Begins Figure bs → ⊥
Stopped LineEnd bs = Begins (λ b. b ≡ 10) bs → ⊥
Stopped Close bs = bs ≡ [] → ⊥

abbrev pub Passes : Cursor → Place → Result (Unit {0}) FormFault → Cursor → Type 0
Passes c then (Ok _) d = Passed c.place c d × (d.place ≡ next_place c.place then)
Passes c then (Err f) d = (f ≡ fault_at c.place) × Stopped c.place (left c)

-- a mark is read
abbrev pub MarkRead : Cursor → ℕ → Result Kind FormFault → Cursor → Type 0
MarkRead c lines (Ok kind) d = Due lines kind × Moved c (letters kind) d × (d.place ≡ Blank)
MarkRead c lines (Err f) d = (f ≡ NotMark) × NoMark lines (left c)

-- n figures begin the bytes, six at most, and behind fewer there is no more
pub record LeadingFigures (bs : List ℕ) (n : ℕ) : Type 0 where
  pub within : n ≤ length bs
  pub few : n ≤ 6
  pub all : AllByRecursion Figure (take n bs)
  pub ends : n < 6 → Begins Figure (drop n bs) → ⊥

-- whether figures are as many as a number is written with, and no 0 leads others
abbrev pub AsWritten : List ℕ → Bool → Type 0
AsWritten ds true = (0 < length ds) × (length ds ≤ 5) × (slice_index ds 0 ≡ 48 → length ds ≡ 1)
AsWritten ds false = (length ds ≡ 0) ⊎ (((1 < length ds) × (slice_index ds 0 ≡ 48)) ⊎ (5 < length ds))

-- the figures of a number are read, and no figure comes next
pub record FiguresTaken (c : Cursor) (figures : List ℕ) (d : Cursor) : Type 0 where
  pub small : spelled figures < 100000
  pub plain : figures ≡ decimal (spelled figures)
  pub moved : Moved c figures d
  pub ends : Begins Figure (left d) → ⊥

abbrev pub FiguresRead : Cursor → Place → Result (Bor (List ℕ)) FormFault → Cursor → Type 0
FiguresRead c then (Ok f) d = FiguresTaken c f.now d × (d.place ≡ then)
FiguresRead c then (Err e) d = (e ≡ NotField) × BadField (left c)

-- a field is read
pub record FieldTaken (c : Cursor) (f : SheetField) (d : Cursor) : Type 0 where
  pub small : number_of f < 100000
  pub moved : Moved c (field (number_of f)) d
  pub part : PartAt c.sheet.now (c.at + 1) f
  pub ends : Begins Figure (left d) → ⊥

abbrev pub FieldFails : List ℕ → FormFault → Type 0
FieldFails bs Separator = Begins (λ b. b ≡ 32) bs → ⊥
FieldFails bs NotField = (tail : List ℕ) × (bs ≡ 32 ∷ tail) × BadField tail
FieldFails bs TooLong = ⊥
FieldFails bs NotMark = ⊥
FieldFails bs Count = ⊥
FieldFails bs Trailing = ⊥

abbrev pub FieldRead : Cursor → Place → Result SheetField FormFault → Cursor → Type 0
FieldRead c then (Ok f) d = FieldTaken c f d × (d.place ≡ then)
FieldRead c then (Err e) d = FieldFails (left c) e

-- the fields of some numbers are read
pub record FieldsTaken (c : Cursor) (ks : List ℕ) (d : Cursor) : Type 0 where
  pub small : Fields ks
  pub moved : Moved c (fields ks) d
  pub ends : 0 < length ks → Begins Figure (left d) → ⊥

-- the fields of a line are read
pub record RecordTaken (kind : Kind) (c : Cursor) (r : Record) (d : Cursor) : Type 0 where
  pub kind_is : kind_of r ≡ kind
  pub taken : FieldsTaken c (numbers r) d
  pub parts : Parts c.sheet.now (c.at + 1) r

abbrev pub FieldsRead : Kind → Cursor → Result Record FormFault → Cursor → Type 0
FieldsRead kind c (Ok r) d = RecordTaken kind c r d × (d.place ≡ LineEnd)
FieldsRead kind c (Err f) d = Broken (width kind) (left c) f

-- whether a record has the count that it should
abbrev pub CountedBy : Record → ℕ → Bool → Type 0
CountedBy r legs true = Counted (kind_of r) (numbers r) legs
CountedBy r legs false = (kind_of r ≡ End) × ((m : ℕ) × (numbers r ≡ m ∷ []) × (m ≢ legs))

-- where the reader is after a line
abbrev pub place_after : Kind → Place
place_after Start = Mark
place_after Leg = Mark
place_after End = Close

-- a line is read
pub record LineTaken (c : Cursor) (lines legs : ℕ) (r : Record) (d : Cursor) : Type 0 where
  pub due : Due lines (kind_of r)
  pub count : length (numbers r) ≡ width (kind_of r)
  pub small : Fields (numbers r)
  pub counted : Counted (kind_of r) (numbers r) legs
  pub moved : Moved c (written (kind_of r) (numbers r)) d
  pub parts : Parts c.sheet.now (c.at + 3) r
  pub place : d.place ≡ place_after (kind_of r)

abbrev pub TakesLine : Cursor → ℕ → ℕ → Result Record FormFault → Cursor → Type 0
TakesLine c lines legs (Ok r) d = LineTaken c lines legs r d
TakesLine c lines legs (Err f) d = LineFaulty lines legs (left c) f
