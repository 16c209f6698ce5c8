-- A reader of a sheet, and what its answers tell.
--   standing      where a reader stands
--   told          the outcome that an answer tells, each field by the number that it spells
--   Placed        the fields of a record are the parts of the sheet that they are, with their places; the reader goes on
--                 past the line, and stays where it was at the close and at a fault
use Rattle.std.specs.Prelude.{◌≡◌, ℕ, ◌+◌, ◌<◌, ◌≤◌, Bool, true, false, List, length, Some, None, Ok, Err, Option, Result}
use Rattle.sheet.specs.Form.{written}
use Rattle.sheet.specs.Reading.{Standing, Outcome, line, close, fault, opening}
use Rattle.sheet.specs.Records.{kind_of, numbers, Parts}
use Rattle.sheet.specs.Steps.{left, place_after}
use Rattle.sheet.specs.declared.Fault.{Fault}
use Rattle.sheet.specs.declared.FormFault.TheVariants.{TooLong}
use Rattle.sheet.specs.declared.Record.{Record}
use Rattle.sheet.specs.declared.reading.Reader.{Reader}
use Rattle.sheet.specs.declared.steps.Place.{Place}
use Rattle.sheet.specs.declared.steps.Place.TheVariants.{Mark, Blank, Field, LineEnd, Close}

-- the place is the close
abbrev pub closed_at : Place → Bool
closed_at Mark = false
closed_at Blank = false
closed_at Field = false
closed_at LineEnd = false
closed_at Close = true

abbrev pub standing : Reader → Standing
standing r = record { rest = left r.cursor; lines = r.tally.lines; legs = r.tally.legs; closed = closed_at r.cursor.place }

-- a reader is made for a sheet of at most 32,768 bytes, and stands at its beginning
abbrev pub Opens : List ℕ → Result Reader Fault → Type 0
Opens bytes (Ok r) = (length bytes ≤ 32768) × (r.cursor.sheet.now ≡ bytes) × (r.cursor.at ≡ 0) × (r.cursor.place ≡ Mark) × (standing r ≡ opening bytes)
Opens bytes (Err f) = (32768 < length bytes) × (f ≡ record { form = TooLong; line = 0 })

abbrev pub told : Result (Option Record) Fault → Outcome
told (Ok (Some r)) = line (kind_of r) (numbers r)
told (Ok None) = close
told (Err f) = fault f.form f.line

abbrev pub Placed : Reader → Result (Option Record) Fault → Reader → Type 0
Placed s (Ok (Some r)) t =
    Parts s.cursor.sheet.now (s.cursor.at + 3) r × (t.cursor.at ≡ s.cursor.at + length (written (kind_of r) (numbers r))) × (t.cursor.place ≡ place_after (kind_of r))
Placed s (Ok None) t = (t.cursor.at ≡ s.cursor.at) × (t.cursor.place ≡ s.cursor.place)
Placed s (Err f) t = (t.cursor.at ≡ s.cursor.at) × (t.cursor.place ≡ s.cursor.place)
