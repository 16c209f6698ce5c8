-- What is answered to a sheet. Want of memory says nothing of the bytes.
--   fault_line  the line that tells a fault
--   Lists       what is answered to a hall's sheet: the listing of the hall's least walk values
--   Tells       what is answered where a fault is due: its line
--   Replies     the answer to some bytes: the listing of the hall of which they are the sheet, or the line of the fault due
use Rattle.std.specs.Prelude.{◌≡◌, ℕ, List, [], ◌∷◌, ◌++◌, vec_items, string_bytes, Option, Ok, Err, Result}
use Rattle.std.specs.declared.alloc.Global.{Global}
use Rattle.std.specs.declared.vec.Vec.{Vec}
use Rattle.walks.specs.Hall.{Hall}
use Rattle.listing.specs.Listing.{listing}
use Rattle.intake.specs.Faults.{fault_text}
use Rattle.intake.specs.Sheets.{Obeys, Due}
use Rattle.intake.specs.declared.SheetFault.{SheetFault}
use Rattle.maker.specs.Tables.{by_time, Tabled}
use Rattle.maker.specs.declared.Unanswered.{Unanswered}
use Rattle.maker.specs.declared.Unanswered.TheVariants.{Fault, OutOfMemory}

abbrev pub fault_line : SheetFault → List ℕ
fault_line f = fault_text f ++ (10 ∷ [])

abbrev pub Lists : Hall → Result (Vec ℕ Global) Unanswered → Type 0
Lists h (Ok v) = (value : ℕ → ℕ → Option ℕ) × Tabled by_time h value × (vec_items v ≡ listing h.points value)
Lists h (Err (Fault text)) = ⊥
Lists h (Err OutOfMemory) = Unit {0}

abbrev pub Tells : SheetFault → Result (Vec ℕ Global) Unanswered → Type 0
Tells f (Ok v) = ⊥
Tells f (Err (Fault text)) = string_bytes text ≡ fault_line f
Tells f (Err OutOfMemory) = Unit {0}

abbrev pub Replies : List ℕ → Result (Vec ℕ Global) Unanswered → Type 0
Replies bytes (Ok v) = (h : Hall) × Obeys bytes h × Lists h (Ok v)
Replies bytes (Err (Fault text)) = (f : SheetFault) × Due bytes f × Tells f (Err (Fault text))
Replies bytes (Err OutOfMemory) = Unit {0}
