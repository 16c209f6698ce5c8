-- Faults of sheets.
--   cause_number  the number of a cause: of the fault of form, or of the refusal
--   layer_of      the layer that a cause is found in
--   layer_letter  the letter of a layer
--   fault         a fault, by its cause and its line
--   fault_text    what is written of a fault: ER, its number, its line and the letter of its layer
use Rattle.std.specs.Prelude.{ℕ, List, [], ◌∷◌, ◌++◌, codes, decimal}
use Rattle.model.specs.Refusals.{refusal_number}
use Rattle.sheet.specs.Numbers.{form_number}
use Rattle.intake.specs.declared.Cause.{Cause}
use Rattle.intake.specs.declared.Cause.TheVariants.{Form, Numbers}
use Rattle.intake.specs.declared.Layer.{Layer}
use Rattle.intake.specs.declared.Layer.TheVariants.{Sheet, Job}
use Rattle.intake.specs.declared.SheetFault.{SheetFault}

abbrev pub cause_number : Cause → ℕ
cause_number (Form e) = form_number e
cause_number (Numbers e) = refusal_number e

abbrev pub layer_of : Cause → Layer
layer_of (Form e) = Sheet
layer_of (Numbers e) = Job

abbrev pub layer_letter : Layer → ℕ
layer_letter Sheet = 83
layer_letter Job = 74

abbrev pub fault : Cause → ℕ → SheetFault
fault c n = record { cause = c; line = n }

abbrev pub fault_text : SheetFault → List ℕ
fault_text f =
    codes "ER " ++ (decimal (cause_number f.cause) ++ (codes " " ++ (decimal f.line ++ (codes " " ++ (layer_letter (layer_of f.cause) ∷ [])))))
