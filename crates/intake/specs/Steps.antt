-- One line of a sheet taken into a job, for the contracts of private functions.
--   FaultAt   the next line is at fault, where the reader stands at r and the job at s
--   Starts    the first line is taken, or at fault
--   TakesLine the numbers of a line are taken, or refused and the job is as before
--   Took      all lines are taken, and the job has the sheet's hall; or a line is at fault, and the job is left anyhow
use Rattle.std.specs.Prelude.{◌≡◌, ℕ, ◌⊎◌, List, Some, None, Ok, Err, Result}
use Rattle.walks.specs.Hall.{Hall}
use Rattle.model.specs.Refusals.{Answers}
use Rattle.model.specs.State.{JobState, blank, closed}
use Rattle.model.specs.declared.Phase.TheVariants.{Laying}
use Rattle.model.specs.declared.Refusal.{Refusal}
use Rattle.sheet.specs.Reading.{Standing, LineRead, Faulty, more}
use Rattle.sheet.specs.declared.FormFault.{FormFault}
use Rattle.sheet.specs.declared.Kind.{Kind}
use Rattle.sheet.specs.declared.Kind.TheVariants.{Start}
use Rattle.intake.specs.declared.Cause.TheVariants.{Form, Numbers}
use Rattle.intake.specs.declared.SheetFault.{SheetFault}
use Rattle.intake.specs.Faults.{fault}
use Rattle.intake.specs.Sheets.{Obeys, line_due, after_line, Due}

abbrev pub FaultAt : Standing → JobState → SheetFault → Type 0
FaultAt r s f =
    ((e : FormFault) × Faulty r e × (f ≡ fault (Form e) (more r.lines))) ⊎
    ((kind : Kind) × (ks : List ℕ) × (t : Standing) × (e : Refusal) × LineRead r kind ks t ×
    (line_due s kind ks ≡ Some e) × (f ≡ fault (Numbers e) (more r.lines)))

-- a line is taken
abbrev pub LineTaken : Kind → Standing → JobState → Standing → JobState → Type 0
LineTaken kind r s t u = (ks : List ℕ) × LineRead r kind ks t × (line_due s kind ks ≡ None) × (u ≡ after_line s kind ks)

abbrev pub Starts : {T : Type 0} → Standing → Result T SheetFault → Standing → JobState → Type 0
Starts r (Ok p) t u = LineTaken Start r blank t u
Starts r (Err f) t u = FaultAt r blank f

abbrev pub TakesLine : {T : Type 0} → JobState → Kind → List ℕ → Result T Refusal → JobState → Type 0
TakesLine s kind ks r u = Answers (line_due s kind ks) (λ e. e) r (u ≡ s) (λ _. u ≡ after_line s kind ks)

abbrev pub Took : {T : Type 0} → List ℕ → Result T SheetFault → JobState → Type 0
Took bytes (Ok p) u = (h : Hall) × Obeys bytes h × (u ≡ closed Laying h)
Took bytes (Err f) u = Due bytes f
