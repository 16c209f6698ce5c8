-- Sheets of halls, and what is wrong with other bytes.
--   hall_sheet    the sheet of a hall: the start with points and bound, a line for each leg in order, the end with the
--                 number of legs
--   Valid         a hall that a sheet may describe
--   Obeys         the bytes are the sheet of the hall, and both keep their limits
--   line_due      the refusal due to the numbers of a line, if any
--   after_line    the job after a line whose numbers it takes
--   Taken         whole lines at the front of the bytes whose numbers a blank job takes: how many, where the reader
--                 stands then, and the job then
--   Due           the fault due: the first line at fault by its form, or, being whole, by its numbers
--   OneAnswer    the bytes are the sheet of one hall at most, one fault at most is due to them, and never both
--   Takes         a sheet's answer and the job after it: exactly the sheet's hall, or a blank job
--   Exactly       what is answered to the sheet of a valid hall: never a fault, and the job has that hall
--   Refuses       what is answered where a fault is due: that fault
--   Continues     a taken sheet is a making and a laying for each leg; a refused one leaves a blank job
use Rattle.std.specs.Prelude.{◌≡◌, ℕ, zero, suc, ◌<◌, ◌≤◌, List, [], ◌∷◌, ◌++◌, length, Some, None, Ok, Err, Option, Result, slice_index}
use Rattle.std.specs.List.{flat_map, AllByRecursion}
use Rattle.figures.specs.Limits.{cost_limit}
use Rattle.queue.specs.Meaning.{Meaning}
use Rattle.walks.specs.Hall.{Hall}
use Rattle.walks.specs.Hall as walks
use Rattle.model.specs.Calls.{point_limit, leg_limit, make_due, made, lay_due, laid}
use Rattle.model.specs.State.{JobState, blank, closed}
use Rattle.model.specs.declared.Phase.TheVariants.{Laying}
use Rattle.model.specs.declared.Refusal.{Refusal}
use Rattle.sheet.specs.Form.{written}
use Rattle.sheet.specs.Reading.{Standing, opening, LineRead, Faulty}
use Rattle.sheet.specs.declared.FormFault.{FormFault}
use Rattle.sheet.specs.declared.FormFault.TheVariants.{TooLong}
use Rattle.sheet.specs.declared.Kind.{Kind}
use Rattle.sheet.specs.declared.Kind.TheVariants.{Start, Leg, End}
use Rattle.runs.specs.Lists.{Rule, Call, makes, lays, blanks, Run}
use Rattle.intake.specs.declared.Cause.TheVariants.{Form, Numbers}
use Rattle.intake.specs.declared.SheetFault.{SheetFault}
use Rattle.intake.specs.Faults.{fault}

abbrev pub sheet_limit : ℕ
sheet_limit = 32768

abbrev pub start_line : Hall → List ℕ
start_line h = written Start (h.points ∷ h.bound ∷ [])

abbrev pub leg_line : walks.Leg → List ℕ
leg_line l = written Leg (l.from ∷ l.to ∷ l.cost ∷ [])

abbrev pub end_line : Hall → List ℕ
end_line h = written End (length h.legs ∷ [])

abbrev pub hall_sheet : Hall → List ℕ
hall_sheet h = start_line h ++ (flat_map leg_line h.legs ++ end_line h)

-- the leg runs between points of the hall, and costs no more than its bound
abbrev pub Inside : Hall → walks.Leg → Type 0
Inside h l = (l.from < h.points) × (l.to < h.points) × (l.cost ≤ h.bound)

pub record Valid (h : Hall) : Type 0 where
  pub some_points : 1 ≤ h.points
  pub few_points : h.points ≤ point_limit
  pub some_bound : 1 ≤ h.bound
  pub low_bound : h.bound ≤ cost_limit
  pub inside : AllByRecursion (Inside h) h.legs
  pub few_legs : length h.legs ≤ leg_limit

pub record Obeys (bytes : List ℕ) (h : Hall) : Type 0 where
  pub sheet : bytes ≡ hall_sheet h
  pub short : length bytes ≤ sheet_limit
  pub valid : Valid h

-- the number of a field, by its place in the line
abbrev pub nth : List ℕ → ℕ → ℕ
nth ks i = slice_index ks i

abbrev pub line_due : JobState → Kind → List ℕ → Option Refusal
line_due s Start ks = make_due (nth ks 0) (nth ks 1)
line_due s Leg ks = lay_due s (nth ks 0) (nth ks 1) (nth ks 2)
line_due s End ks = None

abbrev pub after_line : JobState → Kind → List ℕ → JobState
after_line s Start ks = made (nth ks 0) (nth ks 1)
after_line s Leg ks = laid s (nth ks 0) (nth ks 1) (nth ks 2)
after_line s End ks = s

pub data Taken (bytes : List ℕ) : ℕ → Standing → JobState → Type 0 where
  none : Taken bytes 0 (opening bytes) blank
  one_more : {n : ℕ} {r t : Standing} {s : JobState} (kind : Kind) (ks : List ℕ) → Taken bytes n r s →
      LineRead r kind ks t → line_due s kind ks ≡ None → Taken bytes (suc n) t (after_line s kind ks)

-- lines count from 1
pub data Due (bytes : List ℕ) : SheetFault → Type 0 where
  too_long : sheet_limit < length bytes → Due bytes (fault (Form TooLong) 0)
  by_form : {n : ℕ} {r : Standing} {s : JobState} (e : FormFault) → length bytes ≤ sheet_limit → Taken bytes n r s →
      Faulty r e → Due bytes (fault (Form e) (suc n))
  by_numbers : {n : ℕ} {r t : Standing} {s : JobState} (kind : Kind) (ks : List ℕ) (e : Refusal) →
      length bytes ≤ sheet_limit → Taken bytes n r s → LineRead r kind ks t → line_due s kind ks ≡ Some e →
      Due bytes (fault (Numbers e) (suc n))

pub record OneAnswer (bytes : List ℕ) : Type 0 where
  pub hall : (g h : Hall) → Obeys bytes g → Obeys bytes h → g ≡ h
  pub fault : (f g : SheetFault) → Due bytes f → Due bytes g → f ≡ g
  pub apart : (h : Hall) (f : SheetFault) → Obeys bytes h → Due bytes f → ⊥

abbrev pub Takes : {T : Type 0} → List ℕ → Result T SheetFault → JobState → Type 0
Takes bytes (Ok p) t = (h : Hall) × Obeys bytes h × (t ≡ closed Laying h)
Takes bytes (Err f) t = Due bytes f × (t ≡ blank)

-- a sheet that obeys a hall is taken, and the job has that hall
abbrev pub Exactly : {T : Type 0} → Hall → Result T SheetFault → JobState → Type 0
Exactly h (Ok p) t = t ≡ closed Laying h
Exactly h (Err f) t = ⊥

abbrev pub Refuses : {T : Type 0} → SheetFault → Result T SheetFault → Type 0
Refuses f (Ok p) = ⊥
Refuses f (Err g) = g ≡ f

-- a making and so many layings, after some calls
abbrev pub layings : ℕ → List Call → List Call
layings zero cs = makes ∷ cs
layings (suc n) cs = lays ∷ layings n cs

abbrev pub Continues : {T : Type 0} → List Call → Meaning → Rule → Result T SheetFault → JobState → Type 0
Continues cs m j (Ok p) t = Run (layings (length t.hall.legs) cs) t m j
Continues cs m j (Err f) t = Run (blanks ∷ cs) blank m j
