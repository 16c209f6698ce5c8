-- From one line to a whole sheet: what is due to the sheet, and the list of calls that it is.
-- Assumes nothing.
use Rattle.std.proofs.Common.{◌≡◌, ℕ, suc, ◌<◌, ◌≤◌, List, [], ◌∷◌, length, Ok, Err, Result, sym, ap, ◌∙◌, subst, inl, inr, add-one, arith}
use Rattle.std.specs.Result.{MatchResult, IsErrAnd}
use Rattle.std.proofs.lemmas.List.{length_push}
use Rattle.std.proofs.lemmas.Result.{err_from_is_err_and}
use Rattle.queue.specs.Meaning.{Meaning}
use Rattle.model.specs.declared.Refusal.{Refusal}
use Rattle.model.specs.Calls.{laid, made as made_hall, make_due, Makes}
use Rattle.model.specs.State.{JobState, blank}
use Rattle.sheet.specs.Reading.{Standing, opening, LineRead, Faulty, more, Due as LineDue}
use Rattle.sheet.specs.declared.Fault.{Fault}
use Rattle.sheet.specs.declared.FormFault.TheVariants.{TooLong}
use Rattle.sheet.specs.declared.Kind.{Kind}
use Rattle.sheet.specs.declared.Kind.TheVariants.{Start, Leg, End}
use Rattle.runs.specs.Lists.{Rule, Call, Run, making, laying, blanking}
use Rattle.intake.specs.declared.Cause.TheVariants.{Form, Numbers}
use Rattle.intake.specs.declared.SheetFault.{SheetFault}
use Rattle.intake.specs.Faults.{fault}
use Rattle.intake.specs.Sheets.{sheet_limit, nth, line_due, after_line, Taken, none, one_more, Due, too_long, by_form, by_numbers, layings, Obeys, Exactly, Refuses, Continues}
use Rattle.intake.specs.Steps.{FaultAt, LineTaken, Starts, TakesLine, Took}
use Rattle.walks.specs.Hall.{Hall}
use Rattle.intake.proofs.Alone.{only_fault}
use Rattle.intake.proofs.Stages.{lines_are, next_line}
use Rattle.job.specs.declared.permits.LayingPermit.{LayingPermit}
use Rattle.runs.proofs.Answered.{accepted, refused}

-- the first line, and the job's answer to its numbers, whose refusal is made a fault
module _ (r t : Standing) (s u : JobState) (n b : ℕ) (line : LineRead r Start (n ∷ b ∷ []) t) where
  pub start_answered : {F : Refusal → SheetFault → Type 0} (m : Result LayingPermit Refusal) (x : Result LayingPermit SheetFault) → Makes {T = LayingPermit} {E = Refusal} (λ y. y) s n b m u →
      MatchResult m (λ p. x ≡ Ok p) (λ e. IsErrAnd x (F e)) → ((e : Refusal) (f : SheetFault) → F e f → f ≡ fault (Numbers e) t.lines) → Starts r x t u
  start_answered (Ok p) x answer is made =
      let (clear, done) = accepted {E = Refusal} (λ y. y) (u ≡ s) (λ (_ : LayingPermit). u ≡ made_hall n b) (make_due n b) p answer in
      subst (λ y. Starts r y t u) (sym is) (n ∷ b ∷ [], line, clear, done)
  start_answered (Err e) x answer is made =
      let (some, same) = refused (λ y. y) (u ≡ s) (λ (_ : LayingPermit). u ≡ made_hall n b) (make_due n b) e answer in
      let (f, eq, post) = err_from_is_err_and x is in
      subst (λ y. Starts r y t u) (sym eq)
      (inr (Start, (n ∷ b ∷ []), t, e, line, some, made e f post ∙ ap (λ k. fault (Numbers e) k) line.lines))

-- a later line is no start
pub later_line : {bytes : List ℕ} {n : ℕ} {r t : Standing} {s : JobState} {kind : Kind} {ks : List ℕ} → Taken bytes n r s → 0 < n →
    LineRead r kind ks t → kind ≡ Start → ⊥
later_line {r = r} taken some line is =
    let first = subst (λ k. LineDue r.lines k) is line.due in
    absurd (omega (arith, lines_are taken))

-- a later line, and the answer to its numbers, whose refusal is made a fault
module _ {bytes : List ℕ} {n : ℕ} {r t : Standing} {s : JobState} {kind : Kind} {ks : List ℕ}
    (u : JobState) (short : length bytes ≤ sheet_limit) (taken : Taken bytes n r s) (line : LineRead r kind ks t) where
  pub line_answered : {F : Refusal → SheetFault → Type 0} (m : Result (Unit {0}) Refusal) (x : Result (Unit {0}) SheetFault) → TakesLine s kind ks m u →
      MatchResult m (λ p. x ≡ Ok p) (λ e. IsErrAnd x (F e)) → ((e : Refusal) (f : SheetFault) → F e f → f ≡ fault (Numbers e) t.lines) →
      MatchResult x (λ _. Taken bytes (suc n) t u) (λ f. Due bytes f)
  line_answered (Ok p) x answer is made =
      let (clear, done) = accepted {E = Refusal} (λ y. y) (u ≡ s) (λ (_ : Unit {0}). u ≡ after_line s kind ks) (line_due s kind ks) p answer in
      subst (λ y. MatchResult y (λ _. Taken bytes (suc n) t u) (λ f. Due bytes f)) (sym is)
      (subst (λ v. Taken bytes (suc n) t v) (sym done) (one_more kind ks taken line clear))
  line_answered (Err e) x answer is made =
      let (some, same) = refused (λ y. y) (u ≡ s) (λ (_ : Unit {0}). u ≡ after_line s kind ks) (line_due s kind ks) e answer in
      let (f, eq, post) = err_from_is_err_and x is in
      let which : f ≡ fault (Numbers e) (suc n) = made e f post ∙ ap (λ k. fault (Numbers e) k) (line.lines ∙ next_line taken) in
      subst (λ y. MatchResult y (λ _. Taken bytes (suc n) t u) (λ f. Due bytes f)) (sym eq)
      (subst (λ g. Due bytes g) (sym which) (by_numbers kind ks e short taken line some))

-- a fault of form that the reader tells
pub form_due : {bytes : List ℕ} {n : ℕ} {r : Standing} {s : JobState} (f : Fault) (x : SheetFault) → length bytes ≤ sheet_limit → Taken bytes n r s →
    Faulty r f.form → f.line ≡ more r.lines → x ≡ fault (Form f.form) f.line → Due bytes x
form_due {bytes} f x short taken faulty at is =
    subst (λ y. Due bytes y) (sym (is ∙ ap (λ k. fault (Form f.form) k) (at ∙ next_line taken))) (by_form f.form short taken faulty)

pub fault_due : {bytes : List ℕ} {n : ℕ} {r : Standing} {s : JobState} {f : SheetFault} → length bytes ≤ sheet_limit → Taken bytes n r s →
    FaultAt r s f → Due bytes f
fault_due {bytes} {n} {r} {s} {f} short taken (inl (e, faulty, is)) =
    subst (λ x. Due bytes x) (sym (is ∙ ap (λ k. fault (Form e) k) (next_line taken))) (by_form e short taken faulty)
fault_due {bytes} {n} {r} {s} {f} short taken (inr (kind, ks, t, e, line, due, is)) =
    subst (λ x. Due bytes x) (sym (is ∙ ap (λ k. fault (Numbers e) k) (next_line taken))) (by_numbers kind ks e short taken line due)

pub too_long_due : (bytes : List ℕ) (f : Fault) (x : SheetFault) → sheet_limit < length bytes → f ≡ record { form = TooLong; line = 0 } →
    x ≡ fault (Form f.form) f.line → Due bytes x
too_long_due bytes f x long e is =
    subst (λ y. Due bytes y) (sym (is ∙ ap (λ g. fault (Form g.form) g.line) e)) (too_long long)

-- the first line
module _ (bytes : List ℕ) (r : Standing) (e : r ≡ opening bytes) where
  at_first : Taken bytes 0 r blank
  at_first = subst (λ x. Taken bytes 0 x blank) (sym e) none

  pub first_due : (f : SheetFault) → length bytes ≤ sheet_limit → FaultAt r blank f → Due bytes f
  first_due f short wrong = fault_due short at_first wrong

  pub first_taken : (t : Standing) (u : JobState) → LineTaken Start r blank t u → Taken bytes 1 t u
  first_taken t u (ks, line, due, is) = subst (λ x. Taken bytes 1 t x) (sym is) (one_more Start ks at_first line due)

-- some lines taken after a list of calls: a making and its layings
pub taken_run : {cs : List Call} {s : JobState} {m : Meaning} {j : Rule} {bytes : List ℕ} {n : ℕ} {r : Standing} {u : JobState} →
    Run cs s m j → 0 < n → Taken bytes n r u → Run (layings (length u.hall.legs) cs) u m j
taken_run run some none = absurd (omega arith)
taken_run run some (one_more Start ks taken line due) = making (nth ks 0) (nth ks 1) run due
taken_run run some (one_more Leg ks none line due) = absurd (omega (arith, line.due))
taken_run run some (one_more End ks none line due) = absurd (omega (arith, line.due))
taken_run {cs} {s} {m} {j} run some (one_more {s = v} Leg ks (one_more kind hs taken line due) next fine) =
    let earlier = taken_run run (omega arith) (one_more kind hs taken line due) in
    let size : length (laid v (nth ks 0) (nth ks 1) (nth ks 2)).hall.legs ≡ suc (length v.hall.legs) =
    length_push v.hall.legs (record { from = nth ks 0; to = nth ks 1; cost = nth ks 2 }) ∙ add-one (length v.hall.legs) in
    subst (λ k. Run (layings k cs) (laid v (nth ks 0) (nth ks 1) (nth ks 2)) m j) (sym size) (laying (nth ks 0) (nth ks 1) (nth ks 2) earlier fine)
taken_run run some (one_more End ks (one_more kind hs taken line due) next fine) =
    taken_run run (omega arith) (one_more kind hs taken line due)

-- what is answered at a fault that is due, which a `?` passes on
pub at_fault : {T : Type 0} {Q : SheetFault → Type 0} (bytes : List ℕ) (s u : JobState) (r : Result T SheetFault) → IsErrAnd r Q →
    ((x : SheetFault) → Q x → Due bytes x) →
    record {
      cases : Took bytes r u;
      bound : (h : Hall) → Obeys bytes h → Exactly h r u;
      refused : (f : SheetFault) → Due bytes f → Refuses f r;
      keeps : (cs : List Call) (m : Meaning) (j : Rule) → Run cs s m j → Continues cs m j r u;
    }
at_fault bytes s u r is wrong =
    let (x, e, q) = err_from_is_err_and r is in
    let due = wrong x q in
    let (never, one) = only_fault due in
    rw e (record { cases = due; bound = never; refused = one; keeps = λ cs m j run. blanking run })
