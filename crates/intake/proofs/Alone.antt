-- To some bytes one thing is due: a hall of which they are the sheet, and which is taken whole, or a fault.
-- Assumes nothing.
use Rattle.std.proofs.Common.{◌≡◌, ℕ, suc, ◌+◌, ◌<◌, ◌≤◌, true, false, List, [], ◌∷◌, ◌++◌, length, None, sym, refl, ap, ◌∙◌, subst, ⊎_elim, append_assoc, arith, length-append}
use Rattle.std.specs.List.{flat_map, AllByRecursion}
use Rattle.std.proofs.lemmas.List.{append-nil, length_push}
use Rattle.std.proofs.lemmas.Bool.{cases_lt}
use Rattle.std.proofs.lemmas.Bool.Decides.{nat_tests}
use Rattle.walks.specs.Hall.{Hall, Leg}
use Rattle.model.specs.declared.Phase.TheVariants.{Laying}
use Rattle.model.specs.State.{JobState, closed}
use Rattle.model.specs.Calls.{leg_limit, make_due, lay_due}
use Rattle.sheet.specs.Reading.{Standing, opening, LineRead, more, close}
use Rattle.sheet.specs.declared.FormFault.TheVariants.{TooLong}
use Rattle.sheet.specs.declared.Kind.TheVariants.{Start, Leg as LegLine, End}
use Rattle.sheet.proofs.Sheets.{more_small}
use Rattle.intake.specs.declared.Cause.TheVariants.{Form}
use Rattle.intake.specs.declared.SheetFault.{SheetFault}
use Rattle.intake.specs.Faults.{fault}
use Rattle.intake.specs.Sheets.{sheet_limit, leg_line, end_line, Inside, Valid, Obeys, Taken, none, one_more, Due, too_long, by_form, by_numbers, OneAnswer}
use Rattle.intake.proofs.Ends.{Ended, one_end, due_ends}
use Rattle.intake.proofs.Stages.{lines_are}

make_clear : (h : Hall) → Valid h → make_due h.points h.bound ≡ None
make_clear h v = grind (arith, nat_tests)

-- the hall with some legs only
abbrev part : Hall → List Leg → Hall
part h ls = record { points = h.points; bound = h.bound; legs = ls }

lay_clear : (h : Hall) (ls : List Leg) (l : Leg) → Inside h l → length ls < leg_limit → lay_due (closed Laying (part h ls)) l.from l.to l.cost ≡ None
lay_clear h ls l (f, g, k) few = grind (arith, nat_tests)

all_mid : (P : Leg → Type 0) (ls : List Leg) (l : Leg) (ms : List Leg) → AllByRecursion P (ls ++ l ∷ ms) → P l
all_mid P [] l ms a = a.0
all_mid P (x ∷ ls) l ms a = all_mid P ls l ms a.1

-- some legs are laid, and some are to come
record Midst (h : Hall) (r : Standing) (ls ms : List Leg) : Type 0 where
  split : h.legs ≡ ls ++ ms
  going : r.closed ≡ false
  some : 0 < r.lines
  legs : r.legs ≡ length ls
  rest : r.rest ≡ flat_map leg_line ms ++ end_line h

module _ (bytes : List ℕ) (h : Hall) (obeys : Obeys bytes h) where
  laid_few : (ls ms : List Leg) → h.legs ≡ ls ++ ms → length ls + length ms ≤ leg_limit
  laid_few ls ms e = let k = ap length e in let j = length-append ls ms in omega (arith, obeys.valid.few_legs)

  -- the legs that are to come, and the end
  legs_end : (ms ls : List Leg) (n : ℕ) (r : Standing) → Midst h r ls ms → Taken bytes n r (closed Laying (part h ls)) → Ended bytes (closed Laying h) None
  legs_end [] ls n r m taken =
      let all : ls ≡ h.legs = sym (m.split ∙ append-nil ls) in
      let t : Standing = record { rest = []; lines = more r.lines; legs = r.legs; closed = true } in
      let this : LineRead r End (length h.legs ∷ []) t =
      record {
        going = m.going;
        due = m.some;
        count = refl;
        small = (omega (arith, obeys.valid.few_legs), tt);
        bytes = m.rest ∙ sym (append-nil (end_line h));
        counted = ap (λ k. k ∷ []) (ap length (sym all) ∙ sym m.legs);
        lines = refl;
        legs = refl;
        closed = refl;
      } in
      record {
        n = suc n;
        r = t;
        t = t;
        out = close;
        taken = one_more End (length h.legs ∷ []) (subst (λ x. Taken bytes n r (closed Laying (part h x))) all taken) this refl;
        reads = (refl, refl, refl);
        ends = tt;
        tells = refl;
      }
  legs_end (l ∷ ms) ls n r m taken =
      let (f, g, k) = all_mid (Inside h) ls l ms (subst (λ x. AllByRecursion (Inside h) x) m.split obeys.valid.inside) in
      let few = laid_few ls (l ∷ ms) m.split in
      let t : Standing = record { rest = flat_map leg_line ms ++ end_line h; lines = more r.lines; legs = more r.legs; closed = false } in
      let this : LineRead r LegLine (l.from ∷ l.to ∷ l.cost ∷ []) t =
      record {
        going = m.going;
        due = m.some;
        count = refl;
        small = (omega (arith, obeys.valid.few_points), (omega (arith, obeys.valid.few_points), (omega (arith, obeys.valid.low_bound), tt)));
        bytes = m.rest ∙ append_assoc (leg_line l) (flat_map leg_line ms) (end_line h);
        counted = tt;
        lines = refl;
        legs = refl;
        closed = refl;
      } in
      let more_taken : Taken bytes (suc n) t (closed Laying (part h (ls ++ l ∷ []))) =
      one_more LegLine (l.from ∷ l.to ∷ l.cost ∷ []) taken this (lay_clear h ls l (f, g, k) (omega arith)) in
      let lines = lines_are more_taken in
      legs_end ms (ls ++ l ∷ []) (suc n) t
      record {
        split = m.split ∙ sym (append_assoc ls (l ∷ []) ms);
        going = refl;
        some = omega arith;
        legs = ap more m.legs ∙ (more_small (length ls) (omega arith) ∙ sym (length_push ls l));
        rest = refl;
      }
      more_taken

  -- the sheet of a valid hall is taken to its close
  whole : Ended bytes (closed Laying h) None
  whole =
      let t : Standing = record { rest = flat_map leg_line h.legs ++ end_line h; lines = 1; legs = 0; closed = false } in
      let this : LineRead (opening bytes) Start (h.points ∷ h.bound ∷ []) t =
      record {
        going = refl;
        due = refl;
        count = refl;
        small = (omega (arith, obeys.valid.few_points), (omega (arith, obeys.valid.low_bound), tt));
        bytes = obeys.sheet;
        counted = tt;
        lines = refl;
        legs = refl;
        closed = refl;
      } in
      legs_end h.legs [] 1 t record { split = refl; going = refl; some = omega arith; legs = refl; rest = refl }
      (one_more Start (h.points ∷ h.bound ∷ []) none this (make_clear h obeys.valid))

long_fault : {bytes : List ℕ} {f : SheetFault} → Due bytes f → sheet_limit < length bytes → f ≡ fault (Form TooLong) 0
long_fault (too_long _) long = refl
long_fault (by_form e short taken wrong) long = absurd (omega arith)
long_fault (by_numbers kind ks e short taken this wrong) long = absurd (omega arith)

pub one_answer : (bytes : List ℕ) → OneAnswer bytes
one_answer bytes =
    record {
      hall = λ g h a b. ap (λ s. s.hall) (one_end (whole bytes g a) (whole bytes h b)).0;
      fault = λ f g a b.
          ⊎_elim (λ (long : sheet_limit < length bytes). long_fault a long ∙ sym (long_fault b long))
          (λ (short : length bytes ≤ sheet_limit).
          let e = (one_end (due_ends a short).1 (due_ends b short).1).1 in
          let i : f ≡ g = cc in
          i) (cases_lt sheet_limit (length bytes));
      apart = λ h f a b.
          let e = (one_end (whole bytes h a) (due_ends b a.short).1).1 in
          let z : ◌≡◌ {A = ℕ} 0 1 = cc in
          omega arith;
    }

-- so a fault that is due is the only answer, and so is a hall
pub only_fault : {bytes : List ℕ} {x : SheetFault} → Due bytes x → ((h : Hall) → Obeys bytes h → ⊥) × ((f : SheetFault) → Due bytes f → x ≡ f)
only_fault {bytes} {x} wrong =
    let law = one_answer bytes in
    (λ h obeys. law.apart h x obeys wrong, λ f due. law.fault x f wrong due)

pub only_hall : {bytes : List ℕ} {g : Hall} {s : JobState} → Obeys bytes g → s ≡ closed Laying g →
    ((h : Hall) → Obeys bytes h → s ≡ closed Laying h) × ((f : SheetFault) → Due bytes f → ⊥)
only_hall {bytes} {g} obeys is =
    let law = one_answer bytes in
    (λ h other. is ∙ ap (closed Laying) (law.hall g h obeys other), λ f due. law.apart g f obeys due)
