-- How far a reading is: before the first line, among the legs, or past the end; and the hall that the job has then.
-- Assumes nothing.
use Rattle.std.proofs.Common.{◌≡◌, ℕ, suc, ◌+◌, ◌<◌, ◌≤◌, true, false, List, [], ◌∷◌, ◌++◌, length, None, sym, refl, ap, ◌∙◌, subst, append_assoc, arith}
use Rattle.std.specs.List.{flat_map}
use Rattle.std.proofs.ByRecursion.{All-push}
use Rattle.std.proofs.lemmas.List.{append-nil, flat_map_more, length_push}
use Rattle.std.proofs.lemmas.Bool.{both_ways}
use Rattle.walks.specs.Hall.{Hall}
use Rattle.walks.specs.Hall as walks
use Rattle.model.specs.declared.Phase.TheVariants.{Laying}
use Rattle.model.specs.State.{JobState, closed}
use Rattle.model.specs.Calls.{make_due, made, lay_due, laid, with_leg}
use Rattle.sheet.specs.Form.{written}
use Rattle.sheet.specs.Reading.{Standing, opening, LineRead, more}
use Rattle.sheet.specs.declared.Kind.{Kind}
use Rattle.sheet.specs.declared.Kind.TheVariants.{Start, Leg, End}
use Rattle.sheet.proofs.Sheets.{more_small}
use Rattle.intake.specs.Sheets.{start_line, leg_line, end_line, Inside, Valid, Obeys, nth, line_due, after_line, Taken, none, one_more, sheet_limit}
use Rattle.intake.proofs.Dues.{makeable, layable}

two_are : (ks : List ℕ) → length ks ≡ 2 → ks ≡ nth ks 0 ∷ nth ks 1 ∷ []
two_are [] e = absurd (omega arith)
two_are (a ∷ []) e = absurd (omega arith)
two_are (a ∷ b ∷ []) e = refl
two_are (a ∷ b ∷ c ∷ ks) e = absurd (omega arith)

three_are : (ks : List ℕ) → length ks ≡ 3 → ks ≡ nth ks 0 ∷ nth ks 1 ∷ nth ks 2 ∷ []
three_are [] e = absurd (omega arith)
three_are (a ∷ []) e = absurd (omega arith)
three_are (a ∷ b ∷ []) e = absurd (omega arith)
three_are (a ∷ b ∷ c ∷ []) e = refl
three_are (a ∷ b ∷ c ∷ d ∷ ks) e = absurd (omega arith)

-- among the legs
record Among (bytes : List ℕ) (n : ℕ) (r : Standing) (s : JobState) (h : Hall) : Type 0 where
  valid : Valid h
  job : s ≡ closed Laying h
  going : r.closed ≡ false
  lines : r.lines ≡ n
  count : n ≡ length h.legs + 1
  legs : r.legs ≡ length h.legs
  front : bytes ≡ start_line h ++ (flat_map leg_line h.legs ++ r.rest)

-- past the end
record Past (bytes : List ℕ) (n : ℕ) (r : Standing) (s : JobState) (h : Hall) : Type 0 where
  valid : Valid h
  job : s ≡ closed Laying h
  lines : r.lines ≡ n
  count : n ≡ length h.legs + 2
  going : r.closed ≡ true
  front : bytes ≡ start_line h ++ (flat_map leg_line h.legs ++ (end_line h ++ r.rest))

data Stage (bytes : List ℕ) (n : ℕ) (r : Standing) (s : JobState) : Type 0 where
  before : n ≡ 0 → r ≡ opening bytes → Stage bytes n r s
  among : (h : Hall) → Among bytes n r s h → Stage bytes n r s
  past : (h : Hall) → Past bytes n r s h → Stage bytes n r s

module _ (bytes : List ℕ) (n : ℕ) (r t : Standing) (s : JobState) (ks : List ℕ) where
  start_hall : Hall
  start_hall = record { points = nth ks 0; bound = nth ks 1; legs = [] }

  new_leg : walks.Leg
  new_leg = record { from = nth ks 0; to = nth ks 1; cost = nth ks 2 }

  after_start : n ≡ 0 → r ≡ opening bytes → LineRead r Start ks t → make_due (nth ks 0) (nth ks 1) ≡ None →
      Among bytes (suc n) t (made (nth ks 0) (nth ks 1)) start_hall
  unfolding start_hall
  after_start z e line due =
      let fine = makeable (nth ks 0) (nth ks 1) due in
      let lines : r.lines ≡ 0 = ap (λ x. x.lines) e in
      let legs : r.legs ≡ 0 = ap (λ x. x.legs) e in
      let first : t.lines ≡ 1 = line.lines ∙ ap more lines in
      record {
        valid = record {
          some_points = fine.some_points;
          few_points = fine.few_points;
          some_bound = fine.some_bound;
          low_bound = fine.low_bound;
          inside = tt;
          few_legs = omega arith;
        };
        job = refl;
        going = line.closed;
        lines = omega arith;
        count = omega arith;
        legs = line.legs ∙ legs;
        front = sym (ap (λ x. x.rest) e) ∙ (line.bytes ∙ ap (λ x. written Start x ++ t.rest) (two_are ks line.count));
      }

  after_leg : (h : Hall) → Among bytes n r s h → LineRead r Leg ks t → line_due s Leg ks ≡ None →
      Among bytes (suc n) t (after_line s Leg ks) (with_leg h new_leg)
  unfolding new_leg
  after_leg h a line due =
      let fine = layable h (nth ks 0) (nth ks 1) (nth ks 2) (subst (λ x. lay_due x (nth ks 0) (nth ks 1) (nth ks 2) ≡ None) a.job due) in
      let size = length_push h.legs new_leg in
      let next = more_small n (omega (arith, a.count, fine.room)) in
      let last = more_small (length h.legs) (omega (arith, fine.room)) in
      let lines : t.lines ≡ n + 1 = line.lines ∙ (ap more a.lines ∙ next) in
      let legs : t.legs ≡ length h.legs + 1 = line.legs ∙ (ap more a.legs ∙ last) in
      let text : r.rest ≡ leg_line new_leg ++ t.rest = line.bytes ∙ ap (λ x. written Leg x ++ t.rest) (three_are ks line.count) in
      let row : flat_map leg_line h.legs ++ (leg_line new_leg ++ t.rest) ≡ flat_map leg_line (h.legs ++ new_leg ∷ []) ++ t.rest =
      sym (append_assoc (flat_map leg_line h.legs) (leg_line new_leg) t.rest) ∙ ap (λ x. x ++ t.rest) (flat_map_more leg_line [] h.legs new_leg) in
      record {
        valid = record {
          some_points = a.valid.some_points;
          few_points = a.valid.few_points;
          some_bound = a.valid.some_bound;
          low_bound = a.valid.low_bound;
          inside = All-push (Inside h) h.legs new_leg a.valid.inside (fine.from, fine.to, fine.cost);
          few_legs = omega (arith, fine.room);
        };
        job = ap (λ x. laid x (nth ks 0) (nth ks 1) (nth ks 2)) a.job;
        going = line.closed;
        lines = omega arith;
        count = omega (arith, a.count);
        legs = omega arith;
        front = a.front ∙ ap (λ x. start_line h ++ x) (ap (λ x. flat_map leg_line h.legs ++ x) text ∙ row);
      }

  after_end : (h : Hall) → Among bytes n r s h → LineRead r End ks t → Past bytes (suc n) t s h
  after_end h a line =
      let next = more_small n (omega (arith, a.count, a.valid.few_legs)) in
      let lines : t.lines ≡ n + 1 = line.lines ∙ (ap more a.lines ∙ next) in
      let text : r.rest ≡ end_line h ++ t.rest =
      line.bytes ∙ ap (λ x. written End x ++ t.rest) (line.counted ∙ ap (λ i. i ∷ []) a.legs) in
      record {
        valid = a.valid;
        job = a.job;
        lines = omega arith;
        count = omega (arith, a.count);
        going = line.closed;
        front = a.front ∙ ap (λ x. start_line h ++ (flat_map leg_line h.legs ++ x)) text;
      }

  step : (kind : Kind) → Stage bytes n r s → LineRead r kind ks t → line_due s kind ks ≡ None → Stage bytes (suc n) t (after_line s kind ks)
  step Start (before z e) line due = among start_hall (after_start z e line due)
  step Leg (before z e) line due = absurd (omega (arith, line.due, ap (λ x. x.lines) e))
  step End (before z e) line due = absurd (omega (arith, line.due, ap (λ x. x.lines) e))
  step Start (among h a) line due = absurd (omega (arith, line.due, a.lines, a.count))
  step Leg (among h a) line due = among (with_leg h new_leg) (after_leg h a line due)
  step End (among h a) line due = past h (after_end h a line)
  step Start (past h a) line due = absurd (both_ways r.closed line.going a.going)
  step Leg (past h a) line due = absurd (both_ways r.closed line.going a.going)
  step End (past h a) line due = absurd (both_ways r.closed line.going a.going)

stage : {bytes : List ℕ} {n : ℕ} {r : Standing} {s : JobState} → Taken bytes n r s → Stage bytes n r s
stage none = before refl refl
stage {bytes} (one_more {n} {r} {t} {s} kind ks taken line due) = step bytes n r t s ks kind (stage taken) line due

line_in : (bytes : List ℕ) (n : ℕ) (r : Standing) (s : JobState) → Stage bytes n r s → (r.lines ≡ n) × (n < 100000)
line_in bytes n r s (before z e) = let l : r.lines ≡ 0 = ap (λ x. x.lines) e in (omega arith, omega arith)
line_in bytes n r s (among h a) = (a.lines, omega (arith, a.count, a.valid.few_legs))
line_in bytes n r s (past h a) = (a.lines, omega (arith, a.count, a.valid.few_legs))

-- the reader has counted the lines
pub lines_are : {bytes : List ℕ} {n : ℕ} {r : Standing} {s : JobState} → Taken bytes n r s → r.lines ≡ n
lines_are {bytes} {n} {r} {s} taken = (line_in bytes n r s (stage taken)).0

-- the number of the next line
pub next_line : {bytes : List ℕ} {n : ℕ} {r : Standing} {s : JobState} → Taken bytes n r s → more r.lines ≡ suc n
next_line {bytes} {n} {r} {s} taken =
    let (lines, few) = line_in bytes n r s (stage taken) in
    let next = more_small r.lines (omega arith) in
    omega arith

whole : (bytes : List ℕ) (n : ℕ) (r : Standing) (s : JobState) → length bytes ≤ sheet_limit → r.closed ≡ true → r.rest ≡ [] →
    Stage bytes n r s → (h : Hall) × Obeys bytes h × (s ≡ closed Laying h)
whole bytes n r s short shut end (before z e) = absurd (both_ways r.closed (ap (λ x. x.closed) e) shut)
whole bytes n r s short shut end (among h a) = absurd (both_ways r.closed a.going shut)
whole bytes n r s short shut end (past h a) = (
  h,
  record {
    sheet = a.front ∙ ap (λ x. start_line h ++ (flat_map leg_line h.legs ++ x)) (ap (λ x. end_line h ++ x) end ∙ append-nil (end_line h));
    short = short;
    valid = a.valid;
  },
  a.job,
)

-- lines taken to the close are the sheet of a hall, and the job has that hall
pub taken_whole : {bytes : List ℕ} {n : ℕ} {r : Standing} {s : JobState} → length bytes ≤ sheet_limit → r.closed ≡ true → r.rest ≡ [] →
    Taken bytes n r s → (h : Hall) × Obeys bytes h × (s ≡ closed Laying h)
taken_whole {bytes} {n} {r} {s} short shut end taken = whole bytes n r s short shut end (stage taken)
