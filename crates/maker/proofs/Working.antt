-- A job opened on a queue that suits it, and worked with a budget above all pairs, is finished.
-- Assumes nothing.
use Rattle.std.proofs.Common.{◌≡◌, ℕ, ◌*◌, ◌≤◌, true, false, List, ◌∷◌, map, length, Some, None, Ok, Err, Option, Result, sym, refl, ap, ◌∙◌, subst, mul-le-mul, arith, IsOk, is_ok}
use Rattle.std.proofs.lemmas.Bool.{both_ways}
use Rattle.std.proofs.lemmas.Bool.Decides.{nat_tests}
use Rattle.figures.specs.Limits.{cell_limit}
use Rattle.rules.specs.Meanings.{running_time, running_reach}
use Rattle.rules.specs.Proved.{running_lawful}
use Rattle.queue.specs.Meaning.{Meaning, Least}
use Rattle.queue.specs.declared.Entry.{Entry}
use Rattle.walks.specs.Hall.{Hall}
use Rattle.walks.specs.Units.{Counted, none, has, lacks}
use Rattle.model.specs.declared.Phase.{Phase}
use Rattle.model.specs.declared.Phase.TheVariants.{Blank, Laying, Resting, Drawn}
use Rattle.model.specs.declared.Refusal.{Refusal}
use Rattle.model.specs.Refusals.{Answers}
use Rattle.model.specs.State.{JobState, closed, is_resting, is_open}
use Rattle.model.specs.Calls.{budget_limit, open_due, opened, start_queue, Opens, work_due, Works, Worked, spent, empty, unit, unfit}
use Rattle.runs.specs.Lists.{Rule, opens, works, ends_of, Run, free, opening, working}
use Rattle.runs.specs.Law.{Law}
use Rattle.runs.proofs.Runs.{kept}
use Rattle.runs.proofs.Stands.{law}
use Rattle.intake.specs.Sheets.{Valid}
use Rattle.maker.specs.Tables.{by_time, Tabled, cells, Ready, Suits}

counted_few : {P : ℕ → Type 0} {m c : ℕ} → Counted P m c → c ≤ m
counted_few none = omega arith
counted_few (has p k) = let r = counted_few k in omega arith
counted_few (lacks p k) = let r = counted_few k in omega arith

resting_open : (p : Phase) → is_resting p ≡ true → is_open p ≡ true
resting_open Blank e = absurd (both_ways false refl e)
resting_open Laying e = absurd (both_ways false refl e)
resting_open Resting e = refl
resting_open (Drawn u v) e = absurd (both_ways false refl e)

-- a call to which no refusal is due is accepted
answered : {T E : Type 0} (why : E → Refusal) (Same : Type 0) (Done : T → Type 0) (o : Option Refusal) (r : Result T E) → o ≡ None →
    Answers o why r Same Done → (x : T) × (r ≡ Ok x) × Done x
answered why Same Done None (Ok x) e answer = (x, refl, answer)
answered why Same Done None (Err x) e answer = absurd answer
answered why Same Done (Some due) r e answer = let z : ◌≡◌ {A = ℕ} 0 1 = cc in absurd (omega arith)

worked_rests : {join : ℕ → ℕ → ℕ} {reach b : ℕ} {s t : JobState} {m o : Meaning} {es : List Entry} →
    Worked join reach b s m es t o → is_resting s.phase ≡ true → is_resting t.phase ≡ true
worked_rests spent e = e
worked_rests (empty l) e = e
worked_rests (unit l f w) e = worked_rests w refl
worked_rests (unfit g l f is so l2 f2) e = ap (λ x. is_resting x.phase) is

worked_hall : {join : ℕ → ℕ → ℕ} {reach b : ℕ} {s t : JobState} {m o : Meaning} {es : List Entry} →
    Worked join reach b s m es t o → t.hall ≡ s.hall
worked_hall spent = refl
worked_hall (empty l) = refl
worked_hall (unit l f w) = worked_hall w
worked_hall (unfit g l f is so l2 f2) = ap (λ x. x.hall) is

-- running time of dwell d
abbrev pub timed : ℕ → Rule
timed d = record { join = running_time d; reach = running_reach d }

module _ (d : ℕ) (zero : d ≡ 0) where
  few_pairs : (h : Hall) → Valid h → h.points * h.points ≤ cell_limit
  few_pairs h valid = let k : h.points * h.points ≤ 40 * 40 = mul-le-mul valid.few_points valid.few_points in omega arith

  open_clear : (h : Hall) (q : Meaning) → Valid h → Suits q → open_due (closed Laying h) q (running_reach d h.bound) ≡ None
  open_clear h q valid (room, wide) =
      let reach : running_reach d h.bound ≤ 4095 = omega (arith, valid.low_bound) in
      let range : h.points * running_reach d h.bound ≤ 40 * 4095 = mul-le-mul valid.few_points reach in
      let pairs = few_pairs h valid in
      grind (arith, nat_tests)

  module _ (s : JobState) (ready : Ready s) (q : Meaning) (suits : Suits q) where
    pub opening_due : open_due s q (running_reach d s.hall.bound) ≡ None
    opening_due =
        subst (λ x. open_due x q (running_reach d x.hall.bound) ≡ None) (sym ready.2) (open_clear ready.0 q ready.1 suits)

    module _ {T E : Type 0} (why : E → Refusal) (r : Result T E) (t : JobState) (o : Meaning)
        (opening_answer : Opens why s q (running_reach d s.hall.bound) r t o) where
      begun : (x : T) × (r ≡ Ok x) × ((t ≡ opened s q (running_reach d s.hall.bound)) × (o ≡ start_queue s.hall.points s.hall.points q))
      begun =
          answered why ((t ≡ s) × (o ≡ q)) (λ _. (t ≡ opened s q (running_reach d s.hall.bound)) × (o ≡ start_queue s.hall.points s.hall.points q))
          (open_due s q (running_reach d s.hall.bound)) r opening_due opening_answer

      is : t ≡ opened s q (running_reach d s.hall.bound)
      is = begun.2.0

      opened_run : Run (opens ∷ ready.3) t o (timed d)
      opened_run =
          let shut : is_open s.phase ≡ false = ap (λ x. is_open x.phase) ready.2 in
          let run = opening (free ready.6 shut q (timed d)) (running_lawful d (omega arith)) opening_due in
          subst (λ x. Run (opens ∷ ready.3) t x (timed d)) (sym begun.2.1)
          (subst (λ x. Run (opens ∷ ready.3) x (start_queue s.hall.points s.hall.points q) (timed d)) (sym is) run)

      rests : is_resting t.phase ≡ true
      rests = ap (λ x. is_resting x.phase) is

      module _ (e : Option Entry) (least : Least o e) where
        pub working_due : work_due t o e (running_reach d t.hall.bound) budget_limit ≡ None
        working_due =
            let fit = (law (opens ∷ ready.3) t o (timed d) (kept opened_run) (resting_open t.phase rests)).fit e least in
            grind (arith, nat_tests, rests, fit)

        module _ {U F : Type 0} (reason : F → Refusal) (count : U → ℕ) (w : Result U F) (z : JobState) (p : Meaning)
            (working_answer : Works reason count (running_time d) (running_reach d t.hall.bound) t o e budget_limit w z p) where
          done : (x : U) × (w ≡ Ok x) × ((es : List Entry) × (count x ≡ length es) × Worked (running_time d) (running_reach d t.hall.bound) budget_limit t o es z p)
          done =
              answered reason ((z ≡ t) × (p ≡ o))
              (λ x. (es : List Entry) × (count x ≡ length es) × Worked (running_time d) (running_reach d t.hall.bound) budget_limit t o es z p)
              (work_due t o e (running_reach d t.hall.bound) budget_limit) w working_due working_answer

          -- the work is accepted
          pub works_well : IsOk w
          works_well = ap is_ok done.1

          abbrev es : List Entry
          es = done.2.0

          worked : Worked (running_time d) (running_reach d t.hall.bound) budget_limit t o es z p
          worked = done.2.2

          hall_stays : z.hall ≡ s.hall
          hall_stays = worked_hall worked ∙ ap (λ x. x.hall) is

          worked_law : Law (works budget_limit (map (ends_of t) es) ∷ opens ∷ ready.3) z p (timed d)
          worked_law =
              law (works budget_limit (map (ends_of t) es) ∷ opens ∷ ready.3) z p (timed d)
              (kept (working e budget_limit es opened_run least working_due worked))
              (resting_open z.phase (worked_rests worked rests))

          -- and its table is that of the least values
          pub worked_tabled : Tabled by_time s.hall (cells z) × (z.hall ≡ s.hall)
          worked_tabled =
              let (w, counted, settled) = worked_law.counted in
              let few = counted_few counted in
              let pairs = few_pairs ready.0 ready.1 in
              let points : z.hall.points ≡ ready.0.points = ap (λ x. x.points) (hall_stays ∙ ap (λ x. x.hall) ready.2) in
              let square : z.hall.points * z.hall.points ≡ ready.0.points * ready.0.points = ap (λ n. n * n) points in
              let finished = (worked_law.done (worked_rests worked rests) w counted).1 (omega arith) in (
                subst (λ h. Tabled by_time h (cells z)) hall_stays (subst (λ k. Tabled (timed k) z.hall (cells z)) zero (worked_law.finished finished)),
                hall_stays,
              )
