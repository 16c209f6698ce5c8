-- A reading ends in one way: lines are taken in one way, and a line that ends the reading is not taken.
-- Assumes nothing.
use Rattle.std.proofs.Common.{◌≡◌, ℕ, suc, ◌<◌, ◌≤◌, List, length, Some, None, Option, sym, refl, ap, ◌∙◌, subst, ⊎_elim, arith}
use Rattle.std.proofs.lemmas.Bool.{cases_lt, cases_order}
use Rattle.model.specs.declared.Refusal.{Refusal}
use Rattle.model.specs.State.{JobState}
use Rattle.sheet.specs.Reading.{Standing, LineRead, more, Outcome, line, close, fault as faulted, Reads}
use Rattle.sheet.specs.declared.Kind.{Kind}
use Rattle.sheet.proofs.Outcomes.{one_outcome}
use Rattle.intake.specs.declared.Cause.TheVariants.{Form, Numbers}
use Rattle.intake.specs.declared.SheetFault.{SheetFault}
use Rattle.intake.specs.Faults.{fault}
use Rattle.intake.specs.Sheets.{sheet_limit, line_due, after_line, Taken, none, one_more, Due, too_long, by_form, by_numbers}

-- lines are taken in one way
taken_one : {bytes : List ℕ} {n m : ℕ} {r q : Standing} {s v : JobState} → Taken bytes n r s → Taken bytes m q v → n ≡ m → (r ≡ q) × (s ≡ v)
taken_one none none e = (refl, refl)
taken_one none (one_more k js b other clear) e = absurd (omega arith)
taken_one (one_more k ks a this due) none e = absurd (omega arith)
taken_one (one_more {r = r} {t = t} {s = s} k ks a this due) (one_more {r = q} {t = u} {s = v} j js b other clear) e =
    let (p, w) = taken_one a b (omega arith) in
    let (o, z) = one_outcome r (line k ks) (line j js) t u this (subst (λ x. LineRead x j js u) (sym p) other) in
    let x : k ≡ j = cc in
    let y : ks ≡ js = cc in
    (z, ap (λ i. after_line i k ks) w ∙ (ap (λ i. after_line v i ks) x ∙ ap (λ i. after_line v j i) y))

-- where more lines are taken, the next is taken
next_of : {bytes : List ℕ} {n m : ℕ} {r q : Standing} {s v : JobState} → Taken bytes m q v → Taken bytes n r s → n < m →
    (kind : Kind) × (ks : List ℕ) × (t : Standing) × LineRead r kind ks t × (line_due s kind ks ≡ None)
next_of none b less = absurd (omega arith)
next_of {n = n} (one_more {n = m} {t = t} kind ks a this due) b less =
    ⊎_elim (λ (lt : n < m). next_of a b lt)
    (λ (ge : m ≤ n).
    let (p, w) = taken_one a b (omega arith) in
    (kind, ks, t, subst (λ x. LineRead x kind ks t) p this, subst (λ x. line_due x kind ks ≡ None) w due)) (cases_lt n m)

-- an outcome that ends the reading: a line only if its numbers are refused
abbrev pub Ends : JobState → Outcome → Type 0
Ends s (line kind ks) = line_due s kind ks ≡ None → ⊥
Ends s close = Unit {0}
Ends s (faulted f k) = Unit {0}

abbrev pub refused : ℕ → Option Refusal → Option SheetFault
refused n None = None
refused n (Some e) = Some (fault (Numbers e) (suc n))

-- the fault that it tells after n lines
abbrev pub told : ℕ → JobState → Outcome → Option SheetFault
told n s (line kind ks) = refused n (line_due s kind ks)
told n s close = None
told n s (faulted f k) = Some (fault (Form f) (suc n))

-- a reading that ends with the job at s, and tells a fault or none
pub record Ended (bytes : List ℕ) (s : JobState) (f : Option SheetFault) : Type 0 where
  pub n : ℕ
  pub r : Standing
  pub t : Standing
  pub out : Outcome
  pub taken : Taken bytes n r s
  pub reads : Reads r out t
  pub ends : Ends s out
  pub tells : f ≡ told n s out

-- it does not end before another does
not_before : {bytes : List ℕ} {s v : JobState} {f g : Option SheetFault} (a : Ended bytes s f) (b : Ended bytes v g) → a.n < b.n → ⊥
not_before {s = s} a b less =
    let (kind, ks, t, this, due) = next_of b.taken a.taken less in
    let (o, _) = one_outcome a.r a.out (line kind ks) a.t t a.reads this in
    subst (λ x. Ends s x) o a.ends due

pub one_end : {bytes : List ℕ} {s v : JobState} {f g : Option SheetFault} → Ended bytes s f → Ended bytes v g → (s ≡ v) × (f ≡ g)
one_end {bytes} {s} {v} {f} {g} a b =
    ⊎_elim
    (λ (e : a.n ≡ b.n).
    let (p, w) = taken_one a.taken b.taken e in
    let (o, _) = one_outcome b.r a.out b.out a.t b.t (subst (λ x. Reads x a.out a.t) p a.reads) b.reads in
    (w, a.tells ∙ (ap (λ i. told i s a.out) e ∙ (ap (λ i. told b.n i a.out) w ∙ (ap (λ i. told b.n v i) o ∙ sym b.tells)))))
    (λ o. absurd (⊎_elim (λ (l : a.n < b.n). not_before a b l) (λ (l : b.n < a.n). not_before b a l) o)) (cases_order a.n b.n)

-- a fault that is due ends the reading
pub due_ends : {bytes : List ℕ} {f : SheetFault} → Due bytes f → length bytes ≤ sheet_limit → (s : JobState) × Ended bytes s (Some f)
due_ends (too_long long) short = absurd (omega arith)
due_ends (by_form {n = n} {r = r} {s = s} e short taken wrong) _ =
    (s, record { n = n; r = r; t = r; out = faulted e (more r.lines); taken = taken; reads = (wrong, refl, refl); ends = tt; tells = refl })
due_ends (by_numbers {n = n} {r = r} {t = t} {s = s} kind ks e short taken this wrong) _ = (
  s,
  record {
    n = n;
    r = r;
    t = t;
    out = line kind ks;
    taken = taken;
    reads = this;
    ends = λ clear. let z : ◌≡◌ {A = ℕ} 0 1 = cc in omega arith;
    tells = sym (ap (refused n) wrong);
  },
)
