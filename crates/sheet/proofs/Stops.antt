-- The fields of a line stop at one place, so that the bytes after a mark are read in one way.
-- Assumes nothing.
use Rattle.std.proofs.Common.{◌≡◌, ℕ, zero, suc, ◌+◌, ◌%◌, ◌<◌, ◌≤◌, cond, eqb, List, [], ◌∷◌, ◌++◌, length, get_or, drop, decimal, sym, refl, ap, ◌∙◌, subst, inl, inr, append_assoc, arith}
use Rattle.std.specs.List.{AllByRecursion}
use Rattle.std.proofs.lemmas.Fmt.{decimal_by_steps, decimal_digit, decimal_nonempty, length-decimal-le, first_decimal, decimal_injective}
use Rattle.std.proofs.ByRecursion.{All-push}
use Rattle.sheet.specs.Form.{Begins, Figure, letters, width, field, fields, Fields, written}
use Rattle.sheet.specs.Reading.{Due, BadField}
use Rattle.sheet.specs.declared.Kind.{Kind}
use Rattle.sheet.specs.declared.Kind.TheVariants.{Start, Leg, End}

-- no figure comes
abbrev pub Bare : List ℕ → Type 0
Bare bs = Begins Figure bs → ⊥

figures_of : (k : ℕ) → k < 100000 → AllByRecursion Figure (decimal k)
figures_of k h =
    decimal_by_steps (λ n ds. AllByRecursion Figure ds) (λ n l. ((omega arith, omega arith), tt))
    (λ n ds l a. let m : n % 10 < 10 = omega arith in All-push Figure ds (48 + n % 10) a (omega arith, omega arith)) k (omega arith)

lead_zero : (k : ℕ) → k < 100000 → get_or (decimal k) 0 0 ≡ 48 → length (decimal k) ≡ 1
lead_zero zero h e = ap length (decimal_digit 0 (omega arith))
lead_zero (suc k) h e = let f = first_decimal (suc k) (omega arith) (omega arith) in absurd (omega arith)

split : (d e a b : List ℕ) → AllByRecursion Figure d → AllByRecursion Figure e → Bare a → Bare b → d ++ a ≡ e ++ b → (d ≡ e) × (a ≡ b)
split [] [] a b fd fe na nb q = (refl, q)
split [] (y ∷ e) a b fd fe na nb q = absurd (na (subst (λ l. Begins Figure l) (sym q) fe.0))
split (x ∷ d) [] a b fd fe na nb q = absurd (nb (subst (λ l. Begins Figure l) q fd.0))
split (x ∷ d) (y ∷ e) a b fd fe na nb q =
    let h : x ≡ y = cc in
    let t : d ++ a ≡ e ++ b = cc in
    let (p, r) = split d e a b fd.1 fe.1 na nb t in
    let w : x ∷ d ≡ y ∷ e = cc in
    (w, r)

begins : (ds more : List ℕ) → AllByRecursion Figure ds → 0 < length ds → Begins Figure (ds ++ more)
begins [] more f l = absurd (omega arith)
begins (x ∷ ds) more f l = f.0

no_lead : (ds more t : List ℕ) (d : ℕ) → 0 < length ds → (get_or ds 0 0 ≡ 48 → length ds ≡ 1) → Bare more → ds ++ more ≡ 48 ∷ d ∷ t → Figure d → ⊥
no_lead [] more t d l z n q f = absurd (omega arith)
no_lead (x ∷ []) more t d l z n q f = let e : more ≡ d ∷ t = cc in n (subst (λ l. Begins Figure l) (sym e) f)
no_lead (x ∷ y ∷ ds) more t d l z n q f = let e : x ≡ 48 = cc in let k = z e in absurd (omega arith)

no_more : (six ds t more : List ℕ) → AllByRecursion Figure six → length ds < length six → Bare more → six ++ t ≡ ds ++ more → ⊥
no_more [] ds t more f l n q = absurd (omega arith)
no_more (x ∷ six) [] t more f l n q = n (subst (λ l. Begins Figure l) q f.0)
no_more (x ∷ six) (y ∷ ds) t more f l n q = let e : six ++ t ≡ ds ++ more = cc in no_more six ds t more f.1 (omega arith) n e

-- a number's figures are no bad field
pub good_field : (k : ℕ) (more bs : List ℕ) → k < 100000 → Bare more → bs ≡ decimal k ++ more → BadField bs → ⊥
good_field k more bs h n q (inl never) =
    never (subst (λ l. Begins Figure l) (sym q) (begins (decimal k) more (figures_of k h) (decimal_nonempty k (omega arith))))
good_field k more bs h n q (inr (inl (d, t, e, f))) =
    no_lead (decimal k) more t d (decimal_nonempty k (omega arith)) (lead_zero k h) n (sym q ∙ e) f
good_field k more bs h n q (inr (inr (six, t, e, l, f))) =
    let few : length (decimal k) ≤ 5 = length-decimal-le 5 k (omega arith) h (omega arith) in
    no_more six (decimal k) t more f (omega arith) n (sym e ∙ q)

-- after i fields of w no field comes, where one is due, and no figure
pub record Stop (w i : ℕ) (tail : List ℕ) : Type 0 where
  pub within : i ≤ w
  pub bare : 0 < i → Bare tail
  pub last : i < w → (k : ℕ) (more : List ℕ) → k < 100000 → Bare more → tail ≡ field k ++ more → ⊥

next_field : (k : ℕ) (ks y : List ℕ) → fields (k ∷ ks) ++ y ≡ field k ++ (fields ks ++ y)
next_field k ks y = append_assoc (field k) (fields ks) y

bare_mid : (w i o : ℕ) (ks tail : List ℕ) → Stop w i tail → i ≡ suc o + length ks → Bare (fields ks ++ tail)
bare_mid w i o [] tail s e = s.bare (omega arith)
bare_mid w i o (k ∷ ks) tail s e = λ f. omega (arith, f.0)

-- so the fields stop at one place
module _ (w i m : ℕ) (a b : List ℕ) (sa : Stop w i a) (sb : Stop w m b) where
  one_stop : (o : ℕ) (ks js : List ℕ) → i ≡ o + length ks → m ≡ o + length js → Fields ks → Fields js → fields ks ++ a ≡ fields js ++ b → (ks ≡ js) × (a ≡ b)
  one_stop o [] [] ei em fk fj q = (refl, q)
  one_stop o [] (j ∷ js) ei em fk fj q =
      absurd (sa.last (omega (arith, sb.within)) j (fields js ++ b) fj.0 (bare_mid w m o js b sb (omega arith)) (q ∙ next_field j js b))
  one_stop o (k ∷ ks) [] ei em fk fj q =
      absurd (sb.last (omega (arith, sa.within)) k (fields ks ++ a) fk.0 (bare_mid w i o ks a sa (omega arith)) (sym q ∙ next_field k ks a))
  one_stop o (k ∷ ks) (j ∷ js) ei em fk fj q =
      let e : 32 ∷ (decimal k ++ (fields ks ++ a)) ≡ 32 ∷ (decimal j ++ (fields js ++ b)) = sym (next_field k ks a) ∙ (q ∙ next_field j js b) in
      let t : decimal k ++ (fields ks ++ a) ≡ decimal j ++ (fields js ++ b) = cc in
      let (d, r) = split (decimal k) (decimal j) (fields ks ++ a) (fields js ++ b) (figures_of k fk.0) (figures_of j fj.0) (bare_mid w i o ks a sa (omega arith)) (bare_mid w m o js b sb (omega arith)) t in
      let h : k ≡ j = decimal_injective k j (omega (arith, fk.0)) (omega (arith, fj.0)) d in
      let (p, z) = one_stop (o + 1) ks js (omega arith) (omega arith) fk.1 fj.1 r in
      let v : k ∷ ks ≡ j ∷ js = cc in
      (v, z)

-- the kind that the first letter tells
abbrev first_kind : List ℕ → Kind
first_kind bs = cond (eqb (get_or bs 0 0) 83) Start (cond (eqb (get_or bs 0 0) 76) Leg End)

kind_told : (kind : Kind) (x : List ℕ) → first_kind (letters kind ++ x) ≡ kind
kind_told Start x = refl
kind_told Leg x = refl
kind_told End x = refl

mark_passed : (kind : Kind) (x : List ℕ) → drop 2 (letters kind ++ x) ≡ x
mark_passed Start x = refl
mark_passed Leg x = refl
mark_passed End x = refl

one_mark : (a b : Kind) (x y : List ℕ) → letters a ++ x ≡ letters b ++ y → (a ≡ b) × (x ≡ y)
one_mark a b x y q = (sym (kind_told a x) ∙ (ap first_kind q ∙ kind_told b y), sym (mark_passed a x) ∙ (ap (drop 2) q ∙ mark_passed b y))

-- the bytes are a mark that is due and some fields, and stop there
pub record Cut (lines : ℕ) (bs : List ℕ) (kind : Kind) (ks tail : List ℕ) : Type 0 where
  pub due : Due lines kind
  pub small : Fields ks
  pub stop : Stop (width kind) (length ks) tail
  pub bytes : bs ≡ letters kind ++ (fields ks ++ tail)

pub one_cut : {lines : ℕ} {bs : List ℕ} {k j : Kind} {ks js a b : List ℕ} → Cut lines bs k ks a → Cut lines bs j js b → (k ≡ j) × (ks ≡ js) × (a ≡ b)
one_cut {lines} {bs} {k} {j} {ks} {js} {a} {b} c d =
    let (e, r) = one_mark k j (fields ks ++ a) (fields js ++ b) (sym c.bytes ∙ d.bytes) in
    let s : Stop (width j) (length ks) a = subst (λ x. Stop (width x) (length ks) a) e c.stop in
    let (p, q) = one_stop (width j) (length ks) (length js) a b s d.stop 0 ks js (omega arith) (omega arith) c.small d.small r in
    (e, p, q)

module _ (lines : ℕ) (bs : List ℕ) (kind : Kind) (ks : List ℕ) (due : Due lines kind) (small : Fields ks) where
  pub whole_cut : (x : List ℕ) → length ks ≡ width kind → bs ≡ written kind ks ++ x → Cut lines bs kind ks (10 ∷ x)
  whole_cut x count is =
      record {
        due = due;
        small = small;
        stop = record { within = omega arith; bare = λ _ f. omega (arith, f.0); last = λ less. absurd (omega arith) };
        bytes = is ∙ (append_assoc (letters kind) (fields ks ++ (10 ∷ [])) x ∙ ap (λ l. letters kind ++ l) (append_assoc (fields ks) (10 ∷ []) x));
      }

  pub broken_cut : (rest tail : List ℕ) → bs ≡ letters kind ++ rest → rest ≡ fields ks ++ tail → Stop (width kind) (length ks) tail → Cut lines bs kind ks tail
  broken_cut rest tail is e stop = record { due = due; small = small; stop = stop; bytes = is ∙ ap (λ l. letters kind ++ l) e }
