-- The figures of a field.
use Rattle.std.proofs.Common.{◌≡◌, ℕ, ◌+◌, ◌-◌, ◌<◌, ◌≤◌, true, false, List, ◌∷◌, ◌++◌, length, get_or, take, drop, sym, ap, ◌∙◌, subst, inl, inr, ⊎_elim, arith, rules, length-take}
use Rattle.std.specs.List.{prefix_len, take_while}
use Rattle.std.specs.Char.{is_ascii_digit}
use Rattle.std.proofs.lemmas.List.{take-append-drop, length-take-le, get_or-take, drop_more, drop_all, drop-drop}
use Rattle.std.proofs.lemmas.List.Sums.{prefix_len_passes, prefix_len_stops, prefix_len-le-length}
use Rattle.std.proofs.lemmas.List.Folds.{length-prefix_len}
use Rattle.std.proofs.lemmas.Bool.{cases_lt}
use Rattle.std.proofs.ByRecursion.{All-from_get_or, All-get_or}
use Rattle.sheet.specs.Form.{Begins, Figure}
use Rattle.sheet.specs.Reading.{BadField}
use Rattle.sheet.specs.Steps.{left, Passed, LeadingFigures, AsWritten, FiguresTaken}
use Rattle.sheet.specs.declared.steps.Cursor.{Cursor}
use Rattle.sheet.specs.declared.steps.Place.TheVariants.{Field}
use Rattle.sheet.proofs.Spelling.{plain_figures}

figure_told : (b : ℕ) → is_ascii_digit b ≡ true → Figure b
figure_told b h = search rules

not_figure : (b : ℕ) → is_ascii_digit b ≡ false → Figure b → ⊥
not_figure b h f = search rules

-- the bytes that pass are the figures that lead
pub leading : (bs : List ℕ) (n : ℕ) → n ≡ length (take_while is_ascii_digit (take 6 bs)) → LeadingFigures bs n
leading bs n h =
    let e : n ≡ prefix_len is_ascii_digit (take 6 bs) = h ∙ length-prefix_len is_ascii_digit (take 6 bs) in
    let l = prefix_len-le-length is_ascii_digit (take 6 bs) in
    let m : length (take 6 bs) ≤ length bs = omega (arith, length-take 6 bs) in
    record {
      within = omega arith;
      few = omega (arith, length-take 6 bs);
      all =
          All-from_get_or Figure (take n bs) 0
          (λ i h.
          let k : length (take n bs) ≡ n = length-take-le n bs (omega (arith, length-take 6 bs)) in
          let t : is_ascii_digit (get_or (take 6 bs) i 0) ≡ true = prefix_len_passes is_ascii_digit (take 6 bs) i 0 (omega arith) in
          figure_told _ (ap is_ascii_digit (get_or-take n bs i 0 (omega arith) ∙ sym (get_or-take 6 bs i 0 (omega (arith, length-take 6 bs)))) ∙ t));
      ends = λ six b.
          ⊎_elim
          (λ (more : n < length bs).
          let s : is_ascii_digit (get_or (take 6 bs) (prefix_len is_ascii_digit (take 6 bs)) 0) ≡ false = prefix_len_stops is_ascii_digit (take 6 bs) 0 (omega (arith, length-take 6 bs)) in
          not_figure (get_or bs n 0) (ap is_ascii_digit (sym (get_or-take 6 bs n 0 six)) ∙ (ap (λ i. is_ascii_digit (get_or (take 6 bs) i 0)) e ∙ s)) (subst (λ l. Begins Figure l) (drop_more bs n 0 more) b))
          (λ (past : length bs ≤ n). subst (λ l. Begins Figure l) (drop_all n bs past) b)
          (cases_lt n (length bs));
    }

-- no figure, or a 0 and one more figure, or six
pub bad_figures : (bs : List ℕ) (n : ℕ) → LeadingFigures bs n → AsWritten (take n bs) false → BadField bs
bad_figures bs n l (inl none) =
    let z : n ≡ 0 = sym (length-take-le n bs l.within) ∙ none in
    inl (subst (λ i. Begins Figure (drop i bs) → ⊥) z (l.ends (omega arith)))
bad_figures bs n l (inr (inl (two, lead))) =
    let k : length (take n bs) ≡ n = length-take-le n bs l.within in
    let some : 0 < length bs = omega (arith, l.within) in
    let more : 1 < length bs = omega (arith, l.within) in
    let e : bs ≡ 48 ∷ drop 1 bs = drop_more bs 0 0 some ∙ ap (λ b. b ∷ drop 1 bs) (sym (get_or-take n bs 0 0 (omega arith)) ∙ lead) in
    let d : drop 1 bs ≡ get_or bs 1 0 ∷ drop 2 bs = drop_more bs 1 0 more in
    let f : Figure (get_or (take n bs) 1 0) = All-get_or Figure (take n bs) 1 0 two l.all in
    inr (inl (get_or bs 1 0, drop 2 bs, e ∙ ap (λ x. 48 ∷ x) d, subst Figure (get_or-take n bs 1 0 (omega arith)) f))
bad_figures bs n l (inr (inr six)) =
    let k : length (take n bs) ≡ n = length-take-le n bs l.within in
    inr (inr (take n bs, drop n bs, sym (take-append-drop n bs), omega (arith, l.few), l.all))

-- one to five figures, only one where the first is 0
pub figures_taken : (c d e : Cursor) (bs : List ℕ) (n : ℕ) → bs ≡ left c → c.place ≡ Field → Passed c.place c d → LeadingFigures bs n → AsWritten (take n bs) true → e.sheet.now ≡ d.sheet.now → e.at ≡ d.at + (length (take n bs) - 1) → FiguresTaken c (take n bs) e
figures_taken c d e bs n is place first l (some, few, lead) same along =
    let m = (subst (λ p. Passed p c d) place first).1 in
    let k : length (take n bs) ≡ n = length-take-le n bs l.within in
    let at : e.at ≡ c.at + n = omega (arith, m.along) in
    let rest : left e ≡ drop n bs =
    ap (λ s. drop e.at s) (same ∙ m.same) ∙ (ap (λ i. drop i c.sheet.now) at ∙ (sym (drop-drop n c.at c.sheet.now) ∙ ap (λ x. drop n x) (sym is))) in
    let plain = plain_figures (take n bs) l.all some few lead in
    record {
      small = plain.small;
      plain = plain.written;
      moved = record {
        same = same ∙ m.same;
        along = omega arith;
        bytes = sym is ∙ (sym (take-append-drop n bs) ∙ ap (λ x. take n bs ++ x) (sym rest));
      };
      ends = λ b. l.ends (omega arith) (subst (λ x. Begins Figure x) rest b);
    }
