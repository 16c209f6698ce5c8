-- Whole readings and whole sheets.
use Rattle.std.proofs.Common.{◌≡◌, ℕ, ◌+◌, ◌^◌, ◌<◌, ◌≤◌, Bool, true, false, List, [], ◌∷◌, ◌++◌, length, sym, refl, ap, ◌∙◌, subst, append_assoc, add-zero, mod-eq_of_lt, arith, length-append}
use Rattle.std.proofs.lemmas.List.{append-nil}
use Rattle.sheet.specs.Form.{written, Fields}
use Rattle.sheet.specs.Reading.{Standing, LineRead, more, opening}
use Rattle.sheet.specs.Whole.{Leg, leg_numbers, leg_line, leg_lines, end_line, start_line, sheet_bytes, LegNumbers, Numbers, Line, lines_from, lines_of, Whole, closes, goes, SheetOf, Once}
use Rattle.std.specs.List.{AllByRecursion}
use Rattle.sheet.specs.declared.Kind.{Kind}
use Rattle.sheet.specs.declared.Kind.TheVariants.{Start as start, Leg as leg, End as end}

pub more_small : (n : ℕ) → n < 100000 → more n ≡ n + 1
more_small n h = let l : n + 1 < 2 ^ 32 = omega arith in mod-eq_of_lt l

true_false : {P : Type 0} (b : Bool) → b ≡ true → b ≡ false → P
true_false b p q = let z : ◌≡◌ {A = Bool} true false = sym p ∙ q in let n : ◌≡◌ {A = ℕ} 0 1 = cc in absurd (omega arith)

two : (ks : List ℕ) → length ks ≡ 2 → (a b : ℕ) × (ks ≡ a ∷ b ∷ [])
two [] h = absurd (omega arith)
two (a ∷ []) h = absurd (omega arith)
two (a ∷ b ∷ []) h = (a, b, refl)
two (a ∷ b ∷ c ∷ ks) h = absurd (omega arith)

three : (ks : List ℕ) → length ks ≡ 3 → (l : Leg) × (ks ≡ leg_numbers l)
three [] h = absurd (omega arith)
three (a ∷ []) h = absurd (omega arith)
three (a ∷ b ∷ []) h = absurd (omega arith)
three (a ∷ b ∷ c ∷ []) h = (record { from = a; to = b; cost = c }, refl)
three (a ∷ b ∷ c ∷ d ∷ ks) h = absurd (omega arith)

-- a line has two bytes or more
line_length : (kind : Kind) (ks rest : List ℕ) → 2 + length rest ≤ length (written kind ks ++ rest)
line_length start ks rest = omega (arith, length-append (written start ks) rest)
line_length leg ks rest = omega (arith, length-append (written leg ks) rest)
line_length end ks rest = omega (arith, length-append (written end ks) rest)

-- among the legs: what was read, and the bytes that are left, are no more than a sheet has
record Among (s : Standing) : Type 0 where
  going : s.closed ≡ false
  some : 0 < s.lines
  lines : s.lines + length s.rest ≤ 32768
  legs : s.legs + length s.rest ≤ 32768

-- the legs and the end that are left
abbrev Left : Standing → List Line → Type 0
Left s ls =
    (legs : List Leg) × AllByRecursion LegNumbers legs × (s.rest ≡ leg_lines legs ++ end_line (s.legs + length legs)) × (ls ≡ lines_from legs (s.legs + length legs))

among_leg : (s t : Standing) (ks : List ℕ) → Among s → LineRead s leg ks t → Among t
among_leg s t ks a r =
    let n = more_small s.lines (omega (arith, a.lines)) in
    let m = more_small s.legs (omega (arith, a.legs)) in
    let k = line_length leg ks t.rest in
    let e = ap length r.bytes in
    record {
      going = r.closed;
      some = omega (arith, r.lines);
      lines = omega (arith, r.lines, a.lines);
      legs = omega (arith, r.legs, a.legs);
    }

leg_left : (s t : Standing) (ks : List ℕ) (ls : List Line) → Among s → LineRead s leg ks t → Left t ls → Left s ((leg, ks) ∷ ls)
leg_left s t ks ls a r (legs, small, rest, lines) =
    let (l, e) = three ks r.count in
    let m = more_small s.legs (omega (arith, a.legs)) in
    let k : t.legs + length legs ≡ s.legs + length (l ∷ legs) = omega (arith, r.legs) in
    let f : Fields (leg_numbers l) = subst Fields e r.small in
    let b : s.rest ≡ leg_line l ++ t.rest = subst (λ x. s.rest ≡ written leg x ++ t.rest) e r.bytes in (
      l ∷ legs,
      ((f.0, f.1.0, f.1.1.0), small),
      b ∙ (ap (λ x. leg_line l ++ x) (rest ∙ ap (λ i. leg_lines legs ++ end_line i) k) ∙ sym (append_assoc (leg_line l) (leg_lines legs) (end_line (s.legs + length (l ∷ legs))))),
      ap (λ x. (leg, x) ∷ ls) e ∙ ap (λ x. (leg, leg_numbers l) ∷ x) (lines ∙ ap (λ i. lines_from legs i) k),
    )

end_left : (s t : Standing) (ks : List ℕ) (ls : List Line) → LineRead s end ks t → Whole t ls → Left s ((end, ks) ∷ ls)
end_left s t ks ls r (closes _ u q) =
    let e : ks ≡ (s.legs + 0) ∷ [] = r.counted ∙ ap (λ i. i ∷ []) (sym (add-zero s.legs)) in (
      [],
      tt,
      r.bytes ∙ (ap (λ x. written end x ++ t.rest) e ∙ (ap (λ x. end_line (s.legs + 0) ++ x) q.1 ∙ append-nil (end_line (s.legs + 0)))),
      ap (λ x. (end, x) ∷ []) e,
    )
end_left s t ks ls r (goes _ u kind js us q w) = true_false t.closed r.closed q.going

legs_left : (s : Standing) (ls : List Line) → Among s → Whole s ls → Left s ls
legs_left s ls a (closes _ t r) = true_false s.closed r.0 a.going
legs_left s ls a (goes _ t start ks us r w) = absurd (omega (arith, r.due, a.some))
legs_left s ls a (goes _ t leg ks us r w) = leg_left s t ks us a r (legs_left t us (among_leg s t ks a r) w)
legs_left s ls a (goes _ t end ks us r w) = end_left s t ks us r w

among_start : (bytes : List ℕ) (s t : Standing) (ks : List ℕ) → length bytes ≤ 32768 → s ≡ opening bytes → LineRead s start ks t → Among t
among_start bytes s t ks h e r =
    let z : s.lines ≡ 0 = ap (λ x. x.lines) e in
    let y : s.legs ≡ 0 = ap (λ x. x.legs) e in
    let b : s.rest ≡ bytes = ap (λ x. x.rest) e in
    let n = more_small s.lines (omega arith) in
    let k = line_length start ks t.rest in
    let g = ap length r.bytes in
    let i = ap length b in
    record {
      going = r.closed;
      some = omega (arith, r.lines);
      lines = omega (arith, r.lines);
      legs = omega (arith, r.legs);
    }

start_left : (bytes : List ℕ) (s t : Standing) (ks : List ℕ) (ls : List Line) → s ≡ opening bytes → LineRead s start ks t → Left t ls → SheetOf bytes ((start, ks) ∷ ls)
start_left bytes s t ks ls e r (legs, small, rest, lines) =
    let (n, c, f) = two ks r.count in
    let k : t.legs + length legs ≡ length legs = omega (arith, r.legs, ap (λ x. x.legs) e) in
    let g : Fields (n ∷ c ∷ []) = subst Fields f r.small in
    let b : bytes ≡ start_line n c ++ t.rest = sym (ap (λ x. x.rest) e) ∙ subst (λ x. s.rest ≡ written start x ++ t.rest) f r.bytes in (
      n,
      c,
      legs,
      (g.0, g.1.0, small),
      b ∙ ap (λ x. start_line n c ++ x) (rest ∙ ap (λ i. leg_lines legs ++ end_line i) k),
      ap (λ x. (start, x) ∷ ls) f ∙ ap (λ x. (start, n ∷ c ∷ []) ∷ x) (lines ∙ ap (λ i. lines_from legs i) k),
    )

-- a whole reading is of a sheet
whole_sheet : (bytes : List ℕ) (s : Standing) (ls : List Line) → length bytes ≤ 32768 → s ≡ opening bytes → Whole s ls → SheetOf bytes ls
whole_sheet bytes s ls h e (closes _ t r) = true_false s.closed r.0 (ap (λ x. x.closed) e)
whole_sheet bytes s ls h e (goes _ t start ks us r w) = start_left bytes s t ks us e r (legs_left t us (among_start bytes s t ks h e r) w)
whole_sheet bytes s ls h e (goes _ t leg ks us r w) = absurd (omega (arith, r.due, ap (λ x. x.lines) e))
whole_sheet bytes s ls h e (goes _ t end ks us r w) = absurd (omega (arith, r.due, ap (λ x. x.lines) e))

legs_whole : (legs : List Leg) (s : Standing) → Among s → AllByRecursion LegNumbers legs → s.rest ≡ leg_lines legs ++ end_line (s.legs + length legs) → Whole s (lines_from legs (s.legs + length legs))
legs_whole [] s a small b =
    let m = s.legs + 0 in
    let t : Standing = record { rest = []; lines = more s.lines; legs = s.legs; closed = true } in
    let r : LineRead s end (m ∷ []) t =
    record {
      going = a.going;
      due = a.some;
      count = refl;
      small = (omega (arith, a.legs), tt);
      bytes = b ∙ sym (append-nil (end_line m));
      counted = ap (λ i. i ∷ []) (add-zero s.legs);
      lines = refl;
      legs = refl;
      closed = refl;
    } in
    goes s t end (m ∷ []) [] r (closes t t (refl, refl, refl))
legs_whole (l ∷ legs) s a (f, small) b =
    let m = s.legs + length (l ∷ legs) in
    let rest = leg_lines legs ++ end_line m in
    let t : Standing = record { rest = rest; lines = more s.lines; legs = more s.legs; closed = false } in
    let r : LineRead s leg (leg_numbers l) t =
    record {
      going = a.going;
      due = a.some;
      count = refl;
      small = (f.0, (f.1, (f.2, tt)));
      bytes = b ∙ append_assoc (leg_line l) (leg_lines legs) (end_line m);
      counted = tt;
      lines = refl;
      legs = refl;
      closed = refl;
    } in
    let n = more_small s.legs (omega (arith, a.legs)) in
    let k : more s.legs + length legs ≡ m = omega arith in
    goes s t leg (leg_numbers l) (lines_from legs m) r
    (subst (λ i. Whole t (lines_from legs i)) k
    (legs_whole legs t (among_leg s t (leg_numbers l) a r) small (ap (λ i. leg_lines legs ++ end_line i) (sym k))))

-- a sheet is read whole
sheet_whole : (bytes : List ℕ) (n c : ℕ) (legs : List Leg) → length bytes ≤ 32768 → Numbers n c legs → bytes ≡ sheet_bytes n c legs → Whole (opening bytes) (lines_of n c legs)
sheet_whole bytes n c legs h small b =
    let t : Standing = record { rest = leg_lines legs ++ end_line (length legs); lines = 1; legs = 0; closed = false } in
    let r : LineRead (opening bytes) start (n ∷ c ∷ []) t =
    record {
      going = refl;
      due = refl;
      count = refl;
      small = (small.0, (small.1, tt));
      bytes = b;
      counted = tt;
      lines = refl;
      legs = refl;
      closed = refl;
    } in
    let k : 0 + length legs ≡ length legs = omega arith in
    goes (opening bytes) t start (n ∷ c ∷ []) (lines_from legs (length legs)) r
    (subst (λ i. Whole t (lines_from legs i)) k
    (legs_whole legs t (among_start bytes (opening bytes) t (n ∷ c ∷ []) h refl r) small.2 (ap (λ i. leg_lines legs ++ end_line i) (sym k))))

pub once : Once
once bytes ls h = (
  λ w. whole_sheet bytes (opening bytes) ls h refl w,
  λ s. subst (λ x. Whole (opening bytes) x) (sym s.5) (sheet_whole bytes s.0 s.1 s.2 h s.3 s.4),
)
