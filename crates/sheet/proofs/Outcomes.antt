-- A reading has one outcome: what is wrong where the fields of a line stop is one thing.
-- Assumes nothing.
use Rattle.std.proofs.Common.{◌≡◌, ℕ, Bool, true, false, cond, eqb, ltb, List, [], ◌∷◌, ◌++◌, length, decimal, sym, refl, ap, ◌∙◌, subst, inl, inr, arith}
use Rattle.std.proofs.lemmas.Bool.{both_ways, le-ltb, lt-ltb, ne_eqb}
use Rattle.sheet.specs.Form.{Begins, width, fields, separator}
use Rattle.sheet.specs.Reading.{Standing, LineRead, NoMark, LineFaulty, Faulty, line, close, fault, OneOutcome, Counted, legs_after, closes}
use Rattle.sheet.specs.declared.Kind.{Kind}
use Rattle.sheet.specs.declared.Kind.TheVariants.{End}
use Rattle.sheet.specs.declared.FormFault.{FormFault}
use Rattle.sheet.specs.declared.FormFault.TheVariants.{TooLong, Mark, Field, Separator, Count, Trailing}
use Rattle.sheet.proofs.Tails.{separator_inside, separator_last}
use Rattle.sheet.proofs.Stops.{good_field, Stop, Cut, one_cut, whole_cut, broken_cut}

-- whether a byte comes
abbrev comes : ℕ → List ℕ → Bool
comes s [] = false
comes s (b ∷ bs) = eqb b s

-- what is wrong where i fields of w stop: no separator, no good field, or nothing but the count
abbrev fault_of : ℕ → ℕ → List ℕ → FormFault
fault_of w i tail = cond (comes (separator w i) tail) (cond (ltb i w) Field Count) Separator

not_comes : (s : ℕ) (bs : List ℕ) → (Begins (λ b. b ≡ s) bs → ⊥) → comes s bs ≡ false
not_comes s [] never = refl
not_comes s (b ∷ bs) never = ne_eqb b s never

data Wrong (lines : ℕ) (bs : List ℕ) (f : FormFault) : Type 0 where
  unmarked : f ≡ Mark → NoMark lines bs → Wrong lines bs f
  stopped : (kind : Kind) (ks tail : List ℕ) → Cut lines bs kind ks tail → f ≡ fault_of (width kind) (length ks) tail → Wrong lines bs f

count_fault : (w i : ℕ) (x : List ℕ) → i ≡ w → Count ≡ fault_of w i (10 ∷ x)
count_fault w i x e =
    sym (ap (λ s. cond (eqb 10 s) (cond (ltb i w) Field Count) Separator) (separator_last w i (omega arith)) ∙ ap (λ b. cond b Field Count) (le-ltb i w (omega arith)))

wrong : (lines legs : ℕ) (bs : List ℕ) (f : FormFault) → LineFaulty lines legs bs f → Wrong lines bs f
wrong lines legs bs TooLong h = absurd h
wrong lines legs bs Mark h = unmarked refl h
wrong lines legs bs Field (kind, rest, due, is, (ks, tail, less, small, e, bad)) =
    let w = width kind in
    let stop : Stop w (length ks) (32 ∷ tail) =
    record {
      within = omega arith;
      bare = λ _ f. omega (arith, f.0);
      last = λ _ k more h n q. let t : tail ≡ decimal k ++ more = cc in good_field k more tail h n t bad;
    } in
    stopped kind ks (32 ∷ tail) (broken_cut lines bs kind ks due small rest (32 ∷ tail) is e stop)
    (sym (ap (λ s. cond (eqb 32 s) (cond (ltb (length ks) w) Field Count) Separator) (separator_inside w (length ks) less) ∙ ap (λ b. cond b Field Count) (lt-ltb (length ks) w less)))
wrong lines legs bs Separator (kind, rest, due, is, (ks, tail, few, small, e, (never, bare))) =
    let w = width kind in
    let stop : Stop w (length ks) tail =
    record {
      within = few;
      bare = bare;
      last = λ less k more h n q. never (subst (λ l. Begins (λ b. b ≡ separator w (length ks)) l) (sym q) (sym (separator_inside w (length ks) less)));
    } in
    stopped kind ks tail (broken_cut lines bs kind ks due small rest tail is e stop)
    (sym (ap (λ b. cond b (cond (ltb (length ks) w) Field Count) Separator) (not_comes (separator w (length ks)) tail never)))
wrong lines legs bs Count (m, x, some, low, is, ne) =
    stopped End (m ∷ []) (10 ∷ x) (whole_cut lines bs End (m ∷ []) some (low, tt) x refl is) (count_fault 1 1 x refl)
wrong lines legs bs Trailing h = absurd h

marked : {lines : ℕ} {bs : List ℕ} {kind : Kind} {ks tail : List ℕ} → Cut lines bs kind ks tail → NoMark lines bs → ⊥
marked {kind = kind} {ks} {tail} c none = none kind c.due (fields ks ++ tail) c.bytes

fault_same : {k j : Kind} {ks js a b : List ℕ} → (k ≡ j) × (ks ≡ js) × (a ≡ b) → fault_of (width k) (length ks) a ≡ fault_of (width j) (length js) b
fault_same {j = j} {ks = ks} {js = js} {a = a} (p, q, r) =
    ap (λ x. fault_of (width x) (length ks) a) p ∙ (ap (λ x. fault_of (width j) (length x) a) q ∙ ap (λ x. fault_of (width j) (length js) x) r)

one_wrong : {lines : ℕ} {bs : List ℕ} {f g : FormFault} → Wrong lines bs f → Wrong lines bs g → f ≡ g
one_wrong (unmarked e n) (unmarked d m) = e ∙ sym d
one_wrong (unmarked e n) (stopped j js b d q) = absurd (marked d n)
one_wrong (stopped k ks a c p) (unmarked d m) = absurd (marked c m)
one_wrong (stopped k ks a c p) (stopped j js b d q) = p ∙ (fault_same (one_cut c d) ∙ sym q)

module _ (s : Standing) where
  line_cut : {kind : Kind} {ks : List ℕ} {t : Standing} → LineRead s kind ks t → Cut s.lines s.rest kind ks (10 ∷ t.rest)
  line_cut {kind} {ks} {t} r = whole_cut s.lines s.rest kind ks r.due r.small t.rest r.count r.bytes

  one_line : (k j : Kind) (ks js : List ℕ) (t u : Standing) → LineRead s k ks t → LineRead s j js u → (line k ks ≡ line j js) × (t ≡ u)
  one_line k j ks js t u c d =
      let (p, q, r) = one_cut (line_cut c) (line_cut d) in
      let e : line k ks ≡ line j js = cc in
      let rest : t.rest ≡ u.rest = cc in
      let lines : t.lines ≡ u.lines = c.lines ∙ sym d.lines in
      let legs : t.legs ≡ u.legs = c.legs ∙ (ap (λ x. legs_after x s.legs) p ∙ sym d.legs) in
      let closed : t.closed ≡ u.closed = c.closed ∙ (ap closes p ∙ sym d.closed) in
      (e, λ i. record { rest = rest i; lines = lines i; legs = legs i; closed = closed i })

  -- a line that is read has no fault
  counts : {kind : Kind} {ks : List ℕ} {t : Standing} → LineRead s kind ks t → LineFaulty s.lines s.legs s.rest Count → ⊥
  counts {kind} {ks} {t} r (m, x, some, low, is, ne) =
      let (p, q, e) = one_cut (line_cut r) (whole_cut s.lines s.rest End (m ∷ []) some (low, tt) x refl is) in
      let n : m ∷ [] ≡ s.legs ∷ [] = sym q ∙ subst (λ k. Counted k ks s.legs) p r.counted in
      let i : m ≡ s.legs = cc in
      ne i

  sound : (f : FormFault) {kind : Kind} {ks : List ℕ} {t : Standing} → LineRead s kind ks t → Faulty s f → ⊥
  sound f {kind} {ks} {t} r (inl (_, h)) =
      let e : Count ≡ f =
      one_wrong (stopped kind ks (10 ∷ t.rest) (line_cut r) (count_fault (width kind) (length ks) t.rest r.count)) (wrong s.lines s.legs s.rest f h) in
      counts r (subst (λ g. LineFaulty s.lines s.legs s.rest g) (sym e) h)
  sound f r (inr (shut, is, some)) = both_ways s.closed r.going shut

  -- nor has the close
  shut_sound : (f : FormFault) → s.closed ≡ true → s.rest ≡ [] → Faulty s f → ⊥
  shut_sound f shut end (inl (o, h)) = both_ways s.closed o shut
  shut_sound f shut end (inr (_, is, some)) = some end

  one_fault : (f g : FormFault) → Faulty s f → Faulty s g → f ≡ g
  one_fault f g (inl (o, h)) (inl (p, k)) = one_wrong (wrong s.lines s.legs s.rest f h) (wrong s.lines s.legs s.rest g k)
  one_fault f g (inl (o, h)) (inr (shut, k, l)) = absurd (both_ways s.closed o shut)
  one_fault f g (inr (shut, h, l)) (inl (p, k)) = absurd (both_ways s.closed p shut)
  one_fault f g (inr (_, is, _)) (inr (_, so, _)) = is ∙ sym so

  pub one_outcome : OneOutcome s
  one_outcome (line k ks) (line j js) t u a b = one_line k j ks js t u a b
  one_outcome (line k ks) close t u a b = absurd (both_ways s.closed a.going b.0)
  one_outcome (line k ks) (fault g m) t u a b = absurd (sound g a b.0)
  one_outcome close (line j js) t u a b = absurd (both_ways s.closed b.going a.0)
  one_outcome close close t u a b = (refl, a.2 ∙ sym b.2)
  one_outcome close (fault g m) t u a b = absurd (shut_sound g a.0 a.1 b.0)
  one_outcome (fault f n) (line j js) t u a b = absurd (sound f b a.0)
  one_outcome (fault f n) close t u a b = absurd (shut_sound f b.0 b.1 a.0)
  one_outcome (fault f n) (fault g m) t u (x, p, v) (y, q, w) =
      let z = one_fault f g x y in
      let e : fault f n ≡ fault g m = cc in
      (e, v ∙ sym w)
