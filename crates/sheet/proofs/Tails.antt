-- The fields of a line.
use Rattle.std.proofs.Common.{◌≡◌, ℕ, ◌+◌, ◌<◌, ◌≤◌, cond, List, [], ◌∷◌, ◌++◌, length, sym, refl, ap, ◌∙◌, subst, append_assoc, add-zero, Result, IsErrAnd, arith, le-ltb, lt-ltb, length-append}
use Rattle.std.proofs.ByRecursion.{All-push}
use Rattle.std.proofs.lemmas.Result.{err_from_is_err_and}
use Rattle.std.proofs.lemmas.List.{append-nil}
use Rattle.std.proofs.lemmas.List.Concat.{flat_map-append}
use Rattle.sheet.specs.Form.{Begins, width, field, fields, separator}
use Rattle.sheet.specs.Reading.{Broken}
use Rattle.sheet.specs.Records.{number_of, PartAt, behind}
use Rattle.sheet.specs.Steps.{left, Moved, FieldTaken, FieldFails, FieldsTaken, FieldsRead}
use Rattle.sheet.specs.declared.FormFault.{FormFault}
use Rattle.sheet.specs.declared.FormFault.TheVariants.{TooLong, Mark as NotMark, Field as NotField, Separator, Count, Trailing}
use Rattle.sheet.specs.declared.Field.{Field as SheetField}
use Rattle.sheet.specs.declared.Kind.{Kind}
use Rattle.sheet.specs.declared.Record.{Record}
use Rattle.sheet.specs.declared.steps.Cursor.{Cursor}

pub separator_inside : (w i : ℕ) → i < w → separator w i ≡ 32
separator_inside w i h = ap (λ b. cond b 32 10) (lt-ltb i w h)

pub separator_last : (w i : ℕ) → w ≤ i → separator w i ≡ 10
separator_last w i h = ap (λ b. cond b 32 10) (le-ltb i w h)

-- one way after another
pub moved_join : (c d e : Cursor) (v w : List ℕ) → Moved c v d → Moved d w e → Moved c (v ++ w) e
moved_join c d e v w m n =
    record {
      same = n.same ∙ m.same;
      along = omega (arith, length-append v w, m.along, n.along);
      bytes = m.bytes ∙ (ap (λ x. v ++ x) n.bytes ∙ sym (append_assoc v w (left e)));
    }

pub none_taken : (c : Cursor) → FieldsTaken c [] c
none_taken c =
    record { small = tt; moved = record { same = refl; along = sym (add-zero c.at); bytes = refl }; ends = λ z. absurd (omega arith) }

pub one_more : (c d e : Cursor) (ks : List ℕ) (f : SheetField) → FieldsTaken c ks d → FieldTaken d f e → FieldsTaken c (ks ++ (number_of f ∷ [])) e
one_more c d e ks f t u =
    record {
      small = All-push (λ k. k < 100000) ks (number_of f) t.small u.small;
      moved = subst (λ w. Moved c w e) (sym (flat_map-append field ks (number_of f ∷ []) ∙ ap (λ x. fields ks ++ x) (append-nil (field (number_of f))))) (moved_join c d e (fields ks) (field (number_of f)) t.moved u.moved);
      ends = λ z. u.ends;
    }

-- no field where one is due
pub broken_at : (w : ℕ) (c d : Cursor) (ks : List ℕ) (f : FormFault) → FieldsTaken c ks d → length ks < w → FieldFails (left d) f → Broken w (left c) f
broken_at w c d ks Separator t h n =
    (ks, left d, omega arith, t.small, t.moved.bytes, (λ b. n (subst (λ s. Begins (λ x. x ≡ s) (left d)) (separator_inside w (length ks) h) b), t.ends))
broken_at w c d ks NotField t h n = (ks, n.0, h, t.small, t.moved.bytes ∙ ap (λ x. fields ks ++ x) n.1, n.2)
broken_at w c d ks TooLong t h n = n
broken_at w c d ks NotMark t h n = n
broken_at w c d ks Count t h n = n
broken_at w c d ks Trailing t h n = n

-- so the call that wanted a field fails
pub field_missing : (kind k : Kind) (c d e : Cursor) (ks : List ℕ) (f : FormFault) (r : Result Record FormFault) → kind ≡ k → IsErrAnd r (λ y. y ≡ f) → FieldsTaken c ks d → length ks < width k → FieldFails (left d) f → FieldsRead kind c r e
field_missing kind k c d e ks f r is h t less n =
    let p = err_from_is_err_and r h in
    rw (p.1, p.2, is) (broken_at (width k) c d ks f t less n)

-- a field behind another
pub part_behind : (c d e : Cursor) (ks : List ℕ) (f g : SheetField) → FieldsTaken c ks d → FieldTaken d f e → PartAt e.sheet.now (e.at + 1) g → PartAt c.sheet.now (behind f) g
part_behind c d e ks f g s t p =
    let a = t.moved.along in
    let b = t.part.place in
    let l = ap length t.part.plain in
    let i : e.at + 1 ≡ behind f = omega arith in
    subst (λ i. PartAt c.sheet.now i g) i (subst (λ x. PartAt x (e.at + 1) g) (t.moved.same ∙ s.moved.same) p)
