-- A whole line: its mark, its fields and its end.
use Rattle.std.proofs.Common.{◌≡◌, ℕ, [], ◌∷◌, ◌++◌, sym, ◌∙◌, subst}
use Rattle.sheet.specs.Form.{letters, fields, Fields, written}
use Rattle.sheet.specs.Reading.{Due, Miscounted}
use Rattle.sheet.specs.Records.{kind_of, numbers}
use Rattle.sheet.specs.Steps.{left, Moved, RecordTaken}
use Rattle.sheet.specs.declared.Kind.{Kind}
use Rattle.sheet.specs.declared.Kind.TheVariants.{End}
use Rattle.sheet.specs.declared.Record.{Record}
use Rattle.sheet.specs.declared.steps.Cursor.{Cursor}
use Rattle.sheet.proofs.Tails.{moved_join}

-- an end whose number is not that of the legs
pub miscounted : (lines legs : ℕ) (c d e f : Cursor) (kind : Kind) (r : Record) → Due lines kind → Moved c (letters kind) d → RecordTaken kind d r e → Moved e (10 ∷ []) f → (kind_of r ≡ End) × ((m : ℕ) × (numbers r ≡ m ∷ []) × (m ≡ legs → ⊥)) → Miscounted lines legs (left c)
miscounted lines legs c d e f kind r due m t n (is, (k, one, ne)) =
    let same : kind ≡ End = sym t.kind_is ∙ is in
    let small : Fields (k ∷ []) = subst Fields one t.taken.small in
    let moved : Moved c (written kind (numbers r)) f = moved_join c d f (letters kind) (fields (numbers r) ++ (10 ∷ [])) m (moved_join d e f (fields (numbers r)) (10 ∷ []) t.taken.moved n) in
    let bytes : left c ≡ written End (k ∷ []) ++ left f = subst (λ x. left c ≡ written End x ++ left f) one (subst (λ x. left c ≡ written x (numbers r) ++ left f) same moved.bytes) in
    (k, left f, subst (λ x. Due lines x) same due, small.0, bytes, ne)
