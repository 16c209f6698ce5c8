-- A line, field by field.
use Rattle.std.proofs.Common.{◌≡◌, ℕ, ◌+◌, ◌*◌, ◌<◌, ◌≤◌, List, [], ◌∷◌, ◌++◌, length, get_or, take, decimal, sym, refl, ap, arith, length-append}
use Rattle.std.proofs.lemmas.List.{append-nil, append_assoc, take_more}
use Rattle.listing.specs.Listing.{fields, line}
use Rattle.listing.proofs.Decimal.{decimal_le}

fields_append : (ms ns : List ℕ) → fields (ms ++ ns) ≡ fields ms ++ fields ns
fields_append [] ns = refl
fields_append (m ∷ ms) ns = rw (fields_append ms ns) (sym (append_assoc (32 ∷ decimal m) (fields ms) (fields ns)))

pub fields_more : (ns : List ℕ) (i : ℕ) → i < length ns → fields (take (i + 1) ns) ≡ fields (take i ns) ++ (32 ∷ decimal (get_or ns i 0))
fields_more ns i h =
    rw (take_more ns i 0 h, fields_append) (ap (λ s. fields (take i ns) ++ s) (append-nil (32 ∷ decimal (get_or ns i 0))))

fields_le : (ns : List ℕ) → length (fields ns) ≤ 65 * length ns
fields_le [] = omega arith
fields_le (n ∷ ns) = simp length-append (omega (arith, decimal_le n, fields_le ns))

pub line_le : (mark ns : List ℕ) → length (line mark ns) ≤ length mark + (65 * length ns + 1)
unfolding line
line_le mark ns = simp length-append (omega (arith, fields_le ns))
