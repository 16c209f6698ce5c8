-- Cells that differ in their links alone.
use Rattle.std.proofs.Common.{◌≡◌, List, [], ◌∷◌, map, None, refl, sym, ap, ◌∙◌}
use Rattle.chains.specs.declared.cells.Cell.{Cell}
use Rattle.chains.specs.Cells.{keys}

-- a cell without its links
abbrev pub stripped : Cell → Cell
stripped c = record { key = c.key; next = None; prev = None }

stripped_keys : (cells : List Cell) → keys (map stripped cells) ≡ keys cells
stripped_keys [] = refl
stripped_keys (c ∷ cs) = ap (λ ks. c.key ∷ ks) (stripped_keys cs)

pub same_keys : (xs ys : List Cell) → map stripped xs ≡ map stripped ys → keys xs ≡ keys ys
same_keys xs ys e = sym (stripped_keys xs) ∙ (ap keys e ∙ stripped_keys ys)
