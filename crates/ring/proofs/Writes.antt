-- What the writes of the code do to the rows of a ring.
use Rattle.std.proofs.Common.{◌≡◌, ℕ, zero, suc, ◌<◌, List, map, length, replicate, get_or, set, Some, None, Option, sym, refl, ap, ◌∙◌, subst}
use lib.Seq.{map-set}
use Rattle.std.proofs.lemmas.List.{get_or-map}
use Rattle.chains.specs.declared.Chain.{Chain}
use Rattle.chains.specs.declared.cells.Cell.{Cell}
use Rattle.chains.specs.Cells.{keys, nexts, prevs}
use Rattle.chains.specs.Links.{fronted, fronted_prevs, unlinked, unlinked_nexts, unlinked_prevs}
use Rattle.chains.specs.Slots.{entered, left}
use Rattle.ring.specs.Standing.{heads, rows, slot_of}

-- the head of slot s becomes that of a chain
module _ (slots : List Chain) (cells mid : List Cell) (s i k : ℕ) (chain d : Chain)
    (at : s ≡ slot_of (length slots) k) (within : s < length slots) where
  first_is : (get_or slots s d).first ≡ get_or (heads slots) (slot_of (length slots) k) None
  first_is = sym (get_or-map (λ c. c.first) slots s d None within) ∙ ap (λ t. get_or (heads slots) t None) at

  heads_written : heads (set slots s chain) ≡ set (heads slots) (slot_of (length slots) k) chain.first
  heads_written = map-set (λ c. c.first) slots s chain ∙ ap (λ t. set (heads slots) t chain.first) at

  pub linked_rows : chain.first ≡ fronted (nexts cells) i (get_or slots s d).first
      → nexts mid ≡ set (nexts cells) i (get_or slots s d).first
      → prevs mid ≡ fronted_prevs (prevs cells) i (get_or slots s d).first
      → keys mid ≡ set (keys cells) i (Some k)
      → rows (set slots s chain) mid ≡ entered (slot_of (length slots)) (rows slots cells) i k
  linked_rows v n p ks = let f = first_is in let h = heads_written in cc

  pub unlinked_rows : chain.first ≡ unlinked (nexts cells) (prevs cells) i (get_or slots s d).first
      → nexts mid ≡ unlinked_nexts (nexts cells) (prevs cells) i
      → prevs mid ≡ unlinked_prevs (nexts cells) (prevs cells) i
      → keys mid ≡ set (keys cells) i None
      → rows (set slots s chain) mid ≡ left (slot_of (length slots)) (rows slots cells) i k
  unlinked_rows v n p ks = let f = first_is in let h = heads_written in cc

-- each element is written with one that gives nothing
pub blank_row : {X : Type 0} (f : X → Option ℕ) (xs : List X) (n : ℕ) (x : X) → xs ≡ replicate n x → f x ≡ None
    → (i : ℕ) → get_or (map f xs) i None ≡ None
blank_row f xs n x e h i = subst (λ ys. get_or (map f ys) i None ≡ None) (sym e) (at n i)
  where
    at : (m j : ℕ) → get_or (map f (replicate m x)) j None ≡ None
    at zero j = refl
    at (suc m) zero = h
    at (suc m) (suc j) = at m j
