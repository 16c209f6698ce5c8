-- A row of a slice: what a function gives of each element.
use Rattle.std.proofs.Common.{◌≡◌, ℕ, ◌<◌, List, map, length, get_or, set, Some, None, Option, sym, ap, ◌∙◌}
use lib.Seq.{map-set}
use Rattle.std.proofs.lemmas.Bool.{cond_below}
use Rattle.chains.specs.Links.{put_at, fronted, fronted_prevs, unlinked, bypassed}

-- one element is written
pub row_put : {X : Type 0} (f : X → Option ℕ) (xs : List X) (i : ℕ) (x : X) (at v : Option ℕ)
    → at ≡ Some i → f x ≡ v → map f (set xs i x) ≡ put_at (map f xs) at v
row_put f xs i x at v e h = map-set f xs i x ∙ (ap (set (map f xs) i) h ∙ ap (λ a. put_at (map f xs) a v) (sym e))

pub fronted_in : (nexts : List (Option ℕ)) (i : ℕ) (head : Option ℕ) → i < length nexts → Some i ≡ fronted nexts i head
fronted_in nexts i head h = cond_below i (length nexts) (Some i) head h

pub fronted_prevs_in : (prevs : List (Option ℕ)) (i : ℕ) (head : Option ℕ)
    → i < length prevs → set (put_at prevs head (Some i)) i None ≡ fronted_prevs prevs i head
fronted_prevs_in prevs i head l = cond_below i (length prevs) (set (put_at prevs head (Some i)) i None) prevs l

pub unlinked_in : (nexts prevs : List (Option ℕ)) (i : ℕ) (head : Option ℕ)
    → i < length nexts → bypassed (get_or prevs i None) (get_or nexts i None) head ≡ unlinked nexts prevs i head
unlinked_in nexts prevs i head h = cond_below i (length nexts) (bypassed (get_or prevs i None) (get_or nexts i None) head) head h
