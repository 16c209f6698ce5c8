-- What one write to the row of cells changes, and what it leaves.
use Rattle.std.proofs.Common.{◌≡◌, ℕ, ◌<◌, ◌≢◌, List, length, get_or, set, Some, None, Option, refl, ◌∙◌, arith, length-set}
use Rattle.std.proofs.lemmas.List.{map-set}
use Rattle.std.proofs.lemmas.Grind.{common_steps}
use Rattle.std.proofs.Math.ListN.{get_or-map}
use Rattle.std.proofs.Math.Seq.{map-set_same}
use Rattle.heap.specs.declared.Cell.{Cell}
use Rattle.heap.specs.Cells.{blank, key_at, place_at, item_at, keyed, itemed, stood, swapped, keys}

pub keys_read : (cells : List Cell) (i : ℕ) → get_or (keys cells) i None ≡ key_at cells i
keys_read cells i = get_or-map (λ c. c.key) cells i blank

-- an item that waits has a cell
pub item_inside : (cells : List Cell) (i k : ℕ) → key_at cells i ≡ Some k → i < length cells
item_inside cells i k e = grind (arith, common_steps)

keys_kept : (cells : List Cell) (i : ℕ) (c : Cell) → c.key ≡ key_at cells i → keys (set cells i c) ≡ keys cells
keys_kept cells i c e = map-set_same (λ d. d.key) cells i c blank e

-- after is cells with the key of item i now k
pub record Rekeys (cells after : List Cell) (i : ℕ) (k : Option ℕ) : Type 0 where
  pub there : key_at after i ≡ k
  pub others : (j : ℕ) → j ≢ i → key_at after j ≡ key_at cells j
  pub item : (p : ℕ) → item_at after p ≡ item_at cells p
  pub place : (j : ℕ) → place_at after j ≡ place_at cells j
  pub len : length after ≡ length cells

pub rekeys : (cells : List Cell) (i : ℕ) (k : Option ℕ) → i < length cells → Rekeys cells (keyed cells i k) i k
rekeys cells i k l = record {
  there = grind (arith, common_steps);
  others = λ j ne. grind (arith, common_steps);
  item = λ p. grind (arith, common_steps);
  place = λ j. grind (arith, common_steps);
  len = length-set cells i _;
}

pub stood_keys : (cells : List Cell) (p i : ℕ) → keys (stood cells p i) ≡ keys cells
stood_keys cells p i = keys_kept (itemed cells p i) i _ refl ∙ keys_kept cells p _ refl

pub swapped_keys : (cells : List Cell) (p q : ℕ) → keys (swapped cells p q) ≡ keys cells
swapped_keys cells p q = stood_keys (stood cells p (item_at cells q)) q (item_at cells p) ∙ stood_keys cells p (item_at cells q)

-- after is cells with item i moved to place p
pub record Moves (cells after : List Cell) (p i : ℕ) : Type 0 where
  pub item_there : item_at after p ≡ i
  pub item_others : (q : ℕ) → q ≢ p → item_at after q ≡ item_at cells q
  pub place_there : place_at after i ≡ p
  pub place_others : (j : ℕ) → j ≢ i → place_at after j ≡ place_at cells j
  pub key : (j : ℕ) → key_at after j ≡ key_at cells j
  pub len : length after ≡ length cells

pub moves : (cells : List Cell) (p i : ℕ) → p < length cells → i < length cells → Moves cells (stood cells p i) p i
moves cells p i l m = record {
  item_there = grind (arith, common_steps);
  item_others = λ q ne. grind (arith, common_steps);
  place_there = grind (arith, common_steps);
  place_others = λ j ne. grind (arith, common_steps);
  key = λ j. grind (arith, common_steps);
  len = length-set _ i _ ∙ length-set cells p _;
}

pub keyed_keys : (cells : List Cell) (i : ℕ) (k : Option ℕ) → keys (keyed cells i k) ≡ set (keys cells) i k
keyed_keys cells i k = map-set (λ d. d.key) cells i _
