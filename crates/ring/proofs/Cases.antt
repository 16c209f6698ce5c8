-- A ring of 10 slots with floor 2: an item may wait at keys 2 to 11.
use Rattle.std.proofs.Common.{◌≡◌, ℕ, ◌<◌, true, List, length, is_ok, Ok, Err, Result, refl, inl, inr, arith}
use Rattle.chains.specs.Cells.{keys}
use Rattle.chains.specs.declared.Chain.{Chain}
use Rattle.queue.specs.declared.Offered.{Offered}
use Rattle.queue.specs.declared.Offered.TheVariants.{Entered, Lowered, Kept}
use Rattle.queue.specs.declared.OfferRefusal.{OfferRefusal}
use Rattle.queue.specs.declared.OfferRefusal.TheVariants.{NoSuchItem, BelowFloor, BeyondBand}
use Rattle.queue.specs.Meaning.{Meaning, Offers, offer_number}
use Rattle.chains.specs.declared.cells.Cell.{Cell}
use Rattle.ring.specs.Standing.{meant}

module _ (slots : List Chain) (cells : List Cell) (ten : length slots ≡ 10) (i : ℕ) (there : i < length (keys cells)) (n : Meaning) where
  -- key 11 is accepted
  pub key_11 : (r : Result Offered OfferRefusal) → Offers (meant slots cells 2) i 11 r n → is_ok r ≡ true
  key_11 (Ok o) h = refl
  key_11 (Err NoSuchItem) h = let a = h.0 in absurd (omega arith)
  key_11 (Err BelowFloor) h = let a = h.1 in absurd (omega arith)
  key_11 (Err BeyondBand) h = elim h.2 [ inl a ↦ absurd (omega arith) | inr a ↦ absurd (omega arith) ]

  -- key 12 is beyond the band
  pub key_12 : (r : Result Offered OfferRefusal) → Offers (meant slots cells 2) i 12 r n → r ≡ Err BeyondBand
  key_12 (Ok Entered) h = let a = h.0.within in absurd (omega arith)
  key_12 (Ok Lowered) h = let a = h.0.within in absurd (omega arith)
  key_12 (Ok Kept) h = let a = h.0.within in absurd (omega arith)
  key_12 (Err NoSuchItem) h = let a = h.0 in absurd (omega arith)
  key_12 (Err BelowFloor) h = let a = h.1 in absurd (omega arith)
  key_12 (Err BeyondBand) h = refl

  -- key 1 is below the floor
  pub key_1 : (r : Result Offered OfferRefusal) → Offers (meant slots cells 2) i 1 r n → r ≡ Err BelowFloor
  key_1 (Ok Entered) h = let a = h.0.above in absurd (omega arith)
  key_1 (Ok Lowered) h = let a = h.0.above in absurd (omega arith)
  key_1 (Ok Kept) h = let a = h.0.above in absurd (omega arith)
  key_1 (Err NoSuchItem) h = let a = h.0 in absurd (omega arith)
  key_1 (Err BelowFloor) h = refl
  key_1 (Err BeyondBand) h = let a = h.1 in absurd (omega arith)

-- the numbers of the two refusals
pub number_12 : offer_number BeyondBand ≡ 22
number_12 = refl

pub number_1 : offer_number BelowFloor ≡ 21
number_1 = refl
