-- Queues as they are made: their trials, openings on them, and offers to a ring.
-- Assumes nothing.
use Rattle.std.proofs.Common.{◌≡◌, ℕ, ◌+◌, ◌-◌, ◌*◌, ◌<◌, min, Bool, true, false, cond, ◌&&◌, ltb, leb, [], replicate, is_ok, Some, None, Ok, Err, Option, Result, sym, refl, ap, ◌∙◌, subst, inl, inr, arith}
use lib.ListN.{length-map, length-replicate}
use Rattle.std.proofs.lemmas.Bool.{both_ways, and_parts, and_from, and_cases, and_left, and_right, leb-true, leb-false, le-leb, lt-leb, ltb-true, ltb-false, lt-ltb, le-ltb}
use Rattle.figures.specs.Limits.{value_limit, cell_limit, width_limit}
use Rattle.figures.specs.declared.OutOfRange.{OutOfRange}
use Rattle.queue.specs.declared.Offered.{Offered}
use Rattle.queue.specs.declared.Offered.TheVariants.{Entered, Lowered, Kept}
use Rattle.queue.specs.declared.OfferRefusal.{OfferRefusal}
use Rattle.queue.specs.declared.OfferRefusal.TheVariants.{NoSuchItem, BelowFloor, BeyondBand}
use Rattle.queue.specs.Meaning.{Meaning, capacity, key_of, put, Offers}
use Rattle.ring.specs.Standing.{fits, meant, fresh as fresh_ring}
use Rattle.heap.specs.Contents.{room, band_over, fresh as fresh_heap, Tried as HeapTried}
use Rattle.wheel.specs.Wheels.{Figures, Tried as WheelTried}
use Rattle.walks.proofs.Places.{clash}
use Rattle.model.specs.declared.Refusal.{Refusal}
use Rattle.model.specs.declared.Refusal.TheVariants.{Capacity, Band, Range}
use Rattle.model.specs.Refusals.{due}
use Rattle.worked.specs.Cases.{By, rule, Surely, Kind, ring, heap, wheel, Made, Trial, trial_number, due_number, Told, Holds, tries, opens, offers}

-- a width and a band below that a wheel may have
abbrev wheel_fits : ℕ → ℕ → Bool
wheel_fits w band = leb 1 w && leb w width_limit && leb w (band + 1)

-- the band and the capacity of a queue as it is made
abbrev band_of : Kind → ℕ
band_of (ring slots cells) = cond (fits slots cells) (slots - 1) 0
band_of (heap cells) = band_over (room cells)
band_of (wheel w below) = cond (wheel_fits w (band_of below)) (w * 64) 0

abbrev cells_of : Kind → ℕ
cells_of (ring slots cells) = cond (fits slots cells) cells 0
cells_of (heap cells) = room cells
cells_of (wheel w below) = cond (wheel_fits w (band_of below)) (min (cells_of below) cell_limit) 0

good : (w band : ℕ) → wheel_fits w band ≡ true → Figures w band
good w band e =
    let (both, wide) = and_parts (leb 1 w && leb w width_limit) (leb w (band + 1)) e in
    let (low, high) = and_parts (leb 1 w) (leb w width_limit) both in
    record { least = leb-true 1 w low; widest = leb-true w width_limit high; room = leb-true w (band + 1) wide }

bad : (w band : ℕ) → wheel_fits w band ≡ false → Figures w band → ⊥
bad w band e f = both_ways (wheel_fits w band) e
    (rw (le-leb 1 w f.least, le-leb w width_limit f.widest, le-leb w (band + 1) f.room))

abbrev AsMade : Kind → Meaning → Type 0
AsMade q m = (capacity m ≡ cells_of q) × (m.band ≡ band_of q)

-- nothing waits, within the figures or outside of them
bare : (b : Bool) (n d : ℕ) (m : Meaning) →
    m ≡ cond b (record { waits = replicate n None; floor = 0; band = d }) (record { waits = []; floor = 0; band = 0 }) →
    (capacity m ≡ cond b n 0) × (m.band ≡ cond b d 0)
bare true n d m e = (ap capacity e ∙ length-replicate n None, ap (λ q. q.band) e)
bare false n d m e = (ap capacity e, ap (λ q. q.band) e)

as_made : (q : Kind) (m : Meaning) → Made q m → AsMade q m
as_made (ring slots cells) m made = bare (fits slots cells) cells (slots - 1) m made
as_made (heap cells) m made = (ap capacity made ∙ length-replicate (room cells) None, ap (λ q. q.band) made)
as_made (wheel w below) m (b, lower, fresh) = turn (as_made below b lower) (wheel_fits w b.band) refl
  where
    turn : AsMade below b → (t : Bool) → wheel_fits w b.band ≡ t → AsMade (wheel w below) m
    turn (cells, band) true e =
        let (c, d) = bare true (min (capacity b) cell_limit) (w * 64) m (fresh.good (good w b.band e)) in
        rw (← band, e, ← cells) (c, d)
    turn (cells, band) false e =
        let (c, d) = bare false 0 0 m (fresh.bad (bad w b.band e)) in
        rw (← band, e) (c, d)

-- there is one
build : (q : Kind) → (m : Meaning) × Made q m
build (ring slots cells) = (fresh_ring slots cells, refl)
build (heap cells) = (fresh_heap cells, refl)
build (wheel w below) = let (b, made) = build below in turn b made (wheel_fits w b.band) refl
  where
    turn : (b : Meaning) → Made below b → (t : Bool) → wheel_fits w b.band ≡ t → (m : Meaning) × Made (wheel w below) m
    turn b made true e = (
      record { waits = replicate (min (capacity b) cell_limit) None; floor = 0; band = w * 64 },
      (b, made, record { good = λ f. refl; bad = λ n. absurd (n (good w b.band e)) }),
    )
    turn b made false e = (
      record { waits = replicate 0 None; floor = 0; band = 0 },
      (b, made, record { good = λ f. absurd (bad w b.band e f); bad = λ n. refl }),
    )

-- whether a trial is passed
abbrev pub passes : Kind → Bool
passes (ring slots cells) = fits slots cells
passes (heap cells) = leb 1 cells && leb cells cell_limit
passes (wheel w below) = wheel_fits w (band_of below)

abbrev pub answer : Bool → Option ℕ
answer true = None
answer false = Some 9

abbrev outcome : Bool → Result (Unit {0}) OutOfRange
outcome true = Ok tt
outcome false = Err (record {})

number : (r : Result (Unit {0}) OutOfRange) → trial_number r ≡ answer (is_ok r)
number (Ok x) = refl
number (Err e) = refl

-- a trial that answers by a test
decided : (P : Result (Unit {0}) OutOfRange → Type 0) (b : Bool) → P (outcome b) → ((r : Result (Unit {0}) OutOfRange) → P r → is_ok r ≡ b) →
    Surely P (λ r. trial_number r ≡ answer b)
decided P b some each = ((outcome b, some), λ r p. number r ∙ ap answer (each r p))

ok_is : (b : Bool) → is_ok (outcome b) ≡ b
ok_is true = refl
ok_is false = refl

heap_makes : (n : ℕ) (t : Bool) → (leb 1 n && leb n cell_limit) ≡ t → HeapTried n (outcome t)
heap_makes n true e = let (low, high) = and_parts (leb 1 n) (leb n cell_limit) e in (leb-true 1 n low, leb-true n cell_limit high)
heap_makes n false e = elim (and_cases (leb 1 n) (leb n cell_limit) e) [
  | inl low ↦ let few = leb-false 1 n low in inl (omega arith)
  | inr high ↦ inr (leb-false n cell_limit high)
]

heap_is : (n : ℕ) (r : Result (Unit {0}) OutOfRange) → HeapTried n r → is_ok r ≡ (leb 1 n && leb n cell_limit)
heap_is n (Ok x) (some, few) = sym (and_from (leb 1 n) (leb n cell_limit) (le-leb 1 n some) (le-leb n cell_limit few))
heap_is n (Err e) (inl none) = sym (and_left (leb 1 n) (leb n cell_limit) (lt-leb 1 n (omega arith)))
heap_is n (Err e) (inr many) = sym (and_right (leb 1 n) (leb n cell_limit) (lt-leb n cell_limit many))

wheel_makes : (w band : ℕ) (t : Bool) → wheel_fits w band ≡ t → WheelTried w band (outcome t)
wheel_makes w band true e = good w band e
wheel_makes w band false e = bad w band e

wheel_is : (w band : ℕ) (r : Result (Unit {0}) OutOfRange) → WheelTried w band r → (t : Bool) → wheel_fits w band ≡ t → is_ok r ≡ t
wheel_is w band (Ok x) f true e = refl
wheel_is w band (Ok x) f false e = absurd (bad w band e f)
wheel_is w band (Err x) none true e = absurd (none (good w band e))
wheel_is w band (Err x) none false e = refl

pub trying : (q : Kind) → Holds (tries q (answer (passes q)))
trying (ring slots cells) = decided (Trial (ring slots cells)) (fits slots cells) (ok_is (fits slots cells)) (λ r p. p)
trying (heap cells) =
    decided (Trial (heap cells)) (leb 1 cells && leb cells cell_limit) (heap_makes cells (leb 1 cells && leb cells cell_limit) refl)
    (heap_is cells)
trying (wheel w below) =
    let (b, made) = build below in
    decided (Trial (wheel w below)) (wheel_fits w (band_of below))
    (b, made, wheel_makes w b.band (wheel_fits w (band_of below)) (ap (wheel_fits w) (as_made below b made).1))
    (λ r p. wheel_is w p.0.band r p.2 (wheel_fits w (band_of below)) (ap (wheel_fits w) (as_made below p.0 p.1).1))

-- what is due to an opening with n points, by its reach, the queue's capacity and its band
abbrev due_of : ℕ → ℕ → ℕ → ℕ → Option Refusal
due_of n reach cells band =
    due (ltb value_limit (n * reach)) Range (due (ltb cells (n * n)) Capacity (due (ltb band reach) Band None))

abbrev pub open_answer : ℕ → ℕ → By → Kind → Option ℕ
open_answer n c by q = due_number (due_of n ((rule by).reach c) (cells_of q) (band_of q))

pub starting : (n c : ℕ) (by : By) (q : Kind) → Holds (opens n c by q (open_answer n c by q))
starting n c by q = (
  build q,
  λ m made s phase points bound. let (cells, band) = as_made q m made in
      ap due_number (rw (phase, points, bound, cells, band)),
)

-- what an offer answers to an item that does not wait: whether the key is low, and whether it is within its limits
abbrev pub reply : Bool → Bool → Option ℕ
reply true within = Some 21
reply false true = None
reply false false = Some 22

module _ (m : Meaning) (i k : ℕ) (there : i < capacity m) (new : key_of m i ≡ None) where
  abbrev within : Bool
  within = leb k (m.floor + m.band) && leb k value_limit

  is_so : (r : Result Offered OfferRefusal) (o : Meaning) → Offers m i k r o → Told (reply (ltb k m.floor) within) r
  is_so (Ok Entered) o (allowed, none, after) =
      rw (
        le-ltb k m.floor allowed.above,
        le-leb k (m.floor + m.band) allowed.within,
        le-leb k value_limit allowed.small,
      )
  is_so (Ok Lowered) o (allowed, (old, at, less), after) = clash new at
  is_so (Ok Kept) o (allowed, (old, at, less), after) = clash new at
  is_so (Err NoSuchItem) o (out, same) = absurd (omega arith)
  is_so (Err BelowFloor) o (item, low, same) = rw (lt-ltb k m.floor low) (BelowFloor, refl, refl)
  is_so (Err BeyondBand) o (item, above, far, same) =
      let out : within ≡ false = elim far [
        | inl wide ↦ and_left (leb k (m.floor + m.band)) (leb k value_limit) (lt-leb k (m.floor + m.band) wide)
        | inr large ↦ and_right (leb k (m.floor + m.band)) (leb k value_limit) (lt-leb k value_limit large)
      ] in
      rw (le-ltb k m.floor above, out) (BeyondBand, refl, refl)

  some_so : (a b : Bool) → ltb k m.floor ≡ a → within ≡ b →
      (w : (Result Offered OfferRefusal) × Meaning) × Offers m i k w.0 w.1
  some_so true b low e = ((Err BelowFloor, m), (there, ltb-true k m.floor low, refl))
  some_so false true high e =
      let (band, limit) = and_parts (leb k (m.floor + m.band)) (leb k value_limit) e in (
        (Ok Entered, put m i k),
        (
          record {
            item = there;
            above = ltb-false k m.floor high;
            within = leb-true k (m.floor + m.band) band;
            small = leb-true k value_limit limit;
          },
          new,
          refl,
        ),
      )
  some_so false false high e = (
    (Err BeyondBand, m),
    (
      there,
      ltb-false k m.floor high,
      elim (and_cases (leb k (m.floor + m.band)) (leb k value_limit) e) [
        | inl wide ↦ inl (leb-false k (m.floor + m.band) wide)
        | inr large ↦ inr (leb-false k value_limit large)
      ],
      refl,
    ),
  )

abbrev pub offer_answer : ℕ → ℕ → ℕ → Option ℕ
offer_answer slots f k = reply (ltb k f) (leb k (f + (slots - 1)) && leb k value_limit)

pub offering : (slots f k : ℕ) → Holds (offers slots f k (offer_answer slots f k))
offering slots f k ss cs i size there new =
    let m : Meaning = meant ss cs f in
    let item : i < capacity m = rw (length-map cs (λ c. c.key)) there in
    let same : within m i k item new ≡ (leb k (f + (slots - 1)) && leb k value_limit) = ap (λ n. leb k (f + (n - 1)) && leb k value_limit) size in (
      some_so m i k item new (ltb k f) (within m i k item new) refl refl,
      λ w p. subst (λ t. Told (reply (ltb k f) t) w.0) same (is_so m i k item new w.0 w.1 p),
    )
