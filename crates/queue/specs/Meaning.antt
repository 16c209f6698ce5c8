-- What a waiting queue means, and what each call of it does to that meaning.
--   Meaning   the waiting items with their keys, the floor and the band; the capacity is the number of items
--   key_of    the key of an item, if it waits
--   waiting   how many items wait
--   Lowest    no item waits at a lower key
--   Least     what the question for a least item may answer
--   Offers    what an offer answers, and what the queue means after it
--   Admits    why an item may not be offered at a key, if it may not
--   Idle      what holds of an offer that changes nothing: it is refused, or keeps the item
--   Takes     the same of a taking
--   Yields    the key of an item that may be taken, or why it may not
--   Banded    what holds of every sound queue: each key lies in the band above the floor
use Rattle.std.specs.Prelude.{◌≡◌, ℕ, suc, ◌+◌, ◌<◌, ◌≤◌, ◌⊎◌, List, [], ◌∷◌, length, replicate, Some, None, Ok, Err, Option, Result, slice_index_or, slice_set}
use Rattle.figures.specs.Limits.{value_limit}
use Rattle.queue.specs.declared.Entry.{Entry}
use Rattle.queue.specs.declared.Offered.{Offered}
use Rattle.queue.specs.declared.Offered.TheVariants.{Entered, Lowered, Kept}
use Rattle.queue.specs.declared.OfferRefusal.{OfferRefusal}
use Rattle.queue.specs.declared.OfferRefusal.TheVariants.{NoSuchItem, BelowFloor, BeyondBand}
use Rattle.queue.specs.declared.TakeRefusal.{TakeRefusal}
use Rattle.queue.specs.declared.TakeRefusal.TheVariants.{NotWaiting, NotLeast}

-- at place i of `waits` stands the key of item i, if it waits
pub record Meaning : Type 0 where
  pub waits : List (Option ℕ)
  pub floor : ℕ
  pub band : ℕ

abbrev pub capacity : Meaning → ℕ
capacity m = length m.waits

abbrev pub key_of : Meaning → ℕ → Option ℕ
key_of m i = slice_index_or m.waits i None

-- one more where an item waits
abbrev pub one_if : Option ℕ → ℕ → ℕ
one_if None n = n
one_if (Some k) n = suc n

abbrev pub held : List (Option ℕ) → ℕ
held [] = 0
held (k ∷ ks) = one_if k (held ks)

abbrev pub waiting : Meaning → ℕ
waiting m = held m.waits

-- nothing waits, and the floor is 0
abbrev pub cleared : Meaning → Meaning
cleared m = record { waits = replicate (capacity m) None; floor = 0; band = m.band }

-- item i waits at key k
abbrev pub put : Meaning → ℕ → ℕ → Meaning
put m i k = record { waits = slice_set m.waits i (Some k); floor = m.floor; band = m.band }

-- item i waits no more, and its key k is the floor
abbrev pub taken : Meaning → ℕ → ℕ → Meaning
taken m i k = record { waits = slice_set m.waits i None; floor = k; band = m.band }

abbrev pub Lowest : Meaning → ℕ → Type 0
Lowest m k = (j l : ℕ) → key_of m j ≡ Some l → k ≤ l

-- Nothing waits, or the entry waits at a lowest key. Which one among equal keys is open: a queue names it by `named`.
abbrev pub Least : Meaning → Option Entry → Type 0
Least m None = (j : ℕ) → key_of m j ≡ None
Least m (Some e) = (key_of m e.item ≡ Some e.key) × Lowest m e.key

-- a key that an offer of item i may have
pub record Allowed (m : Meaning) (i k : ℕ) : Type 0 where
  pub item : i < capacity m
  pub above : m.floor ≤ k
  pub within : k ≤ m.floor + m.band
  pub small : k ≤ value_limit

abbrev pub Offers : Meaning → ℕ → ℕ → Result Offered OfferRefusal → Meaning → Type 0
Offers m i k (Ok Entered) n = Allowed m i k × (key_of m i ≡ None) × (n ≡ put m i k)
Offers m i k (Ok Lowered) n = Allowed m i k × ((old : ℕ) × (key_of m i ≡ Some old) × (k < old)) × (n ≡ put m i k)
Offers m i k (Ok Kept) n = Allowed m i k × ((old : ℕ) × (key_of m i ≡ Some old) × (old ≤ k)) × (n ≡ m)
Offers m i k (Err NoSuchItem) n = (capacity m ≤ i) × (n ≡ m)
Offers m i k (Err BelowFloor) n = (i < capacity m) × (k < m.floor) × (n ≡ m)
Offers m i k (Err BeyondBand) n =
    (i < capacity m) × (m.floor ≤ k) × ((m.floor + m.band < k) ⊎ (value_limit < k)) × (n ≡ m)

abbrev pub Admits : Meaning → ℕ → ℕ → Result (Unit {0}) OfferRefusal → Type 0
Admits m i k (Ok x) = Allowed m i k
Admits m i k (Err e) = Offers m i k (Err e) m

abbrev pub Idle : Result Offered OfferRefusal → Type 0 → Type 0
Idle (Ok Entered) P = Unit {0}
Idle (Ok Lowered) P = Unit {0}
Idle (Ok Kept) P = P
Idle (Err e) P = P

abbrev pub Takes : Meaning → ℕ → Result (Unit {0}) TakeRefusal → Meaning → Type 0
Takes m i (Ok x) n = (k : ℕ) × (key_of m i ≡ Some k) × Lowest m k × (n ≡ taken m i k)
Takes m i (Err NotWaiting) n = (key_of m i ≡ None) × (n ≡ m)
Takes m i (Err NotLeast) n =
    ((k : ℕ) × (key_of m i ≡ Some k) × ((j : ℕ) × (l : ℕ) × (key_of m j ≡ Some l) × (l < k))) × (n ≡ m)

abbrev pub Yields : Meaning → ℕ → Result ℕ TakeRefusal → Type 0
Yields m i (Ok k) = (key_of m i ≡ Some k) × Lowest m k
Yields m i (Err e) = Takes m i (Err e) m

pub record Banded (m : Meaning) : Type 0 where
  pub low : m.floor ≤ value_limit
  pub above : (i k : ℕ) → key_of m i ≡ Some k → m.floor ≤ k
  pub within : (i k : ℕ) → key_of m i ≡ Some k → k ≤ m.floor + m.band
  pub small : (i k : ℕ) → key_of m i ≡ Some k → k ≤ value_limit

-- the numbers of the refusals
abbrev pub offer_number : OfferRefusal → ℕ
offer_number NoSuchItem = 20
offer_number BelowFloor = 21
offer_number BeyondBand = 22

abbrev pub take_number : TakeRefusal → ℕ
take_number NotWaiting = 23
take_number NotLeast = 24
