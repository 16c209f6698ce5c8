-- Why each key of a sound wheel lies in its band: the proof that a wheel, as a queue, has to give.
--   key_of_wheel  what the wheel answers of an item
--   splits        where a waiting item waits
--   whole_banded  the proof
use Rattle.std.specs.Prelude.{◌≡◌, ℕ, zero, suc, ◌+◌, ◌<◌, ◌≤◌, ◌⊎◌, List, [], ◌∷◌, length, get_or, Some, None, Option, ◌≢◌, slice_index_or, refl}
use Rattle.std.proofs.Common.{ap, inl, inr, ⊎_elim, arith}
use Rattle.std.proofs.lemmas.List.{get_or_past}
use Rattle.std.proofs.lemmas.Bool.{cases_lt}
use Rattle.chains.proofs.Threads.{none_some, same_some}
use Rattle.chains.proofs.Slots.{some_lt}
use Rattle.queue.specs.Meaning.{Meaning, key_of, Banded}
use Rattle.wheel.specs.declared.rim.Rim.{Rim}
use Rattle.wheel.specs.Joined.{either_key, joined, wheel_meaning, Agree}
use Rattle.wheel.specs.Wheels.{whole, WheelSound}

pub length_joined : (base : ℕ) (ks bs : List (Option ℕ)) → length (joined base ks bs) ≡ length ks
length_joined base [] bs = refl
length_joined base (k ∷ ks) [] = ap suc (length_joined base ks [])
length_joined base (k ∷ ks) (b ∷ bs) = ap suc (length_joined base ks bs)

pub get_or_joined : (base : ℕ) (ks bs : List (Option ℕ)) (i : ℕ) → i < length ks
    → slice_index_or (joined base ks bs) i None ≡ either_key base (slice_index_or ks i None) (slice_index_or bs i None)
get_or_joined base [] bs i h = absurd (omega arith)
get_or_joined base (k ∷ ks) [] zero h = refl
get_or_joined base (k ∷ ks) [] (suc i) h = get_or_joined base ks [] i (omega arith)
get_or_joined base (k ∷ ks) (b ∷ bs) zero h = refl
get_or_joined base (k ∷ ks) (b ∷ bs) (suc i) h = get_or_joined base ks bs i (omega arith)

-- an item that no key is read of does not wait
pub none_read : (o : Option ℕ) → ((k : ℕ) → o ≢ Some k) → o ≡ None
none_read None h = refl
none_read (Some k) h = absurd (h k refl)

-- a key is there or not
pub either_way : (o : Option ℕ) → (o ≡ None) ⊎ ((k : ℕ) × (o ≡ Some k))
either_way None = inl refl
either_way (Some k) = inr (k, refl)

module _ {from base w : ℕ} {ks : List (Option ℕ)} {b : Meaning} (agree : Agree from base w ks b) where
  -- what the wheel answers of an item
  pub key_of_wheel : (i : ℕ) → key_of (wheel_meaning base w ks b) i ≡ either_key base (slice_index_or ks i None) (key_of b i)
  key_of_wheel i = ⊎_elim (λ l. get_or_joined base ks b.waits i l)
      (λ g. let past = get_or_past (joined base ks b.waits) i None (let e = length_joined base ks b.waits in omega arith) in
      let none_rim = get_or_past ks i None g in
      let none_below : key_of b i ≡ None = none_read (key_of b i) (λ k q. let z = agree.inside i k q in omega arith) in
      cc)
      (cases_lt i (length ks))

  pub from_rim : (i k : ℕ) → slice_index_or ks i None ≡ Some k → key_of (wheel_meaning base w ks b) i ≡ Some k
  from_rim i k h = let e = key_of_wheel i in cc

  pub from_below : (i l : ℕ) → key_of b i ≡ Some l → key_of (wheel_meaning base w ks b) i ≡ Some (base + l)
  from_below i l h =
      let e = key_of_wheel i in
      let none : get_or ks i None ≡ None = none_read (slice_index_or ks i None) (λ k q. none_some (agree.apart i k q) h) in
      cc

  -- where a waiting item waits
  pub splits : (i k : ℕ) → key_of (wheel_meaning base w ks b) i ≡ Some k
      → (slice_index_or ks i None ≡ Some k) ⊎ ((l : ℕ) × (key_of b i ≡ Some l) × (k ≡ base + l) × (slice_index_or ks i None ≡ None))
  splits i k h = let e = key_of_wheel i in
      ⊎_elim (λ none. ⊎_elim
      (λ nb. absurd (let c : key_of (wheel_meaning base w ks b) i ≡ None = cc in none_some c h))
      (λ sb. inr (sb.0, sb.1, (let c : key_of (wheel_meaning base w ks b) i ≡ Some (base + sb.0) = (let q = sb.1 in cc) in same_some h c), none))
      (either_way (key_of b i)))
      (λ some. inl (let q = some.1 in cc))
      (either_way (slice_index_or ks i None))

  -- keys in the compartments come after all that is below
  pub wheel_banded : from ≡ base + w → Banded b → Banded (wheel_meaning base w ks b)
  wheel_banded start banded = record {
    low = agree.floor_small;
    above = λ i k h. ⊎_elim
        (λ r. let f = agree.later i k r in let z = agree.floor_near in rim_above i k r)
        (λ s. let z = banded.above i s.0 s.1 in let y = s.2 in omega arith)
        (splits i k h);
    within = λ i k h. ⊎_elim
        (λ r. let f = agree.later i k r in omega arith)
        (λ s. let z = agree.near i s.0 s.1 in let y = s.2 in omega arith)
        (splits i k h);
    small = λ i k h. ⊎_elim
        (λ r. let f = agree.later i k r in omega arith)
        (λ s. let z = agree.near i s.0 s.1 in let y = s.2 in omega arith)
        (splits i k h);
  }
    where
      rim_above : (i k : ℕ) → slice_index_or ks i None ≡ Some k → base + b.floor ≤ k
      rim_above i k r = let f = agree.later i k r in
          ⊎_elim (λ p. let z = agree.floor_near p in omega arith)
          (λ n. let e = agree.bare (omega arith) in let v = some_lt ks i k r in absurd (omega arith))
          (cases_lt 0 w)

pub whole_banded : (a : ℕ) (r : Rim) (b : Meaning) → WheelSound a r b → Banded b → Banded (whole a r b)
whole_banded a r b sound banded =
    wheel_banded sound refl banded
