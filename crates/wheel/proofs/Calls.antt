-- Lemmas on a sound wheel's answers, for its calls as a queue.
use Rattle.std.proofs.Common.{◌≡◌, ℕ, ◌+◌, ◌*◌, ◌/◌, ◌%◌, ◌^◌, ◌<◌, ◌≤◌, min, length, get_or, set, replicate, Some, None, Ok, Err, Result, sym, refl, ap, ◌∙◌, subst, ⊎_elim, add-mul, zero-mul, arith}
use Rattle.std.proofs.lemmas.Bool.{cases_lt}
use Rattle.figures.specs.Limits.{cell_limit}
use Rattle.queue.specs.declared.Entry.{Entry}
use Rattle.queue.specs.declared.TakeRefusal.{TakeRefusal}
use Rattle.queue.specs.declared.TakeRefusal.TheVariants.{NotWaiting, NotLeast}
use Rattle.queue.specs.Meaning.{Meaning, key_of, capacity, held, waiting, cleared, taken, Least, Lowest, Banded, Takes}
use Rattle.wheel.specs.declared.rim.Rim.{Rim}
use Rattle.wheel.specs.Joined.{either_key, joined, wheel_meaning, Agree}
use Rattle.wheel.specs.Rims.{rim_keys, rim_least, Becomes}
use Rattle.wheel.specs.Wheels.{base, whole, WheelSound, wheel_named, Due, Figures, Fresh}
use Rattle.queue.proofs.Meanings.{held_most, none_in_replicate}
use Rattle.chains.proofs.Threads.{none_some, same_some}
use Rattle.chains.proofs.Slots.{some_lt}
use Rattle.wheel.specs.Banded.{length_joined, none_read, key_of_wheel, from_rim, from_below, splits}
use Rattle.wheel.proofs.Rows.{held_joined}
use Rattle.wheel.proofs.Quotients.{quotient_low, quotient_high, quotient_from}
use Rattle.wheel.proofs.Model.{least_below, least_later, take_below, agree_taken, wheel_cleared, agree_cleared, agree_blank, joined_none}
use Rattle.wheel.proofs.Rims.{later_is, rim_least_is}
use Rattle.wheel.proofs.Turning.{agree_becomes, whole_becomes, has_width, next_base}

module _ (a : ℕ) (r : Rim) (b : Meaning) (sound : WheelSound a r b) where
  pub base_small : base a r < 2 ^ 32
  base_small = let z = sound.floor_small in omega arith

  -- a key below, as the wheel gives it
  pub key_fits : (i l : ℕ) → key_of b i ≡ Some l → base a r + l < 2 ^ 32
  key_fits i l h = let z = sound.near i l h in omega arith

  pub waiting_is : waiting (whole a r b) ≡ held b.waits + held (rim_keys r)
  waiting_is = held_joined (base a r) (rim_keys r) b.waits sound.apart sound.inside

  pub waiting_few : waiting (whole a r b) ≤ 1600
  waiting_few =
      let l = held_most (whole a r b).waits in
      let e = length_joined (base a r) (rim_keys r) b.waits in
      let f = sound.few in
      omega arith

  pub key_is : (i : ℕ) → key_of (whole a r b) i ≡ either_key (base a r) (get_or (rim_keys r) i None) (key_of b i)
  key_is = key_of_wheel sound

  pub key_in_rim : (i k : ℕ) → get_or (rim_keys r) i None ≡ Some k → key_of (whole a r b) i ≡ Some k
  key_in_rim = from_rim sound

  pub key_below : (i l : ℕ) → key_of b i ≡ Some l → key_of (whole a r b) i ≡ Some (base a r + l)
  key_below = from_below sound

  pub key_nowhere : (i : ℕ) → get_or (rim_keys r) i None ≡ None → key_of b i ≡ None → key_of (whole a r b) i ≡ None
  key_nowhere i p q = let e = key_is i in cc

  -- each key in the rim lies in one of the 64 compartments after the current one
  pub window : (i k : ℕ) → get_or (rim_keys r) i None ≡ Some k → (a < k / r.width) × (k / r.width ≤ a + 64)
  window i k h =
      let l = some_lt (rim_keys r) i k h in
      let pos = has_width i sound l in
      let z = sound.later i k h in
      let n = sound.floor_near pos in
      let e = next_base a r.width in
      let low = quotient_from r.width k (a + 1) pos (omega arith) in
      let high : k / r.width < a + 65 = ⊎_elim (λ x. x)
      (λ g. let y = quotient_low r.width k (a + 65) g in let f = add-mul a 65 r.width in absurd (omega arith))
      (cases_lt (k / r.width) (a + 65)) in
      (omega arith, omega arith)

  pub least_from_below : (e : Entry) → Least b (Some e) → Least (whole a r b) (Some (record { item = e.item; key = base a r + e.key }))
  least_from_below e h = least_below sound e refl h

  pub least_from_rim : Least b None → Least (whole a r b) (rim_least a r)
  least_from_rim none =
      least_later sound (rim_least a r) none
      (rim_least_is r a window)

  -- nothing waits any more
  pub all_cleared : (s : Rim) (c : Meaning) → Becomes r (replicate (length (rim_keys r)) None) s → c ≡ cleared b
      → WheelSound 0 s c × (whole 0 s c ≡ cleared (whole a r b))
  all_cleared s c new is =
      let z = zero-mul r.width in
      let ks = replicate (length (rim_keys r)) None in
      let agree2 : Agree (0 * r.width + r.width) (0 * r.width) r.width ks (cleared b)
      = subst (λ v. Agree (v + r.width) v r.width ks (cleared b)) (sym z)
      (agree_cleared sound) in (
        subst (λ v. Agree (base 0 s + s.width) (base 0 s) s.width (rim_keys s) v) (sym is)
            (agree_becomes (λ v. 0 * v + v) 0 r s ks (cleared b) new agree2),
        ap (whole 0 s) is ∙ whole_becomes 0 r s ks (cleared b) new
            ∙ ap (λ v. wheel_meaning v r.width ks (cleared b)) z
            ∙ wheel_cleared sound,
      )

-- The item, which waits at key k, lies below: its compartment is current. Nothing else of the meaning has changed.
pub record Ready (m : Meaning) (w i a : ℕ) (r : Rim) (b : Meaning) : Type 0 where
  pub sound : WheelSound a r b
  pub waits : (whole a r b).waits ≡ m.waits
  pub width : r.width ≡ w
  pub below : get_or (rim_keys r) i None ≡ None

-- an item of lowest key that waits in the rim makes its compartment due
module _ (a : ℕ) (r : Rim) (b : Meaning) (sound : WheelSound a r b) (i k q : ℕ) (number : q ≡ k / r.width)
    (waits : key_of (whole a r b) i ≡ Some k) (lowest : Lowest (whole a r b) k) where
  pub is_due : get_or (rim_keys r) i None ≡ Some k → Due a r b q
  is_due here =
      let l = some_lt (rim_keys r) i k here in
      let pos = has_width i sound l in
      let z = sound.later i k here in
      let start = quotient_low r.width k q (omega arith) in
      record {
        bare = λ j. none_read (key_of b j) (λ l p.
            let y = lowest j (base a r + l) (key_below a r b sound j l p) in let n = sound.near j l p in omega arith);
        wide = pos;
        after = let v = window a r b sound i k here in omega arith;
        small = omega arith;
        low = λ j l p. let y = lowest j l (key_in_rim a r b sound j l p) in omega arith;
      }

  pub ready_turned : (s : Rim) (c : Meaning) → 0 < r.width → WheelSound q s c → (whole q s c).waits ≡ (whole a r b).waits → s.width ≡ r.width
      → Ready (whole a r b) r.width i q s c
  ready_turned s c pos new same width = record {
    sound = new;
    waits = same;
    width = width;
    below = none_read (get_or (rim_keys s) i None) (λ l p.
        let here = key_in_rim q s c new i l p in
        let e : l ≡ k = same_some here (ap (λ v. get_or v i None) same ∙ waits) in
        let z : q * r.width + r.width ≤ l = subst (λ v. q * v + v ≤ l) width (new.later i l p).0 in
        let y = quotient_high r.width k q pos (omega arith) in
        omega arith);
  }

-- the item is taken below
module _ (m : Meaning) (w i k : ℕ) (a : ℕ) (r : Rim) (b : Meaning) (ready : Ready m w i a r b) (banded : Banded b)
    (waits : key_of m i ≡ Some k) (lowest : Lowest m k) (wide : m.band ≡ w * 64) where
  same_key : (j : ℕ) → key_of (whole a r b) j ≡ key_of m j
  same_key j = ap (λ v. get_or v j None) ready.waits

  lies_below : (l : ℕ) × (key_of b i ≡ Some l) × (k ≡ base a r + l)
  lies_below = ⊎_elim (λ p. absurd (none_some ready.below p)) (λ p. (p.0, p.1, p.2))
      (splits ready.sound i k (same_key i ∙ waits))

  taken_is : (l : ℕ) (c : Meaning) → key_of b i ≡ Some l → k ≡ base a r + l → c ≡ taken b i l → whole a r c ≡ taken m i k
  taken_is l c here key is =
      ap (whole a r) is
      ∙ take_below ready.sound i l here
      ∙ ap (λ v. record { waits = set v i None; floor = base a r + l; band = r.width * 64 }) ready.waits
      ∙ ap (λ v. record { waits = set m.waits i None; floor = v; band = r.width * 64 }) (sym key)
      ∙ ap (λ v. record { waits = set m.waits i None; floor = k; band = v }) (ap (λ v. v * 64) ready.width ∙ sym wide)

  pub taken_below : (o : Result (Unit {0}) TakeRefusal) (c : Meaning) → Takes b i o c → Takes m i o (whole a r c) × WheelSound a r c
  taken_below (Ok x) c t =
      let p = lies_below in
      let e : t.0 ≡ p.0 = same_some t.1 p.1 in (
        (k, waits, lowest, taken_is t.0 c t.1 (p.2 ∙ ap (λ v. base a r + v) (sym e)) t.3),
        subst (λ v. Agree (base a r + r.width) (base a r) r.width (rim_keys r) v) (sym t.3)
            (agree_taken ready.sound i t.0 banded t.1),
      )
  taken_below (Err NotWaiting) c t = absurd (none_some t.0 lies_below.1)
  taken_below (Err NotLeast) c t =
      let p = lies_below in
      let e : t.0.0 ≡ p.0 = same_some t.0.1 p.1 in
      let j = t.0.2.0 in
      let l = t.0.2.1 in
      let z = lowest j (base a r + l) (sym (same_key j) ∙ key_below a r b ready.sound j l t.0.2.2) in
      let y = t.0.2.3 in
      let x = p.2 in
      absurd (omega arith)

-- an item that does not wait in the rim is taken below
module _ (a : ℕ) (r : Rim) (b : Meaning) (sound : WheelSound a r b) (banded : Banded b) (i : ℕ) (absent : get_or (rim_keys r) i None ≡ None) where
  same_sound : (c : Meaning) → c ≡ b → WheelSound a r c
  same_sound c is = subst (WheelSound a r) (sym is) sound

  pub taken_there : (o : Result (Unit {0}) TakeRefusal) (c : Meaning) → Takes b i o c → Takes (whole a r b) i o (whole a r c) × WheelSound a r c
  taken_there (Ok x) c t =
      taken_below (whole a r b) r.width i (base a r + t.0) a r b
      (record { sound = sound; waits = refl; width = refl; below = absent }) banded
      (key_below a r b sound i t.0 t.1)
      (least_from_below a r b sound (record { item = i; key = t.0 }) (t.1, t.2)).1 refl (Ok x) c t
  taken_there (Err NotWaiting) c t = ((key_nowhere a r b sound i absent t.0, ap (whole a r) t.1), same_sound c t.1)
  taken_there (Err NotLeast) c t =
      let (k, here, lower) = t.0 in
      let (j, l, there, less) = lower in (
        ((base a r + k, key_below a r b sound i k here, (j, base a r + l, key_below a r b sound j l there, omega arith)), ap (whole a r) t.1),
        same_sound c t.1,
      )

-- a wheel just made
module _ (w n : ℕ) (b c : Meaning) (r : Rim) (is : c ≡ cleared b) (width : r.width ≡ w)
    (keys : rim_keys r ≡ replicate n None) where
  fresh_sound : n ≤ capacity b → w ≤ b.band + 1 → n ≤ 1600 → w ≤ 4096 → (w ≡ 0 → n ≡ 0) → WheelSound 0 r c
  fresh_sound room wide few narrow bare =
      let z = zero-mul w in
      let agree = agree_blank w n b room wide few narrow bare in
      subst (λ v. Agree (0 * v + v) (0 * v) v (rim_keys r) c) (sym width)
      (subst (λ v. Agree (0 * w + w) (0 * w) w v c) (sym keys)
      (subst (λ v. Agree (v + w) v w (replicate n None) c) (sym z)
      (subst (λ v. Agree (0 + w) 0 w (replicate n None) v) (sym is) agree)))

  fresh_whole : whole 0 r c ≡ record { waits = replicate n None; floor = 0; band = w * 64 }
  fresh_whole =
      ap (whole 0 r) is
      ∙ ap (λ v. wheel_meaning (0 * v) v (rim_keys r) (cleared b)) width
      ∙ ap (λ v. wheel_meaning v w (rim_keys r) (cleared b)) (zero-mul w)
      ∙ ap (λ v. wheel_meaning 0 w v (cleared b)) keys
      ∙ ap (λ v. record { waits = v; floor = 0; band = w * 64 })
      (joined_none 0 (replicate n None) (replicate (capacity b) None) (none_in_replicate (capacity b)))

-- within the figures, and outside them
pub made_good : (w n : ℕ) (b c : Meaning) (r : Rim) → c ≡ cleared b → Figures w b.band → n ≡ min (capacity b) cell_limit
    → (r.width ≡ w) × (rim_keys r ≡ replicate n None) → WheelSound 0 r c × Fresh w b (whole 0 r c)
made_good w n b c r is figures capacity new = (
  fresh_sound w n b c r is new.0 new.1 (omega arith) figures.room (omega arith) figures.widest
      (λ z. let y = figures.least in absurd (omega arith)),
  record {
    good = λ f. fresh_whole w n b c r is new.0 new.1
        ∙ ap (λ v. record { waits = replicate v None; floor = 0; band = w * 64 }) capacity;
    bad = λ f. absurd (f figures);
  },
)

pub made_bad : (w : ℕ) (b c : Meaning) (r : Rim) → c ≡ cleared b → (Figures w b.band → ⊥)
    → (r.width ≡ 0) × (rim_keys r ≡ replicate 0 None) → WheelSound 0 r c × Fresh w b (whole 0 r c)
made_bad w b c r is figures new = (
  fresh_sound 0 0 b c r is new.0 new.1 (omega arith) (omega arith) (omega arith) (omega arith) (λ z. refl),
  record {
    good = λ f. absurd (figures f);
    bad = λ f. fresh_whole 0 0 b c r is new.0 new.1;
  },
)

-- The answers of a wheel's calls, in the form in which the check applies them.
module _ (a : ℕ) (r : Rim) (b : Meaning) (sound : WheelSound a r b) where
  pub waiting_sum : (n m : ℕ) → n ≡ held b.waits → m ≡ r.later → (n + m) % 2 ^ 64 ≡ held (joined (base a r) (rim_keys r) b.waits)
  waiting_sum n m p q = let e = waiting_is a r b sound in let f = waiting_few a r b sound in let l = later_is r in omega arith

  pub key_above : (i l n : ℕ) → get_or (rim_keys r) i None ≡ None → key_of b i ≡ Some l → (base a r < 2 ^ 32 → n ≡ base a r)
      → Some ((n + l) % 2 ^ 32) ≡ key_of (whole a r b) i
  key_above i l n none here start =
      let e = start (base_small a r b sound) in let f = key_fits a r b sound i l here in
      let k : (n + l) % 2 ^ 32 ≡ base a r + l = omega arith in
      ap Some k ∙ sym (key_below a r b sound i l here)

  pub cleared_whole : (s : Rim) (c : Meaning) → Becomes r (replicate (length (rim_keys r)) None) s → c ≡ cleared b
      → whole 0 s c ≡ cleared (whole a r b)
  cleared_whole s c new is = (all_cleared a r b sound s c new is).1

  pub cleared_sound : (s : Rim) (c : Meaning) → Becomes r (replicate (length (rim_keys r)) None) s → c ≡ cleared b → WheelSound 0 s c
  cleared_sound s c new is = (all_cleared a r b sound s c new is).0

  -- the entry that the queue below names, as the wheel gives it
  module _ (i k n : ℕ) (here : key_of b i ≡ Some k) (start : base a r < 2 ^ 32 → n ≡ base a r) where
    sum_is : (n + k) % 2 ^ 32 ≡ base a r + k
    sum_is = let z = start (base_small a r b sound) in let f = key_fits a r b sound i k here in omega arith

    pub named_sum : Some (record { item = i; key = (n + k) % 2 ^ 32 }) ≡ wheel_named a r (Some (record { item = i; key = k }))
    named_sum = ap (λ v. Some (record { item = i; key = v })) sum_is

    pub least_key : key_of (whole a r b) i ≡ Some ((n + k) % 2 ^ 32)
    least_key = key_below a r b sound i k here ∙ ap Some (sym sum_is)

    pub least_low : Lowest b k → (j l : ℕ) → key_of (whole a r b) j ≡ Some l → (n + k) % 2 ^ 32 ≤ l
    least_low low j l there =
        let z = (least_from_below a r b sound (record { item = i; key = k }) (here, low)).1 j l there in let e = sum_is in omega arith

-- what the check is to apply at each call of a wheel
pub ruleset clears = (cleared_whole, cleared_sound)

pub ruleset keyed = (key_in_rim, key_above, key_nowhere)

pub ruleset names = (named_sum, least_key, least_low, least_from_rim)
