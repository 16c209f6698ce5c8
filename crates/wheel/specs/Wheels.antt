-- A wheel as its parts: current compartment number a, rim r, and what the queue below means.
--   base        the first key of the current compartment
--   whole       what the wheel means
--   WheelSound when its parts agree
--   wheel_named the entry that it names
--   Figures     a width and a band below that a wheel may have
--   Fresh       what a wheel just made means
--   Dealt       when an item may go below; Sent is what happens then
--   Dealing     while a compartment's items are dealt below
--   Due         when a later compartment may become current; Turned is what happens then
--   Placed      what happens to an item that is offered an allowed key
--   means, IsSound, Sends, Turns, Places  the same of a wheel, given what its queue below means
use Rattle.std.specs.Prelude.{◌≡◌, ℕ, ◌+◌, ◌-◌, ◌*◌, ◌<◌, ◌≤◌, min, length, replicate, Some, None, Ok, Err, Option, Result, slice_index_or}
use Rattle.figures.specs.Limits.{width_limit, cell_limit, value_limit}
use Rattle.figures.specs.declared.OutOfRange.{OutOfRange}
use Rattle.queue.specs.declared.Entry.{Entry}
use Rattle.queue.specs.Meaning.{Meaning, capacity, key_of, put, Allowed}
use Rattle.wheel.specs.declared.Wheel.{Wheel}
use Rattle.wheel.specs.declared.rim.Rim.{Rim}
use Rattle.wheel.specs.Joined.{wheel_meaning, Agree}
use Rattle.wheel.specs.Rims.{rim_keys, rim_least}

abbrev pub base : ℕ → Rim → ℕ
base a r = a * r.width

abbrev pub whole : ℕ → Rim → Meaning → Meaning
whole a r b = wheel_meaning (base a r) r.width (rim_keys r) b

abbrev pub WheelSound : ℕ → Rim → Meaning → Type 0
WheelSound a r b = Agree (base a r + r.width) (base a r) r.width (rim_keys r) b

-- the entry that a wheel names: the one that the queue below names, else the rim's
abbrev pub wheel_named : ℕ → Rim → Option Entry → Option Entry
wheel_named a r None = rim_least a r
wheel_named a r (Some e) = Some (record { item = e.item; key = base a r + e.key })

pub record Figures (w band : ℕ) : Type 0 where
  pub least : 1 ≤ w
  pub widest : w ≤ width_limit
  pub room : w ≤ band + 1

abbrev pub Tried : ℕ → ℕ → Result (Unit {0}) OutOfRange → Type 0
Tried w band (Ok x) = Figures w band
Tried w band (Err e) = Figures w band → ⊥

-- nothing waits: of a width within the figures, or else with no capacity and no band
pub record Fresh (w : ℕ) (b m : Meaning) : Type 0 where
  pub good : Figures w b.band → m ≡ record { waits = replicate (min (capacity b) cell_limit) None; floor = 0; band = w * 64 }
  pub bad : (Figures w b.band → ⊥) → m ≡ record { waits = replicate 0 None; floor = 0; band = 0 }

-- item i waits at no key as low as k
abbrev pub Higher : Meaning → ℕ → ℕ → Type 0
Higher m i k = (old : ℕ) → key_of m i ≡ Some old → k < old

-- item i may go below at key k: k lies in the current compartment, not below the floor, and the item waits no lower there
pub record Dealt (a : ℕ) (r : Rim) (b : Meaning) (i k : ℕ) : Type 0 where
  pub item : i < length (rim_keys r)
  pub room : length (rim_keys r) ≤ capacity b
  pub wide : r.width ≤ b.band + 1
  pub above : base a r + b.floor ≤ k
  pub inside : k < base a r + r.width
  pub small : k ≤ value_limit
  pub lower : Higher b i (k - base a r)

-- the current compartment is being dealt below: its items wait in the rim or below, and the floor below is 0
pub record Dealing (a : ℕ) (r : Rim) (b : Meaning) : Type 0 where
  pub agree : Agree (base a r) (base a r) r.width (rim_keys r) b
  -- the 64 compartments from the current one on
  pub last : (i k : ℕ) → slice_index_or (rim_keys r) i None ≡ Some k → k < base a r + r.width * 64
  pub floor : b.floor ≡ 0

-- compartment number q may become current: nothing waits below, and it has the lowest of the later keys
pub record Due (a : ℕ) (r : Rim) (b : Meaning) (q : ℕ) : Type 0 where
  pub bare : (i : ℕ) → key_of b i ≡ None
  pub wide : 0 < r.width
  pub after : a < q
  pub small : q * r.width ≤ value_limit
  pub low : (i k : ℕ) → slice_index_or (rim_keys r) i None ≡ Some k → q * r.width ≤ k

abbrev pub Sent : ℕ → Rim → Meaning → ℕ → ℕ → Meaning → Type 0
Sent a r b i k c = Dealt a r b i k → c ≡ put b i (k - base a r)

unfoldable pub Turned : ℕ → Rim → Meaning → ℕ → ℕ → Rim → Meaning → Type 0
Turned a r b q d s c =
    WheelSound a r b → Due a r b q
    → (d ≡ q) × (s.width ≡ r.width) × WheelSound q s c × ((whole q s c).waits ≡ (whole a r b).waits)

abbrev pub Placed : ℕ → Rim → Meaning → ℕ → ℕ → ℕ → Rim → Meaning → Type 0
Placed a r b i k d s c =
    WheelSound a r b → Allowed (whole a r b) i k → Higher (whole a r b) i k
    → WheelSound d s c × (whole d s c ≡ put (whole a r b) i k)

module _ {Q : Type 0} (meaning : Q → Meaning) where
  abbrev pub means : Wheel Q → Meaning
  means w = whole w.current w.rim (meaning w.below)

  abbrev pub IsSound : Wheel Q → Type 0
  IsSound w = WheelSound w.current w.rim (meaning w.below)

  abbrev pub Sends : Wheel Q → ℕ → ℕ → Wheel Q → Type 0
  Sends v i k w = Sent v.current v.rim (meaning v.below) i k (meaning w.below)

  abbrev pub Turns : Wheel Q → ℕ → Wheel Q → Type 0
  Turns v q w = Turned v.current v.rim (meaning v.below) q w.current w.rim (meaning w.below)

  abbrev pub Places : Wheel Q → ℕ → ℕ → Wheel Q → Type 0
  Places v i k w = Placed v.current v.rim (meaning v.below) i k w.current w.rim (meaning w.below)
