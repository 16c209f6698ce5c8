-- Lemmas on a wheel whose items are placed and dealt: what each step of that keeps.
use Rattle.std.proofs.Common.{◌≡◌, ℕ, ◌+◌, ◌-◌, ◌*◌, ◌/◌, ◌%◌, ◌<◌, ◌≤◌, List, length, get_or, set, Some, None, Option, sym, refl, ap, ◌∙◌, subst, ⊎_elim, mul-le-mul_right, add-mul, one-mul, arith}
use Rattle.std.proofs.lemmas.List.{set-get_or, set-set}
use Rattle.std.proofs.lemmas.Bool.{cases_eq, cases_lt}
use Rattle.queue.specs.Meaning.{Meaning, key_of, cleared, put, Allowed}
use Rattle.wheel.specs.declared.rim.Rim.{Rim}
use Rattle.wheel.specs.Joined.{joined, wheel_meaning, Agree}
use Rattle.wheel.specs.Rims.{rim_keys, Lies, Becomes}
use Rattle.wheel.specs.Compartments.{place_of}
use Rattle.wheel.specs.Wheels.{base, whole, WheelSound, Higher, Dealt, Dealing, Due}
use Rattle.chains.proofs.Threads.{none_some}
use Rattle.chains.proofs.Slots.{some_lt}
use Rattle.wheel.specs.Banded.{length_joined, none_read, from_rim, from_below}
use Rattle.wheel.proofs.Quotients.{same_place, quotient_low, quotient_high, quotient_from}
use Rattle.wheel.proofs.Model.{set_read, put_below, agree_below, put_later, agree_later, turned, agree_turned, agree_from}

-- a rim with other keys and the same width
pub agree_becomes : (from : ℕ → ℕ) (a : ℕ) (r s : Rim) (ks : List (Option ℕ)) (b : Meaning) → Becomes r ks s
    → Agree (from r.width) (a * r.width) r.width ks b → Agree (from s.width) (a * s.width) s.width (rim_keys s) b
agree_becomes from a r s ks b new agree =
    subst (λ v. Agree (from v) (a * v) v (rim_keys s) b) (sym new.width)
    (subst (λ v. Agree (from r.width) (a * r.width) r.width v b) (sym new.keys) agree)

pub whole_becomes : (a : ℕ) (r s : Rim) (ks : List (Option ℕ)) (b : Meaning) → Becomes r ks s
    → whole a s b ≡ wheel_meaning (a * r.width) r.width ks b
whole_becomes a r s ks b new =
    ap (λ v. wheel_meaning (a * v) v (rim_keys s) b) new.width ∙ ap (λ v. wheel_meaning (a * r.width) r.width v b) new.keys

-- a wheel that has an item has a width
pub has_width : {from start w : ℕ} {ks : List (Option ℕ)} {b : Meaning} (i : ℕ) → Agree from start w ks b → i < length ks → 0 < w
has_width {w = w} i agree l = ⊎_elim (λ p. p) (λ z. let e = agree.bare (omega arith) in absurd (omega arith)) (cases_lt 0 w)

pub next_base : (a w : ℕ) → (a + 1) * w ≡ a * w + w
next_base a w = let e = add-mul a 1 w in let o = one-mul w in omega arith

-- an item of the compartment that is being dealt goes below
module _ (a : ℕ) (r : Rim) (b : Meaning) (d : Dealing a r b) where
  may_deal : (i k : ℕ) → get_or (rim_keys r) i None ≡ Some k → place_of r.width k ≡ a % 64 → Dealt a r b i k
  may_deal i k here place =
      let w = r.width in
      let l = some_lt (rim_keys r) i k here in
      let pos : 0 < r.width = has_width i d.agree l in
      let low = d.agree.later i k here in
      let from : a ≤ k / r.width = quotient_from r.width k a pos low.0 in
      let last = d.last i k here in
      let to : k / r.width < a + 64 = ⊎_elim (λ x. x)
      (λ g. let z = quotient_low r.width k (a + 64) g in let e = add-mul a 64 r.width in absurd (omega arith))
      (cases_lt (k / r.width) (a + 64)) in
      let q : k / r.width ≡ a = same_place a (k / r.width) a from to (omega arith) (omega arith) place in
      let high = quotient_high r.width k a pos (omega arith) in
      let f = d.floor in
      record {
        item = l;
        room = d.agree.room;
        wide = d.agree.wide;
        above = omega arith;
        inside = high;
        small = low.2;
        lower = λ old q. absurd (none_some (d.agree.apart i k here) q);
      }

  pub deal_step : (s : Rim) (c : Meaning) (i k : ℕ) → get_or (rim_keys r) i None ≡ Some k → place_of r.width k ≡ a % 64
      → Becomes r (set (rim_keys r) i None) s → (Dealt a r b i k → c ≡ put b i (k - base a r))
      → Dealing a s c × (s.width ≡ r.width) × (whole a s c ≡ whole a r b)
  deal_step s c i k here place new deal =
      let may = may_deal i k here place in
      let is = deal may in
      let ks = set (rim_keys r) i None in
      let b2 = put b i (k - base a r) in
      let low : base a r ≤ k = (let z = may.above in omega arith) in
      let agree2 = agree_below d.agree i k may.item low may.inside may.small in
      let agree3 = agree_becomes (λ v. a * v) a r s ks b2 new agree2 in
      let same : put (whole a r b) i k ≡ whole a r b =
      (let e = from_rim d.agree i k here in
      ap (λ v. record { waits = v; floor = base a r + b.floor; band = r.width * 64 })
      (ap (set (whole a r b).waits i) (sym e) ∙ set-get_or (whole a r b).waits i None)) in (
        record {
          agree = subst (λ v. Agree (base a s) (base a s) s.width (rim_keys s) v) (sym is) agree3;
          last = λ j l q.
              let at : get_or ks j None ≡ Some l = subst (λ v. get_or v j None ≡ Some l) new.keys q in
              subst (λ v. l < a * v + v * 64) (sym new.width)
              (⊎_elim (λ x. absurd (none_some refl x.1)) (λ x. d.last j l x.1) (set_read (rim_keys r) i j None l at));
          floor = ap (λ v. v.floor) is ∙ d.floor;
        },
        new.width,
        ap (whole a s) is ∙ whole_becomes a r s ks b2 new
            ∙ put_below d.agree i k may.item low ∙ same,
      )

  -- no key of the compartment is left
  pub dealt_sound : Lies r.width (rim_keys r) (a % 64) None → WheelSound a r b
  dealt_sound none =
      agree_from d.agree (base a r + r.width)
      (λ i k here.
      let pos = has_width i d.agree (some_lt (rim_keys r) i k here) in
      let from : a ≤ k / r.width = quotient_from r.width k a pos (d.agree.later i k here).0 in
      let past : a + 1 ≤ k / r.width = ⊎_elim (λ e. absurd (none i k here (ap (λ v. v % 64) e))) (λ ne. omega arith) (cases_eq (k / r.width) a) in
      let z = quotient_low r.width k (a + 1) past in
      let e = next_base a r.width in
      omega arith)

-- a later compartment, about to be dealt
pub due_dealing : (a q : ℕ) (r : Rim) (b : Meaning) → WheelSound a r b → Due a r b q → Dealing q r (cleared b)
due_dealing a q r b sound due =
    let far : base a r + r.width ≤ base q r =
    (let m : (a + 1) * r.width ≤ q * r.width = mul-le-mul_right r.width (let z = due.after in omega arith) in
    let e = next_base a r.width in omega arith) in
    record {
      agree = agree_turned sound (base q r) due.wide due.bare far due.small due.low;
      last = λ i k here. let z = sound.later i k here in let n = sound.floor_near due.wide in omega arith;
      floor = refl;
    }

pub due_waits : (a q : ℕ) (r : Rim) (b : Meaning) → WheelSound a r b → Due a r b q
    → joined (base q r) (rim_keys r) (cleared b).waits ≡ joined (base a r) (rim_keys r) b.waits
due_waits a q r b sound due =
    ap (λ v. v.waits) (turned sound (base q r) due.bare)

-- an item is offered a key that is allowed, and waits at no lower one
module _ (a : ℕ) (r : Rim) (b : Meaning) (sound : WheelSound a r b) (i k : ℕ) (allowed : Allowed (whole a r b) i k)
    (higher : Higher (whole a r b) i k) where
  item_within : i < length (rim_keys r)
  item_within = let e = length_joined (base a r) (rim_keys r) b.waits in let z = allowed.item in omega arith

  width_pos : 0 < r.width
  width_pos = has_width i sound item_within

  low : base a r ≤ k
  low = let z = allowed.above in omega arith

  -- in the current compartment it goes below
  pub place_below : (s : Rim) (c : Meaning) (a2 : ℕ) → a2 ≡ a → k / r.width ≡ a
      → Becomes r (set (rim_keys r) i None) s → (Dealt a r b i k → c ≡ put b i (k - base a r))
      → WheelSound a2 s c × (whole a2 s c ≡ put (whole a r b) i k)
  place_below s c a2 current quotient new deal =
      let high = quotient_high r.width k a width_pos (omega arith) in
      let may : Dealt a r b i k = record {
        item = item_within;
        room = sound.room;
        wide = sound.wide;
        above = allowed.above;
        inside = high;
        small = allowed.small;
        lower = λ old q. let z = higher (base a r + old) (from_below sound i old q) in let y = low in omega arith;
      } in
      let is = deal may in
      let agree2 = agree_below sound i k item_within low high allowed.small in
      let agree3 = agree_becomes (λ v. a * v + v) a r s (set (rim_keys r) i None) (put b i (k - base a r)) new agree2 in
      let both : WheelSound a s c × (whole a s c ≡ put (whole a r b) i k) = (
        subst (λ v. Agree (base a s + s.width) (base a s) s.width (rim_keys s) v) (sym is) agree3,
        ap (whole a s) is ∙ whole_becomes a r s (set (rim_keys r) i None) (put b i (k - base a r)) new
            ∙ put_below sound i k item_within low,
      ) in
      subst (λ v. WheelSound v s c × (whole v s c ≡ put (whole a r b) i k)) (sym current) both

  -- in a later one it waits in the rim
  pub place_later : (m s : Rim) → (k / r.width ≡ a → ⊥)
      → Becomes r (set (rim_keys r) i None) m → Becomes m (set (rim_keys m) i (Some k)) s
      → WheelSound a s b × (whole a s b ≡ put (whole a r b) i k)
  place_later m s other out into =
      let keys : rim_keys s ≡ set (rim_keys r) i (Some k) = into.keys ∙ ap (λ v. set v i (Some k)) out.keys ∙ set-set (rim_keys r) i None (Some k) in
      let new : Becomes r (set (rim_keys r) i (Some k)) s = record { keys = keys; width = into.width ∙ out.width } in
      let past : a + 1 ≤ k / r.width = (let f = quotient_from r.width k a width_pos low in
      ⊎_elim (λ e. absurd (other e)) (λ ne. omega arith) (cases_eq (k / r.width) a)) in
      let from : base a r + r.width ≤ k = (let z = quotient_low r.width k (a + 1) past in let e = next_base a r.width in omega arith) in
      let bare : key_of b i ≡ None = none_read (key_of b i) (λ old q.
      let n = sound.near i old q in
      let z = higher (base a r + old) (from_below sound i old q) in omega arith) in
      let agree2 = agree_later sound i k bare from allowed.within allowed.small in (
        agree_becomes (λ v. a * v + v) a r s (set (rim_keys r) i (Some k)) b new agree2,
        whole_becomes a r s (set (rim_keys r) i (Some k)) b new
            ∙ put_later sound i k item_within bare,
      )
