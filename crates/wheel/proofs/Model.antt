-- Lemmas on a wheel's rows and the queue below: what the wheel means, and how each call changes that.
use Rattle.std.proofs.Common.{◌≡◌, ℕ, ◌+◌, ◌-◌, ◌*◌, ◌<◌, ◌≤◌, ◌≢◌, ◌⊎◌, List, length, get_or, set, replicate, Some, None, Option, sym, refl, ap, ◌∙◌, subst, inl, inr, ⊎_elim, arith, length-set}
use lib.ListN.{length-replicate}
use Rattle.std.proofs.lemmas.List.{set-get_or, get_or-set_same, get_or-set_other, ext_get_or}
use Rattle.std.proofs.lemmas.Bool.{cases_eq}
use Rattle.figures.specs.Limits.{value_limit}
use Rattle.queue.specs.declared.Entry.{Entry}
use Rattle.queue.specs.Meaning.{Meaning, key_of, capacity, cleared, put, taken, Least, Banded}
use Rattle.wheel.specs.Joined.{either_key, joined, wheel_meaning, Agree}
use Rattle.queue.proofs.Meanings.{none_in_replicate}
use Rattle.chains.proofs.Threads.{none_some}
use Rattle.chains.proofs.Slots.{some_lt}
use Rattle.wheel.specs.Banded.{length_joined, get_or_joined, none_read, key_of_wheel, from_rim, from_below, splits}
use Rattle.wheel.proofs.Rows.{joined_set}

-- the rows after a write at i, read at j
pub set_read : (ks : List (Option ℕ)) (i j : ℕ) (o : Option ℕ) (k : ℕ) → get_or (set ks i o) j None ≡ Some k
    → ((j ≡ i) × (o ≡ Some k)) ⊎ ((j ≢ i) × (get_or ks j None ≡ Some k))
set_read ks i j o k h =
    let within = some_lt (set ks i o) j k h in
    let len : length (set ks i o) ≡ length ks = length-set ks i o in
    ⊎_elim (λ e. inl (
      e,
      let lt : i < length ks = omega arith in
          sym (get_or-set_same ks i o None lt) ∙ (subst (λ n. get_or (set ks i o) n None ≡ Some k) e h),
    ))
    (λ ne. inr (ne, sym (get_or-set_other ks i j o None ne) ∙ h))
    (cases_eq j i)

-- a write of nothing where nothing was
pub unchanged : (ks : List (Option ℕ)) (i : ℕ) → get_or ks i None ≡ None → set ks i None ≡ ks
unchanged ks i none = ap (λ o. set ks i o) (sym none) ∙ set-get_or ks i None

-- where nothing waits below, the base does not matter
pub joined_none : (base : ℕ) (ks bs : List (Option ℕ)) → ((i : ℕ) → get_or bs i None ≡ None) → joined base ks bs ≡ ks
joined_none base ks bs none = ext_get_or None (joined base ks bs) ks (length_joined base ks bs)
    (λ i l. let h : i < length ks = (let e = length_joined base ks bs in omega arith) in
    get_or_joined base ks bs i h ∙ ap (λ o. either_key base (get_or ks i None) o) (none i) ∙ only (get_or ks i None))
  where
    only : (o : Option ℕ) → either_key base o None ≡ o
    only None = refl
    only (Some k) = refl

-- nothing waits, in the wheel or below
pub agree_blank : (w n : ℕ) (b : Meaning) → n ≤ capacity b → w ≤ b.band + 1 → n ≤ 1600 → w ≤ 4096 → (w ≡ 0 → n ≡ 0)
    → Agree (0 + w) 0 w (replicate n None) (cleared b)
agree_blank w n b room wide few narrow bare =
    let len : length (replicate {A = Option ℕ} n None) ≡ n = length-replicate n None in
    let len_b : length (replicate {A = Option ℕ} (capacity b) None) ≡ capacity b = length-replicate (capacity b) None in
    record {
      apart = λ j l q. absurd (none_some (none_in_replicate n j) q);
      inside = λ j l q. absurd (none_some (none_in_replicate (capacity b) j) q);
      near = λ j l q. absurd (none_some (none_in_replicate (capacity b) j) q);
      later = λ j l q. absurd (none_some (none_in_replicate n j) q);
      floor_near = λ p. p;
      floor_small = omega arith;
      room = omega arith;
      wide = wide;
      few = omega arith;
      narrow = narrow;
      bare = λ z. let y = bare z in omega arith;
    }

module _ {from base w : ℕ} {ks : List (Option ℕ)} {b : Meaning} (agree : Agree from base w ks b) where
  -- a least item below is a least item of the wheel
  pub least_below : (e : Entry) → from ≡ base + w → Least b (Some e)
      → Least (wheel_meaning base w ks b) (Some (record { item = e.item; key = base + e.key }))
  least_below e start h = (
    from_below agree e.item e.key h.0,
    λ j l q. ⊎_elim
        (λ r. let f = agree.later j l r in let z = agree.near e.item e.key h.0 in omega arith)
        (λ s. let z = h.1 j s.0 s.1 in let y = s.2 in omega arith)
        (splits agree j l q),
  )

  -- while nothing waits below, a least item of the compartments is one of the wheel
  pub least_later : (o : Option Entry) → Least b None → Least (record { waits = ks; floor = 0; band = 0 }) o
      → Least (wheel_meaning base w ks b) o
  least_later None none h = λ j. let e = key_of_wheel agree j in let p = h j in let q = none j in cc
  least_later (Some e) none h = (
    from_rim agree e.item e.key h.0,
    λ j l q. ⊎_elim (λ r. h.1 j l r) (λ s. absurd (none_some (none j) s.1)) (splits agree j l q),
  )

  -- an item that goes below, out of its compartment if it waited there
  pub put_below : (i k : ℕ) → i < length ks → base ≤ k
      → wheel_meaning base w (set ks i None) (put b i (k - base)) ≡ put (wheel_meaning base w ks b) i k
  put_below i k h low =
      let e = joined_set base ks b.waits i None (Some (k - base)) (let z = agree.room in omega arith) in
      let n : base + (k - base) ≡ k = omega arith in
      let s : joined base (set ks i None) (set b.waits i (Some (k - base))) ≡ set (joined base ks b.waits) i (Some k)
      = e ∙ ap (λ v. set (joined base ks b.waits) i (Some v)) n in
      ap (λ v. record { waits = v; floor = base + b.floor; band = w * 64 }) s

  pub agree_below : (i k : ℕ) → i < length ks → base ≤ k → k < base + w → k ≤ value_limit
      → Agree from base w (set ks i None) (put b i (k - base))
  agree_below i k h low high small =
      let len : length (set ks i None) ≡ length ks = length-set ks i None in
      let len_b : length (set b.waits i (Some (k - base))) ≡ length b.waits = length-set b.waits i (Some (k - base)) in
      record {
        apart = λ j l q. ⊎_elim (λ s. absurd (none_some refl s.1))
            (λ s. get_or-set_other b.waits i j (Some (k - base)) None s.0 ∙ agree.apart j l s.1)
            (set_read ks i j None l q);
        inside = λ j l q. ⊎_elim (λ s. let y = s.0 in omega arith) (λ s. let z = agree.inside j l s.1 in omega arith)
            (set_read b.waits i j (Some (k - base)) l q);
        near = λ j l q. ⊎_elim
            (λ s. let y : k - base ≡ l = (let t = s.1 in cc) in (omega arith, omega arith))
            (λ s. agree.near j l s.1)
            (set_read b.waits i j (Some (k - base)) l q);
        later = λ j l q. ⊎_elim (λ s. absurd (none_some refl s.1)) (λ s. agree.later j l s.1) (set_read ks i j None l q);
        floor_near = agree.floor_near;
        floor_small = agree.floor_small;
        room = let z = agree.room in omega arith;
        wide = agree.wide;
        few = let z = agree.few in omega arith;
        narrow = agree.narrow;
        bare = λ z. let y = agree.bare z in omega arith;
      }

  -- an item that waits in a compartment, at another key if it did before
  pub put_later : (i k : ℕ) → i < length ks → key_of b i ≡ None
      → wheel_meaning base w (set ks i (Some k)) b ≡ put (wheel_meaning base w ks b) i k
  put_later i k h none =
      let e = joined_set base ks b.waits i (Some k) None (let z = agree.room in omega arith) in
      let s = unchanged b.waits i none in
      ap (λ v. record { waits = v; floor = base + b.floor; band = w * 64 })
      (ap (λ v. joined base (set ks i (Some k)) v) (sym s) ∙ e)

  pub agree_later : (i k : ℕ) → key_of b i ≡ None → from ≤ k → k ≤ base + b.floor + w * 64 → k ≤ value_limit
      → Agree from base w (set ks i (Some k)) b
  agree_later i k none low high small =
      let len : length (set ks i (Some k)) ≡ length ks = length-set ks i (Some k) in
      record {
        apart = λ j l q. ⊎_elim (λ s. let y = s.0 in (let t : key_of b j ≡ None = cc in t)) (λ s. agree.apart j l s.1) (set_read ks i j (Some k) l q);
        inside = λ j l q. let z = agree.inside j l q in omega arith;
        near = agree.near;
        later = λ j l q. ⊎_elim (λ s. let y : k ≡ l = (let t = s.1 in cc) in (omega arith, omega arith, omega arith))
            (λ s. agree.later j l s.1) (set_read ks i j (Some k) l q);
        floor_near = agree.floor_near;
        floor_small = agree.floor_small;
        room = let z = agree.room in omega arith;
        wide = agree.wide;
        few = let z = agree.few in omega arith;
        narrow = agree.narrow;
        bare = λ z. let y = agree.bare z in omega arith;
      }

  -- an item taken below is taken of the wheel
  pub take_below : (i l : ℕ) → key_of b i ≡ Some l
      → wheel_meaning base w ks (taken b i l) ≡ taken (wheel_meaning base w ks b) i (base + l)
  take_below i l here =
      let none : get_or ks i None ≡ None = none_read (get_or ks i None) (λ k q. none_some (agree.apart i k q) here) in
      let e = joined_set base ks b.waits i None None (some_lt b.waits i l here) in
      let s = unchanged ks i none in
      ap (λ v. record { waits = v; floor = base + l; band = w * 64 })
      (ap (λ v. joined base v (set b.waits i None)) (sym s) ∙ e)

  pub agree_taken : (i l : ℕ) → Banded b → key_of b i ≡ Some l → Agree from base w ks (taken b i l)
  agree_taken i l banded here =
      let len_b : length (set b.waits i None) ≡ length b.waits = length-set b.waits i None in
      let up = banded.above i l here in
      let small = agree.near i l here in
      record {
        apart = λ j m q. none_read (get_or (set b.waits i None) j None) (λ x r. ⊎_elim (λ s. none_some refl s.1)
            (λ s. none_some (agree.apart j m q) s.1) (set_read b.waits i j None x r));
        inside = λ j m q. ⊎_elim (λ s. absurd (none_some refl s.1)) (λ s. agree.inside j m s.1) (set_read b.waits i j None m q);
        near = λ j m q. ⊎_elim (λ s. absurd (none_some refl s.1)) (λ s. agree.near j m s.1) (set_read b.waits i j None m q);
        later = λ j m q. let z = agree.later j m q in (z.0, omega arith, z.2);
        floor_near = λ p. small.0;
        floor_small = small.1;
        room = let z = agree.room in omega arith;
        wide = agree.wide;
        few = agree.few;
        narrow = agree.narrow;
        bare = agree.bare;
      }

  -- the queue below is cleared, and nothing waits in the compartments
  pub wheel_cleared : wheel_meaning 0 w (replicate (length ks) None) (cleared b) ≡ cleared (wheel_meaning base w ks b)
  wheel_cleared =
      let n = joined_none 0 (replicate (length ks) None) (replicate (capacity b) None) (none_in_replicate (capacity b)) in
      let e = length_joined base ks b.waits in
      ap (λ v. record { waits = v; floor = 0; band = w * 64 }) (n ∙ ap (λ v. replicate v None) (sym e))

  pub agree_cleared : Agree (0 + w) 0 w (replicate (length ks) None) (cleared b)
  agree_cleared = agree_blank w (length ks) b agree.room agree.wide agree.few agree.narrow agree.bare

  -- a later compartment, which begins at `next`, is about to be dealt below
  pub turned : (next : ℕ) → ((i : ℕ) → key_of b i ≡ None)
      → wheel_meaning next w ks (cleared b) ≡ record { waits = joined base ks b.waits; floor = next; band = w * 64 }
  turned next none =
      let p = joined_none next ks (replicate (capacity b) None) (none_in_replicate (capacity b)) in
      let q = joined_none base ks b.waits none in
      let z : next + 0 ≡ next = omega arith in
      ap (λ v. record { waits = v; floor = next + 0; band = w * 64 }) (p ∙ sym q)
      ∙ ap (λ v. record { waits = joined base ks b.waits; floor = v; band = w * 64 }) z

  pub agree_turned : (next : ℕ) → 0 < w → ((i : ℕ) → key_of b i ≡ None) → base + w ≤ next → next ≤ value_limit
      → ((i k : ℕ) → get_or ks i None ≡ Some k → next ≤ k)
      → Agree next next w ks (cleared b)
  agree_turned next pos none far small low =
      let len_b : length (replicate {A = Option ℕ} (capacity b) None) ≡ capacity b = length-replicate (capacity b) None in
      record {
        apart = λ j l q. none_in_replicate (capacity b) j;
        inside = λ j l q. absurd (none_some (none_in_replicate (capacity b) j) q);
        near = λ j l q. absurd (none_some (none_in_replicate (capacity b) j) q);
        later = λ j l q. let z = agree.later j l q in let n = agree.floor_near pos in (low j l q, omega arith, z.2);
        floor_near = λ p. p;
        floor_small = omega arith;
        room = let z = agree.room in omega arith;
        wide = agree.wide;
        few = agree.few;
        narrow = agree.narrow;
        bare = agree.bare;
      }

  -- the same rows, whose keys begin higher
  pub agree_from : (start : ℕ) → ((i k : ℕ) → get_or ks i None ≡ Some k → start ≤ k) → Agree start base w ks b
  agree_from start low = record {
    apart = agree.apart;
    inside = agree.inside;
    near = agree.near;
    later = λ j l q. let z = agree.later j l q in (low j l q, z.1, z.2);
    floor_near = agree.floor_near;
    floor_small = agree.floor_small;
    room = agree.room;
    wide = agree.wide;
    few = agree.few;
    narrow = agree.narrow;
    bare = agree.bare;
  }
