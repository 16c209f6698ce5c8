-- Work keeps an open job's invariant: its units are done until the budget is spent or nothing waits.
-- Assumes nothing.
use Rattle.std.proofs.Common.{◌≡◌, ℕ, suc, ◌+◌, ◌*◌, true, false, ◌↔◌, List, [], ◌∷◌, ◌++◌, map, length, Some, None, sym, refl, ap, ◌∙◌, inl, inr, zero-add, arith, length-append}
use mathlib.Core.List.Memᴰ
use mathlib.Core.List.{Memᴰ}
use Rattle.std.proofs.lemmas.Bool.{both_ways}
use Rattle.queue.specs.declared.Entry.{Entry}
use Rattle.queue.specs.Meaning.{Meaning, Least}
use Rattle.walks.specs.Hall.{Hall}
use Rattle.walks.specs.Search.{free}
use Rattle.walks.specs.Units.{Idle, Tallied}
use Rattle.walks.proofs.Tallies.{idling}
use Rattle.model.specs.declared.Phase.TheVariants.{Resting}
use Rattle.model.specs.State.{JobState, noted_key, pair_at, settled_in, value_of}
use Rattle.model.specs.Calls.{after_unit, queue_after, Worked, spent, empty, unit, unfit, fits}
use Rattle.runs.specs.Lists.{Rule, Ends, ends_of, reach_in}
use Rattle.runs.specs.Law.{legs_leaving}
use Rattle.runs.proofs.Known.{inside}
use Rattle.runs.proofs.Agrees.{key_known}
use Rattle.runs.proofs.Kept.{Open, search_of}
use Rattle.runs.proofs.Units.{one_unit}
use Rattle.runs.proofs.Fitness.{fit}

-- a pair may stand before those drawn after it
fore : (p q : Ends) (xs ys : List Ends) → Memᴰ q (xs ++ p ∷ ys) ↔ Memᴰ q (p ∷ xs ++ ys)
fore p q xs ys = (forth, back)
  where
    forth : Memᴰ q (xs ++ p ∷ ys) → Memᴰ q (p ∷ xs ++ ys)
    forth among = elim (Memᴰ.append_cases xs among) [
      | inl left ↦ Memᴰ.tail (Memᴰ.append_left ys left)
      | inr right ↦ elim (Memᴰ.cases_cons right) [
        | inl e ↦ Memᴰ.head e
        | inr rest ↦ Memᴰ.tail (Memᴰ.append_right xs rest)
      ]
    ]

    back : Memᴰ q (p ∷ xs ++ ys) → Memᴰ q (xs ++ p ∷ ys)
    back among = elim (Memᴰ.cases_cons among) [
      | inl e ↦ Memᴰ.append_right xs (Memᴰ.head e)
      | inr rest ↦ elim (Memᴰ.append_cases xs rest) [
        | inl left ↦ Memᴰ.append_left (p ∷ ys) left
        | inr right ↦ Memᴰ.append_right xs (Memᴰ.tail right)
      ]
    ]

fore_legs : (h : Hall) (p : Ends) (xs ys : List Ends) → legs_leaving h (xs ++ p ∷ ys) ≡ legs_leaving h (p ∷ xs ++ ys)
fore_legs h p [] ys = refl
fore_legs h p (x ∷ xs) ys = let rest = fore_legs h p xs ys in omega arith

-- the same job and queue, by other counts
recounted : {g : ℕ} {ds ts : List Ends} {s : JobState} {m : Meaning} {j : Rule} (h : ℕ) (es us : List Ends) → Open g ds ts s m j free →
    Tallied s.hall (search_of s) h s.tried free →
    ((u v : ℕ) → ((x : ℕ) × (value_of (pair_at s u v) ≡ Some x)) ↔ Memᴰ (record { from = u; to = v }) es) →
    settled_in s.table ≡ length es → s.tried ≡ legs_leaving s.hall us → Open h es us s m j free
recounted h es us was tallied settled once tried = record {
  sized = was.sized;
  some = was.some;
  lawful = was.lawful;
  agrees = was.agrees;
  reach = was.reach;
  capacity = was.capacity;
  band = was.band;
  floor = was.floor;
  range = was.range;
  wide = was.wide;
  front = was.front;
  tallied = tallied;
  settled = settled;
  once = once;
  tried = tried;
}

moved : (b g : ℕ) (p : Ends) (xs ds ts : List Ends) (s : JobState) (m : Meaning) (j : Rule) →
    Open (b + suc g) (xs ++ p ∷ ds) (xs ++ p ∷ ts) s m j free → Open (suc b + g) (p ∷ xs ++ ds) (p ∷ xs ++ ts) s m j free
moved b g p xs ds ts s m j was =
    let sum : b + suc g ≡ suc b + g = omega arith in
    recounted (suc b + g) (p ∷ xs ++ ds) (p ∷ xs ++ ts) was (rw sum at was.tallied)
    (λ u v. (
      λ x. (fore p (record { from = u; to = v }) xs ds).0 ((was.settled u v).0 x),
      λ among. (was.settled u v).1 ((fore p (record { from = u; to = v }) xs ds).1 among),
    ))
    (was.once ∙ simp length-append (omega arith)) (was.tried ∙ fore_legs s.hall p xs ts)

-- units granted while nothing waits settle nothing
module _ (g : ℕ) (ds ts : List Ends) (s : JobState) (m : Meaning) (j : Rule) (was : Open g ds ts s m j free) where
  over : Least m None → Idle (search_of s)
  over none u v = elim (inside s.hall.points s.table u v) [
    | inl p ↦ sym (key_known s.hall.points s.table m was.agrees u v p.0 p.1) ∙ none (u * s.hall.points + v)
    | inr unseen ↦ ap noted_key unseen
  ]

  idle : (b : ℕ) → Least m None → Open (b + g) ds ts s m j free
  idle b none =
      let sum : g + b ≡ b + g = omega arith in
      recounted (b + g) ds ts was (rw sum at (idling s.hall (search_of s) g b s.tried (over none) was.tallied))
      was.settled was.once was.tried

pub work : (j : Rule) (r : ℕ) {b : ℕ} {s t : JobState} {m o : Meaning} {es : List Entry} → Worked j.join r b s m es t o →
    (g : ℕ) (ds ts : List Ends) → r ≡ reach_in j s → s.phase ≡ Resting → Open g ds ts s m j free →
    (t.phase ≡ Resting) × Open (b + g) (map (ends_of s) es ++ ds) (map (ends_of s) es ++ ts) t o j free
work j r (spent {s} {m}) g ds ts reach rest was = (rest, rw (zero-add g) was)
work j r (empty {b} {s} {m} none) g ds ts reach rest was = (rest, idle g ds ts s m j was b none)
work j r (unit {b} {s} {t} {m} {o} {e} {es} least good more) g ds ts reach rest was =
    let next = work j r more (suc g) (ends_of s e ∷ ds) (ends_of s e ∷ ts) reach refl (one_unit g ds ts s m j was e least) in
    (next.0, moved b g (ends_of s e) (map (ends_of s) es) ds ts t o j next.1)
work j r (unfit {b} {s} {t} {m} {o} {e} f least good is to next bad) g ds ts reach rest was =
    let after = one_unit g ds ts s m j was e least in
    let fine : fits (after_unit j.join s m e) (queue_after j.join s m e) f (reach_in j s) ≡ true =
    fit (suc g) (ends_of s e ∷ ds) (ends_of s e ∷ ts) (after_unit j.join s m e) (queue_after j.join s m e) j free after f (rw to at next) in
    let ill : fits (after_unit j.join s m e) (queue_after j.join s m e) f (reach_in j s) ≡ false =
    ap (λ x. fits x (queue_after j.join s m e) f (reach_in j s)) (sym is)
    ∙ ap (λ q. fits t q f (reach_in j s)) (sym to)
    ∙ ap (λ x. fits t o f x) (sym reach)
    ∙ bad in
    absurd (both_ways (fits (after_unit j.join s m e) (queue_after j.join s m e) f (reach_in j s)) ill fine)
