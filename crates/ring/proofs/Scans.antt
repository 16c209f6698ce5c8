-- The scan from the floor's slot on finds an item of least key.
use Rattle.std.proofs.Common.{◌≡◌, ℕ, zero, suc, ◌+◌, ◌%◌, ◌<◌, ◌≤◌, ◌⊎◌, List, length, get_or, Some, None, Option, sym, refl, ap, ◌∙◌, subst, inl, inr, arith}
use lib.ListN.{length-map}
use Rattle.std.proofs.lemmas.Bool.{cases_lt}
use Rattle.chains.specs.Cells.{keys}
use Rattle.chains.specs.declared.Chain.{Chain}
use Rattle.chains.proofs.Slots.{slot_empty, slot_first, slots_idle, some_lt}
use Rattle.queue.specs.Meaning.{Least}
use Rattle.queue.proofs.Meanings.{none_held, none_in_replicate}
use Rattle.chains.specs.declared.cells.Cell.{Cell}
use Rattle.ring.specs.Standing.{heads, rows, slot_of, meant, Blank, Standing, scanned, or_else, entry_at, entry_of, chosen}
use Rattle.ring.proofs.Turns.{one_key}

-- all heads None: nothing is found
pub scanned_none : (row : List (Option ℕ)) (n k : ℕ) → ((s : ℕ) → get_or row s None ≡ None) → scanned n row k ≡ None
scanned_none row zero k h = refl
scanned_none row (suc n) k h = ap (λ o. or_else o (scanned n row (suc k))) (h (k % length row)) ∙ scanned_none row n (suc k) h

module _ {slots : List Chain} {cells : List Cell} {low count : ℕ} (st : Standing slots cells low count) where
  -- an item that waits needs a slot
  pub has_slot : (i k : ℕ) → get_or (keys cells) i None ≡ Some k → 0 < length slots
  has_slot i k e =
      let l = some_lt (keys cells) i k e in
      let m = length-map cells (λ c. c.key) in
      st.some_slot (omega arith)

  -- keys lie in a row of as many as there are slots
  pub key_high : (i k : ℕ) → get_or (keys cells) i None ≡ Some k → k < low + length slots
  key_high i k e = let w = st.banded.within i k e in let p = has_slot i k e in omega arith

  -- nothing waits
  pub idle_least : ((j k : ℕ) → get_or (keys cells) j None ≡ Some k → ⊥) → Least (meant slots cells low) None
  idle_least n j = none_of (get_or (keys cells) j None) (λ k e. n j k e)
    where
      none_of : (o : Option ℕ) → ((k : ℕ) → o ≡ Some k → ⊥) → o ≡ None
      none_of None h = refl
      none_of (Some k) h = absurd (h k refl)

  -- n slots are left to look at, from key k on
  pub scan_least : (n k : ℕ) → low ≤ k → k + n ≡ low + length slots → ((i l : ℕ) → get_or (keys cells) i None ≡ Some l → k ≤ l)
      → Least (meant slots cells low) (entry_of (keys cells) (scanned n (heads slots) k))
  scan_least zero k lk e h = idle_least (λ i l q. let a = h i l q in let b = key_high i l q in omega arith)
  scan_least (suc n) k lk e h =
      by (scan_least n (suc k) (omega arith) (omega arith)) (get_or (heads slots) (k % length (heads slots)) None) refl
    where
      long : length (heads slots) ≡ length slots
      long = length-map slots (λ c. c.first)

      by : (((i l : ℕ) → get_or (keys cells) i None ≡ Some l → suc k ≤ l)
          → Least (meant slots cells low) (entry_of (keys cells) (scanned n (heads slots) (suc k))))
          → (o : Option ℕ) → get_or (heads slots) (k % length (heads slots)) None ≡ o
          → Least (meant slots cells low) (entry_of (keys cells) (or_else o (scanned n (heads slots) (suc k))))
      by rest None q =
          rest
          (λ i l w.
          let a = h i l w in
          elim (cases_suc k l a) [
            | inl lt ↦ lt
            | inr same ↦
                absurd (slot_empty (slot_of (length slots)) (rows slots cells) st.lists st.slotted (k % length (heads slots)) q i l w
                (ap (λ m. m % length slots) same ∙ ap (λ m. k % m) (sym long)))
          ])
        where
          cases_suc : (a b : ℕ) → a ≤ b → (suc a ≤ b) ⊎ (b ≡ a)
          cases_suc a b l = elim (cases_lt a b) [ inl lt ↦ inl lt | inr ge ↦ inr (omega arith) ]
      by rest (Some i) q =
          let f = slot_first (slot_of (length slots)) (rows slots cells) st.lists st.slotted (k % length (heads slots)) i q in
          let l = f.0 in
          let high = key_high i l f.1 in
          let least = h i l f.1 in
          let same : l ≡ k = one_key (length slots) k l least (omega arith) (f.2 ∙ ap (λ m. k % m) long) in
          subst (λ o. Least (meant slots cells low) (entry_at i o)) (sym f.1)
          (f.1, λ j m w. let a = h j m w in omega arith)

  pub chosen_least : Least (meant slots cells low) (chosen slots cells low)
  chosen_least = scan_least (length slots) low (omega arith) refl (λ i l e. st.banded.above i l e)

  -- nothing is counted
  pub idle : count ≡ 0 → Blank slots cells
  idle e =
      let ks : (i : ℕ) → get_or (keys cells) i None ≡ None = λ i.
      ap (λ row. get_or row i None) (none_held (keys cells) (sym st.counted ∙ e)) ∙ none_in_replicate (length (keys cells)) i in
      record { no_head = slots_idle (slot_of (length slots)) (rows slots cells) st.lists st.slotted ks; no_key = ks }

  pub chosen_idle : count ≡ 0 → chosen slots cells low ≡ None
  chosen_idle e = ap (entry_of (keys cells)) (scanned_none (heads slots) (length slots) low (idle e).no_head)
