-- An entry that a job notes, and one that a queue names.
use Rattle.std.proofs.Common.{◌≡◌, ℕ, ◌+◌, ◌<◌, true, false, List, length, get_or, set, Some, None, Option, refl, ap, subst, inl, inr, arith}
use Rattle.std.proofs.lemmas.List.{get_or_past}
use Rattle.std.proofs.lemmas.Bool.{cases_lt, eqb-true, both_ways}
use Rattle.queue.specs.declared.Entry.{Entry}
use Rattle.model.specs.declared.Pair.{Pair}
use Rattle.model.specs.declared.Pair.TheVariants.{Unseen, Waiting, Settled}
use Rattle.model.specs.State.{one_if, value_of, noted_key, settled_in, waiting_in}
use Rattle.model.specs.Calls.{at_key, noted}
use Rattle.job.proofs.Counts.{having_set, settled_having, waiting_having}

at_key_is : (o : Option ℕ) (k : ℕ) → at_key o k ≡ true → o ≡ Some k
at_key_is None k e = absurd (both_ways false refl e)
at_key_is (Some l) k e = ap Some (eqb-true l k e)

pub noted_is : (ps : List Pair) (e : Entry) → noted ps (Some e) ≡ true → noted_key (get_or ps e.item Unseen) ≡ Some e.key
noted_is ps e h = at_key_is (noted_key (get_or ps e.item Unseen)) e.key h

pub noted_there : (ps : List Pair) (e : Entry) → noted ps (Some e) ≡ true → e.item < length ps
noted_there ps e h =
    elim (cases_lt e.item (length ps)) [
      | inl l ↦ l
      | inr l ↦ absurd (both_ways false refl (subst (λ p. at_key (noted_key p) e.key ≡ true) (get_or_past ps e.item Unseen l) h))
    ]

waits_unsettled : (p : Pair) (k : ℕ) → noted_key p ≡ Some k → value_of p ≡ None
waits_unsettled Unseen k e = refl
waits_unsettled (Waiting l i) k e = refl
waits_unsettled (Settled x i) k e = let z : ◌≡◌ {A = ℕ} 0 1 = cc in absurd (omega arith)

-- a noted entry's pair is settled
module _ (ps : List Pair) (e : Entry) (h : noted ps (Some e) ≡ true) (x : ℕ) (last : Option ℕ) where
  pub one_waits_less : waiting_in (set ps e.item (Settled x last)) + 1 ≡ waiting_in ps
  one_waits_less =
      let p = having_set noted_key ps e.item (Settled x last) (noted_there ps e h) in
      let q = ap (λ o. one_if o 0) (noted_is ps e h) in
      omega (arith, waiting_having ps, waiting_having (set ps e.item (Settled x last)))

  pub one_settled_more : settled_in (set ps e.item (Settled x last)) ≡ settled_in ps + 1
  one_settled_more =
      let p = having_set value_of ps e.item (Settled x last) (noted_there ps e h) in
      let q = ap (λ o. one_if o 0) (waits_unsettled (get_or ps e.item Unseen) e.key (noted_is ps e h)) in
      omega (arith, settled_having ps, settled_having (set ps e.item (Settled x last)))
