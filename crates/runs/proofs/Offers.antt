-- An offer over a leg is one of the search, where the queue may be offered its key.
-- Assumes nothing.
use Rattle.std.proofs.Common.{◌≡◌, ℕ, ◌+◌, ◌*◌, ◌<◌, ◌≤◌, Bool, true, false, cond, not, ◌&&◌, leb, ◌⊎◌, set, Some, None, sym, refl, ap, inl, inr, arith, length-set}
use lib.Arith.{digits_lt}
use Rattle.std.proofs.lemmas.Bool.{leb-true, leb-false}
use Rattle.queue.specs.Meaning.{put}
use Rattle.walks.specs.Search.{Apart, Offered}
use Rattle.walks.proofs.Places.{clash, same_pair}
use Rattle.model.specs.declared.Pair.{Pair}
use Rattle.model.specs.declared.Pair.TheVariants.{Unseen, Waiting, Settled}
use Rattle.model.specs.State.{value_of, noted_key, last_leg}
use Rattle.model.specs.Calls.{Desk, offered, may_offer, waits_as_low, is_settled}
use Rattle.runs.proofs.Known.{known, board, known_at, known_set, known_apart}
use Rattle.runs.proofs.Agrees.{Agrees, Alike, agrees_set}

pub record Tried (n u w k number : ℕ) (d e : Desk) : Type 0 where
  pub agrees : Agrees n e.table e.queue
  pub alike : Alike d.queue e.queue
  pub floor : e.queue.floor ≡ d.queue.floor
  pub offer : Offered (board n d.table) u w k number (board n e.table)

module _ (n : ℕ) (d : Desk) (agrees : Agrees n d.table d.queue) (u w k number : ℕ) (lu : u < n) (lw : w < n) where
  lower : Desk
  lower = record { table = set d.table (u * n + w) (Waiting k (Some number)); queue = put d.queue (u * n + w) k }

  kept : (p : Pair) → known n d.table u w ≡ p →
      ((y : ℕ) × (value_of p ≡ Some y)) ⊎ ((l : ℕ) × (noted_key p ≡ Some l) × (l ≤ k)) → Tried n u w k number d d
  kept p e low = record {
    agrees = agrees;
    alike = record { capacity = refl; band = refl };
    floor = refl;
    offer = record {
      settled_same = λ a b. refl;
      waits_same = λ a b apart. refl;
      last_same = λ a b apart. refl;
      cases = inl (record { low = rw e low; waits = refl; last = refl });
    };
  }

  lowered : (p : Pair) → known n d.table u w ≡ p → value_of p ≡ None → ((l : ℕ) → noted_key p ≡ Some l → k < l) →
      Tried n u w k number d lower
  unfolding lower
  lowered p e new higher = record {
    agrees = agrees_set n d.table d.queue agrees (u * n + w) (digits_lt lu lw) (Waiting k (Some number)) (put d.queue (u * n + w) k) refl;
    alike = record { capacity = length-set d.queue.waits (u * n + w) (Some k); band = refl };
    floor = refl;
    offer = record {
      settled_same = settled_same;
      waits_same = λ a b apart. ap noted_key (apart_same a b apart);
      last_same = λ a b apart. ap last_leg (apart_same a b apart);
      cases = inr (record {
        unsettled = rw e new;
        higher = λ l f. higher l (rw e at f);
        waits = ap noted_key here;
        last = ap last_leg here;
      });
    };
  }
    where
      here : known n (set d.table (u * n + w) (Waiting k (Some number))) u w ≡ Waiting k (Some number)
      here = known_set n d.table agrees.size u w lu lw (u * n + w) refl (Waiting k (Some number))

      apart_same : (a b : ℕ) → Apart a b u w → known n (set d.table (u * n + w) (Waiting k (Some number))) a b ≡ known n d.table a b
      apart_same = known_apart n d.table agrees.size u w lu lw (u * n + w) refl (Waiting k (Some number))

      settled_same : (a b : ℕ) → value_of (known n (set d.table (u * n + w) (Waiting k (Some number))) a b) ≡ value_of (known n d.table a b)
      settled_same a b = elim (same_pair a b u w) [
        | yes q ↦ rw (q.0, q.1, here, e) (sym new)
        | no apart ↦ ap value_of (apart_same a b apart)
      ]

  chosen : Pair → Desk
  chosen p = cond (not (is_settled p) && (true && not (waits_as_low (noted_key p) k))) lower d

  by_pair : (p : Pair) → known n d.table u w ≡ p → Tried n u w k number d (chosen p)
  unfolding chosen
  by_pair Unseen e = lowered Unseen e refl (λ l f. clash refl f)
  by_pair (Settled x l) e = kept (Settled x l) e (inl (x, refl))
  by_pair (Waiting l x) e = low (leb l k) refl
    where
      low : (b : Bool) → leb l k ≡ b → Tried n u w k number d (cond (not b) lower d)
      low true f = kept (Waiting l x) e (inr (l, refl, leb-true l k f))
      low false f =
          lowered (Waiting l x) e refl (λ y g. let same : l ≡ y = cc in let less = leb-false l k f in omega arith)

  pub tried : may_offer d.queue (u * n + w) k ≡ true → Tried n u w k number d (offered d (u * n + w) k number)
  unfolding chosen lower
  tried may =
      rw (may, agrees.keys (u * n + w), ← known_at n d.table u w lu lw) (by_pair (known n d.table u w) refl)
