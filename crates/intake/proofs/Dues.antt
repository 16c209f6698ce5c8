-- What it tells of a making or a laying that no refusal is due.
-- Assumes nothing.
use Rattle.std.proofs.Common.{◌≡◌, ℕ, ◌<◌, ◌≤◌, length, None, arith}
use Rattle.std.proofs.lemmas.Bool.Decides.{nat_tests}
use Rattle.figures.specs.Limits.{cost_limit}
use Rattle.walks.specs.Hall.{Hall}
use Rattle.model.specs.declared.Phase.TheVariants.{Laying}
use Rattle.model.specs.State.{closed}
use Rattle.model.specs.Calls.{point_limit, leg_limit, make_due, lay_due}

pub record Makeable (n c : ℕ) : Type 0 where
  pub some_points : 1 ≤ n
  pub few_points : n ≤ point_limit
  pub some_bound : 1 ≤ c
  pub low_bound : c ≤ cost_limit

pub makeable : (n c : ℕ) → make_due n c ≡ None → Makeable n c
makeable n c e = grind (arith, nat_tests)

pub record Layable (h : Hall) (f g k : ℕ) : Type 0 where
  pub from : f < h.points
  pub to : g < h.points
  pub cost : k ≤ h.bound
  pub room : length h.legs < leg_limit

pub layable : (h : Hall) (f g k : ℕ) → lay_due (closed Laying h) f g k ≡ None → Layable h f g k
layable h f g k e = grind (arith, nat_tests)
