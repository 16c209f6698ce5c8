-- What every joining rule keeps.
--   join      the value of a walk, and the cost of one leg more, into a new value
--   reach     the most that a cost not above a bound adds
--   Lawful    the laws of the two, for every value, and every cost and bound up to the cost limit
use Rattle.std.specs.Prelude.{ℕ, ◌+◌, ◌≤◌}
use Rattle.figures.specs.Limits.{value_limit, cost_limit}

pub record Lawful (join : ℕ → ℕ → ℕ) (reach : ℕ → ℕ) : Type 0 where
  -- joining never lowers
  pub rises : (v k : ℕ) → k ≤ cost_limit → v ≤ join v k
  -- from a higher value it comes out no lower
  pub monotone : (v w k : ℕ) → k ≤ cost_limit → v ≤ w → join v k ≤ join w k
  -- it adds at most the reach
  pub within : (v k b : ℕ) → k ≤ b → b ≤ cost_limit → join v k ≤ v + reach b
  -- no reach passes the value limit
  pub bounded : (b : ℕ) → b ≤ cost_limit → reach b ≤ value_limit
