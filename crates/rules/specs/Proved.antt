-- That the two rules keep the laws: what their impls owe.
use Rattle.std.specs.Prelude.{ℕ, ◌≤◌}
use Rattle.std.proofs.Common.{arith}
use Rattle.figures.specs.Limits.{dwell_limit}
use Rattle.rules.specs.Laws.{Lawful}
use Rattle.rules.specs.Meanings.{running_time, running_reach, worst_leg, worst_reach}

pub running_lawful : (d : ℕ) → d ≤ dwell_limit → Lawful (running_time d) (running_reach d)
running_lawful d h = record {
  rises = λ v k l. omega arith;
  monotone = λ v w k l m. omega arith;
  within = λ v k b l m. omega arith;
  bounded = λ b l. omega arith;
}

pub worst_lawful : Lawful worst_leg worst_reach
worst_lawful = record {
  rises = λ v k l. omega arith;
  monotone = λ v w k l m. omega arith;
  within = λ v k b l m. omega arith;
  bounded = λ b l. omega arith;
}
