use Rattle.std.proofs.Common.{◌≡◌, length, Some}
use Rattle.wheel.specs.Later.{scan}
use Rattle.wheel.specs.Rims.{rim_keys, rim_nexts, least_at}
use Rattle.wheel.proofs.Rims.{Walk, steps}
use Rattle.wheel.proofs.rim.Rim.least_in.Given as goal

abbrev pub invariant-loop-at : goal.invariant-loop-at
invariant-loop-at l = record {
  walk : ∥ Walk (rim_keys l.self) (rim_nexts l.self) (length (rim_keys l.self)) l.at ∥₁;
  same : scan (rim_keys l.self) (rim_nexts l.self) (length (rim_keys l.self)) l.at l.best ≡ least_at l.self (Some l.place);
}

abbrev pub decreases-loop-at : goal.decreases-loop-at
decreases-loop-at l = steps (rim_keys l.self) (rim_nexts l.self) (length (rim_keys l.self)) l.at
