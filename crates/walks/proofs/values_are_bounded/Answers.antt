use Rattle.walks.proofs.values_are_bounded.Goals as goal
use Rattle.walks.proofs.Measures.{bounds}

pub returns : goal.returns
returns c = bounds
