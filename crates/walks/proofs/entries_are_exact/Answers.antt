use Rattle.walks.proofs.entries_are_exact.Goals as goal
use Rattle.walks.proofs.Waiting.{entries}

pub returns : goal.returns
returns c = λ h join reach lawful sized. entries h join
