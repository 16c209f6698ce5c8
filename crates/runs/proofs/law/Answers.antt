use Rattle.std.proofs.Common.{refl}
use Rattle.runs.proofs.law.Goals as goal
use Rattle.runs.proofs.Runs.{kept}
use Rattle.runs.proofs.Stands.{law}

pub returns : goal.returns
returns c = record { value = refl; keeps = λ cs s m j run. law cs s m j (kept run) }
