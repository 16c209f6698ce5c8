use Rattle.runs.proofs.Runs.{kept}
use Rattle.runs.proofs.Stands.{law}
use Rattle.job.proofs.state.Job.trusted.Goals as goal

pub returns : goal.returns
returns c cs m j run = law cs _ m j (kept run)
