use Rattle.sheet.specs.Readers.{standing}
use Rattle.sheet.proofs.Outcomes.{one_outcome}
use Rattle.sheet.proofs.reading.Reader.one_outcome.Goals as goal

pub returns : goal.returns
returns c = one_outcome (standing c.args.self.now)
