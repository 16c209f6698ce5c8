use Rattle.sheet.proofs.Sheets.{once}
use Rattle.sheet.proofs.reading.law.Goals as goal

pub returns : goal.returns
returns c = once
