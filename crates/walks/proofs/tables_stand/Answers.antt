use Rattle.walks.proofs.tables_stand.Goals as goal
use Rattle.walks.proofs.Tables.{opens, draws, keeps, lowers}

pub returns : goal.returns
returns c = record { opening = opens; drawing = draws; kept = keeps; lowered = lowers }
