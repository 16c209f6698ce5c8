use Rattle.std.proofs.Common.{refl}
use Rattle.worked.proofs.Checks.{all_hold}
use Rattle.worked.proofs.shown.Goals as goal

pub returns : goal.returns
returns c = record { value = refl; keeps = all_hold }
