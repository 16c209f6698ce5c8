use Rattle.walks.proofs.front_is_kept.Goals as goal
use Rattle.walks.proofs.Drawing.{opened, drawn}
use Rattle.walks.proofs.Trying.{tries, spread}

pub returns : goal.returns
returns c = record {
  opening = λ h join reach lawful sized. opened h join;
  drawing = λ h join reach lawful sized. drawn h join sized;
  trying = tries;
  ending = λ h join reach lawful sized. spread h join;
}
