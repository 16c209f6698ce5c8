use Rattle.walks.proofs.tally_is_kept.Goals as goal
use Rattle.walks.proofs.Tallies.{opening, drawing, trying, ending, idling}

pub returns : goal.returns
returns c = record {
  opening = λ h join reach lawful sized. opening h;
  drawing = λ h join reach lawful. drawing h join;
  trying = λ h join reach lawful sized. trying h;
  ending = λ h join reach lawful sized. ending h;
  idling = λ h join reach lawful sized. idling h;
}
