use Rattle.walks.proofs.counts_stand.Goals as goal
use Rattle.walks.proofs.Legs.{listed}
use Rattle.walks.proofs.Links.{counted}

pub returns : goal.returns
returns c = record { legs = listed; links = λ h join reach lawful. counted h join }
