use Rattle.walks.proofs.routes_stand.Goals as goal
use Rattle.walks.proofs.Measures.{routes}
use Rattle.walks.proofs.Routes.{one_route}

pub returns : goal.returns
returns c = record {
  read = λ h join reach lawful sized. routes h join;
  one = λ h join reach lawful sized s u v x y r q. one_route h join;
}
