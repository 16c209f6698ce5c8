use Rattle.walks.proofs.units_settle.Goals as goal
use Rattle.walks.proofs.Tallies.{settle, idle_is_done, runs}

pub returns : goal.returns
returns c = record {
  granted = settle;
  idle = idle_is_done;
  runs = λ h join reach lawful sized g m floor s. runs h join reach lawful sized;
}
