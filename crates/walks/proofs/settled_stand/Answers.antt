use Rattle.walks.proofs.settled_stand.Goals as goal
use Rattle.walks.proofs.Reaching.{frontier, least, nearest, progress, finished}

pub returns : goal.returns
returns c = record { frontier = frontier; least = least; nearest = nearest; progress = progress; finished = finished }
