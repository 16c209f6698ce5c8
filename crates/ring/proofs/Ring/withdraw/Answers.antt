use Rattle.ring.proofs.Stands.{taken_stands}
use Rattle.ring.proofs.Ring.withdraw.Goals as goal

pub returns-clause-keeps : goal.returns-clause-keeps
returns-clause-keeps c st d low = rw c.unlink.ensures.same.1 (taken_stands st _ _ _ _ d low c.unlink.ensures.after)
