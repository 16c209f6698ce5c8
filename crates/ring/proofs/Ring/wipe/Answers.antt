use Rattle.std.proofs.Common.{refl, arith}
use Rattle.ring.proofs.Scans.{idle}
use Rattle.ring.proofs.Stands.{cleared_meant}
use Rattle.ring.proofs.Ring.wipe.Goals as goal

pub returns-then-self-gt0-clause-after : goal.returns-then-self-gt0-clause-after
returns-then-self-gt0-clause-after c st = cleared_meant st c.blank.auto.slots c.blank.auto.cells c.blank.ensures

-- where nothing waits all is blank already
pub returns-else-self-gt0-clause-after : goal.returns-else-self-gt0-clause-after
returns-else-self-gt0-clause-after c st = cleared_meant st refl refl (idle st (omega arith))
