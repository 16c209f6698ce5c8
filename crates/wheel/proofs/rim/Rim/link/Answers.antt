use Rattle.std.proofs.Common.{arith}
use Rattle.wheel.proofs.Rims.{later_fits}
use Rattle.wheel.proofs.rim.Rim.link.Goals as goal

pub overflow_add-self : goal.overflow_add-self
overflow_add-self c = omega (arith, later_fits c.args.self.now)
