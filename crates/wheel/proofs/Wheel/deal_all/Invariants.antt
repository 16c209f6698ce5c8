use Rattle.std.proofs.Common.{◌≡◌}
use Rattle.queue.specs.Meaning.{held}
use Rattle.wheel.specs.Rims.{rim_keys}
use Rattle.wheel.specs.Wheels.{whole, Dealing}
use Rattle.wheel.proofs.Wheel.deal_all.Given as goal

-- the wheel's keys are as they were, in the rim or below
abbrev pub invariant-loop-entry : goal.invariant-loop-entry
invariant-loop-entry g l =
    (g.Q.Queue.sound l.initial.self.below → g.Q.Queue.sound l.self.below)
    × (l.self.current ≡ l.initial.self.current)
    × (g.Q.Queue.sound l.initial.self.below
    → Dealing l.initial.self.current l.initial.self.rim (g.Q.Queue.meaning l.initial.self.below)
    → Dealing l.initial.self.current l.self.rim (g.Q.Queue.meaning l.self.below)
    × (l.self.rim.width ≡ l.initial.self.rim.width)
    × (whole l.initial.self.current l.self.rim (g.Q.Queue.meaning l.self.below)
    ≡ whole l.initial.self.current l.initial.self.rim (g.Q.Queue.meaning l.initial.self.below)))

abbrev pub decreases-loop-entry : goal.decreases-loop-entry
decreases-loop-entry g l = held (rim_keys l.self.rim)
