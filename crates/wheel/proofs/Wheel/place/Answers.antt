use Rattle.std.proofs.Common.{sym, ◌∙◌}
use Rattle.wheel.proofs.Turning.{place_below, place_later}
use Rattle.wheel.proofs.Wheel.place.Goals as goal

pub returns-then-quotient-self-clause-after : goal.returns-then-quotient-self-clause-after
returns-then-quotient-self-clause-after g c s sound allowed higher =
    place_below c.args.self.now.current c.args.self.now.rim (g.Q.Queue.meaning c.args.self.now.below) sound
    c.args.item c.args.key allowed higher
    c.deal.new.self.rim (g.Q.Queue.meaning c.deal.new.self.below) c.deal.new.self.current
    c.deal.ensures.same (sym c.quotient.ensures ∙ c.if-quotient-self.true) c.deal.ensures.items (c.deal.ensures.after s)

pub returns-else-quotient-self-clause-after : goal.returns-else-quotient-self-clause-after
returns-else-quotient-self-clause-after g c s sound allowed higher =
    place_later c.args.self.now.current c.args.self.now.rim (g.Q.Queue.meaning c.args.self.now.below) sound
    c.args.item c.args.key allowed higher c.unlink.new.self c.link.new.self
    (λ e. c.if-quotient-self.false (c.quotient.ensures ∙ e)) c.unlink.ensures c.link.ensures
