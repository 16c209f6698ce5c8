use Rattle.std.proofs.Common.{sym, ◌∙◌}
use Rattle.ring.proofs.Stands.{entered_stands, lowered_meant, lowered_stands}
use Rattle.ring.proofs.Ring.admit.Goals as goal

pub returns-in-None-clause-keeps : goal.returns-in-None-clause-keeps
returns-in-None-clause-keeps c st a =
    rw (c.link.ensures.same.0, c.link.ensures.same.1)
    (entered_stands st _ _ _ _ a (sym c.key_at.ensures ∙ c.in-None.is) c.link.ensures.after)

pub returns-in-Some-2-clause-cases : goal.returns-in-Some-2-clause-cases
returns-in-Some-2-clause-cases c st a =
    let d = sym c.key_at.ensures ∙ c.in-Some.is in (
      a,
      (c.in-Some.old, d, c.if-old-key.false),
      rw (c.link-in-Some-2.ensures.same.0, c.unlink.ensures.same.0)
          (lowered_meant st _ _ _ _ _ _ _ a d c.unlink.ensures.after c.link-in-Some-2.ensures.after),
    )

pub returns-in-Some-2-clause-keeps : goal.returns-in-Some-2-clause-keeps
returns-in-Some-2-clause-keeps c st a =
    rw (c.link-in-Some-2.ensures.same.0, c.link-in-Some-2.ensures.same.1, c.unlink.ensures.same.0, c.unlink.ensures.same.1)
    (lowered_stands st _ _ _ _ _ _ _ a (sym c.key_at.ensures ∙ c.in-Some.is) c.unlink.ensures.after c.link-in-Some-2.ensures.after)
