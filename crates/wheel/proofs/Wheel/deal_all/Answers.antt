use Rattle.std.proofs.Common.{◌≡◌, ◌+◌, ◌%◌, ◌<◌, set, None, sym, ap, ◌∙◌, subst, arith}
use Rattle.queue.specs.Meaning.{held}
use Rattle.queue.proofs.Meanings.{held_take}
use Rattle.chains.proofs.Slots.{some_lt}
use Rattle.wheel.specs.Joined.{joined}
use Rattle.wheel.specs.Rims.{rim_keys, Lies}
use Rattle.wheel.specs.Wheels.{Turned, base, Dealing, Sent}
use Rattle.wheel.proofs.Turning.{deal_step, dealt_sound, due_dealing, due_waits}
use Rattle.wheel.proofs.Wheel.deal_all.Goals as goal

pub loop-entry-smaller : goal.loop-entry-smaller
loop-entry-smaller g c =
    let ks = rim_keys c.loop-entry.self.rim in
    let i = c.in-Some.entry.item in
    let here = c.in-Some.ensures in
    let less : held (set ks i None) + 1 ≡ held ks = held_take ks i c.in-Some.entry.key (some_lt ks i c.in-Some.entry.key here.0) here.0 in
    let after = ap held c.deal.ensures.items.keys in
    let smaller : held (rim_keys c.deal.new.self.rim) < held ks = omega arith in
    smaller

pub loop-entry-preserved : goal.loop-entry-preserved
loop-entry-preserved g c =
    let inv = c.loop-entry.invariant in
    let n = c.args.self.now.current in
    let r = c.loop-entry.self.rim in
    let b = g.Q.Queue.meaning c.loop-entry.self.below in
    let i = c.in-Some.entry.item in
    let k = c.in-Some.entry.key in
    let here = c.in-Some.ensures in (
      λ s. c.deal.ensures.keeps (inv.0 s),
      c.deal.ensures.same ∙ inv.1,
      λ s d.
          let i2 = inv.2 s d in
          let sent : Sent n r b i k (g.Q.Queue.meaning c.deal.new.self.below)
          = subst (λ a. Sent a r b i k (g.Q.Queue.meaning c.deal.new.self.below)) inv.1 (c.deal.ensures.after (inv.0 s)) in
          let e = deal_step n r b i2.0 c.deal.new.self.rim (g.Q.Queue.meaning c.deal.new.self.below) i k here.0
          (here.1 ∙ ap (λ a. a % 64) inv.1) c.deal.ensures.items sent in
          (e.0, e.1 ∙ i2.1, e.2 ∙ i2.2),
    )

pub returns-clause-after : goal.returns-clause-after
unfolding Turned
returns-clause-after g c s a m eq sound due =
    let inv = c.loop-entry.invariant in
    let n = c.args.self.now.current in
    let r = c.args.self.now.rim in
    let t = c.loop-entry.self.rim in
    let d = subst (λ v. Dealing n r v) (sym eq) (due_dealing a n r m sound due) in
    let i = inv.2 s d in
    let none = subst (λ v. Lies t.width (rim_keys t) (v % 64) None) inv.1 c.in_default.ensures in (
      inv.1,
      i.1,
      dealt_sound n t (g.Q.Queue.meaning c.loop-entry.self.below) i.0 none,
      ap (λ v. v.waits) i.2 ∙ ap (λ v. joined (base n r) (rim_keys r) v.waits) eq ∙ due_waits a n r m sound due,
    )
