use Rattle.std.proofs.Common.{◌≡◌, ◌+◌, true, sym, ◌∙◌, subst, arith}
use Rattle.queue.specs.Meaning.{Least}
use Rattle.model.specs.Calls.{fits, after_unit}
use Rattle.job.specs.View.{state_of}
use Rattle.job.proofs.Units.{Goes, goes_none, goes_empty, goes_spent, goes_more, goes_unfit}
use Rattle.job.proofs.state.Job.run.Goals as goal

pub loop-done-init : goal.loop-done-init
loop-done-init g c = (
  c.requires,
  (λ s. s),
  (λ s l f. (l, f, goes_none (g.R.Rule.joined c.args.rule.now) c.args.reach c.args.budget (state_of c.args.self.now) (g.Q.Queue.meaning c.args.queue.now))),
)

pub returns-in_default-clause-value : goal.returns-in_default-clause-value
returns-in_default-clause-value g c s l f =
    let m = g.Q.Queue.meaning c.loop-done.queue in
    let h = c.loop-done.invariant.2 s l f in
    goes_empty (g.R.Rule.joined c.args.rule.now) c.args.reach c.args.budget (state_of c.args.self.now) (g.Q.Queue.meaning c.args.queue.now)
    c.loop-done.done (state_of c.loop-done.self) m h.2 (subst (Least m) c.in_default.is h.0)

pub returns-in-Err-clause-value : goal.returns-in-Err-clause-value
returns-in-Err-clause-value g c s l f =
    let inv = c.loop-done.invariant in
    let u = c.unit.ensures in
    let a = c.in-Err.ensures in
    let m = g.Q.Queue.meaning c.loop-done.queue in
    let q = c.unit.new.queue in
    let h = inv.2 s l f in
    let sound = inv.1 s in
    let least = subst (Least m) c.in-Some.is h.0 in
    let fit = subst (λ o. fits (state_of c.loop-done.self) m o c.args.reach ≡ true) c.in-Some.is h.1 in
    goes_unfit (g.R.Rule.joined c.args.rule.now) c.args.reach c.args.budget (state_of c.args.self.now) (g.Q.Queue.meaning c.args.queue.now)
    c.loop-done.done (state_of c.loop-done.self) m h.2 c.in-Some.entry (state_of c.unit.new.self) (g.Q.Queue.meaning q) (g.Q.Queue.named q)
    c.loop-done-test.true least fit (u.value sound least).1 (u.after sound least) (a.cases (u.keeps sound)) (a.value (u.keeps sound)).1

pub loop-done-preserved : goal.loop-done-preserved
loop-done-preserved g c =
    let inv = c.loop-done.invariant in
    let u = c.unit.ensures in
    let a = c.in-Ok.ensures in
    let e = c.in-Some.entry in
    let join = g.R.Rule.joined c.args.rule.now in
    let before = state_of c.loop-done.self in
    let m = g.Q.Queue.meaning c.loop-done.queue in
    let t = state_of c.unit.new.self in
    let o = g.Q.Queue.meaning c.unit.new.queue in (
      (u.same, a.bound),
      (λ s. u.keeps (inv.1 s)),
      (λ s l f.
          let h = inv.2 s l f in
          let sound = inv.1 s in
          let least = subst (Least m) c.in-Some.is h.0 in
          let fit = subst (λ o. fits before m o c.args.reach ≡ true) c.in-Some.is h.1 in
          let named = a.value (u.keeps sound) in
          let first = state_of c.args.self.now in
          let begun = g.Q.Queue.meaning c.args.queue.now in
          let goes = goes_more join c.args.reach c.args.budget first begun c.loop-done.done before m h.2 e c.loop-done-test.true least fit in (
            subst (Least o) (sym named.0) (a.cases (u.keeps sound)),
            subst (λ n. fits t o n c.args.reach ≡ true) (sym named.0) named.1,
            subst (λ x. Goes join c.args.reach c.args.budget first begun (c.loop-done.done + 1) x o) (sym (u.value sound least).1)
                (subst (λ y. Goes join c.args.reach c.args.budget first begun (c.loop-done.done + 1) (after_unit join before m e) y) (sym (u.after sound least)) goes),
          )),
    )

pub returns-clause-value : goal.returns-clause-value
returns-clause-value g c s l f =
    let h = c.loop-done.invariant.2 s l f in
    let r = goes_spent (g.R.Rule.joined c.args.rule.now) c.args.reach c.args.budget (state_of c.args.self.now) (g.Q.Queue.meaning c.args.queue.now)
    c.loop-done.done (state_of c.loop-done.self) (g.Q.Queue.meaning c.loop-done.queue) h.2 c.loop-done-test.false in
    let p : c.args.budget ≡ c.loop-done.done = omega (arith, c.loop-done-test.false, c.loop-done.auto.done-end) in
    (r.0, p ∙ r.1, r.2)
