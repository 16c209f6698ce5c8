use Rattle.std.proofs.Common.{◌≡◌, OnErr, sym, refl, ap, ◌∙◌, subst}
use Rattle.std.proofs.lemmas.Result.{on_err_weaker}
use Rattle.queue.specs.Meaning.{Lowest, Takes}
use Rattle.queue.proofs.Meanings.{not_refused}
use Rattle.chains.proofs.Threads.{same_some}
use Rattle.wheel.specs.Wheels.{Turned, whole, WheelSound}
use Rattle.wheel.proofs.Calls.{key_in_rim, Ready, is_due, ready_turned, taken_below, taken_there}
use Rattle.wheel.proofs.WheelQueue.take.Goals as goal
use Rattle.wheel.proofs.WheelQueue.take.Goals.{in-Some+in_ok-yields, in_default}

pub returns : goal.returns
unfolding Turned
returns g c =
    let q = c.args.self.now in
    let a = q.current in
    let r = q.rim in
    let b = g.Q.Queue.meaning q.below in
    let i = c.args.item in
    let o = c.take.result in
    let after = c.match-key.self in
    let b2 = g.Q.Queue.meaning c.take.new.self in
    let all : (s : g.Q.Queue.sound q.below × WheelSound a r b)
    → Takes (whole a r b) i o (whole after.current after.rim b2)
    × (g.Q.Queue.sound c.take.new.self × WheelSound after.current after.rim b2)
    × OnErr o (record { below = c.take.new.self; current = after.current; rim = after.rim } ≡ q)
    = λ s. elim c.match-key.branch [
      | in-Some+in_ok-yields w ↦
          (let k = w.in-Some.key in
          let here = sym c.key.ensures ∙ w.in-Some.is in
          let waits = key_in_rim a r b s.1 i k here in
          let y = w.in_ok-yields.ensures s in
          let lowest = subst (Lowest (whole a r b)) (same_some y.0 waits) y.1 in
          let n = w.quotient-number.result in
          let last = w.turn.new.self in
          let due = is_due a r b s.1 i k n w.quotient-number.ensures waits lowest here in
          let t = w.turn.ensures.after s.0 s.1 due in
          let turned = ready_turned a r b s.1 i k n w.quotient-number.ensures waits lowest
          last.rim (g.Q.Queue.meaning last.below) due.wide t.2 t.3 t.1 in
          let ready : g.Q.Queue.sound after.below × Ready (whole a r b) r.width i after.current after.rim (g.Q.Queue.meaning after.below)
          = subst (λ v. g.Q.Queue.sound v.below × Ready (whole a r b) r.width i v.current v.rim (g.Q.Queue.meaning v.below))
          (sym w.self-is) (
            w.turn.ensures.keeps s.0,
            subst (λ v. Ready (whole a r b) r.width i v last.rim (g.Q.Queue.meaning last.below)) (sym t.0) turned,
          ) in
          let done = taken_below (whole a r b) r.width i k after.current after.rim (g.Q.Queue.meaning after.below) ready.1
          (g.Q.Queue.banded after.below ready.0) waits lowest refl o b2 (c.take.ensures.cases ready.0) in
          (done.0, (c.take.ensures.keeps ready.0, done.1), not_refused (whole a r b) i k waits lowest o _ _ done.0))
      | in_default w ↦
          (let absent = sym c.key.ensures ∙ w.in_default.is in
          let same = sym w.self-is in
          let held = subst (λ v. g.Q.Queue.sound v.below) same s.0 in
          let there = taken_there a r b s.1 (g.Q.Queue.banded q.below s.0) i absent o b2
          (subst (λ v. Takes (g.Q.Queue.meaning v.below) i o b2) w.self-is (c.take.ensures.cases held)) in (
            subst (λ v. Takes (whole a r b) i o (whole v.current v.rim b2)) same there.0,
            (c.take.ensures.keeps held, subst (λ v. WheelSound v.current v.rim b2) same there.1),
            on_err_weaker o (λ is. ap (λ v. record { below = v; current = after.current; rim = after.rim }) is ∙ w.self-is) (c.take.ensures.same held),
          ))
    ] in
    record { cases = λ s. (all s).0; keeps = λ s. (all s).1; same = λ s. (all s).2 }
