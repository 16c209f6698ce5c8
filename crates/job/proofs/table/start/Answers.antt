use Rattle.std.proofs.Common.{◌≡◌, ◌+◌, ◌*◌, set, None, sym, ap, ◌∙◌, add-one, arith}
use Rattle.model.specs.State.{settled_in, waiting_in}
use Rattle.model.specs.Calls.{start_table}
use Rattle.model.specs.declared.Pair.TheVariants.{Waiting}
use Rattle.job.proofs.Starting.{next_enters, start_waiting, start_settled}
use Rattle.job.proofs.table.start.Goals as goal

pub loop-point-preserved : goal.loop-point-preserved
loop-point-preserved g c =
    let n = c.args.points in
    let u = c.loop-point.point in
    let inv = c.loop-point.invariant in (
      omega arith,
      ap (λ ps. set ps (u * n + u) (Waiting 0 None)) inv.1 ∙ ap (start_table n) (sym (add-one u)),
      (λ s. c.lowered.ensures.keeps (inv.2 s)),
      (λ s room. next_enters n u (g.Q.Queue.meaning c.args.queue.now) (g.Q.Queue.meaning c.loop-point.queue) (g.Q.Queue.meaning c.lowered.new.queue)
          c.loop-point-test.true room (inv.3 s room) (c.lowered.ensures.after (inv.2 s))),
    )

pub returns-clause-len : goal.returns-clause-len
returns-clause-len g c =
    let n = c.args.points in
    let end : c.loop-point.point ≡ n = omega (arith, c.loop-point.invariant.0) in
    let table = c.loop-point.invariant.1 ∙ ap (start_table n) end in
    (ap waiting_in table ∙ start_waiting n n (omega arith), ap settled_in table ∙ start_settled n n (omega arith))
