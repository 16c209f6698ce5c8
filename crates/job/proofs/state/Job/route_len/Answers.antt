use Rattle.std.proofs.Common.{rules, of_calls, ap, ◌∙◌}
use Rattle.std.specs.Iterator.Adapters.{successors_next, successors_callee}
use Rattle.job.specs.View.{state_of}
use Rattle.job.proofs.Following.{followed_back}
use Rattle.job.proofs.state.Job.route_len.Goals as goal

-- the closure answers the last leg at the point that its leg leaves: by its own contract
pub returns : goal.returns
returns c =
    let s = state_of c.args.self.now in
    let ran = c.count.ensures.ran in
    ran.2 ∙ followed_back c.count.ensures.runs.0 c.take.result ran.0 ran.1 s c.args.from c.args.to s.hall.points c.successors.result.f
    (c.take.ensures.count ∙ c.points.ensures.value)
    (ap successors_next c.take.ensures.source ∙ c.successors.ensures.item ∙ c.last.ensures)
    (ap successors_callee c.take.ensures.source)
    (λ i o f' h. let call = h.called in let at = h.shows in let it = c.successors.ensures.closure in search (rules, of_calls))
