use Rattle.std.proofs.Common.{sym, ap, ◌∙◌, subst}
use Rattle.chains.specs.Threads.{Chained}
use Rattle.model.specs.State.{leaving}
use Rattle.job.specs.Legs.{nexts, first_of}
use Rattle.job.specs.View.{hall_in}
use Rattle.job.proofs.Threads.{chain_of}
use Rattle.job.proofs.hall.Hall.first.Goals as goal

pub returns : goal.returns
returns c =
    let h = c.args.self.now in
    let v = c.args.point in
    subst (λ head. Chained (nexts h.legs.items) head (leaving (hall_in h) v)) (sym (c.first.ensures ∙ ap (λ cs. first_of cs v) c.deref.ensures))
    (chain_of h.points h.bound h.legs.items h.leaving.value v h.threaded)
