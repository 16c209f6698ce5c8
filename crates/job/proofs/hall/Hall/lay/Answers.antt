use Rattle.std.proofs.Common.{[], ◌∷◌, ◌++◌, length, set, Some, None, ap, ◌∙◌, arith}
use Rattle.job.specs.declared.leg.Leg.{Leg}
use Rattle.job.specs.Legs.{nexts, first_of}
use Rattle.job.proofs.Threads.{within_push, threaded_push}
use Rattle.job.proofs.hall.Hall.lay.Goals as goal

pub invariant_of-self-2-clause-within : goal.invariant_of-self-2-clause-within
invariant_of-self-2-clause-within c =
    let j = c.args.self.now in
    let l : Leg = record { from = c.args.from; to = c.args.to; cost = c.args.cost; next = None } in
    within_push j.points j.bound j.legs.items c.thread.new.legs.items l c.thread.ensures.items j.within c.if-from-self.false c.if-to-self.false (omega arith)

pub invariant_of-self-2-clause-threaded : goal.invariant_of-self-2-clause-threaded
invariant_of-self-2-clause-threaded c =
    let j = c.args.self.now in
    let l : Leg = record { from = c.args.from; to = c.args.to; cost = c.args.cost; next = None } in
    let r = c.thread.ensures in
    let was = c.deref_mut.ensures.value in
    let after = r.after ∙ ap (λ cs. nexts j.legs.items ++ first_of cs c.args.from ∷ []) was in
    let new = r.value ∙ ap (λ n. set c.deref_mut.result.now c.args.from (record { first = Some n })) j.legs.ok.0 ∙ ap (λ cs. set cs c.args.from (record { first = Some (length j.legs.items) })) was in
    threaded_push j.points j.bound j.legs.items c.thread.new.legs.items l r.items j.leaving.value c.thread.new.leaving after new (omega (arith, r.len.1, c.thread.auto.leaving, ap length was)) j.threaded
