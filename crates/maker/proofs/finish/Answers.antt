use Rattle.std.proofs.Common.{subst}
use Rattle.queue.specs.Meaning.{Least}
use Rattle.job.specs.View.{state_of}
use Rattle.maker.proofs.Working.{works_well, worked_tabled}
use Rattle.maker.proofs.finish.Goals as goal

pub unwrap-requires : goal.unwrap-requires
unwrap-requires g c =
    let rule = rw c.unwrap-rule.ensures at c.new.ensures in
    let sound = c.open.ensures.keeps c.requires.sound in
    let o = g.Q.Queue.meaning c.open.new.queue in
    works_well c.unwrap-rule.result.dwell rule.0 (state_of c.args.job.now) c.requires.ready (g.Q.Queue.meaning c.args.queue.now) c.requires.suits
    _ c.open.result (state_of c.open.new.self) o (c.open.ensures.cases c.requires.sound) (g.Q.Queue.named c.open.new.queue)
    (subst (λ e. Least o e) (c.least.ensures.value sound) (c.least.ensures.cases sound)) _ _ c.work.result (state_of c.work.new.self)
    (g.Q.Queue.meaning c.work.new.queue) (c.work.ensures.cases sound)

pub returns : goal.returns
returns g c =
    let rule = rw c.unwrap-rule.ensures at c.new.ensures in
    let sound = c.open.ensures.keeps c.requires.sound in
    let o = g.Q.Queue.meaning c.open.new.queue in
    let end =
    worked_tabled c.unwrap-rule.result.dwell rule.0 (state_of c.args.job.now) c.requires.ready (g.Q.Queue.meaning c.args.queue.now) c.requires.suits
    _ c.open.result (state_of c.open.new.self) o (c.open.ensures.cases c.requires.sound) (g.Q.Queue.named c.open.new.queue)
    (subst (λ e. Least o e) (c.least.ensures.value sound) (c.least.ensures.cases sound)) _ _ c.work.result (state_of c.work.new.self)
    (g.Q.Queue.meaning c.work.new.queue) (c.work.ensures.cases sound) in
    record { value = end.0; same = end.1 }
