use Rattle.std.proofs.Common.{length, sym, ap, ◌∙◌, arith}
use Rattle.model.specs.Calls.{tries}
use Rattle.job.specs.Legs.{nexts}
use Rattle.job.specs.Parts.{desk}
use Rattle.job.specs.View.{hall_in}
use Rattle.job.proofs.Counts.{waiting_most}
use Rattle.job.proofs.Spreading.{turn, ended, tried_short, item_below, turn_desk}
use Rattle.job.proofs.hall.Hall.spread.Goals as goal

pub offset_bounds-legs-number : goal.offset_bounds-legs-number
offset_bounds-legs-number g c =
    omega (arith, (turn c.args.self.now _ c.as_slice-legs.ensures.value c.loop-next.next c.in-Some.number c.loop-next.invariant.0 c.in-Some.is c.loop-next.invariant.1).few)

pub bounds-legs-number : goal.bounds-legs-number
bounds-legs-number g c =
    (turn c.args.self.now _ c.as_slice-legs.ensures.value c.loop-next.next c.in-Some.number c.loop-next.invariant.0 c.in-Some.is c.loop-next.invariant.1).there

pub overflow_add-row : goal.overflow_add-row
overflow_add-row g c =
    let t = turn c.args.self.now _ c.as_slice-legs.ensures.value c.loop-next.next c.in-Some.number c.loop-next.invariant.0 c.in-Some.is c.loop-next.invariant.1 in
    omega (arith, item_below _ _ _ _ t c.args.from c.requires.ends.0)

pub try_leg-fresh-requires : goal.try_leg-fresh-requires
try_leg-fresh-requires g c =
    let t = turn c.args.self.now _ c.as_slice-legs.ensures.value c.loop-next.next c.in-Some.number c.loop-next.invariant.0 c.in-Some.is c.loop-next.invariant.1 in
    omega (arith, item_below _ _ _ _ t c.args.from c.requires.ends.0, c.requires.len, c.loop-next.auto.pairs)

pub overflow_add-fresh : goal.overflow_add-fresh
overflow_add-fresh g c =
    let t = turn c.args.self.now _ c.as_slice-legs.ensures.value c.loop-next.next c.in-Some.number c.loop-next.invariant.0 c.in-Some.is c.loop-next.invariant.1 in
    omega (arith, waiting_most c.try_leg-fresh.new.pairs, c.try_leg-fresh.ensures.value, c.loop-next.invariant.3, c.requires.len, item_below _ _ _ _ t c.args.from c.requires.ends.0)

pub overflow_add-tried : goal.overflow_add-tried
overflow_add-tried g c =
    let t = turn c.args.self.now _ c.as_slice-legs.ensures.value c.loop-next.next c.in-Some.number c.loop-next.invariant.0 c.in-Some.is c.loop-next.invariant.1 in
    omega (arith, c.loop-next.invariant.2, ap length t.first, tried_short c.args.self.now c.args.far)

pub loop-next-preserved : goal.loop-next-preserved
loop-next-preserved g c =
    let t = turn c.args.self.now _ c.as_slice-legs.ensures.value c.loop-next.next c.in-Some.number c.loop-next.invariant.0 c.in-Some.is c.loop-next.invariant.1 in
    let r = c.try_leg-fresh.ensures in (
      t.rest,
      t.on,
      omega (arith, c.loop-next.invariant.2, ap length t.first),
      omega (arith, c.loop-next.invariant.3, r.value),
      r.same ∙ c.loop-next.invariant.4,
      (λ s. r.keeps (c.loop-next.invariant.5 s)),
      (λ s. turn_desk _ _ _ _ t (g.R.Rule.joined c.args.rule.now) c.args.from c.args.value c.join-key.result
          (desk c.loop-next.pairs (g.Q.Queue.meaning c.loop-next.queue))
          (desk c.try_leg-fresh.new.pairs (g.Q.Queue.meaning c.try_leg-fresh.new.queue))
          _ c.requires.value c.join-key.ensures (r.after (c.loop-next.invariant.5 s)) (c.loop-next.invariant.6 s)),
    )

pub returns-clause-after : goal.returns-clause-after
returns-clause-after g c s =
    let h = c.args.self.now in
    let none = ended (nexts h.legs.items) c.loop-next.next c.loop-next.invariant.0 c.in_default.is c.loop-next.invariant.1 in
    sym (ap (λ is. tries (g.R.Rule.joined c.args.rule.now) (hall_in h) c.args.from c.args.value is
    (desk c.loop-next.pairs (g.Q.Queue.meaning c.loop-next.queue))) none)
    ∙ c.loop-next.invariant.6 s

pub returns-clause-len : goal.returns-clause-len
returns-clause-len g c =
    let none = ended (nexts c.args.self.now.legs.items) c.loop-next.next c.loop-next.invariant.0 c.in_default.is c.loop-next.invariant.1 in
    omega (arith, c.loop-next.invariant.2, ap length none)

pub returns-clause-bound : goal.returns-clause-bound
returns-clause-bound g c = omega (arith, c.loop-next.invariant.2, tried_short c.args.self.now c.args.far)
