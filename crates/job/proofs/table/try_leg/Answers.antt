use Rattle.std.proofs.Common.{◌≡◌, ◌+◌, get_or, None, ap, arith}
use Rattle.model.specs.State.{one_if, value_of, noted_key}
use Rattle.model.specs.declared.Pair.TheVariants.{Unseen}
use Rattle.job.proofs.Trying.{waits_more, settles_same}
use Rattle.job.proofs.table.try_leg.Goals as goal

-- the pair was not settled, and is counted anew unless it waited
pub returns-then-lowered-clause-value : goal.returns-then-lowered-clause-value
returns-then-lowered-clause-value g c =
    let counts : c.match-pairs-item.fresh + one_if (noted_key (get_or c.args.pairs.now c.args.item Unseen)) 0 ≡ 1 = elim c.match-pairs-item.branch [
      | goal.in-Waiting w ↦ omega (arith, w.fresh-is, ap (λ p. one_if (noted_key p) 0) w.in-Waiting.is)
      | goal.in-Unseen w ↦ omega (arith, w.fresh-is, ap (λ p. one_if (noted_key p) 0) w.in-Unseen.is)
    ] in
    omega (arith, counts, waits_more)

pub returns-then-lowered-clause-same : goal.returns-then-lowered-clause-same
returns-then-lowered-clause-same g c =
    let un : value_of (get_or c.args.pairs.now c.args.item Unseen) ≡ None = elim c.match-pairs-item.branch [
      | goal.in-Waiting w ↦ ap value_of w.in-Waiting.is
      | goal.in-Unseen w ↦ ap value_of w.in-Unseen.is
    ] in
    omega (arith, ap (λ v. one_if v 0) un, settles_same)
