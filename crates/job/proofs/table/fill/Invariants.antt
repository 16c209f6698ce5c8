use Rattle.std.proofs.Common.{◌≡◌, replicate, vec_items, vec_len, vec_capacity}
use Rattle.model.specs.declared.Pair.TheVariants.{Unseen}
use Rattle.job.proofs.table.fill.Given as goal

abbrev pub invariant-loop-place : goal.invariant-loop-place
invariant-loop-place l =
    (vec_items l.pairs ≡ replicate l._place Unseen) × (vec_len l.pairs ≡ l._place) × (vec_capacity l.pairs ≡ vec_capacity l.initial.pairs)
