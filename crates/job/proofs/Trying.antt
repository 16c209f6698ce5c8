-- What a try of a leg does to the table and the queue beside it.
use Rattle.std.proofs.Common.{◌≡◌, ℕ, ◌+◌, ◌<◌, List, length, get_or, set, Option, sym, ap, ◌∙◌}
use Rattle.model.specs.State.{one_if, value_of, noted_key, settled_in, waiting_in}
use Rattle.model.specs.declared.Pair.{Pair}
use Rattle.model.specs.declared.Pair.TheVariants.{Unseen, Waiting}
use Rattle.job.proofs.Counts.{having_set, settled_having, waiting_having}

-- counts once item i waits
module _ (ps : List Pair) (i k : ℕ) (last : Option ℕ) (within : i < length ps) where
  pub waits_more : waiting_in (set ps i (Waiting k last)) + one_if (noted_key (get_or ps i Unseen)) 0 ≡ waiting_in ps + 1
  waits_more =
      ap (λ n. n + one_if (noted_key (get_or ps i Unseen)) 0) (waiting_having (set ps i (Waiting k last)))
      ∙ having_set noted_key ps i (Waiting k last) within
      ∙ ap (λ n. n + 1) (sym (waiting_having ps))

  pub settles_same : settled_in (set ps i (Waiting k last)) + one_if (value_of (get_or ps i Unseen)) 0 ≡ settled_in ps + 0
  settles_same =
      ap (λ n. n + one_if (value_of (get_or ps i Unseen)) 0) (settled_having (set ps i (Waiting k last)))
      ∙ having_set value_of ps i (Waiting k last) within
      ∙ ap (λ n. n + 0) (sym (settled_having ps))
