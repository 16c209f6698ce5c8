use Rattle.std.proofs.Common.{set, None, ap, ◌∙◌}
use Rattle.chains.proofs.Keys.{same_keys}
use Rattle.chains.proofs.Chain.left.Goals as goal

pub returns-clause-items : goal.returns-clause-items
returns-clause-items c = c.write_key.ensures.after ∙ ap (λ row. set row c.args.item None) (same_keys _ _ c.removed-chain.ensures.same)
