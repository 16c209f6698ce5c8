use Rattle.std.proofs.Common.{set, Some, ap, ◌∙◌}
use Rattle.chains.proofs.Keys.{same_keys}
use Rattle.chains.proofs.Chain.entered.Goals as goal

pub returns-clause-items : goal.returns-clause-items
returns-clause-items c =
    c.write_key.ensures.after ∙ ap (λ row. set row c.args.item (Some c.args.key)) (same_keys _ _ c.inserted-chain.ensures.same)
