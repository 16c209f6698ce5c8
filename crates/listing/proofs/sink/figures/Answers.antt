use Rattle.std.proofs.Common.{arith, rules}
use Rattle.listing.proofs.Decimal.{length_logged}
use Rattle.listing.proofs.sink.figures.Goals as goal

pub returns : goal.returns
returns c =
    let log = c.checked_ilog10.ensures in
    length_logged c.args.n c.checked_ilog10.result c.map_or.result _ (omega arith) log.none log.power_le log.next_power_gt (λ k p. search rules) c.map_or.ensures
