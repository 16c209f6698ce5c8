use Rattle.std.proofs.Common.{arith}
use Rattle.listing.proofs.Rows.{found_from_le, found_le}
use Rattle.listing.proofs.put_rows.Goals as goal

pub overflow_add-found : goal.overflow_add-found
overflow_add-found g c =
    let few = g.T.Table.few c.args.table.now in
    let most = found_le (g.T.Table.size c.args.table.now) c.loop-from.from (g.T.Table.cell c.args.table.now) few in
    omega (arith, found_from_le (g.T.Table.size c.args.table.now) (g.T.Table.cell c.args.table.now) c.loop-from.from)
