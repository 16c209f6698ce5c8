use Rattle.std.proofs.Common.{◌≤◌, arith, rules}
use Rattle.listing.proofs.Rows.{found_from_le}
use Rattle.listing.proofs.put_row.Goals as goal

pub overflow_add-found : goal.overflow_add-found
overflow_add-found g c =
    let one : c.from-found.result ≤ 1 = search rules in
    omega (arith, g.T.Table.few c.args.table.now, found_from_le c.loop-to.to (g.T.Table.cell c.args.table.now) c.args.from)
