use Rattle.std.proofs.Common.{◌≡◌}
use Rattle.listing.specs.Listing.{in_order, row, total, found_from}
use Rattle.listing.proofs.put_rows.Given as goal

abbrev pub invariant-loop-from : goal.invariant-loop-from
invariant-loop-from g l = record {
  items : l.found ≡ total l.from (found_from (g.T.Table.size l.table) (g.T.Table.cell l.table));
  after : g.S.Sink.took l.initial.sink (in_order l.from (row (g.T.Table.size l.table) (g.T.Table.cell l.table))) l.sink;
}
