use Rattle.std.proofs.Common.{◌≡◌}
use Rattle.listing.specs.Listing.{in_order, pair_line, total, has}
use Rattle.listing.proofs.put_row.Given as goal

abbrev pub invariant-loop-to : goal.invariant-loop-to
invariant-loop-to g l = record {
  items : l.found ≡ total l.to (λ v. has (g.T.Table.cell l.table l.from v));
  after : g.S.Sink.took l.initial.sink (in_order l.to (λ v. pair_line l.from v (g.T.Table.cell l.table l.from v))) l.sink;
}
