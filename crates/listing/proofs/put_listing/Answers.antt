use Rattle.std.proofs.Common.{refl}
use Rattle.listing.specs.Listing.{listing}
use Rattle.listing.proofs.Rows.{listing_le}
use Rattle.listing.proofs.put_listing.Goals as goal

pub returns : goal.returns
unfolding listing
returns g c = record {
  bound = listing_le (g.T.Table.size c.args.table.now) (g.T.Table.cell c.args.table.now) (g.T.Table.few c.args.table.now);
  after =
      g.S.Sink.lawful.more _ _ _ _ _ _ (rw c.points.ensures at c.put_line.ensures)
      (g.S.Sink.lawful.more _ _ _ _ _ _ c.put_rows-found.ensures.after (rw c.put_rows-found.ensures.items at c.put_line-2.ensures) refl) refl;
}
