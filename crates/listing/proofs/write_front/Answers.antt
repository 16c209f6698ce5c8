use Rattle.std.proofs.Common.{zero-add, rules}
use Rattle.listing.specs.Buffer.{written}
use Rattle.listing.proofs.write_front.Goals as goal

pub returns : goal.returns
unfolding written
returns g c =
    let front = rw zero-add at ((c.put_listing.ensures.after.1 (rw zero-add c.requires)).1) in
    search rules
