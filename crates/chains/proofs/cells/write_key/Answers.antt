use Rattle.std.proofs.Common.{refl}
use lib.Seq.{map-set, map-set_same}
use Rattle.chains.proofs.cells.write_key.Goals as goal

pub returns-then-item-cells : goal.returns-then-item-cells
returns-then-item-cells c = record {
  after = map-set _ _ _ _;
  keeps = map-set_same _ _ _ _ _ refl;
  same = map-set_same _ _ _ _ _ refl;
}
