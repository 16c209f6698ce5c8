use Rattle.chains.proofs.Rows.{row_put}
use lib.Seq.{map-set_same}
use Rattle.chains.proofs.link_next.Goals as goal

pub returns-then-i-elements : goal.returns-then-i-elements
returns-then-i-elements g c = record {
  after = row_put _ _ _ _ _ _ c.in-Some.is c.set_next.ensures.after;
  keeps = map-set_same _ _ _ _ _ c.set_next.ensures.keeps;
  same = map-set_same _ _ _ _ _ c.set_next.ensures.same;
}
