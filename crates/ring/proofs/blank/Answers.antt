use Rattle.std.proofs.Common.{ap}
use Rattle.ring.proofs.Writes.{blank_row}
use Rattle.ring.proofs.blank.Goals as goal

pub returns : goal.returns
returns c = record {
  no_head = blank_row (λ x. x.first) _ _ _ (c.fill.ensures.after (λ y e. e)) c.new.ensures;
  no_key = blank_row (λ x. x.key) _ _ _ (c.fill-2.ensures.after (λ y e. e)) (ap (λ x. x.key) c.new-2.ensures);
}
