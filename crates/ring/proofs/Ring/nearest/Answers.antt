use Rattle.std.proofs.Common.{rules, ◌≡◌, take, drop, ◌∙◌}
use Rattle.ring.specs.Standing.{heads, or_else, first_some}
use Rattle.ring.proofs.Finds.{scanned_slots}
use Rattle.ring.proofs.Ring.nearest.Goals as goal

pub returns : goal.returns
returns c =
    let slots = c.args.self.now.slots.now in
    let s = c.slot.result in
    let e : c.or_else.result ≡ or_else (first_some (heads c.split_at.result.1.now)) (first_some (heads c.split_at.result.0.now)) = search rules in
    let parts : c.or_else.result ≡ or_else (first_some (heads (drop s slots))) (first_some (heads (take s slots))) =
    cc (e, c.split_at.ensures.front, c.split_at.ensures.back) in
    parts ∙ scanned_slots slots c.args.self.now.floor s c.slot.ensures.bound c.slot.ensures.value
