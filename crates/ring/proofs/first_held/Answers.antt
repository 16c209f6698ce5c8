use Rattle.std.proofs.Common.{rules, ap, ◌∙◌, subst}
use Rattle.std.specs.Iterator.Runs.{ItemsMapTo}
use Rattle.std.specs.Slice.Iter.{iter_rest}
use Rattle.ring.proofs.Finds.{found}
use Rattle.ring.proofs.first_held.Goals as goal

pub returns : goal.returns
returns c =
    let run = c.find_map.ensures.runs in
    found _ _ (λ x. x.first) (λ x r q k. search rules) run.0 c.args.slots.now
    (subst (ItemsMapTo run.0 (λ y. y.now)) (ap iter_rest run.1 ∙ c.iter.ensures.rest) (c.iter.ensures.runs run.0 run.0.seen))
    c.find_map.result run.2
