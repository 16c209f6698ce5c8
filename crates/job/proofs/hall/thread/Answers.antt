use Rattle.std.proofs.Common.{◌≡◌, [], ◌∷◌, ◌++◌, map, length, set, sym, ap, ◌∙◌}
use Rattle.std.proofs.lemmas.List.{with_items_is}
use Rattle.job.specs.Legs.{leg_of, nexts, first_of}
use Rattle.job.proofs.Threads.{bare, legs_pushed, nexts_pushed}
use Rattle.job.proofs.hall.thread.Goals as goal

pub returns-clause-items : goal.returns-clause-items
returns-clause-items c =
    let legs = c.args.legs.now in
    let leg = c.args.leg in
    let pushed = c.push_reserved.new.self in
    let out = c.pushed.new.elements in
    let was : c.as_mut_slice.result.now ≡ legs.items ++ leg ∷ [] = c.as_mut_slice.ensures.value ∙ c.push_reserved.ensures.items in
    let same : map bare out ≡ map bare (legs.items ++ leg ∷ []) = c.pushed.ensures.same ∙ ap (map bare) was in
    let long : length out ≡ pushed.len = c.pushed.auto.elements ∙ c.as_mut_slice.ensures.len in
    ap (map leg_of) (with_items_is pushed out long) ∙ legs_pushed legs.items out leg same

pub returns-clause-after : goal.returns-clause-after
returns-clause-after c =
    let legs = c.args.legs.now in
    let leg = c.args.leg in
    let chains = c.args.leaving.now in
    let pushed = c.push_reserved.new.self in
    let out = c.pushed.new.elements in
    let i = c.len-number.result in
    let was : c.as_mut_slice.result.now ≡ legs.items ++ leg ∷ [] = c.as_mut_slice.ensures.value ∙ c.push_reserved.ensures.items in
    let long : length out ≡ pushed.len = c.pushed.auto.elements ∙ c.as_mut_slice.ensures.len in
    let short : length legs.items ≡ i = sym (c.len-number.ensures ∙ legs.ok.0) in
    let head = first_of chains leg.from in
    ap nexts (with_items_is pushed out long)
    ∙ nexts_pushed legs.items out leg i head short (c.pushed.ensures.after ∙ ap (λ s. set (nexts s) i head) was)
