use Rattle.std.proofs.Common.{◌≡◌, min, replicate, None, sym, ap, ◌∙◌, subst}
use Rattle.std.proofs.lemmas.List.{length-replicate}
use Rattle.figures.specs.Limits.{cell_limit}
use Rattle.queue.specs.Meaning.{capacity}
use Rattle.wheel.specs.Rims.{rim_keys}
use Rattle.wheel.specs.Wheels.{Figures, Fresh, WheelSound, whole}
use Rattle.wheel.proofs.Calls.{made_good, made_bad}
use Rattle.wheel.proofs.Wheel.new.Goals as goal
use Rattle.wheel.proofs.Wheel.new.Goals.{in-Ok, in-Err}

pub returns-in-Ok-new : goal.returns-in-Ok-new
returns-in-Ok-new g c s =
    let w = c.args.width in
    let m = g.Q.Queue.meaning c.args.below in
    let b = g.Q.Queue.meaning c.clear.new.self in
    let r = c.in-Ok-new.rim in
    let is = c.clear.ensures.after s in
    let sound = c.clear.ensures.keeps s in
    let band = c.band.ensures sound ∙ ap (λ v. v.band) is in
    let new = c.in-Ok-new.ensures in
    let both : WheelSound 0 r b × Fresh w m (whole 0 r b) = (elim c.match-trial.branch [
      | in-Ok x ↦
          (let many = x.min.ensures ∙ ap (λ v. min v cell_limit) (x.capacity.ensures sound ∙ ap capacity is ∙ length-replicate (capacity m) None) in
          made_good w x.min.result m b r is (subst (λ v. Figures w v) band x.in-Ok.ensures) many
          (subst (λ v. (r.width ≡ v.0) × (rim_keys r ≡ replicate v.1 None)) x.width-is new))
      | in-Err x ↦
          (made_bad w m b r is (λ f. x.in-Err.ensures (subst (λ v. Figures w v) (sym band) f))
          (subst (λ v. (r.width ≡ v.0) × (rim_keys r ≡ replicate v.1 None)) x.width-is new))
    ]) in
    ((sound, both.0), both.1)
