use Rattle.std.proofs.Common.{◌≡◌, ℕ, pred, ◌+◌, ◌-◌, ◌<◌, List, [], ◌∷◌, ◌++◌, length, drop, sym, ap, ◌∙◌, arith}
use Rattle.std.proofs.lemmas.List.{length_push, append_assoc, drop-set}
use Rattle.model.specs.State.{JobState, followed}
use Rattle.job.specs.View.{state_of}
use Rattle.job.proofs.Following.{followed_on, followed_some}
use Rattle.job.proofs.state.Job.write_route.Goals as goal

pub loop-place-preserved : goal.loop-place-preserved
loop-place-preserved c =
    let s : JobState = state_of c.args.self.now in
    let l = c.loop-place in
    let m : ℕ = l.invariant.0 in
    let step = c.in-Some.ensures in
    let i : ℕ = step.0 in
    let front : List ℕ = followed s (pred m) c.args.from c.in-Some.before in
    let some : 0 < m = followed_some s c.args.from l.at m (omega (arith, l.invariant.1)) in
    let on : followed s m c.args.from l.at ≡ front ++ i ∷ [] =
    followed_on s c.args.from l.at m i c.in-Some.before some (sym step.1) step.2 in
    let same : l.place - 1 + 1 ≡ l.place = omega arith in
    let written = ap (drop (l.place - 1)) step.3 ∙ drop-set l.route (l.place - 1) i (omega arith) ∙ ap (λ p. i ∷ drop p l.route) same in (
      pred m,
      omega (arith, l.invariant.1, ap length on, length_push front i),
      ap (λ xs. front ++ xs) written
          ∙ sym (append_assoc front (i ∷ []) (drop l.place l.route))
          ∙ ap (λ xs. xs ++ drop l.place l.route) (sym on)
          ∙ l.invariant.2,
    )
