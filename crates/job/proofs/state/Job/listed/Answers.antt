use Rattle.runs.proofs.Outcomes.{make_listed, lay_listed, open_listed, draw_listed, spread_listed, work_listed, abandon_listed, reopen_listed}
use Rattle.job.proofs.state.Job.listed.Goals as goal

pub returns : goal.returns
returns c cs m j run = record {
  making = λ n k r t h. make_listed (λ x. x) run t r n k h;
  laying = λ f g k r t h. lay_listed (λ x. x) run t r f g k h;
  opening = λ q o k r t l h. open_listed (λ x. x.refusal) run t r q k o l h;
  drawing = λ e o r t l h. draw_listed (λ x. x.refusal) run t r (λ d. d.from) (λ d. d.to) e o l h;
  spreading = λ u v e o r t l h. spread_listed (λ x. x.refusal) run t r u v e o l h;
  working = λ b e o r t l h. work_listed (λ x. x.refusal) run t r (λ w. w.settled) e b o l h;
  abandoning = λ u v r t h. abandon_listed (λ x. x) run t r u v h;
  reopening = λ r t h. reopen_listed (λ x. x.refusal) run t r h;
}
