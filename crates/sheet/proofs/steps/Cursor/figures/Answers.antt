use Rattle.std.proofs.Common.{◌≡◌, rules, refl, subst}
use Rattle.sheet.specs.Steps.{next_place}
use Rattle.sheet.proofs.Figures.{bad_figures, figures_taken}
use Rattle.sheet.proofs.steps.Cursor.figures.Goals as goal

pub returns-then-is_written : goal.returns-then-is_written
returns-then-is_written c = (
  figures_taken _ c.pass.new.self _ _ _ c.rest-rest.ensures c.requires c.in_ok-pass.ensures.0 c.leading_figures.ensures c.if-is_written.ensures refl refl,
  subst (λ p. c.pass.new.self.place ≡ next_place p c.args.then) c.requires c.in_ok-pass.ensures.1,
)

pub returns-else-is_written : goal.returns-else-is_written
returns-else-is_written c = search (rules, bad_figures)
