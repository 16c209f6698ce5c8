use Rattle.std.proofs.Common.{subst}
use Rattle.sheet.specs.Steps.{Passed}
use Rattle.sheet.proofs.Lines.{miscounted}
use Rattle.sheet.proofs.steps.Cursor.line.Goals as goal

pub returns-else-counts : goal.returns-else-counts
returns-else-counts c =
    miscounted _ _ _ c.mark.new.self c.fields.new.self c.pass.new.self c.in_ok-kind.kind _ c.in_ok-kind.ensures.0 c.in_ok-kind.ensures.1 c.in_ok-record.ensures.0 (subst (λ p. Passed p c.fields.new.self c.pass.new.self) c.in_ok-record.ensures.1 c.in_ok-pass.ensures.0) c.if-counts.ensures
