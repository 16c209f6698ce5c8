use Rattle.std.proofs.Common.{[], sym, arith}
use Rattle.sheet.specs.declared.Kind.TheVariants.{Start, Leg, End}
use Rattle.sheet.proofs.Tails.{none_taken, one_more, field_missing, part_behind}
use Rattle.sheet.proofs.steps.Cursor.fields.Goals as goal

pub returns-in_err-field-in-Start : goal.returns-in_err-field-in-Start
returns-in_err-field-in-Start c =
    field_missing _ Start _ _ _ [] _ _ c.in-Start.is c.from_residual.ensures.1 (none_taken c.args.self.now) (omega arith) c.in_err-field-in-Start.ensures

pub returns-in_err-field-in-Start-2 : goal.returns-in_err-field-in-Start-2
returns-in_err-field-in-Start-2 c =
    let one = one_more c.args.self.now c.args.self.now c.field.new.self [] _ (none_taken c.args.self.now) c.in_ok-field-in-Start.ensures.0 in
    field_missing _ Start _ _ _ _ _ _ c.in-Start.is c.from_residual-in_err-field-in-Start-2.ensures.1 one (omega arith) c.in_err-field-in-Start-2.ensures

pub returns-in_err-field-in-Leg : goal.returns-in_err-field-in-Leg
returns-in_err-field-in-Leg c =
    field_missing _ Leg _ _ _ [] _ _ c.in-Leg.is c.from_residual-in_err-field-in-Leg.ensures.1 (none_taken c.args.self.now) (omega arith) c.in_err-field-in-Leg.ensures

pub returns-in_err-field-in-Leg-2 : goal.returns-in_err-field-in-Leg-2
returns-in_err-field-in-Leg-2 c =
    let one = one_more c.args.self.now c.args.self.now c.field-in-Leg.new.self [] _ (none_taken c.args.self.now) c.in_ok-field-in-Leg.ensures.0 in
    field_missing _ Leg _ _ _ _ _ _ c.in-Leg.is c.from_residual-in_err-field-in-Leg-2.ensures.1 one (omega arith) c.in_err-field-in-Leg-2.ensures

pub returns-in_err-field-in-Leg-3 : goal.returns-in_err-field-in-Leg-3
returns-in_err-field-in-Leg-3 c =
    let one = one_more c.args.self.now c.args.self.now c.field-in-Leg.new.self [] _ (none_taken c.args.self.now) c.in_ok-field-in-Leg.ensures.0 in
    let two = one_more _ _ c.field-in-Leg-2.new.self _ _ one c.in_ok-field-in-Leg-2.ensures.0 in
    field_missing _ Leg _ _ _ _ _ _ c.in-Leg.is c.from_residual-in_err-field-in-Leg-3.ensures.1 two (omega arith) c.in_err-field-in-Leg-3.ensures

pub returns-in_err-field-in-End : goal.returns-in_err-field-in-End
returns-in_err-field-in-End c =
    field_missing _ End _ _ _ [] _ _ c.in-End.is c.from_residual-in_err-field-in-End.ensures.1 (none_taken c.args.self.now) (omega arith) c.in_err-field-in-End.ensures

pub returns-in_ok-field-in-Leg-3 : goal.returns-in_ok-field-in-Leg-3
returns-in_ok-field-in-Leg-3 c =
    let one = one_more c.args.self.now c.args.self.now c.field-in-Leg.new.self [] _ (none_taken c.args.self.now) c.in_ok-field-in-Leg.ensures.0 in
    let two = one_more _ _ c.field-in-Leg-2.new.self _ _ one c.in_ok-field-in-Leg-2.ensures.0 in (
      record {
        kind_is = sym c.in-Leg.is;
        taken = one_more _ _ c.field-in-Leg-3.new.self _ _ two c.in_ok-field-in-Leg-3.ensures.0;
        parts = (
          c.in_ok-field-in-Leg.ensures.0.part,
          part_behind c.args.self.now _ _ _ _ _ (none_taken c.args.self.now) c.in_ok-field-in-Leg.ensures.0 c.in_ok-field-in-Leg-2.ensures.0.part,
          part_behind _ _ _ _ _ _ one c.in_ok-field-in-Leg-2.ensures.0 c.in_ok-field-in-Leg-3.ensures.0.part,
        );
      },
      c.in_ok-field-in-Leg-3.ensures.1,
    )
