use Rattle.std.proofs.Common.{◌≡◌, suc, true, [], arith, rules}
use Rattle.std.proofs.lemmas.Result.{MatchResult-at_ok, MatchResult-at_err}
use Rattle.job.specs.View.{state_of}
use Rattle.sheet.specs.Readers.{standing}
use Rattle.sheet.specs.Reading.{opening, LineRead}
use Rattle.sheet.specs.Records.{kind_of, numbers}
use Rattle.intake.specs.declared.Cause.TheVariants.{Numbers}
use Rattle.intake.specs.Faults.{fault}
use Rattle.intake.proofs.Alone.{only_hall}
use Rattle.intake.proofs.Stages.{taken_whole}
use Rattle.intake.proofs.Intakes.{at_fault, too_long_due, first_due, first_taken, form_due, later_line, line_answered, taken_run}
use Rattle.intake.proofs.take_lines.Goals as goal

pub returns-in_err-reader : goal.returns-in_err-reader
returns-in_err-reader c =
    let long = c.in_err-reader.ensures.cases in
    at_fault c.args.sheet.now (state_of c.args.job.now) (state_of c.args.job.now) c.from_residual.result c.from_residual.ensures.1
    (λ x is. too_long_due c.args.sheet.now c.in_err-reader.field-0.0 x long.0 long.1 is)

pub returns-in_err-permit : goal.returns-in_err-permit
returns-in_err-permit c =
    let begins : standing c.in_ok-reader.reader ≡ opening c.args.sheet.now = search rules in
    at_fault c.args.sheet.now (state_of c.args.job.now) (state_of c.take_start.new.job) c.from_residual-in_err-permit.result c.from_residual-in_err-permit.ensures.1
    (λ x is. rw is
    (first_due c.args.sheet.now (standing c.in_ok-reader.reader) begins c.in_err-permit.field-0.0 c.in_ok-reader.ensures.cases.0 c.in_err-permit.ensures.cases))

pub loop-next-init : goal.loop-next-init
loop-next-init c =
    let begins : standing c.in_ok-reader.reader ≡ opening c.args.sheet.now = search rules in
    record {
      count = 1;
      some = omega arith;
      short = c.in_ok-reader.ensures.cases.0;
      taken = first_taken c.args.sheet.now (standing c.in_ok-reader.reader) begins (standing c.take_start.new.reader) (state_of c.take_start.new.job) c.in_ok-permit.ensures.cases;
    }

pub returns-in_err-next : goal.returns-in_err-next
returns-in_err-next c =
    let (faulty, at, _) = c.in_err-next.ensures.cases in
    at_fault c.args.sheet.now (state_of c.args.job.now) (state_of c.loop-next.job) c.from_residual-in_err-next.result c.from_residual-in_err-next.ensures.1
    (λ x is. form_due c.in_err-next.field-0.0 x c.loop-next.invariant.short c.loop-next.invariant.taken faulty at is)

pub take_line-requires : goal.take_line-requires
take_line-requires c is =
    let line : LineRead (standing c.loop-next.reader) (kind_of c.in-Some.next) (numbers c.in-Some.next) (standing c.record.new.self) = search rules in
    later_line c.loop-next.invariant.taken c.loop-next.invariant.some line is

pub returns-in_err-map_err : goal.returns-in_err-map_err
returns-in_err-map_err c =
    let line : LineRead (standing c.loop-next.reader) (kind_of c.in-Some.next) (numbers c.in-Some.next) (standing c.record.new.self) = search rules in
    let answered = line_answered (state_of c.take_line.new.job) c.loop-next.invariant.short c.loop-next.invariant.taken line c.take_line.result c.map_err.result c.take_line.ensures.cases
    c.map_err.ensures.cases (λ e f post. let k : f ≡ fault (Numbers e) (standing c.record.new.self).lines = search rules in k) in
    at_fault c.args.sheet.now (state_of c.args.job.now) (state_of c.take_line.new.job) c.from_residual-in_err-map_err.result c.from_residual-in_err-map_err.ensures.1
    (λ x is. rw is (MatchResult-at_err _ _ c.in_err-map_err.field-0.0 c.in_err-map_err.was answered))

pub loop-next-preserved : goal.loop-next-preserved
loop-next-preserved c =
    let line : LineRead (standing c.loop-next.reader) (kind_of c.in-Some.next) (numbers c.in-Some.next) (standing c.record.new.self) = search rules in
    let answered = line_answered (state_of c.take_line.new.job) c.loop-next.invariant.short c.loop-next.invariant.taken line c.take_line.result c.map_err.result c.take_line.ensures.cases
    c.map_err.ensures.cases (λ e f post. let k : f ≡ fault (Numbers e) (standing c.record.new.self).lines = search rules in k) in
    record {
      count = suc c.loop-next.invariant.count;
      some = omega arith;
      short = c.loop-next.invariant.short;
      taken = MatchResult-at_ok _ _ c.in_ok-map_err.field-0 c.in_ok-map_err.was answered;
    }

pub returns : goal.returns
returns c =
    let stands = c.loop-next.invariant in
    let shut : (standing c.loop-next.reader).closed ≡ true = search rules in
    let end : (standing c.loop-next.reader).rest ≡ [] = search rules in
    let whole = taken_whole stands.short shut end stands.taken in
    let (one, never) = only_hall whole.1 whole.2 in
    record { cases = whole; bound = one; refused = never; keeps = λ cs m j run. taken_run run stands.some stands.taken }
