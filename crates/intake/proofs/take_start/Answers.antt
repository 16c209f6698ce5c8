use Rattle.std.proofs.Common.{◌≡◌, [], ◌∷◌, rules}
use Rattle.job.specs.View.{state_of}
use Rattle.sheet.specs.Reading.{LineRead}
use Rattle.sheet.specs.Readers.{standing}
use Rattle.sheet.specs.declared.Kind.TheVariants.{Start}
use Rattle.intake.specs.declared.Cause.TheVariants.{Numbers}
use Rattle.intake.specs.Faults.{fault}
use Rattle.intake.proofs.Intakes.{start_answered}
use Rattle.intake.proofs.take_start.Goals as goal

pub returns : goal.returns
returns c =
    let line : LineRead (standing c.args.reader.now) Start (c.value.result ∷ c.value-2.result ∷ []) (standing c.record.new.self) = search rules in
    record {
      cases = start_answered (standing c.args.reader.now) (standing c.record.new.self) (state_of c.args.job.now) (state_of c.make.new.self)
          c.value.result c.value-2.result line c.make.result c.map_err.result c.make.ensures.cases c.map_err.ensures.cases
          (λ e f post. let k : f ≡ fault (Numbers e) (standing c.record.new.self).lines = search rules in k);
    }
