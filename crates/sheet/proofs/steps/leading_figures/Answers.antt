use Rattle.std.proofs.Common.{rules, tests}
use Rattle.std.specs.Char.{is_ascii_digit}
use Rattle.std.proofs.lemmas.Iterator.{YieldsList-from_slice, YieldsList-from_take}
use Rattle.std.proofs.lemmas.Iterator.Search.{YieldsList-from_take_while}
use Rattle.std.proofs.lemmas.Iterator.Consumers.{count_from_yields_List}
use Rattle.sheet.proofs.Figures.{leading}
use Rattle.sheet.proofs.steps.leading_figures.Goals as goal

pub returns : goal.returns
returns c =
    leading c.args.bytes.now _
    (count_from_yields_List _ _ c.count.ensures.ran
    (YieldsList-from_take_while _ is_ascii_digit (YieldsList-from_take 6 (YieldsList-from_slice c.args.bytes.now (cc)) (cc)) (cc) (cc) (λ x b q k. search (rules, tests))))
