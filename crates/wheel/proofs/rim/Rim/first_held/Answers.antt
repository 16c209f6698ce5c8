use Rattle.std.proofs.Common.{◌≡◌, ℕ, ◌+◌, ◌%◌, get_or, nat_lt, Some, None, Option, refl, ◌∙◌, ap, add-zero, rules, tests, arith}
use Rattle.std.specs.Option.{option_map}
use Rattle.std.proofs.lemmas.Iterator.{YieldsList-from_range, YieldsList-from_map}
use Rattle.std.proofs.lemmas.Iterator.Search.{find_from_yields_List}
use Rattle.wheel.specs.Compartments.{vacant, counts_of}
use Rattle.wheel.specs.Later.{first_held}
use Rattle.wheel.proofs.Seek.{found}
use Rattle.wheel.proofs.rim.Rim.first_held.Goals as goal

as_it_is : (o : Option ℕ) → o ≡ option_map (λ p. p) o
as_it_is None = refl
as_it_is (Some p) = refl

pub returns : goal.returns
returns c =
    let table = c.args.self.now.table in
    let q = c.args.number in
    as_it_is c.find.result
    ∙ find_from_yields_List (λ p. nat_lt 0 (get_or table p vacant).count) _ _ c.find.result c.find.ensures.ran
    (YieldsList-from_map _ (λ s. (q + s + 1) % 64) (YieldsList-from_range 0 64 64 c.map.ensures.source (omega arith)) c.map.ensures.closure
    (λ x r k z. search rules))
    (λ x b k z. search (rules, tests))
    ∙ found table (omega arith) 64 0 q ∙ ap (first_held (counts_of table) 64) (add-zero q)
