use Rattle.std.proofs.Common.{◌≡◌, ◌+◌, ◌*◌, ◌≤◌, length, rules, arith, ap}
use Rattle.std.proofs.lemmas.Fn.{serves_by}
use Rattle.sheet.specs.Numbers.{figure}
use Rattle.sheet.proofs.Spelling.{most, most_small, most_push, items_came}
use Rattle.sheet.proofs.number.Goals as goal

-- each value on the way is small, and so it fits
pub fold-requires-clause-callable : goal.fold-requires-clause-callable
fold-requires-clause-callable c =
    serves_by _ (λ xs q. q.1 ≤ most (length xs))
    (λ xs q x v j k. let e : v.1 ≡ q.1 * 10 + figure x.now = search rules in most_push xs x v.1 q.1 j e)
    _ _ _ _ (omega arith)
    (λ xs t q x u y st j.
    let n = items_came xs c.iter.result t y in
    let m = ap length st in
    let s = most_small (length xs) (omega (arith, c.requires)) in
    let f : q.1 ≤ 2833305 = omega arith in
    search rules)
