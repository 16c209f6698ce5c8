use Rattle.std.proofs.Common.{sym, refl, arith}
use Rattle.std.proofs.lemmas.List.{take_all}
use Rattle.listing.specs.Listing.{line}
use Rattle.listing.proofs.Lines.{fields_more}
use Rattle.listing.proofs.put_line.Goals as goal

pub loop-n-preserved : goal.loop-n-preserved
loop-n-preserved g c =
    let next = sym (fields_more c.args.numbers.now c.loop-n.n-index c.loop-n-test.true) in
    g.S.Sink.lawful.more _ _ _ _ _ _ c.loop-n.invariant c.put_field.ensures next

pub returns : goal.returns
unfolding line
returns g c =
    let numbers = rw (take_all c.loop-n.n-index c.args.numbers.now (omega arith)) at c.loop-n.invariant in
    g.S.Sink.lawful.more _ _ _ _ _ _ c.put.ensures (g.S.Sink.lawful.more _ _ _ _ _ _ numbers c.put-2.ensures refl) refl
