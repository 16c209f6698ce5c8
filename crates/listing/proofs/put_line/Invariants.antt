use Rattle.std.proofs.Common.{take}
use Rattle.listing.specs.Listing.{fields}
use Rattle.listing.proofs.put_line.Given as goal

abbrev pub invariant-loop-n : goal.invariant-loop-n
invariant-loop-n g l = g.S.Sink.took l.initial.sink (fields (take l.n-index l.numbers)) l.sink
