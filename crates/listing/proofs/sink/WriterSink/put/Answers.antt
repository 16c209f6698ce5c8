use Rattle.std.proofs.Common.{◌≡◌, ◌-◌, length, refl, arith}
use Rattle.std.proofs.lemmas.List.{drop-drop}
use Rattle.listing.specs.Buffer.{written}
use Rattle.listing.proofs.sink.WriterSink.put.Goals as goal

pub returns-in-Some : goal.returns-in-Some
unfolding written
returns-in-Some c =
    let at = c.args.self.now.at in
    let n : c.in-Some.end - at ≡ length c.args.bytes.now = omega arith in
    (refl, λ h. (omega arith, rw (c.copy_from_slice.ensures.after, n, drop-drop) refl))
