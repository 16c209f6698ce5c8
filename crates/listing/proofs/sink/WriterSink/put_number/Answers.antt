use Rattle.std.proofs.Common.{◌≡◌, ◌+◌, length, decimal, ◌∙◌, sym, refl, arith}
use Rattle.std.proofs.lemmas.List.{take-append-drop}
use Rattle.listing.specs.Buffer.{written}
use Rattle.listing.proofs.sink.WriterSink.put_number.Goals as goal

pub returns-in-Some : goal.returns-in-Some
unfolding written
returns-in-Some c =
    let w = c.write_digits.ensures in
    let n : c.into.result ≡ c.args.n = c.into.ensures in
    let end : c.in-Some.end ≡ c.args.self.now.at + length (decimal c.args.n) = omega arith in
    let start : c.write_digits.result ≡ c.args.self.now.at = omega (arith, rw n at w.start) in
    let parts = sym (take-append-drop c.write_digits.result c.write_digits.new.buf) in
    (refl, λ h. (end, parts ∙ rw (w.before, w.written, n, start, end) refl))
