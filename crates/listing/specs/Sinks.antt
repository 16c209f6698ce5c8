-- The sinks of the crate. Assumes nothing.
--   counted  the counter counts the bytes, as long as their number fits
--   wrote    the writer goes on in the same buffer, and the bytes stand at its place, if there is room for them
use Rattle.std.specs.Prelude.{◌≡◌, ℕ, ◌+◌, ◌^◌, ◌<◌, ◌≤◌, List, length}
use Rattle.listing.specs.Buffer.{written}
use Rattle.listing.specs.declared.sink.Counter.{Counter}
use Rattle.listing.specs.declared.sink.Writer.{Writer}

abbrev pub counted : Counter → List ℕ → Counter → Type 0
counted c bytes d = c.len + length bytes < 2 ^ 64 → d.len ≡ c.len + length bytes

abbrev pub wrote : Writer → List ℕ → Writer → Type 0
wrote v bytes w = (w.buffer.ghost_name ≡ v.buffer.ghost_name)
    × (v.at + length bytes ≤ length v.buffer.now → (w.at ≡ v.at + length bytes) × (w.buffer.now ≡ written v.buffer.now v.at bytes))
