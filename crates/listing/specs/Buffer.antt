-- A buffer that bytes are written into. Assumes nothing.
--   written  the buffer after bytes were written at a place, the rest as it was
--   Writes   what a writer answers: the bytes stand at the front and it tells their number,
--            or the buffer is too short for them and stays as it was
use Rattle.std.specs.Prelude.{◌≡◌, ℕ, ◌+◌, ◌<◌, ◌≤◌, List, ◌++◌, length, take, drop, Ok, Err, Result}
use Rattle.listing.specs.declared.TooShort.{TooShort}

unfoldable pub written : List ℕ → ℕ → List ℕ → List ℕ
written buffer at bytes = take at buffer ++ (bytes ++ drop (at + length bytes) buffer)

-- the bytes, the buffer before, the answer, the buffer after
abbrev pub Writes : List ℕ → List ℕ → Result ℕ TooShort → List ℕ → Type 0
Writes bytes before (Ok n) after = (length bytes ≤ length before) × (n ≡ length bytes) × (after ≡ bytes ++ drop (length bytes) before)
Writes bytes before (Err e) after = (length before < length bytes) × (after ≡ before)
