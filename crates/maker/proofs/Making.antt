-- The queue that a table is made on.
-- Assumes nothing.
use Rattle.std.proofs.Common.{◌≡◌, ℕ, min, None, Option, ap, ◌∙◌, arith}
use lib.ListN.{length-replicate}
use Rattle.figures.specs.Limits.{cell_limit}
use Rattle.queue.specs.Meaning.{Meaning, capacity}
use Rattle.ring.specs.Standing.{fresh}
use Rattle.wheel.specs.Wheels.{Fresh, Figures}
use Rattle.maker.specs.Tables.{Suits}

-- a wheel of width 64 on a ring of 64 slots and 1,600 cells
pub wheel_suits : (b m : Meaning) → b ≡ fresh 64 1600 → Fresh 64 b m → Suits m
wheel_suits b m e new =
    let wide : b.band ≡ 63 = ap (λ x. x.band) e in
    let none : Option ℕ = None in
    let room : capacity b ≡ 1600 = ap capacity e ∙ length-replicate 1600 none in
    let figures : Figures 64 b.band = record { least = omega arith; widest = omega arith; room = omega arith } in
    let is = new.good figures in
    let items : capacity m ≡ min (capacity b) cell_limit = ap capacity is ∙ length-replicate (min (capacity b) cell_limit) none in
    let all : min (capacity b) cell_limit ≡ 1600 = ap (λ n. min n cell_limit) room in
    let band : m.band ≡ 4096 = ap (λ x. x.band) is in
    (omega arith, omega arith)
