-- What is asked of a sink of bytes. Assumes nothing.
--   Lawful  taking no bytes changes nothing, and taking some and then others is taking them all
use Rattle.std.specs.Prelude.{◌≡◌, ℕ, List, [], ◌++◌}

-- took s bytes t says that the sink s may be t after it took these bytes
pub record Lawful {Sink : Type 0} (took : Sink → List ℕ → Sink → Type 0) : Type 0 where
  pub none : (s : Sink) → took s [] s
  pub more : (s t u : Sink) (xs ys zs : List ℕ) → took s xs t → took t ys u → xs ++ ys ≡ zs → took s zs u
