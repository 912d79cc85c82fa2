-- What contracts see of a sink into memory that grows.
use Rattle.std.specs.Prelude.{ℕ, List}

-- What was written, and how often a call has failed.
pub record Grown : Type 0 where
  pub bytes : List ℕ
  pub faults : ℕ
