-- What is left to read, and the offset of its first byte.
use Rattle.std.specs.Prelude.{ℕ, List}

pub record Input : Type 0 where
  pub at : ℕ
  pub rest : List ℕ
