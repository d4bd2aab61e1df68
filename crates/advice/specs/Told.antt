-- What is told, and of which places (own).
use Rattle.std.specs.Prelude.{ℕ, List, map}
use Rattle.std.specs.List.{Contains}
use Rattle.advice.specs.declared.told.Told.{Told}
use Rattle.advice.specs.declared.told.ToldPlace.{ToldPlace}

-- the file and the place that something is told of
abbrev pub subject : Told → ℕ × ToldPlace
subject t = (t.file, t.place)

-- something is told of a place in a file
pub record IsTold (told : List Told) (file : ℕ) (place : ToldPlace) : Type 0 where
  pub there : Contains (map subject told) (file, place)

-- what something was told of, it is told of afterwards
pub record Keeps (before : List Told) (after : List Told) : Type 0 where
  pub kept : (file : ℕ) (place : ToldPlace) → IsTold before file place → IsTold after file place
