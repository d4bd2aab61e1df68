-- Races of which each is told once.
use Rattle.std.specs.Prelude.{◌≡◌, ◌⊎◌, ℕ, List, [], ◌∷◌, ◌++◌, Some, slice_get}
use Rattle.run_races.specs.declared.told_races.Race.{Race}

pub record IsAmong (race : Race) (races : List Race) : Type 0 where
  pub place : ℕ
  pub at : slice_get races place ≡ Some race

-- it stands behind those that were told, unless it was told
abbrev pub AddsRace : Race → (old new : List Race) → Type 0
AddsRace race old new = (IsAmong race old × (new ≡ old)) ⊎ (new ≡ old ++ race ∷ [])
