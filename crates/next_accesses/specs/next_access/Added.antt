-- What is put behind other actions.
use Rattle.std.specs.Prelude.{◌≡◌, List, ◌++◌}
use Rattle.race_places.specs.declared.run_actions.Action.{Action}

-- the new ones stand behind those that were there
abbrev pub Adds : (List Action → Type 0) → (old new : List Action) → Type 0
Adds Are old new = (told : List Action) × (new ≡ old ++ told) × Are told
