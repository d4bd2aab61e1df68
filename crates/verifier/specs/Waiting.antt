-- The offsets that wait in a search.
use Rattle.std.specs.Prelude.{◌≡◌, ℕ, ◌<◌, List, Bool, false}
use Rattle.run_laws.specs.typing_search.Tables.{waits}

-- no offset below this one waits
abbrev pub NoneWaitsBelow : List Bool → ℕ → Type 0
NoneWaitsBelow waiting offset = (k : ℕ) → k < offset → waits waiting k ≡ false
