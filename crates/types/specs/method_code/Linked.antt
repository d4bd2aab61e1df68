-- Files that are linked.
use Rattle.std.specs.Prelude.{ℕ, List}
use Rattle.model.specs.Classes.{Program}
use Rattle.model.specs.Linkable.{IsLinkable}

-- some bytes spell them, and no condition of a refusal stands in them
abbrev pub IsLinked : Program → Type 0
IsLinked files = (bytes : List (List ℕ)) × IsLinkable bytes files
