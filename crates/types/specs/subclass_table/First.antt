-- What linking gives of the numbers of classes.
use Rattle.std.specs.Prelude.{ℕ, List}
use Rattle.model.specs.Classes.{Program}
use Rattle.model.specs.Linkable.{IsLinkable}
use Rattle.linked_code.specs.Subtypes.{IsObjectFirst}

-- Object is the first of the classes of linked files, and no other has its name
abbrev pub IsObjectFirstWhereLinked : Type 0
IsObjectFirstWhereLinked = (bytes : List (List ℕ)) (files : Program) → IsLinkable bytes files → IsObjectFirst files
