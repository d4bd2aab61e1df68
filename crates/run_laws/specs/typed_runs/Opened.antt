-- What the opening state of a program is.
use Rattle.model.specs.Classes.{Program}
use Rattle.model.specs.Operands.{values}
use Rattle.model.specs.Opening.{opening}
use Rattle.model.specs.WellTyped.{IsWellTyped}

-- the opening state is well typed
abbrev pub IsOpenedTyped : Program → Type 0
IsOpenedTyped files = IsWellTyped files (opening values files)
