-- What linking gives to a program, and the join of classes stands on.
use Rattle.std.specs.Prelude.{◌≡◌, Some, true, is_some}
use Rattle.model.specs.Names.{Name}
use Rattle.model.specs.Classes.{Program, class_of, superclass_of}

-- each superclass is found (JVMS 5.3.5)
abbrev pub HasSuperclasses : Program → Type 0
HasSuperclasses files = (c s : Name) → superclass_of files c ≡ Some s → is_some (class_of files s) ≡ true
