-- Reference types by the numbers of linked code, and the operands that name them.
use Rattle.std.specs.Prelude.{◌≡◌, ℕ, List, Option, Some, None, true}
use Rattle.model.specs.Names.{Name}
use Rattle.model.specs.Tree.{Entry}
use Rattle.model.specs.Pool.{class_name_at}
use Rattle.model.specs.Classes.{Program}
use Rattle.model.specs.ReferenceTypes.{ReferenceType}
use Rattle.model.specs.DescribedTypes.{type_named}
use Rattle.types.specs.described_types.Described.{type_missing}
use Rattle.linked_code.specs.declared.types.LinkedType.{LinkedType}
use Rattle.linked_code.specs.Numbers.{IsType}

-- a type by its numbers; none where its class, or that of an array's elements, is not found (JVMS 5.4.3.1)
abbrev pub IsNumbered : Program → ReferenceType → Option LinkedType → Type 0
IsNumbered files type (Some linked) = IsType files linked type
IsNumbered files type None = type_missing files type ≡ true

-- the type that the Class of an index names (JVMS 4.4.1)
pub record IsTypeOperand (files : Program) (pool : List Entry) (index : ℕ) (row : LinkedType) : Type 0 where
  pub name : Name
  pub named : class_name_at pool index ≡ Some name
  pub numbered : IsType files row (type_named name)
