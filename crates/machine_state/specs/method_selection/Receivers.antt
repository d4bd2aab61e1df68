-- The class whose methods an object has, by what a heap says of the object (JVMS 2.4, JLS 10.7).
use Rattle.std.specs.Prelude.{ℕ, List}
use Rattle.model.specs.Classes.{Program}
use Rattle.model.specs.State.{ObjectOf, type_of}
use Rattle.heap.specs.declared.kind.ObjectKind.{ObjectKind}
use Rattle.linked_code.specs.declared.types.LinkedType.{LinkedType}
use Rattle.linked_code.specs.Numbers.{IsClassAt}
use Rattle.linked_code.specs.Selection.{receiver_class}
use Rattle.machine_state.specs.shown_objects.Shown.{IsKindOf}

-- whatever object there may be of the kind, the number is that of the class whose methods it has
abbrev pub IsReceiverClass : ObjectKind → ℕ → Type 0
IsReceiverClass kind number =
    (files : Program) (components : List LinkedType) (object : ObjectOf ℕ) → IsKindOf files components kind object
    → IsClassAt files number (receiver_class (type_of object))
