-- What the tests of subtypes by numbers answer (JVMS 2.4, 6.5 checkcast, instanceof, aastore).
use Rattle.std.specs.Prelude.{◌≡◌, ℕ, suc, ◌<◌, ◌^◌, List, Some, Bool, slice_get}
use Rattle.model.specs.Names.{Name}
use Rattle.model.specs.Classes.{Program}
use Rattle.model.specs.Linkable.{IsLinkable}
use Rattle.model.specs.ReferenceTypes.{ReferenceType, is_subclass_or_implements, is_subtype}
use Rattle.model.specs.State.{ObjectOf, type_of, types_of}
use Rattle.model.specs.Types.{is_object_of}
use Rattle.heap.specs.Heap.{Object}
use Rattle.heap.specs.declared.kind.NarrowKind.{NarrowKind}
use Rattle.heap.specs.declared.kind.NarrowKind.TheVariants as narrow
use Rattle.heap.specs.declared.kind.ObjectKind.{ObjectKind}
use Rattle.heap.specs.declared.kind.ObjectKind.TheVariants as kind
use Rattle.model.specs.declared.primitive.Primitive.{Primitive}
use Rattle.model.specs.declared.primitive.Primitive.TheVariants as linked
use Rattle.linked_code.specs.declared.types.Element.TheVariants as element
use Rattle.linked_code.specs.declared.types.LinkedType.{LinkedType}
use Rattle.linked_code.specs.declared.program.LinkedProgram.{LinkedProgram}
use Rattle.linked_code.specs.Numbers.{IsClassAt, IsType}
use Rattle.linked_code.specs.Subtypes.{HasColumn, IsTested}
use Rattle.linked_code.specs.Programs.{IsLinkedProgram}
use Rattle.machine_state.specs.shown_objects.Shown.{IsKindOf, ShowsObjects}

-- ---- classes

-- Whatever files the program is linked from, the one class is the other, a subclass of it, or implements it.
abbrev pub TestsClass : LinkedProgram → (number above : ℕ) → Bool → Type 0
TestsClass p number above answer =
    (files : List (List ℕ)) (trees : Program) → IsLinkable files trees → IsLinkedProgram trees p → HasColumn p.subclasses above
    → (class other : Name) → IsClassAt trees number class → IsClassAt trees above other
    → answer ≡ is_subclass_or_implements trees class other

-- ---- objects

-- Whatever files the program is linked from, an object of the kind is an instance of the type.
abbrev pub TestsKind : LinkedProgram → ObjectKind → LinkedType → Bool → Type 0
TestsKind p kind of answer =
    (files : List (List ℕ)) (trees : Program) → IsLinkable files trees → IsLinkedProgram trees p → IsTested p.subclasses of
    → (object : ObjectOf ℕ) (above : ReferenceType) → IsKindOf trees p.components.items kind object → IsType trees of above
    → answer ≡ is_subtype trees (type_of object) above

-- Whatever files the program is linked from, and whatever objects these show, the object of the reference is there and is an
-- instance of the type.
abbrev pub TestsObject : LinkedProgram → List Object → (reference : ℕ) → LinkedType → Bool → Type 0
TestsObject p objects reference of answer =
    (files : List (List ℕ)) (trees : Program) → IsLinkable files trees → IsLinkedProgram trees p → IsTested p.subclasses of
    → (heap : List (ObjectOf ℕ)) (above : ReferenceType) → ShowsObjects trees p.components.items objects heap → IsType trees of above
    → answer ≡ is_object_of trees above (slice_get (types_of heap) reference)

-- ---- types of objects, by number

abbrev pub linked_primitive : NarrowKind → Primitive
linked_primitive narrow.Boolean = linked.Boolean
linked_primitive narrow.Char = linked.Char
linked_primitive narrow.Byte = linked.Byte
linked_primitive narrow.Short = linked.Short

-- an array of components of a type
abbrev pub array_of : LinkedType → LinkedType
array_of component = record { dimensions = suc component.dimensions; element = component.element }

-- the type of the objects of a kind; classes have numbers of 16 bits
abbrev pub IsTypeOfKind : List LinkedType → ObjectKind → LinkedType → Type 0
IsTypeOfKind components (kind.Instance class) own = (class < 2 ^ 16) × (own ≡ record { dimensions = 0; element = element.Class class })
IsTypeOfKind components kind.Ints own = own ≡ record { dimensions = 1; element = element.Primitive linked.Int }
IsTypeOfKind components (kind.Narrow narrow) own = own ≡ record { dimensions = 1; element = element.Primitive (linked_primitive narrow) }
IsTypeOfKind components (kind.References number) own = (component : LinkedType) × (slice_get components number ≡ Some component) × (own ≡ array_of component)
