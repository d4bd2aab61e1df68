-- Which exceptions are Errors (JLS 11.1.1).
use Rattle.std.specs.Prelude.{◌≡◌, ℕ, List, Option, Some, None, Bool}
use Rattle.model.specs.Names.{Name, java_lang_error}
use Rattle.model.specs.Classes.{Program, is_subclass}
use Rattle.model.specs.Linkable.{IsLinkable}
use Rattle.model.specs.ReferenceTypes.{ClassType}
use Rattle.model.specs.State.{ObjectOf}
use Rattle.model.specs.Types.{is_object_of}
use Rattle.heap.specs.declared.kind.ObjectKind.{ObjectKind}
use Rattle.heap.specs.declared.kind.ObjectKind.TheVariants as kind
use Rattle.heap.specs.Heap.{Object}
use Rattle.linked_code.specs.declared.class.LinkedClass.{LinkedClass}
use Rattle.linked_code.specs.declared.program.LinkedProgram.{LinkedProgram}
use Rattle.linked_code.specs.Numbers.{IsClassAt}
use Rattle.linked_code.specs.Programs.{IsLinkedProgram}
use Rattle.machine_state.specs.shown_objects.Shown.{ShowsObjects}
use Rattle.machine_state.specs.exception_handlers.Handlers.{type_at}

-- the number of the class of an instance
abbrev pub class_in : Option ObjectKind → Option ℕ
class_in None = None
class_in (Some (kind.Instance class)) = Some class
class_in (Some kind.Ints) = None
class_in (Some (kind.Narrow of)) = None
class_in (Some (kind.References of)) = None

-- the number of the superclass of a class
abbrev pub superclass_in : LinkedClass → Option ℕ
superclass_in class = class.superclass

-- Whatever files the program is linked from, the class is Error or a subclass of it.
abbrev pub IsErrorClass : LinkedProgram → ℕ → Bool → Type 0
IsErrorClass p number answer =
    (files : List (List ℕ)) (trees : Program) → IsLinkable files trees → IsLinkedProgram trees p
    → (class : Name) → IsClassAt trees number class → answer ≡ is_subclass trees class java_lang_error

-- and whatever objects these show, the object of the reference is an instance of it
abbrev pub IsErrorObject : LinkedProgram → List Object → ℕ → Bool → Type 0
IsErrorObject p objects exception answer =
    (files : List (List ℕ)) (trees : Program) → IsLinkable files trees → IsLinkedProgram trees p
    → (heap : List (ObjectOf ℕ)) → ShowsObjects trees p.components.items objects heap
    → answer ≡ is_object_of trees (ClassType java_lang_error) (type_at heap exception)
