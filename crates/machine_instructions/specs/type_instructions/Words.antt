-- What words may be, by the types of objects (JVMS 6.5 checkcast, aastore).
use Rattle.std.specs.Prelude.{◌≡◌, ℕ, List, Option, None, Bool, slice_get}
use Rattle.model.specs.Classes.{Program}
use Rattle.model.specs.Linkable.{IsLinkable}
use Rattle.model.specs.ReferenceTypes.{ReferenceType}
use Rattle.model.specs.Operands.{words, word_reference, is_word_of}
use Rattle.model.specs.State.{ObjectOf, types_of, WorldOf}
use Rattle.model.specs.Worlds.{object_at}
use Rattle.model.specs.Objects.{instance_bit}
use Rattle.model.specs.Arrays.{may_stand_in}
use Rattle.heap.specs.declared.kind.ObjectKind.{ObjectKind}
use Rattle.heap.specs.declared.kind.ObjectKind.TheVariants as kind
use Rattle.heap.specs.Heap.{Object}
use Rattle.linked_code.specs.declared.types.LinkedType.{LinkedType}
use Rattle.linked_code.specs.declared.program.LinkedProgram.{LinkedProgram}
use Rattle.linked_code.specs.Numbers.{IsType}
use Rattle.linked_code.specs.Subtypes.{IsTested}
use Rattle.linked_code.specs.Programs.{IsLinkedProgram}
use Rattle.machine_state.specs.shown_objects.Shown.{ShowsObjects}

-- Whatever files the program is linked from, and whatever objects these show, the word is null or that of an instance of the type.
abbrev pub TestsWord : LinkedProgram → List Object → (word : ℕ) → LinkedType → Bool → Type 0
TestsWord p objects word of answer =
    (files : List (List ℕ)) (trees : Program) → IsLinkable files trees → IsLinkedProgram trees p → IsTested p.subclasses of
    → (heap : List (ObjectOf ℕ)) (above : ReferenceType) → ShowsObjects trees p.components.items objects heap → IsType trees of above
    → answer ≡ is_word_of trees (types_of heap) above word

-- Likewise, it is 1 for the word of an instance of the type, and 0 for null and anything else.
abbrev pub TestsInstance : LinkedProgram → List Object → (word : ℕ) → LinkedType → (bit : ℕ) → Type 0
TestsInstance p objects word of bit =
    (files : List (List ℕ)) (trees : Program) → IsLinkable files trees → IsLinkedProgram trees p → IsTested p.subclasses of
    → (heap : List (ObjectOf ℕ)) (above : ReferenceType) → ShowsObjects trees p.components.items objects heap → IsType trees of above
    → bit ≡ instance_bit (word_reference word) (is_word_of trees (types_of heap) above word)

-- the type of what an array of references holds
abbrev pub component_by : List LinkedType → ObjectKind → Option LinkedType
component_by components (kind.References number) = slice_get components number
component_by components (kind.Instance class) = None
component_by components kind.Ints = None
component_by components (kind.Narrow narrow) = None

abbrev pub component_in : List LinkedType → Object → Option LinkedType
component_in components object = component_by components object.kind

-- Likewise, it may stand in an array of references.
abbrev pub TestsStore : LinkedProgram → List Object → (array word : ℕ) → Bool → Type 0
TestsStore p objects array word answer =
    (files : List (List ℕ)) (trees : Program) → IsLinkable files trees → IsLinkedProgram trees p
    → (world : WorldOf ℕ) → ShowsObjects trees p.components.items objects world.heap
    → answer ≡ may_stand_in words trees world (object_at world array) word
