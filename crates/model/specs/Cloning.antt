-- Object.clone (the API of Object and Cloneable; JLS 10.7). The receiver is not null here.
use Rattle.std.specs.Prelude.{ℕ, List, [], ◌∷◌, Bool, true, false, not, ◌&&◌, length}
use Rattle.model.specs.Names.{java_lang_cloneable, java_lang_thread}
use Rattle.model.specs.Classes.{Program, is_subclass, implements}
use Rattle.model.specs.ReferenceTypes.{ReferenceType, ClassType, PrimitiveArray, ReferenceArray}
use Rattle.model.specs.Operands.{Slots, Carrier}
use Rattle.model.specs.State.{WorldOf, ObjectOf, type_of}
use Rattle.model.specs.Outcomes.{OutcomeOf, Raises, CloneNotSupported, Makes}
use Rattle.model.specs.Worlds.{allocated, object_at, cells_of}
use Rattle.model.specs.Sites.{pushing_at, object_of}

-- an array, or an object of a class that implements Cloneable; a thread is not copied
abbrev pub is_cloneable : Program → ReferenceType → Bool
is_cloneable files (ClassType class) = implements files class java_lang_cloneable && not (is_subclass files class java_lang_thread)
is_cloneable files (PrimitiveArray of) = true
is_cloneable files (ReferenceArray of) = true

-- a new object of the same class with the same fields, or a new array of the same type with the same elements
abbrev pub cloned : {A : Type 0} → Carrier A → Bool → ObjectOf A → ℕ → WorldOf A → Slots A → List A → OutcomeOf A
cloned C true object next world slots rest = pushing_at (Makes (cells_of object)) next (C.reference (length world.heap) ∷ []) (allocated world object) slots rest
cloned C false object next world slots rest = Raises CloneNotSupported

-- .., objectref -> .., result
abbrev pub object_clones : {A : Type 0} → Carrier A → Program → ℕ → WorldOf A → Slots A → List A → List A → OutcomeOf A
object_clones C files next world slots ops rest =
    cloned C (is_cloneable files (type_of (object_at world (object_of C ops 0)))) (object_at world (object_of C ops 0)) next world slots rest
