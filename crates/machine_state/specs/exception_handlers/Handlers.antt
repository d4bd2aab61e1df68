-- Which handler takes an exception (JVMS 2.10, 4.7.3).
use Rattle.std.specs.Prelude.{◌≡◌, ℕ, List, Option, Some, None, Bool, ◌&&◌, find, slice_get}
use Rattle.model.specs.declared.class_file.ExceptionEntry.{ExceptionEntry}
use Rattle.model.specs.Tree.{Entry}
use Rattle.model.specs.Classes.{Program}
use Rattle.model.specs.Linkable.{IsLinkable}
use Rattle.model.specs.ReferenceTypes.{ReferenceType}
use Rattle.model.specs.State.{ObjectOf, types_of}
use Rattle.model.specs.Step.{covers, takes}
use Rattle.heap.specs.Heap.{Object}
use Rattle.linked_code.specs.declared.method.Handler.{Handler}
use Rattle.linked_code.specs.declared.program.LinkedProgram.{LinkedProgram}
use Rattle.linked_code.specs.Methods.{IsHandler, AreHandlers}
use Rattle.linked_code.specs.Programs.{IsLinkedProgram}
use Rattle.machine_state.specs.shown_objects.Shown.{ShowsObjects}

-- the class of an object, by its reference
abbrev pub type_at : List (ObjectOf ℕ) → ℕ → Option ReferenceType
type_at heap r = slice_get (types_of heap) r

-- Whatever files the program is linked from, and whatever objects these show, a handler takes the exception where its entry does.
abbrev pub TakesException : LinkedProgram → List Object → (exception : ℕ) → Handler → Bool → Type 0
TakesException p objects exception handler answer =
    (files : List (List ℕ)) (trees : Program) → IsLinkable files trees → IsLinkedProgram trees p
    → (heap : List (ObjectOf ℕ)) → ShowsObjects trees p.components.items objects heap
    → (pool : List Entry) (at : ℕ → ℕ) (entry : ExceptionEntry) → IsHandler trees p pool at entry handler
    → answer ≡ takes trees pool (type_at heap exception) entry

-- it is one for the exception at an offset, where the entry covers that, too
abbrev pub IsFor : LinkedProgram → List Object → (exception offset : ℕ) → Handler → Bool → Type 0
IsFor p objects exception offset handler answer =
    (files : List (List ℕ)) (trees : Program) → IsLinkable files trees → IsLinkedProgram trees p
    → (heap : List (ObjectOf ℕ)) → ShowsObjects trees p.components.items objects heap
    → (pool : List Entry) (at : ℕ → ℕ) (entry : ExceptionEntry) → IsHandler trees p pool at entry handler
    → answer ≡ (covers offset entry && takes trees pool (type_at heap exception) entry)

-- a handler by its place is that of the entry, or there is neither
abbrev pub IsPlaceOf : (ℕ → ℕ) → Option ExceptionEntry → Option ℕ → Type 0
IsPlaceOf at None None = Unit {0}
IsPlaceOf at (Some entry) (Some place) = at place ≡ entry.handler
IsPlaceOf at None (Some place) = ⊥
IsPlaceOf at (Some entry) None = ⊥

-- the first entry that covers the offset and takes the exception
abbrev pub first_taking : Program → List Entry → Option ReferenceType → ℕ → List ExceptionEntry → Option ExceptionEntry
first_taking trees pool thrown offset entries = find (λ entry. covers offset entry && takes trees pool thrown entry) entries

abbrev pub FindsHandler : LinkedProgram → List Object → (exception offset : ℕ) → List Handler → Option ℕ → Type 0
FindsHandler p objects exception offset handlers found =
    (files : List (List ℕ)) (trees : Program) → IsLinkable files trees → IsLinkedProgram trees p
    → (heap : List (ObjectOf ℕ)) → ShowsObjects trees p.components.items objects heap
    → (pool : List Entry) (at : ℕ → ℕ) (entries : List ExceptionEntry) → AreHandlers trees p pool at entries handlers
    → IsPlaceOf at (first_taking trees pool (type_at heap exception) offset entries) found
