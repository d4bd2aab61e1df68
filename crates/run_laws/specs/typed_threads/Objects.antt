-- Which objects are there at the words of a well-typed state, and of what types (JVMS 2.4, 4.10.1.2): those that were
-- there stay.
use Rattle.std.specs.Prelude.{◌≡◌, ℕ, zero, suc, ◌<◌, ◌≤◌, List, Some, length, slice_get, IsTrue}
use Rattle.std.specs.List.{list_any}
use Rattle.model.specs.declared.event.Event.{Event}
use Rattle.model.specs.Names.{Name, name_eq, java_io_print_stream, java_lang_class, java_lang_string, java_lang_thread}
use Rattle.model.specs.Classes.{Program, classes_of, is_named, is_subclass}
use Rattle.model.specs.ReferenceTypes.{ClassType, ReferenceArray}
use Rattle.model.specs.StringConstants.{string_texts}
use Rattle.model.specs.Operands.{words}
use Rattle.model.specs.State.{ObjectOf, types_of, StateOf}
use Rattle.model.specs.Outcomes.{Cost}
use Rattle.model.specs.Opening.{print_stream_reference, arguments_reference, main_thread_reference, class_reference, string_reference, error_stream_reference, opening_heap}
use Rattle.model.specs.Worlds.{object_at}
use Rattle.model.specs.BuilderMethods.{kept_string}
use Rattle.model.specs.ThreadNames.{kept_name}
use Rattle.model.specs.Step.{Next, stepped}
use Rattle.model.specs.WellTyped.{Extends}
use Rattle.model.specs.Words.{AreWellTypedWords}
use Rattle.model.specs.Accepted.{IsAccepted}

-- a reference is to an object that is there, an instance of the class or of one below it
pub record IsInstance {A : Type 0} (files : Program) (heap : List (ObjectOf A)) (class : Name) (r : ℕ) : Type 0 where
  pub there : r < length heap
  pub own : Name
  pub type : slice_get (types_of heap) r ≡ Some (ClassType own)
  pub below : IsTrue (is_subclass files own class)

-- each object that was there is, with its type; there may be more
pub record Keeps {A : Type 0} (before after : List (ObjectOf A)) : Type 0 where
  pub types : Extends (types_of before) (types_of after)
  pub count : length before ≤ length after

-- ---- the objects of the opening heap

-- the PrintStream of System.out, the arguments, the Thread of main, a Class for each class, a String for each text, and the
-- PrintStream of System.err
pub record HasOpeningObjects (files : Program) (heap : List (ObjectOf ℕ)) : Type 0 where
  pub keeps : Keeps (opening_heap words files) heap
  pub print_stream : slice_get (types_of heap) print_stream_reference ≡ Some (ClassType java_io_print_stream)
  pub arguments : slice_get (types_of heap) arguments_reference ≡ Some (ReferenceArray (ClassType java_lang_string))
  pub main_thread : slice_get (types_of heap) main_thread_reference ≡ Some (ClassType java_lang_thread)
  pub classes : (name : Name) → IsTrue (list_any (is_named name) (classes_of files))
      → slice_get (types_of heap) (class_reference files name) ≡ Some (ClassType java_lang_class)
  pub texts : (text : List ℕ) → IsTrue (list_any (name_eq text) (string_texts files))
      → slice_get (types_of heap) (string_reference files text) ≡ Some (ClassType java_lang_string)
  pub error_stream : slice_get (types_of heap) (error_stream_reference files) ≡ Some (ClassType java_io_print_stream)

-- they are there in words of a well-typed state
abbrev pub AreOpeningObjectsThere : Type 0
AreOpeningObjectsThere = (files : Program) (at : StateOf ℕ) → AreWellTypedWords files at → HasOpeningObjects files at.world.heap

-- ---- the texts of StringBuilders, and the names of Threads

-- null, or a reference to a String that is there, by its word
abbrev pub IsText : Program → List (ObjectOf ℕ) → ℕ → Type 0
IsText files heap zero = Unit {0}
IsText files heap (suc r) = IsInstance files heap java_lang_string r

-- what each object keeps as its text, in words of a well-typed state
abbrev pub AreTextsStrings : Type 0
AreTextsStrings =
    (files : Program) (at : StateOf ℕ) → AreWellTypedWords files at → (r : ℕ)
    → IsText files at.world.heap (kept_string words (object_at at.world r))

-- so is what it keeps as its name
abbrev pub AreNamesStrings : Type 0
AreNamesStrings =
    (files : Program) (at : StateOf ℕ) → AreWellTypedWords files at → (r : ℕ)
    → IsText files at.world.heap (kept_name words (object_at at.world r))

-- ---- events

-- an event at words of a well-typed state of accepted files keeps the objects
abbrev pub AreObjectsKept : Type 0
AreObjectsKept =
    (files : List (List ℕ)) (trees : Program) → IsAccepted files trees → (frames : ℕ) (before : StateOf ℕ) (event : Event) (cost : Cost) (next : StateOf ℕ)
    → AreWellTypedWords trees before → stepped words trees frames before event ≡ Next cost next → Keeps before.world.heap next.world.heap
