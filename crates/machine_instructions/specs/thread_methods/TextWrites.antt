-- What the constructors of String and the methods that take its text apart read and write, by the objects of a heap (own).
use Rattle.std.specs.Prelude.{◌<◌, ◌+◌, ℕ, zero, suc, List, [], ◌∷◌, Option, Some, None, Result, if◌then◌else◌, length, take, drop, slice_get}
use Rattle.std.specs.Option.{option_or}
use Rattle.model.specs.BuiltInNumbers.{first_class_reference}
use Rattle.model.specs.Classes.{Program}
use Rattle.model.specs.LimitStands.{Bounds}
use Rattle.model.specs.Opening.{opening_count}
use Rattle.model.specs.Operands.{words}
use Rattle.model.specs.Outcomes.{OutcomeOf, Fills}
use Rattle.model.specs.Sites.{object_of, pushing_at}
use Rattle.model.specs.State as model
use Rattle.model.specs.State.{FrameOf, StackOf, StateOf, WorldOf}
use Rattle.model.specs.Step.{become}
use Rattle.model.specs.StringMethods.{is_same_text}
use Rattle.model.specs.TextMethods.{with_text_at}
use Rattle.model.specs.Texts.{Text}
use Rattle.heap.specs.declared.kind.ObjectKind.{ObjectKind}
use Rattle.heap.specs.declared.kind.ObjectKind.TheVariants as kind
use Rattle.heap.specs.Heap.{Object, put_field}
use Rattle.linked_code.specs.declared.method.BuiltInMethod.{BuiltInMethod}
use Rattle.linked_code.specs.declared.program.LinkedProgram.{LinkedProgram}
use Rattle.thread_stacks.specs.Stacks.{ShownEntry}
use Rattle.machine_state.specs.declared.answers.Effect.{Effect}
use Rattle.machine_state.specs.declared.refusals.EventRefusal.{EventRefusal}
use Rattle.machine_state.specs.declared.state.Shared.{Shared}
use Rattle.machine_state.specs.Instructions.{Does}
use Rattle.machine_state.specs.shown_objects.Shown.{AreUnits}
use Rattle.machine_instructions.specs.thread_methods.Called.{IsCalling}
use Rattle.machine_instructions.specs.thread_methods.Texts.{text_in}

-- ---- elements of arrays

abbrev pub array_words : ObjectKind → List ℕ → List ℕ
array_words (kind.Instance class) own = []
array_words kind.Ints own = own
array_words (kind.References of) own = own
array_words (kind.Narrow narrow) own = own

abbrev pub elements_in : Option Object → List ℕ
elements_in None = []
elements_in (Some object) = array_words object.kind object.words

-- of the array to which a word refers
abbrev pub elements_by : List Object → ℕ → Option (List ℕ)
elements_by objects zero = None
elements_by objects (suc reference) = Some (elements_in (slice_get objects reference))

-- units become elements, from an index on
abbrev pub with_units : List Object → (array index : ℕ) → Text → List Object
with_units objects array index [] = objects
with_units objects array index (unit ∷ units) = with_units (put_field objects array index unit) array (index + 1) units

-- ---- Strings that stand for a text

-- an object, if it is a String of the text
abbrev pub string_if : List Object → Text → ℕ → Option ℕ
string_if objects text object = if is_same_text text (text_in (slice_get objects object)) then Some object else None

-- of so many objects from one on, the first
abbrev pub first_of : List Object → Text → (first count : ℕ) → Option ℕ
first_of objects text first zero = None
first_of objects text first (suc count) = option_or (string_if objects text first) (first_of objects text (suc first) count)

abbrev pub first_among : List Object → Text → List ℕ → Option ℕ
first_among objects text [] = None
first_among objects text (string ∷ strings) = option_or (string_if objects text string) (first_among objects text strings)

-- constants stand behind the objects of classes
abbrev pub standing_in : LinkedProgram → List Object → List ℕ → Text → Option ℕ
standing_in p objects interned text =
    option_or (first_of objects text (first_class_reference + length p.classes.items) (length p.texts.items)) (first_among objects text interned)

-- ---- a String gets its text

-- the operand under so many others does, and the call goes on with no result
abbrev pub becomes_text : Program → WorldOf ℕ → FrameOf ℕ → (under : ℕ) → Text → (count offset : ℕ) → OutcomeOf ℕ
becomes_text trees world frame under text count offset =
    pushing_at (Fills (length text)) offset [] (with_text_at (opening_count trees) world (object_of words (take count frame.place.slots.stack) under) text)
    frame.place.slots (drop count frame.place.slots.stack)

-- whatever method with such an operand a thread calls, the result says what becomes of an event that does so
abbrev pub BecomesText : (under : ℕ) → Text → (count next : ℕ) → Result Effect EventRefusal → (old new : Shared) (from to : List ShownEntry) → Type 0
BecomesText under text count next result old new from to =
    (trees : Program) (p : LinkedProgram) (bounds : Bounds) (inflated : List ℕ) (t : ℕ) (state : StateOf ℕ) (frame : FrameOf ℕ) (rest : StackOf ℕ) (called : BuiltInMethod) (offset : ℕ)
    → IsCalling trees p bounds inflated t old from state frame rest called count next offset
    → AreUnits text → under < length (take count frame.place.slots.stack) → (frames : ℕ)
    → Does trees p bounds inflated t state.world (model.Invocation frame ∷ rest)
    (become words trees frames t state.world frame rest (becomes_text trees state.world frame under text count offset)) result old new from to
