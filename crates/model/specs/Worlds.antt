-- Reading and changing what the threads share (JVMS 2.5; JLS 17): threads, objects and their fields, and monitors.
use Rattle.model.specs.Texts.{Text}
use Rattle.std.specs.Prelude.{ℕ, ◌+◌, ◌%◌, ◌^◌, List, [], ◌∷◌, ◌++◌, Option, Some, None, Bool, true, false, ◌==◌, if◌then◌else◌, codes, length, slice_get, slice_index_or, slice_set}
use Rattle.std.specs.Option.{option_map_or}
use Rattle.std.specs.List.{position, filter}
use Rattle.model.specs.Names.{Name, Member, member_eq, java_lang_object, java_lang_string}
use Rattle.model.specs.HiddenMembers.{is_cell}
use Rattle.model.specs.declared.instr.Conversion.TheVariants.{ToByte, ToShort}
use Rattle.model.specs.declared.monitor_answer.MonitorAnswer.{MonitorAnswer}
use Rattle.model.specs.declared.monitor_answer.MonitorAnswer.TheVariants.{Done, Held, NotOwner}
use Rattle.model.specs.Ints.{converted}
use Rattle.model.specs.Descriptors as descriptors
use Rattle.model.specs.Descriptors.{ElementType, FieldType}
use Rattle.model.specs.DescriptorScan.{field_type}
use Rattle.model.specs.ReferenceTypes.{Primitive, Boolean, Char, Byte, Short, Int}
use Rattle.model.specs.Operands.{Carrier}
use Rattle.model.specs.State.{ObjectOf, Instance, Primitives, References, Characters, Monitor, Waiter, WakeCause, ThreadStatus, Running, Waiting, Relock, Ended, Thread, WorldOf, new_thread}
use Rattle.model.specs.Outcomes.{Cost, Enters}
use Rattle.model.specs.Monitors as monitors
use Rattle.model.specs.Monitors.{Answered, unlocked, owns, monitor_at}

-- ---- threads

abbrev pub no_thread : Thread
no_thread = new_thread 0

abbrev pub thread_at : {A : Type 0} → WorldOf A → ℕ → Thread
thread_at world t = slice_index_or world.threads t no_thread

abbrev pub with_thread : {A : Type 0} → WorldOf A → ℕ → Thread → WorldOf A
with_thread world t thread = record world { threads = slice_set world.threads t thread }

abbrev pub with_begun : {A : Type 0} → WorldOf A → ℕ → WorldOf A
with_begun world t = with_thread world t (record (thread_at world t) { begun = true })

abbrev pub with_pending : {A : Type 0} → WorldOf A → ℕ → ℕ → WorldOf A
with_pending world t exception = with_thread world t (record (thread_at world t) { pending = Some exception })

-- a handler has it
abbrev pub with_caught : {A : Type 0} → WorldOf A → ℕ → WorldOf A
with_caught world t = with_thread world t (record (thread_at world t) { pending = None })

abbrev pub with_status : {A : Type 0} → WorldOf A → ℕ → ThreadStatus → WorldOf A
with_status world t status = with_thread world t (record (thread_at world t) { status = status })

abbrev pub with_interrupted : {A : Type 0} → WorldOf A → ℕ → Bool → WorldOf A
with_interrupted world t interrupted = with_thread world t (record (thread_at world t) { interrupted = interrupted })

-- ---- the thread of a Thread object

abbrev pub is_of_object : ℕ → Thread → Bool
is_of_object object thread = thread.object == object

-- the number of the thread that was started on an object, if one was
abbrev pub thread_of : {A : Type 0} → WorldOf A → ℕ → Option ℕ
thread_of world object = position (is_of_object object) world.threads

abbrev pub has_ended : ThreadStatus → Bool
has_ended Running = false
has_ended (Waiting object count) = false
has_ended (Relock object count cause) = false
has_ended (Ended exception) = true

abbrev pub is_alive_by : Option Thread → Bool
is_alive_by None = false
is_alive_by (Some thread) = if has_ended thread.status then false else true

abbrev pub thread_on : {A : Type 0} → WorldOf A → ℕ → Option Thread
thread_on world object = option_map_or (λ t. slice_get world.threads t) (thread_of world object) None

-- started, and not ended
abbrev pub is_alive : {A : Type 0} → WorldOf A → ℕ → Bool
is_alive world object = is_alive_by (thread_on world object)

-- of a thread that was not started there is no interrupt status (own: it is not set)
abbrev pub is_interrupted : {A : Type 0} → WorldOf A → ℕ → Bool
is_interrupted world object = option_map_or (λ (thread : Thread). thread.interrupted) (thread_on world object) false

-- ---- objects

-- a new object, with a monitor of its own (JLS 17.1); its reference is the number of those before it
abbrev pub allocated : {A : Type 0} → WorldOf A → ObjectOf A → WorldOf A
allocated world object = record world { heap = world.heap ++ object ∷ []; monitors = world.monitors ++ unlocked ∷ [] }

abbrev pub no_object : {A : Type 0} → ObjectOf A
no_object = Instance [] []

abbrev pub object_at : {A : Type 0} → WorldOf A → ℕ → ObjectOf A
object_at world r = slice_index_or world.heap r no_object

abbrev pub with_object : {A : Type 0} → WorldOf A → ℕ → ObjectOf A → WorldOf A
with_object world r object = record world { heap = slice_set world.heap r object }

-- the class whose methods an object has: those of an array are Object's (JVMS 2.4, JLS 10.7)
abbrev pub class_of_object : {A : Type 0} → ObjectOf A → Name
class_of_object (Instance class fields) = class
class_of_object (Primitives of elements) = java_lang_object
class_of_object (References of elements) = java_lang_object
class_of_object (Characters text) = java_lang_string

-- ---- fields, each with its value

abbrev pub value_in : {A : Type 0} → A → Member → List (Member × A) → A
value_in first field [] = first
value_in first field (f ∷ fields) = if member_eq f.0 field then f.1 else value_in first field fields

abbrev pub with_value : {A : Type 0} → Member → A → List (Member × A) → List (Member × A)
with_value field value [] = []
with_value field value (f ∷ fields) = if member_eq f.0 field then (f.0, value) ∷ fields else f ∷ with_value field value fields

abbrev pub fields_of : {A : Type 0} → ObjectOf A → List (Member × A)
fields_of (Instance class fields) = fields
fields_of (Primitives of elements) = []
fields_of (References of elements) = []
fields_of (Characters text) = []

abbrev pub with_field : {A : Type 0} → Member → A → ObjectOf A → ObjectOf A
with_field field value (Instance class fields) = Instance class (with_value field value fields)
with_field field value (Primitives of elements) = Primitives of elements
with_field field value (References of elements) = References of elements
with_field field value (Characters text) = Characters text

abbrev pub with_static : {A : Type 0} → WorldOf A → Member → A → WorldOf A
with_static world field value = record world { statics = with_value field value world.statics }

-- ---- what counts for the limit on cells (own)

abbrev pub is_cell_field : {A : Type 0} → Member × A → Bool
is_cell_field field = is_cell field.0

-- a cell is a field of an object, an element of an array or a unit of a String
abbrev pub cells_of : {A : Type 0} → ObjectOf A → ℕ
cells_of (Instance class fields) = length (filter is_cell_field fields)
cells_of (Primitives of elements) = length elements
cells_of (References of elements) = length elements
cells_of (Characters text) = length text

-- ---- elements

abbrev pub elements_of : {A : Type 0} → ObjectOf A → List A
elements_of (Instance class fields) = []
elements_of (Primitives of elements) = elements
elements_of (References of elements) = elements
elements_of (Characters text) = []

abbrev pub with_element : {A : Type 0} → ℕ → A → ObjectOf A → ObjectOf A
with_element index value (Instance class fields) = Instance class fields
with_element index value (Primitives of elements) = Primitives of (slice_set elements index value)
with_element index value (References of elements) = References of (slice_set elements index value)
with_element index value (Characters text) = Characters text

-- elements from an index on
abbrev pub with_elements : {A : Type 0} → ℕ → List A → ObjectOf A → ObjectOf A
with_elements index [] object = object
with_elements index (value ∷ values) object = with_elements (index + 1) values (with_element index value object)

-- ---- texts

-- the text of an object, if it is a String
abbrev pub string_text : {A : Type 0} → ObjectOf A → Option Text
string_text (Instance class fields) = None
string_text (Primitives of elements) = None
string_text (References of elements) = None
string_text (Characters text) = Some text

-- a String with another text
abbrev pub with_text : {A : Type 0} → Text → ObjectOf A → ObjectOf A
with_text text (Instance class fields) = Instance class fields
with_text text (Primitives of elements) = Primitives of elements
with_text text (References of elements) = References of elements
with_text text (Characters old) = Characters text

-- the text of a String
abbrev pub text_of : {A : Type 0} → ObjectOf A → Text
text_of (Instance class fields) = []
text_of (Primitives of elements) = []
text_of (References of elements) = []
text_of (Characters text) = text

-- a String is its text, and null the word `null`
abbrev pub string_shown : {A : Type 0} → WorldOf A → Option ℕ → Text
string_shown world None = codes "null"
string_shown world (Some r) = text_of (object_at world r)

-- ---- what is kept of a stored int (JVMS 2.11.1)

-- its lowest bit, its low 16 bits, its low 8 bits with their sign, its low 16 bits with theirs, or all
abbrev pub kept : Primitive → ℕ → ℕ
kept Boolean bits = bits % 2
kept Char bits = bits % 2 ^ 16
kept Byte bits = converted ToByte bits
kept Short bits = converted ToShort bits
kept Int bits = bits

abbrev pub kept_value : {A : Type 0} → Carrier A → Primitive → A → A
kept_value C of value = C.int (kept of (C.word value))

-- by the descriptor's element type, where there is no dimension (JVMS 4.3.2)
abbrev pub element_kept : {A : Type 0} → Carrier A → ElementType → A → A
element_kept C descriptors.Byte value = kept_value C Byte value
element_kept C descriptors.Char value = kept_value C Char value
element_kept C descriptors.Double value = value
element_kept C descriptors.Float value = value
element_kept C descriptors.Int value = value
element_kept C descriptors.Long value = value
element_kept C (descriptors.Object name) value = value
element_kept C descriptors.Short value = kept_value C Short value
element_kept C descriptors.Boolean value = kept_value C Boolean value

abbrev pub type_kept : {A : Type 0} → Carrier A → Option FieldType → A → A
type_kept C None value = value
type_kept C (Some type) value = if type.dimensions == 0 then element_kept C type.element value else value

-- what a put to a field keeps of a value: boolean, byte, char and short fields are narrow (own)
abbrev pub put_value : {A : Type 0} → Carrier A → Member → A → A
put_value C field value = type_kept C (field_type field.descriptor) value

-- ---- monitors (JLS 17.1)

abbrev pub is_done : MonitorAnswer → Bool
is_done Done = true
is_done Held = false
is_done NotOwner = false

abbrev pub with_monitors : {A : Type 0} → WorldOf A → Answered (List Monitor) → WorldOf A
with_monitors world answered = record world { monitors = answered.after }

abbrev pub is_owner : {A : Type 0} → WorldOf A → ℕ → ℕ → Bool
is_owner world t object = owns t (monitor_at world.monitors object).owner

-- no other thread owns the monitor
abbrev pub may_enter : {A : Type 0} → WorldOf A → ℕ → ℕ → Bool
may_enter world t object = is_done (monitors.enter object t world.monitors).answer

abbrev pub with_entry : {A : Type 0} → WorldOf A → ℕ → ℕ → WorldOf A
with_entry world t object = with_monitors world (monitors.enter object t world.monitors)

-- one more entry than there are
abbrev pub entry_cost : {A : Type 0} → WorldOf A → ℕ → Cost
entry_cost world object = Enters object (monitor_at world.monitors object).count

abbrev pub with_exit : {A : Type 0} → WorldOf A → ℕ → ℕ → WorldOf A
with_exit world t object = with_monitors world (monitors.exit object t world.monitors)

-- ---- wait sets (JLS 17.2)

-- a thread that has left the wait set of an object is to enter its monitor again, as often as it had entered it
abbrev pub woken : {A : Type 0} → ℕ → WakeCause → WorldOf A → Waiter → WorldOf A
woken object cause world waiter = with_status world waiter.thread (Relock object waiter.count cause)

abbrev pub all_woken : {A : Type 0} → ℕ → WakeCause → WorldOf A → List Waiter → WorldOf A
all_woken object cause world [] = world
all_woken object cause world (waiter ∷ waiters) = all_woken object cause (woken object cause world waiter) waiters

abbrev pub waiters_of : {A : Type 0} → WorldOf A → ℕ → List Waiter
waiters_of world object = (monitor_at world.monitors object).waiters
