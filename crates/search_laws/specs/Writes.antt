-- What others can still write (JLS 17.4.1), and what stays as it is where they write no more.
use Rattle.std.specs.Prelude.{◌≡◌, ℕ, List, ◌∷◌, Option, Some, None, Bool, length, slice_get, IsTrue, IsFalse, not, ◌&&◌, if◌then◌else◌}
use Rattle.std.specs.Option.{option_map, option_and_then}
use Rattle.model.specs.declared.event.Event.{Event}
use Rattle.model.specs.declared.instr.FieldAccess.{FieldAccess}
use Rattle.model.specs.declared.instr.FieldAccess.TheVariants as access
use Rattle.model.specs.declared.instr.Instr.{Instr}
use Rattle.model.specs.declared.instr.Instr.TheVariants as instr
use Rattle.model.specs.declared.value.Value.{Value}
use Rattle.model.specs.Classes.{Program, Body, body_of}
use Rattle.model.specs.ClassInitialisation.{status_of}
use Rattle.model.specs.Lookup.{find_field}
use Rattle.model.specs.HiddenMembers.{is_hidden}
use Rattle.model.specs.Names.{name_eq, Member, string_get_chars}
use Rattle.model.specs.Pool.{field_at, method_at, interface_method_at}
use Rattle.model.specs.Run.{run_from}
use Rattle.model.specs.Sites.{Site, site_at}
use Rattle.model.specs.State.{ObjectOf, Frame, Invocation, StackOf, Thread, NotInitialised, World, State}
use Rattle.model.specs.Step.{step}
use Rattle.model.specs.Worlds.{thread_at, elements_of, fields_of, value_in}
use Rattle.run_laws.specs.interleavings.Local.{is_going}
use Rattle.search_laws.specs.Alone.{AreOfOthers}

-- variables, by what an instruction names: a field of any object, a static field, or the elements of any array
pub data Variables : Type 0 where
  Fields : (field : Member) → Variables
  Statics : (field : Member) → Variables
  Elements : Variables

-- ---- what the next event of a thread writes

abbrev pub put_by : FieldAccess → Member → Option Variables
put_by access.PutField field = Some (Fields field)
put_by access.PutStatic field = Some (Statics field)
put_by other field = None

-- String.getChars stores elements; a call may run it by its descriptor alone
abbrev pub written_by_call : Member → Option Variables
written_by_call named = if name_eq named.descriptor string_get_chars.descriptor then Some Elements else None

abbrev pub written_by : Program → Site → Instr → Option Variables
written_by files site (instr.Field how index) = option_and_then (put_by how) (option_and_then (find_field files) (field_at site.body.pool index))
written_by files site (instr.StoreElement kind) = Some Elements
written_by files site (instr.Invoke how index) = option_and_then written_by_call (method_at site.body.pool index)
written_by files site (instr.InvokeInterface index count last) = option_and_then written_by_call (interface_method_at site.body.pool index)
written_by files site other = None

abbrev pub site_written : Program → Site → Option Variables
site_written files site = written_by files site site.instr

abbrev pub body_written : Program → Frame → Body → Option Variables
body_written files frame body = option_and_then (site_written files) (site_at frame.method body frame.place.offset)

abbrev pub stack_written : Program → StackOf Value → Option Variables
stack_written files (Invocation frame ∷ stack) = option_and_then (body_written files frame) (body_of files frame.method)
stack_written files other = None

-- the instruction that the thread is to do writes these at most
abbrev pub WritesAtMost : Program → (Variables → Bool) → Thread → StackOf Value → Type 0
WritesAtMost files writes thread stack =
    IsTrue (is_going thread.status thread.pending) → (variables : Variables) → stack_written files stack ≡ Some variables → IsTrue (writes variables)

-- ---- what an instruction reads

abbrev pub read_by : Program → Site → Instr → Option Variables
read_by files site (instr.Field access.GetField index) = option_map (λ field. Fields field) (option_and_then (find_field files) (field_at site.body.pool index))
read_by files site (instr.Field access.GetStatic index) = option_map (λ field. Statics field) (option_and_then (find_field files) (field_at site.body.pool index))
read_by files site (instr.LoadElement kind) = Some Elements
read_by files site other = None

-- these stay where no more is written
abbrev pub does_stay : (Variables → Bool) → Variables → Bool
does_stay writes (Fields field) = not (writes (Fields field)) && not (is_hidden field)
does_stay writes (Statics field) = not (writes (Statics field))
does_stay writes Elements = not (writes Elements)

-- ---- what others can still write

-- Behind each run of other threads' events, each event of another thread writes these at most.
abbrev pub AreWritesOfOthers : Program → ℕ → (Variables → Bool) → State → ℕ → Type 0
AreWritesOfOthers files frames writes state t =
    (others : List Event) (later : State) → AreOfOthers t others → run_from files frames state others ≡ Some later
    → (event : Event) (next : State) → (t ≡ event.thread → ⊥) → step files frames later event ≡ Some next
    → (stack : StackOf Value) → slice_get later.stacks event.thread ≡ Some stack
    → WritesAtMost files writes (thread_at later.world event.thread) stack

-- ---- what stays where these at most are written

-- Hidden fields are left out, which methods of the machine put.
pub record IsUnchanged (writes : Variables → Bool) (old new : ObjectOf Value) : Type 0 where
  pub lengths : length (elements_of new) ≡ length (elements_of old)
  pub fields : (field : Member) (first : Value) → IsFalse (writes (Fields field)) → IsFalse (is_hidden field)
      → value_in first field (fields_of new) ≡ value_in first field (fields_of old)
  pub elements : IsFalse (writes Elements) → elements_of new ≡ elements_of old

-- each object is there, with what it had
abbrev pub KeepsVariables : (Variables → Bool) → List (ObjectOf Value) → List (ObjectOf Value) → Type 0
KeepsVariables writes before after =
    (r : ℕ) (old : ObjectOf Value) → slice_get before r ≡ Some old
    → (new : ObjectOf Value) × ((slice_get after r ≡ Some new) × IsUnchanged writes old new)

-- the static fields of each class have their values, once its initialisation has begun (which sets its constants)
abbrev pub KeepsBegun : (Variables → Bool) → World → World → Type 0
KeepsBegun writes before after =
    (field : Member) (first : Value) → IsFalse (writes (Statics field)) → (status_of before field.class ≡ NotInitialised → ⊥)
    → value_in first field after.statics ≡ value_in first field before.statics

-- so behind each event of a thread that writes these at most
abbrev pub AreVariablesKept : Type 0
AreVariablesKept =
    (files : Program) (frames : ℕ) (writes : Variables → Bool) (state next : State) (event : Event) (stack : StackOf Value)
    → slice_get state.stacks event.thread ≡ Some stack → WritesAtMost files writes (thread_at state.world event.thread) stack
    → step files frames state event ≡ Some next
    → KeepsVariables writes state.world.heap next.world.heap × KeepsBegun writes state.world next.world

-- ---- what the program writes at all

-- each instruction of each method writes these at most: one pass over the program
abbrev pub AreWritesOfProgram : Program → (Variables → Bool) → Type 0
AreWritesOfProgram files writes =
    (method : Member) (body : Body) (offset : ℕ) (site : Site) (variables : Variables) → body_of files method ≡ Some body
    → site_at method body offset ≡ Some site → site_written files site ≡ Some variables → IsTrue (writes variables)

-- so do the others, in any state
abbrev pub AreWritesOfProgramKept : Type 0
AreWritesOfProgramKept =
    (files : Program) (frames : ℕ) (writes : Variables → Bool) → AreWritesOfProgram files writes → (state : State) (t : ℕ)
    → AreWritesOfOthers files frames writes state t
