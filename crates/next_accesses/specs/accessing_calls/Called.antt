-- Which method without code that may access variables a call runs, by the numbers of methods and classes (JVMS 6.5).
use Rattle.std.specs.Prelude.{◌≡◌, ℕ, List, Option, Some, None, Bool, true, false, if◌then◌else◌, ◌||◌, codes, is_some, slice_get, slice_index_or}
use Rattle.std.specs.Option.{option_and_then}
use Rattle.model.specs.declared.instr.Instr.{Instr}
use Rattle.model.specs.declared.instr.Instr.TheVariants as instr
use Rattle.model.specs.declared.instr.Invocation.TheVariants as invocation
use Rattle.model.specs.BuiltInMethods as model
use Rattle.model.specs.Calls.{Chosen, Runs, parameter_count, selected, of_receiver, if_implements, special_class}
use Rattle.model.specs.Classes.{Program, name_of, body_of}
use Rattle.model.specs.LimitStands.{Bounds}
use Rattle.model.specs.Lookup.{method_of, find_method, find_interface_method}
use Rattle.model.specs.Names.{Name, name_eq, Member, constructor_name}
use Rattle.model.specs.Pool.{method_at, interface_method_at}
use Rattle.model.specs.ReferenceTypes.{ClassType, is_subtype}
use Rattle.model.specs.State.{ObjectOf, State, type_of}
use Rattle.model.specs.Tree.{FileTree}
use Rattle.model.specs.Worlds.{class_of_object, no_object}
use Rattle.hierarchy.specs.Places.{class_at, place_of}
use Rattle.linked_code.specs.declared.method.BuiltInMethod.{BuiltInMethod}
use Rattle.linked_code.specs.declared.method.BuiltInMethod.TheVariants as called
use Rattle.linked_code.specs.declared.method.LinkedMethod.{LinkedMethod}
use Rattle.linked_code.specs.declared.method.MethodBody.{MethodBody}
use Rattle.linked_code.specs.declared.method.MethodBody.TheVariants as body
use Rattle.linked_code.specs.declared.program.LinkedProgram.{LinkedProgram}
use Rattle.linked_code.specs.Numbers.{IsMethodAt}
use Rattle.linked_code.specs.Selection.{IsChosenAt}
use Rattle.heap.specs.Heap.{Object}
use Rattle.thread_stacks.specs.Stacks.{ShownFrame, ShownEntry}
use Rattle.machine_state.specs.declared.state.Shared.{Shared}
use Rattle.machine_state.specs.Shown.{IsProgram}
use Rattle.machine_state.specs.shown_objects.Shown.{ShowsObjects}
use Rattle.data_races.specs.EventActions.{method_chosen, without_code, built_in_at}
use Rattle.thread_rules.specs.next_rules.Meant.{IsAtInstruction}
use Rattle.next_accesses.specs.accesses.Accesses.{object_under}
use Rattle.next_accesses.specs.declared.accessing_calls.AccessingMethod.{AccessingMethod}
use Rattle.next_accesses.specs.declared.accessing_calls.AccessingMethod.TheVariants.{Builds, Writes, Clones}
use Rattle.next_accesses.specs.next_access.Next.{IsReached}

-- ---- by the definitions

abbrev pub as_accessing : model.BuiltInMethod → Option AccessingMethod
as_accessing (model.StringBuilderBuilds method) = Some (Builds method)
as_accessing (model.StringWrites method) = Some (Writes method)
as_accessing model.ObjectClone = Some Clones
as_accessing _ = None

-- of the method that is chosen, if it has no code
abbrev pub accessing_run : Program → Chosen → Option AccessingMethod
accessing_run files chosen = option_and_then as_accessing (option_and_then (λ (m : Member). without_code m (body_of files m)) (method_chosen chosen))

-- ---- by numbers

abbrev pub accessing_of : BuiltInMethod → Option AccessingMethod
accessing_of (called.StringBuilderBuilds method) = Some (Builds method)
accessing_of (called.StringWrites method) = Some (Writes method)
accessing_of called.ObjectClone = Some Clones
accessing_of _ = None

abbrev pub body_accessing : MethodBody → Option AccessingMethod
body_accessing body.Abstract = None
body_accessing (body.BuiltIn method) = accessing_of method
body_accessing (body.Code code) = None

-- of the method of a number
abbrev pub accessing_in : LinkedProgram → ℕ → Option AccessingMethod
accessing_in p number = option_and_then (λ (row : LinkedMethod). body_accessing row.body) (slice_get p.methods.items number)

-- ---- what is told

abbrev pub has_none : Name → Bool
has_none descriptor =
    name_eq descriptor (codes "()V") || (name_eq descriptor (codes "()Ljava/lang/String;") || name_eq descriptor (codes "()Ljava/lang/Object;"))

abbrev pub has_one : Name → Bool
has_one descriptor =
    name_eq descriptor (codes "(Ljava/lang/String;)V")
    || (name_eq descriptor (codes "(Ljava/lang/String;)Ljava/lang/StringBuilder;")
    || (name_eq descriptor (codes "(I)Ljava/lang/StringBuilder;")
    || (name_eq descriptor (codes "(C)Ljava/lang/StringBuilder;")
    || name_eq descriptor (codes "(Ljava/lang/StringBuilder;)Ljava/lang/StringBuilder;"))))

-- how many parameters it has, where it may be one of these by its descriptor
abbrev pub accessing_parameters : Name → Option ℕ
accessing_parameters descriptor =
    if has_none descriptor then Some 0
    else if has_one descriptor then Some 1
    else if name_eq descriptor (codes "([CII)V") then Some 3
    else if name_eq descriptor (codes "(II[CI)V") then Some 4
    else None

-- whatever object is shown, of the method that its class selects where the call is of the method of a number
abbrev pub TellsVirtual : Program → LinkedProgram → List Object → (callee object : ℕ) → Option AccessingMethod → Type 0
TellsVirtual trees p objects callee object told =
    IsProgram trees p → (heap : List (ObjectOf ℕ)) → ShowsObjects trees p.components.items objects heap
    → (receiver : ObjectOf ℕ) → slice_get heap object ≡ Some receiver → (m : Member) → IsMethodAt trees callee m
    → told ≡ accessing_run trees (selected trees (class_of_object receiver) m)

-- the same where the object has to implement an interface
abbrev pub TellsInterface : Program → LinkedProgram → List Object → (callee object : ℕ) → (interface : Name) → Option AccessingMethod → Type 0
TellsInterface trees p objects callee object interface told =
    IsProgram trees p → (heap : List (ObjectOf ℕ)) → ShowsObjects trees p.components.items objects heap
    → (receiver : ObjectOf ℕ) → slice_get heap object ≡ Some receiver → (m : Member) → IsMethodAt trees callee m
    → told ≡ accessing_run trees (if_implements (is_subtype trees (type_of receiver) (ClassType interface)) (selected trees (class_of_object receiver) m))

-- of the method of a number that is chosen
abbrev pub TellsChosen : Program → LinkedProgram → ℕ → Option AccessingMethod → Type 0
TellsChosen trees p number told = IsProgram trees p → (chosen : Chosen) → IsChosenAt trees number chosen → told ≡ accessing_run trees chosen

-- of a constructor by its number
abbrev pub TellsConstructor : Program → LinkedProgram → ℕ → Option AccessingMethod → Type 0
TellsConstructor trees p number told = IsProgram trees p → (m : Member) → IsMethodAt trees number m → told ≡ accessing_run trees (Runs m)

-- of what is selected from a class upwards, if that is there
abbrev pub TellsAbove : Program → LinkedProgram → Name → ℕ → Option AccessingMethod → Type 0
TellsAbove trees p class callee told =
    IsProgram trees p → is_some (place_of trees class) ≡ true → (m : Member) → IsMethodAt trees callee m → told ≡ accessing_run trees (selected trees class m)

-- ---- by the method that a call names, and the operands

-- by its receiver, if that is not null
abbrev pub run_on : Program → List ℕ → Member → (ℕ → Chosen) → Option AccessingMethod
run_on trees operands method choose = accessing_run trees (of_receiver (object_under operands (parameter_count method)) choose)

abbrev pub object_in : List (ObjectOf ℕ) → ℕ → ObjectOf ℕ
object_in heap r = slice_index_or heap r no_object

abbrev pub called_virtual : Program → List (ObjectOf ℕ) → List ℕ → Member → Option AccessingMethod
called_virtual trees heap operands named =
    option_and_then (λ (m : Member). run_on trees operands m (λ r. selected trees (class_of_object (object_in heap r)) m)) (find_method trees named)

abbrev pub called_interface : Program → List (ObjectOf ℕ) → List ℕ → Member → Option AccessingMethod
called_interface trees heap operands named =
    option_and_then (λ (m : Member). run_on trees operands m (λ r. if_implements (is_subtype trees (type_of (object_in heap r)) (ClassType named.class)) (selected trees (class_of_object (object_in heap r)) m)))
    (find_interface_method trees named)

abbrev pub called_special : Program → List ℕ → (current : Name) → Member → Option AccessingMethod
called_special trees operands current named =
    if name_eq named.name constructor_name
    then run_on trees operands named (λ r. Runs named)
    else option_and_then (λ (m : Member). run_on trees operands m (λ r. selected trees (special_class trees current named.class) m)) (find_method trees named)

-- the receiver is there, if it is not null
abbrev pub IsReceiverThere : List (ObjectOf ℕ) → List ℕ → Member → Type 0
IsReceiverThere heap operands named =
    (r : ℕ) → object_under operands (parameter_count named) ≡ Some r → (receiver : ObjectOf ℕ) × (slice_get heap r ≡ Some receiver)

abbrev pub CallsVirtual : Program → LinkedProgram → List Object → List ℕ → Member → Option AccessingMethod → Type 0
CallsVirtual trees p objects operands named told =
    IsProgram trees p → (heap : List (ObjectOf ℕ)) → ShowsObjects trees p.components.items objects heap → IsReceiverThere heap operands named
    → told ≡ called_virtual trees heap operands named

abbrev pub CallsInterface : Program → LinkedProgram → List Object → List ℕ → Member → Option AccessingMethod → Type 0
CallsInterface trees p objects operands named told =
    IsProgram trees p → (heap : List (ObjectOf ℕ)) → ShowsObjects trees p.components.items objects heap → IsReceiverThere heap operands named
    → told ≡ called_interface trees heap operands named

-- a constructor is declared, and of any other method the class at which selection begins is there
abbrev pub CallsSpecial : Program → LinkedProgram → List ℕ → (current : Name) → Member → Option AccessingMethod → Type 0
CallsSpecial trees p operands current named told =
    IsProgram trees p → (name_eq named.name constructor_name ≡ true → is_some (method_of trees named) ≡ true)
    → (name_eq named.name constructor_name ≡ false → is_some (place_of trees (special_class trees current named.class)) ≡ true)
    → told ≡ called_special trees operands current named

-- by the instruction of a method of a class
abbrev pub CallsBy : Program → LinkedProgram → List Object → List ℕ → FileTree → Instr → Option AccessingMethod → Type 0
CallsBy trees p objects operands file (instr.Invoke invocation.Virtual index) told =
    (named : Member) → method_at file.pool index ≡ Some named → CallsVirtual trees p objects operands named told
CallsBy trees p objects operands file (instr.Invoke invocation.Special index) told =
    (named : Member) → method_at file.pool index ≡ Some named → CallsSpecial trees p operands (name_of file) named told
CallsBy trees p objects operands file (instr.InvokeInterface index count last) told =
    (named : Member) → interface_method_at file.pool index ≡ Some named → CallsInterface trees p objects operands named told
CallsBy trees p objects operands file _ told = told ≡ None

abbrev pub CallsIn : Program → LinkedProgram → List Object → List ℕ → (class : ℕ) → Instr → Option AccessingMethod → Type 0
CallsIn trees p objects operands class i told = (file : FileTree) → class_at trees class ≡ Some file → CallsBy trees p objects operands file i told

-- of a thread that stands at an instruction in this frame
abbrev pub TellsAccessing : Program → LinkedProgram → Shared → (t : ℕ) → ShownFrame → Instr → Option AccessingMethod → Type 0
TellsAccessing trees p shared t frame i told =
    (bounds : Bounds) (state : State) → (reached : IsReached trees p bounds shared state)
    → (stack : List ShownEntry) (at : IsAtInstruction trees p bounds reached.inflated t shared stack state) → at.runs.shown ≡ frame
    → at.instruction.site.instr ≡ i
    → told ≡ option_and_then as_accessing (built_in_at trees state.world at.instruction)
