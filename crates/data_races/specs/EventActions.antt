-- Which actions an event does in a state (JLS 17.4.2). What changes is read off the state that follows; what is only found, read or
-- written, off what the event does by the rules of `Step`.
use Rattle.std.specs.Prelude.{ℕ, zero, suc, List, [], ◌∷◌, ◌++◌, Option, Some, None, Bool, true, false, not, ◌&&◌, ◌||◌, ◌==◌, if◌then◌else◌, ◌-◌, length, map, slice_get}
use Rattle.std.specs.Option.{option_map, option_map_or, option_and_then}
use Rattle.std.specs.List.{filter, list_any}
use Rattle.model.specs.declared.event.Event.{Event}
use Rattle.model.specs.declared.value.Value.{Value}
use Rattle.model.specs.declared.instr.Instr.{Instr}
use Rattle.model.specs.declared.instr.Instr.TheVariants as instr
use Rattle.model.specs.declared.instr.FieldAccess.{FieldAccess}
use Rattle.model.specs.declared.instr.FieldAccess.TheVariants as access
use Rattle.model.specs.declared.instr.Invocation.{Invocation}
use Rattle.model.specs.declared.instr.Invocation.TheVariants as invocation
use Rattle.model.specs.Names.{Name, name_eq, Member, member_eq, constructor_name, builder_text}
use Rattle.model.specs.HiddenMembers.{is_hidden}
use Rattle.model.specs.Pool.{field_at, method_at, interface_method_at}
use Rattle.model.specs.Classes.{Program, Body, body_of}
use Rattle.model.specs.ReferenceTypes.{ReferenceType, ClassType, PrimitiveArray, ReferenceArray, is_subtype}
use Rattle.model.specs.Lookup.{find_field, find_method, find_interface_method, instance_fields}
use Rattle.model.specs.Operands.{values, under, Slots}
use Rattle.model.specs.Rows.{counting}
use Rattle.model.specs.State as state
use Rattle.model.specs.State.{type_of, ClassStatus, NotInitialised, InProgress, Initialised, Erroneous, Monitor, WakeCause, Notified, Interrupted, ThreadStatus, Running, Waiting, Relock, Ended, Thread, Phase, Super, End, Frame, Initialisation, StackOf, World, State}
use Rattle.model.specs.Outcomes.{OutcomeOf, Goes}
use Rattle.model.specs.Monitors.{owns}
use Rattle.model.specs.Worlds.{thread_at, thread_of, has_ended, is_owner, object_at, elements_of}
use Rattle.model.specs.ClassInitialisation.{status_of, Look, IsReady, IsNew, IsHeld, HasFailed, look_at}
use Rattle.model.specs.Sites.{MeaningOf, Site, site_at, referent, int_operand, object_of}
use Rattle.model.specs.declared.builder_method.BuilderMethod.{BuilderMethod}
use Rattle.model.specs.declared.builder_method.BuilderMethod.TheVariants.{ConstructEmpty, ConstructOfString, AppendString, AppendInt, AppendChar, AppendBuilder, ToString}
use Rattle.model.specs.declared.text_method.TextMethod.{TextMethod}
use Rattle.model.specs.declared.text_method.TextMethod.TheVariants as text_method
use Rattle.model.specs.BuiltInMethods.{BuiltInMethod, ObjectWait, ThreadStart, ThreadInterrupt, ThreadIsInterrupted, ThreadInterrupted, ThreadJoin, ThreadIsAlive, ObjectClone, StringWrites, StringBuilderBuilds, built_in_method}
use Rattle.model.specs.Calls.{Chosen, Fails, Runs, parameter_count, selected, its_class, of_receiver, if_implements, special_class}
use Rattle.model.specs.Meanings.{meaning_of}
use Rattle.model.specs.Step.{ops_of, before, initial_class, step}
use Rattle.data_races.specs.Variables.{Variable, InstanceField, StaticField, Element}
use Rattle.data_races.specs.Actions.{Action, Read, Write, Lock, Unlock, Begin, Finish, Start, Interrupt, ClearInterrupt, Wake, FinishInitialisation, FindStarted, FindFinished, FindInterrupted, FindNotInterrupted, FindWoken, FindInitialised}

-- ---- what a thread does next, by the rules of events

-- an instruction, with what it means and the values of its frame
pub record Instruction : Type 0 where
  pub site : Site
  pub meaning : MeaningOf Value
  pub slots : Slots Value

pub data Rule : Type 0 where
  Begins : Rule
  Does : (instruction : Instruction) → Rule
  Initialises : (class : Name) (phase : Phase) → Rule
  Relocks : (cause : WakeCause) → Rule
  -- an exception is pending; or nothing can be done
  Other : Rule

abbrev pub instruction_in : Program → Frame → Body → Option Instruction
instruction_in files frame body =
    option_and_then (λ site. option_map (λ meaning. record { site = site; meaning = meaning; slots = frame.place.slots }) (meaning_of values files site))
    (site_at frame.method body frame.place.offset)

abbrev pub frame_rule : Program → Frame → Rule
frame_rule files frame = option_map_or (λ instruction. Does instruction) (option_and_then (instruction_in files frame) (body_of files frame.method)) Other

abbrev pub running_rule : Program → Option ℕ → StackOf Value → Rule
running_rule files (Some exception) stack = Other
running_rule files None [] = Begins
running_rule files None (state.Invocation frame ∷ stack) = frame_rule files frame
running_rule files None (Initialisation class phase ∷ stack) = Initialises class phase

abbrev pub rule_by : Program → Thread → StackOf Value → ThreadStatus → Rule
rule_by files thread stack Running = running_rule files thread.pending stack
rule_by files thread stack (Waiting object count) = Other
rule_by files thread stack (Relock object count cause) = Relocks cause
rule_by files thread stack (Ended exception) = Other

-- the rule of the next event of a thread
abbrev pub rule_of : Program → State → ℕ → Rule
rule_of files state t =
    option_map_or (λ (stack : StackOf Value). rule_by files (thread_at state.world t) stack (thread_at state.world t).status) (slice_get state.stacks t) Other

-- ---- what it finds of classes (12.4.2)

abbrev pub needed_before : Program → Name → Phase → Option Name
needed_before files class Super = before files class
needed_before files class End = None

abbrev pub needed_at_begin : Program → ℕ → Option Name
needed_at_begin files zero = Some (initial_class files)
needed_at_begin files (suc t) = None

-- the class that must be initialised first
abbrev pub needed_class : Program → ℕ → Rule → Option Name
needed_class files t Begins = needed_at_begin files t
needed_class files t (Does instruction) = instruction.meaning.looks
needed_class files t (Initialises class phase) = needed_before files class phase
needed_class files t (Relocks cause) = None
needed_class files t Other = None

abbrev pub is_finished : ClassStatus → Bool
is_finished NotInitialised = false
is_finished (InProgress by) = false
is_finished Initialised = true
is_finished Erroneous = true

abbrev pub only_if : {A : Type 0} → Bool → List A → List A
only_if true xs = xs
only_if false xs = []

abbrev pub found_class : World → Option Name → List Action
found_class world None = []
found_class world (Some class) = only_if (is_finished (status_of world class)) (FindInitialised class ∷ [])

-- ---- which built-in method an instruction runs

abbrev pub method_chosen : Chosen → Option Member
method_chosen (Fails fault) = None
method_chosen (Runs method) = Some method

-- by the receiver
abbrev pub chosen_on : (World → ℕ → Chosen) → World → List Value → Member → Option Member
chosen_on choose world ops method = method_chosen (of_receiver (referent values ops (parameter_count method)) (choose world))

abbrev pub interface_choice : Program → Name → Member → World → ℕ → Chosen
interface_choice files named method world r =
    if_implements (is_subtype files (type_of (object_at world r)) (ClassType named)) (selected files (its_class world r) method)

abbrev pub run_virtual : Program → World → List Value → Member → Option Member
run_virtual files world ops named =
    option_and_then (λ (method : Member). chosen_on (λ other r. selected files (its_class other r) method) world ops method) (find_method files named)

-- a constructor is the one that the named class declares
abbrev pub run_special : Program → Site → World → List Value → Member → Option Member
run_special files site world ops named =
    if name_eq named.name constructor_name
    then chosen_on (λ other r. Runs named) world ops named
    else option_and_then (λ (method : Member). chosen_on (λ other r. selected files (special_class files site.method.class named.class) method) world ops method)
    (find_method files named)

abbrev pub run_interface : Program → World → List Value → Member → Option Member
run_interface files world ops named =
    option_and_then (λ (method : Member). chosen_on (interface_choice files named.class method) world ops method) (find_interface_method files named)

abbrev pub run_by : Program → Site → World → List Value → Invocation → ℕ → Option Member
run_by files site world ops invocation.Virtual index = option_and_then (run_virtual files world ops) (method_at site.body.pool index)
run_by files site world ops invocation.Special index = option_and_then (run_special files site world ops) (method_at site.body.pool index)
run_by files site world ops invocation.Static index = option_and_then (find_method files) (method_at site.body.pool index)

-- the method that an invoking instruction runs (JVMS 6.5)
abbrev pub method_run : Program → Site → World → List Value → Instr → Option Member
method_run files site world ops (instr.Invoke invocation index) = run_by files site world ops invocation index
method_run files site world ops (instr.InvokeInterface index count last) = option_and_then (run_interface files world ops) (interface_method_at site.body.pool index)
method_run files site world ops _ = None

abbrev pub without_code : Member → Option Body → Option BuiltInMethod
without_code method None = Some (built_in_method method)
without_code method (Some body) = None

abbrev pub built_in_run : Program → Site → World → List Value → Option BuiltInMethod
built_in_run files site world ops =
    option_and_then (λ (method : Member). without_code method (body_of files method)) (method_run files site world ops site.instr)

-- ---- what a built-in method finds of threads, and whom it interrupts

abbrev pub of_thread : Option ℕ → (ℕ → List Action) → List Action
of_thread None actions = []
of_thread (Some u) actions = actions u

abbrev pub is_over : World → ℕ → Bool
is_over world u = has_ended (thread_at world u).status

-- a thread that was started: it has ended, or is alive
abbrev pub found_alive : World → ℕ → List Action
found_alive world u = if is_over world u then FindFinished u ∷ [] else FindStarted u ∷ []

abbrev pub found_status : World → ℕ → List Action
found_status world u = if (thread_at world u).interrupted then FindInterrupted u ∷ [] else FindNotInterrupted u ∷ []

-- a thread that was interrupted finds that
abbrev pub found_own : World → ℕ → List Action
found_own world t = only_if (thread_at world t).interrupted (FindInterrupted t ∷ [])

-- a join returns, or throws where the thread that joins was interrupted
abbrev pub found_by_join : World → ℕ → ℕ → List Action
found_by_join world t u = if is_over world u then FindFinished u ∷ [] else found_own world t ++ FindStarted u ∷ []

-- by the object that it is called on
abbrev pub found_on : World → ℕ → ℕ → BuiltInMethod → List Action
found_on world t object ObjectWait = only_if (is_owner world t object) (found_own world t)
found_on world t object ThreadStart = of_thread (thread_of world object) (λ u. FindStarted u ∷ [])
found_on world t object ThreadInterrupt = of_thread (thread_of world object) (found_alive world)
found_on world t object ThreadIsInterrupted = of_thread (thread_of world object) (found_status world)
found_on world t object ThreadInterrupted = found_own world t
found_on world t object ThreadJoin = of_thread (thread_of world object) (found_by_join world t)
found_on world t object ThreadIsAlive = of_thread (thread_of world object) (found_alive world)
found_on world t object _ = []

abbrev pub interrupts_on : World → ℕ → BuiltInMethod → List Action
interrupts_on world object ThreadInterrupt = of_thread (thread_of world object) (λ u. only_if (not (is_over world u)) (Interrupt u ∷ []))
interrupts_on world object _ = []

-- ---- which variables an event reads and writes, where its instruction goes on to the next one

-- a reference among the operands
abbrev pub at_reference : List Value → ℕ → (ℕ → Action) → List Action
at_reference ops k action = option_map_or (λ r. action r ∷ []) (referent values ops k) []

abbrev pub named_access : List Value → FieldAccess → Member → List Action
named_access ops access.GetStatic field = Read (StaticField field) ∷ []
named_access ops access.PutStatic field = Write (StaticField field) ∷ []
named_access ops access.GetField field = at_reference ops 0 (λ r. Read (InstanceField r field))
named_access ops access.PutField field = at_reference ops 1 (λ r. Write (InstanceField r field))

-- of the hidden fields a StringBuilder's text alone is a variable (own)
abbrev pub is_variable : Member → Bool
is_variable field = not (is_hidden field) || member_eq field builder_text

abbrev pub field_access : List Value → FieldAccess → Member → List Action
field_access ops how field = only_if (is_variable field) (named_access ops how field)

abbrev pub access_by : Program → Site → List Value → Instr → List Action
access_by files site ops (instr.Field access index) =
    option_map_or (field_access ops access) (option_and_then (find_field files) (field_at site.body.pool index)) []
access_by files site ops (instr.LoadElement kind) = at_reference ops 1 (λ r. Read (Element r (int_operand values ops 0)))
access_by files site ops (instr.StoreElement kind) = at_reference ops 2 (λ r. Write (Element r (int_operand values ops 1)))
access_by files site ops _ = []

-- the text of a StringBuilder among the operands, if that is not null
abbrev pub text_access : List Value → ℕ → (Variable → Action) → List Action
text_access ops k action = at_reference ops k (λ r. action (InstanceField r builder_text))

-- append reads the receiver's text, and that of a StringBuilder which it adds, and writes the receiver's
abbrev pub builder_accesses : List Value → BuilderMethod → List Action
builder_accesses ops ConstructEmpty = text_access ops 0 Write
builder_accesses ops ConstructOfString = text_access ops 1 Write
builder_accesses ops AppendString = text_access ops 1 Read ++ text_access ops 1 Write
builder_accesses ops AppendInt = text_access ops 1 Read ++ text_access ops 1 Write
builder_accesses ops AppendChar = text_access ops 1 Read ++ text_access ops 1 Write
builder_accesses ops AppendBuilder = text_access ops 1 Read ++ text_access ops 0 Read ++ text_access ops 1 Write
builder_accesses ops ToString = text_access ops 0 Read

-- so many elements of an array, from an index on
abbrev pub elements_accessed : (Variable → Action) → ℕ → ℕ → ℕ → List Action
elements_accessed action array index count = map (λ k. action (Element array k)) (counting index count)

-- the same of an array among the operands, if that is not null
abbrev pub element_accesses : List Value → ℕ → (Variable → Action) → ℕ → ℕ → List Action
element_accesses ops k action index count = option_map_or (λ array. elements_accessed action array index count) (referent values ops k) []

-- a String that is made of chars reads them, and getChars writes elements
abbrev pub string_accesses : List Value → TextMethod → List Action
string_accesses ops text_method.ConstructOfChars = element_accesses ops 2 Read (int_operand values ops 1) (int_operand values ops 0)
string_accesses ops text_method.GetChars = element_accesses ops 1 Write (int_operand values ops 0) (int_operand values ops 2 - int_operand values ops 3)
string_accesses ops _ = []

-- clone reads all fields of an object, or all elements of an array
abbrev pub copy_accesses : Program → ℕ → ReferenceType → ℕ → List Action
copy_accesses files object (ClassType class) count = map (λ field. Read (InstanceField object field)) (filter is_variable (instance_fields files class))
copy_accesses files object (PrimitiveArray of) count = elements_accessed Read object 0 count
copy_accesses files object (ReferenceArray of) count = elements_accessed Read object 0 count

abbrev pub clone_accesses : Program → World → ℕ → List Action
clone_accesses files world object = copy_accesses files object (type_of (object_at world object)) (length (elements_of (object_at world object)))

abbrev pub built_in_accesses : Program → World → List Value → BuiltInMethod → List Action
built_in_accesses files world ops (StringBuilderBuilds method) = builder_accesses ops method
built_in_accesses files world ops (StringWrites method) = string_accesses ops method
built_in_accesses files world ops ObjectClone = option_map_or (clone_accesses files world) (referent values ops 0) []
built_in_accesses files world ops _ = []

abbrev pub goes_on : OutcomeOf Value → Bool
goes_on (Goes cost world slots to) = true
goes_on _ = false

-- ---- what an instruction finds, reads or writes, and interrupts

abbrev pub is_ready : Look → Bool
is_ready IsReady = true
is_ready IsNew = false
is_ready IsHeld = false
is_ready HasFailed = false

-- the class that it needs is there, so that it is done
abbrev pub is_done : ℕ → World → Instruction → Bool
is_done t world instruction = is_ready (look_at t world instruction.meaning.looks)

abbrev pub operands_of : Instruction → List Value
operands_of instruction = ops_of values instruction.meaning instruction.slots

abbrev pub outcome_at : Event → World → Instruction → OutcomeOf Value
outcome_at event world instruction =
    instruction.meaning.does event world instruction.slots (operands_of instruction) (under instruction.meaning.wants instruction.slots)

abbrev pub built_in_at : Program → World → Instruction → Option BuiltInMethod
built_in_at files world instruction = built_in_run files instruction.site world (operands_of instruction)

abbrev pub receiver_of : Instruction → ℕ
receiver_of instruction = object_of values (operands_of instruction) 0

-- by the instruction itself, or by the built-in method that it runs
abbrev pub accesses_at : Program → World → Instruction → List Action
accesses_at files world instruction =
    access_by files instruction.site (operands_of instruction) instruction.site.instr
    ++ option_map_or (built_in_accesses files world (operands_of instruction)) (built_in_at files world instruction) []

abbrev pub finds_of : Program → Event → World → Rule → List Action
finds_of files event world Begins = Begin event.thread ∷ []
finds_of files event world (Does instruction) =
    only_if (is_done event.thread world instruction)
    (option_map_or (found_on world event.thread (receiver_of instruction)) (built_in_at files world instruction) [])
finds_of files event world (Initialises class phase) = []
finds_of files event world (Relocks Notified) = FindWoken event.thread ∷ []
finds_of files event world (Relocks Interrupted) = FindInterrupted event.thread ∷ []
finds_of files event world Other = []

abbrev pub accesses_of : Program → Event → World → Rule → List Action
accesses_of files event world (Does instruction) =
    only_if (is_done event.thread world instruction && goes_on (outcome_at event world instruction)) (accesses_at files world instruction)
accesses_of files event world _ = []

abbrev pub interrupts_of : Program → Event → World → Rule → List Action
interrupts_of files event world (Does instruction) =
    only_if (is_done event.thread world instruction) (option_map_or (interrupts_on world (receiver_of instruction)) (built_in_at files world instruction) [])
interrupts_of files event world _ = []

-- ---- what changes

-- the objects whose monitors a thread owns, counted from one on
abbrev pub owned_from : ℕ → ℕ → List Monitor → List ℕ
owned_from t object [] = []
owned_from t object (monitor ∷ monitors) =
    only_if (owns t monitor.owner) (object ∷ []) ++ owned_from t (suc object) monitors

abbrev pub owned : ℕ → World → List ℕ
owned t world = owned_from t 0 world.monitors

abbrev pub is_waiting : ThreadStatus → Bool
is_waiting (Waiting object count) = true
is_waiting _ = false

abbrev pub waiting : World → List ℕ
waiting world = filter (λ t. is_waiting (thread_at world t).status) (counting 0 (length world.threads))

-- those of a list that are not in another one
abbrev pub besides : List ℕ → List ℕ → List ℕ
besides these others = filter (λ n. not (list_any (λ other. other == n) others)) these

abbrev pub finished_classes : World → World → List Name
finished_classes old new =
    filter (λ class. is_finished (status_of new class) && not (is_finished (status_of old class))) (map (λ (row : Name × ClassStatus). row.0) new.classes)

abbrev pub started : World → World → List ℕ
started old new = counting (length old.threads) (length new.threads - length old.threads)

-- the last action of a thread, and what it wakes
abbrev pub end_actions : ℕ → World → World → List Action
end_actions t old new = only_if (is_over new t) (map Wake (besides (waiting old) (waiting new)) ++ Finish t ∷ [])

abbrev pub clear_actions : ℕ → World → World → List Action
clear_actions t old new = only_if ((thread_at old t).interrupted && not (thread_at new t).interrupted) (ClearInterrupt t ∷ [])

-- ---- the actions of an event, in their order

-- What it finds and locks comes first, then what it reads and writes, then what later actions may find.
abbrev pub actions_to : Program → Event → World → Rule → World → List Action
actions_to files event old rule new =
    found_class old (needed_class files event.thread rule)
    ++ finds_of files event old rule
    ++ map Lock (besides (owned event.thread new) (owned event.thread old))
    ++ accesses_of files event old rule
    ++ map Unlock (besides (owned event.thread old) (owned event.thread new))
    ++ map Start (started old new)
    ++ interrupts_of files event old rule
    ++ clear_actions event.thread old new
    ++ map FinishInitialisation (finished_classes old new)
    ++ end_actions event.thread old new

-- the actions of an event in a state; none where it has no step
abbrev pub actions_of : Program → ℕ → State → Event → List Action
actions_of files frames state event =
    option_map_or (λ (next : State). actions_to files event state.world (rule_of files state event.thread) next.world) (step files frames state event) []
