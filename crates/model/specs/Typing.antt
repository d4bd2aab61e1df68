-- Typings (JVMS 4.10.2): frame types at the offsets of a method's code that agree with each instruction. What is promised is
-- that such frame types exist; how they are found is no part of the definition.
use Rattle.std.specs.Prelude.{◌≡◌, ℕ, ◌≤◌, ◌-◌, List, [], ◌∷◌, ◌++◌, Option, Some, None, Bool, true, false, not, ◌&&◌, ◌||◌, ◌==◌, if◌then◌else◌, length, map, replicate, unwrap_or, IsTrue}
use Rattle.std.specs.Option.{option_map_or}
use Rattle.std.specs.List.{list_any, AllByRecursion}
use Rattle.model.specs.declared.class_file.ExceptionEntry.{ExceptionEntry}
use Rattle.model.specs.declared.instr.Instr.{Instr}
use Rattle.model.specs.declared.instr.Instr.TheVariants as instr
use Rattle.model.specs.declared.instr.Invocation.TheVariants as invocation
use Rattle.model.specs.declared.value.Value.{Value}
use Rattle.model.specs.Names.{Name, name_eq, Member, constructor_name, initialiser_name, java_lang_throwable}
use Rattle.model.specs.Tree.{Entry}
use Rattle.model.specs.Pool.{class_name_at, method_at}
use Rattle.model.specs.AccessFlags.{is_static_method}
use Rattle.model.specs.Classes.{Program, Body, body_of}
use Rattle.model.specs.Lookup.{method_of}
use Rattle.model.specs.ReferenceTypes.{ClassType}
use Rattle.model.specs.Types.{VerificationType, Unusable, IntType, NullType, OfType, Uninitialised, UninitialisedThis, type_meets}
use Rattle.model.specs.DescribedTypes.{parameters_declared, type_named, made_type, verification_type}
use Rattle.model.specs.InitialisedTypes.{is_made_at}
use Rattle.model.specs.InstructionStarts.{is_start}
use Rattle.model.specs.Operands.{Slots, values, over_types, is_ready, operands, under}
use Rattle.model.specs.TypeOrder.{FrameType, is_frame_below}
use Rattle.model.specs.Sites.{MeaningOf, Site, site_at}
use Rattle.model.specs.Meanings.{meaning_of}
use Rattle.model.specs.Step.{covers}

-- ---- the entry type

-- an instance initialization method (JVMS 2.9)
abbrev pub is_constructor : Member → Bool
is_constructor method = name_eq method.name constructor_name

abbrev pub is_static_of : Program → Member → Bool
is_static_of files method = option_map_or is_static_method (method_of files method) false

-- the receiver: in a constructor it is not initialised yet
abbrev pub receiver_type : Member → VerificationType
receiver_type method = if is_constructor method then UninitialisedThis method.class else OfType (ClassType method.class)

abbrev pub parameter_types : Program → Member → List VerificationType
parameter_types files method = map (verification_type files) (parameters_declared method.descriptor)

-- a method has no receiver if it is static; the initialiser of a class has none whatever its flags are (own)
abbrev pub has_no_receiver : Program → Member → Bool
has_no_receiver files method = is_static_of files method || name_eq method.name initialiser_name

-- what a method is called with: the receiver, if there is one, and the parameters
abbrev pub argument_types : Program → Member → List VerificationType
argument_types files method =
    if has_no_receiver files method then parameter_types files method else receiver_type method ∷ parameter_types files method

-- the frame type where a method begins: its arguments in the first local variables, the others not usable, nothing on
-- the operand stack (JVMS 2.6.1, 4.10.1.6)
abbrev pub entry_type : Program → Member → Body → FrameType
entry_type files method body =
    record {
      slots = record {
        locals = argument_types files method ++ replicate (body.code.max_locals - length (argument_types files method)) Unusable;
        stack = [];
      };
      constructed = not (is_constructor method);
    }

-- ---- the rule of an instruction

-- what is asked beyond the operands (JVMS 4.10.1.9): `new` finds nothing on the stack that it itself made before, and a
-- constructor returns only once a constructor was called on `this`
abbrev pub may_stand : Site → FrameType → Instr → Bool
may_stand site t (instr.New index) = not (list_any (is_made_at site.offset) t.slots.stack)
may_stand site t (instr.Return returned) = not (is_constructor site.method) || t.constructed
may_stand site t _ = true

abbrev pub is_any_this : VerificationType → Bool
is_any_this Unusable = false
is_any_this IntType = false
is_any_this NullType = false
is_any_this (OfType t) = false
is_any_this (Uninitialised at c) = false
is_any_this (UninitialisedThis c) = true

-- a constructor is called on `this`: no other operand of a call can be an uninitialised `this`
abbrev pub constructs_this : Site → List VerificationType → Instr → Bool
constructs_this site ops (instr.Invoke invocation.Special index) =
    option_map_or is_constructor (method_at site.body.pool index) false && list_any is_any_this ops
constructs_this site ops _ = false

abbrev pub marked : Bool → ℕ × Slots VerificationType → ℕ × FrameType
marked constructed lead = (lead.0, record { slots = lead.1; constructed = constructed })

-- the offsets to which an instruction leads, with the frame types there
abbrev pub successors : Site → MeaningOf Value → FrameType → List (ℕ × FrameType)
successors site meaning t =
    map (marked (t.constructed || constructs_this site (operands over_types meaning.wants t.slots) site.instr))
    (meaning.leads t.slots (operands over_types meaning.wants t.slots) (under meaning.wants t.slots))

-- ---- handlers (JVMS 4.7.3, 4.10.1.6)

-- the class that an entry takes; each Throwable where it names none
abbrev pub caught_class : List Entry → ExceptionEntry → Name
caught_class pool e = if e.catch_type == 0 then java_lang_throwable else unwrap_or (class_name_at pool e.catch_type) []

abbrev pub caught_type : Program → List Entry → ExceptionEntry → VerificationType
caught_type files pool e = OfType (made_type files (type_named (caught_class pool e)))

-- a handler begins with the local variables from before the instruction, and the exception alone on the stack
abbrev pub handler_type : Program → List Entry → FrameType → ExceptionEntry → ℕ × FrameType
handler_type files pool t e =
    (e.handler, record t { slots = record { locals = t.slots.locals; stack = caught_type files pool e ∷ [] } })

abbrev pub handlers_from : Program → List Entry → ℕ → FrameType → List ExceptionEntry → List (ℕ × FrameType)
handlers_from files pool offset t [] = []
handlers_from files pool offset t (e ∷ es) =
    if covers offset e
    then handler_type files pool t e ∷ handlers_from files pool offset t es
    else handlers_from files pool offset t es

-- ---- flow

abbrev pub flow_by : Program → Site → FrameType → Option (MeaningOf Value) → Option (List (ℕ × FrameType))
flow_by files site t None = None
flow_by files site t (Some meaning) =
    if may_stand site t site.instr && is_ready (type_meets files) over_types meaning.wants site.body.code.max_stack t.slots
    then Some (successors site meaning t ++ handlers_from files site.body.pool site.offset t site.body.code.exceptions)
    else None

abbrev pub flow_at : Program → FrameType → Option Site → Option (List (ℕ × FrameType))
flow_at files t None = None
flow_at files t (Some site) = flow_by files site t (meaning_of values files site)

-- where the instruction at an offset leads from a frame type, its handlers included; none where no instruction begins at
-- the offset, or where the instruction must not find this frame type
abbrev pub flow : Program → Member → Body → ℕ → FrameType → Option (List (ℕ × FrameType))
flow files method body offset t = flow_at files t (site_at method body offset)

-- ---- typings

-- frame types at some offsets
abbrev pub Typing : Type 0
Typing = ℕ → Option FrameType

-- an offset is typed, at or above a frame type
pub record Reaches (files : Program) (F : Typing) (offset : ℕ) (t : FrameType) : Type 0 where
  pub there : FrameType
  pub typed : F offset ≡ Some there
  pub above : IsTrue (is_frame_below files t there)

-- as many local variables as the method has, and no more on the stack than it says (JVMS 4.7.3)
pub record IsSized (body : Body) (t : FrameType) : Type 0 where
  pub locals : length t.slots.locals ≡ body.code.max_locals
  pub stack : length t.slots.stack ≤ body.code.max_stack

-- the rule holds at an offset, and each offset to which it leads is typed, at or above what it gives
pub record Rule (files : Program) (method : Member) (body : Body) (F : Typing) (offset : ℕ) (t : FrameType) : Type 0 where
  pub leads : List (ℕ × FrameType)
  pub flows : flow files method body offset t ≡ Some leads
  pub reached : AllByRecursion (λ lead. Reaches files F lead.0 lead.1) leads

-- frame types at instruction boundaries alone (JVMS 4.9.1)
pub record IsTyping (files : Program) (method : Member) (body : Body) (F : Typing) : Type 0 where
  pub begins : Reaches files F 0 (entry_type files method body)
  pub starts : (offset : ℕ) (t : FrameType) → F offset ≡ Some t → IsTrue (is_start body.code.code offset)
  pub sized : (offset : ℕ) (t : FrameType) → F offset ≡ Some t → IsSized body t
  pub agrees : (offset : ℕ) (t : FrameType) → F offset ≡ Some t → Rule files method body F offset t

-- a method passes verification
pub record HasTyping (files : Program) (method : Member) (body : Body) : Type 0 where
  pub typing : Typing
  pub holds : IsTyping files method body typing

-- each method with code passes it, those of the built-in classes too
abbrev pub AreTyped : Program → Type 0
AreTyped files = (method : Member) (body : Body) → body_of files method ≡ Some body → HasTyping files method body
