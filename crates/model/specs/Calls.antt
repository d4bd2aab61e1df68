-- What the invoking instructions and the returns mean (JVMS 6.5, 2.6.4, 2.11.10).
use Rattle.std.specs.Prelude.{ℕ, List, [], ◌∷◌, ◌++◌, Option, Some, None, Bool, true, false, not, ◌&&◌, if◌then◌else◌, length, map, reverse, slice_index_or, unwrap_or}
use Rattle.std.specs.Option.{option_map_or, option_and_then}
use Rattle.model.specs.declared.event.Event.{Event}
use Rattle.model.specs.declared.instr.Returned.{Returned}
use Rattle.model.specs.declared.instr.Returned.TheVariants as returned
use Rattle.model.specs.Names.{Name, name_eq, Member, constructor_name}
use Rattle.model.specs.Tree.{MethodTree}
use Rattle.model.specs.Pool.{method_at, interface_method_at}
use Rattle.model.specs.Classes.{Program, Body, body_of, superclass_of, is_subclass}
use Rattle.model.specs.ReferenceTypes.{ClassType, is_subtype}
use Rattle.model.specs.Lookup.{find_method, find_interface_method, method_of, select, is_static_method, is_private_method, is_abstract_method}
use Rattle.model.specs.Types.{VerificationType, NullType, Want, AnInt, AReference, AReceiver}
use Rattle.model.specs.DescribedTypes.{DeclaredType, DeclaredInt, DeclaredReference, type_named, made_type, parameters_declared, results_declared, declared_want, verification_type}
use Rattle.model.specs.InitialisedTypes.{initialised}
use Rattle.model.specs.Operands.{Slots, Wants, Carrier}
use Rattle.model.specs.State.{type_of, WorldOf}
use Rattle.model.specs.Opening.{class_reference}
use Rattle.model.specs.Outcomes.{MachineException, NullPointer, IncompatibleClassChange, AbstractMethod, OutcomeOf, Raises, Calls, Returns}
use Rattle.model.specs.Worlds.{object_at, class_of_object}
use Rattle.model.specs.Frames.{frame_with, entered_by}
use Rattle.model.specs.Sites.{Leads, MeaningOf, Site, picks_none, wants_of, to_next, nowhere, operand}
use Rattle.model.specs.BuiltInMethods.{built_in_method, built_in_may, built_in_does}

-- ---- operands and results, by the descriptor

-- how many operands the parameters are
abbrev pub parameter_count : Member → ℕ
parameter_count method = length (parameters_declared method.descriptor)

-- the last parameter is on top, and a receiver under the first
abbrev pub argument_wants : Program → Member → List Want → List Want
argument_wants files method receiver = reverse (map (declared_want files) (parameters_declared method.descriptor)) ++ receiver

abbrev pub result_types : Program → Member → List VerificationType
result_types files method = map (verification_type files) (results_declared method.descriptor)

abbrev pub call_wants : Program → Member → List Want → Wants
call_wants files method receiver = wants_of (argument_wants files method receiver) (length (results_declared method.descriptor))

-- ---- which method an invocation runs

-- an exception, or a method that is not abstract
pub data Chosen : Type 0 where
  Fails : (fault : MachineException) → Chosen
  Runs : (method : Member) → Chosen

abbrev pub is_one : (MethodTree → Bool) → Program → Member → Bool
is_one test files method = option_map_or test (method_of files method) false

-- none, or an abstract one, is an AbstractMethodError
abbrev pub if_concrete : Program → Option Member → Chosen
if_concrete files None = Fails AbstractMethod
if_concrete files (Some method) = if is_one is_abstract_method files method then Fails AbstractMethod else Runs method

-- a private method is run itself (own); else the nearest one from a class upwards is selected
abbrev pub selected : Program → Name → Member → Chosen
selected files class method = if is_one is_private_method files method then Runs method else if_concrete files (select files class method)

abbrev pub its_class : {A : Type 0} → WorldOf A → ℕ → Name
its_class world r = class_of_object (object_at world r)

abbrev pub of_receiver : Option ℕ → (ℕ → Chosen) → Chosen
of_receiver None choose = Fails NullPointer
of_receiver (Some r) choose = choose r

-- ---- what an invocation does: a method with code gets a frame, one without is done at once

abbrev pub runs : {A : Type 0} → Carrier A → Program → Site → Event → WorldOf A → Slots A → List A → List A → ℕ → Member → Option Body
    → OutcomeOf A
runs C files site event world slots ops rest object method None = built_in_does C files (built_in_method method) site.next event world slots ops rest
runs C files site event world slots ops rest object method (Some body) = Calls (frame_with C method (reverse ops) (entered_by files method object) body) rest

-- `object` is the one whose monitor a synchronized method enters
abbrev pub invoked : {A : Type 0} → Carrier A → Program → Site → Event → WorldOf A → Slots A → List A → List A → ℕ → Chosen → OutcomeOf A
invoked C files site event world slots ops rest object (Fails fault) = Raises fault
invoked C files site event world slots ops rest object (Runs method) = runs C files site event world slots ops rest object method (body_of files method)

abbrev pub may_run : {A : Type 0} → Carrier A → Event → WorldOf A → List A → Member → Option Body → Bool
may_run C event world ops method None = built_in_may C (built_in_method method) event world ops
may_run C event world ops method (Some body) = picks_none event world ops

abbrev pub may_invoke : {A : Type 0} → Carrier A → Program → Event → WorldOf A → List A → Chosen → Bool
may_invoke C files event world ops (Fails fault) = picks_none event world ops
may_invoke C files event world ops (Runs method) = may_run C event world ops method (body_of files method)

-- a call on a receiver: what it wants, where it leads, and which method is run by the receiver
abbrev pub call_on : {A : Type 0} → Carrier A → Program → Site → Member → List Want → Leads → (WorldOf A → ℕ → Chosen) → MeaningOf A
call_on C files site method receiver leads choose =
    record {
      looks = None;
      wants = call_wants files method receiver;
      leads = leads;
      may = λ event world ops. may_invoke C files event world ops (of_receiver (C.referent (operand C ops (parameter_count method))) (choose world));
      does = λ event world slots ops rest.
          invoked C files site event world slots ops rest (unwrap_or (C.referent (operand C ops (parameter_count method))) 0)
          (of_receiver (C.referent (operand C ops (parameter_count method))) (choose world));
    }

abbrev pub leads_after : Program → Site → Member → Leads
leads_after files site method = to_next site.next (result_types files method)

-- a reference to an object of the class that an instruction names
abbrev pub of_class : Program → Name → Want
of_class files class = AReference (made_type files (ClassType class))

-- ---- invokestatic: .., [arg1, [arg2 ..]] -> ..

-- The class that declares the method is initialised first.
abbrev pub static_call : {A : Type 0} → Carrier A → Program → Site → Member → MeaningOf A
static_call C files site method =
    record {
      looks = Some method.class;
      wants = call_wants files method [];
      leads = leads_after files site method;
      may = λ event world ops. may_invoke C files event world ops (Runs method);
      does = λ event world slots ops rest. invoked C files site event world slots ops rest (class_reference files method.class) (Runs method);
    }

-- ---- invokevirtual: .., objectref, [arg1, [arg2 ..]] -> ..

-- a reference to what an instruction names: an object of a class, or an array (JVMS 4.4.1)
abbrev pub of_named : Program → Name → Want
of_named files named = AReference (made_type files (type_named named))

-- The method is selected by the class of the receiver, which is of the class or of the array type that the instruction names.
abbrev pub virtual_call : {A : Type 0} → Carrier A → Program → Site → Name → Member → MeaningOf A
virtual_call C files site named method =
    call_on C files site method (of_named files named ∷ []) (leads_after files site method) (λ world r. selected files (its_class world r) method)

-- ---- invokeinterface: .., objectref, [arg1, [arg2 ..]] -> ..

abbrev pub if_implements : Bool → Chosen → Chosen
if_implements true chosen = chosen
if_implements false chosen = Fails IncompatibleClassChange

-- A receiver that does not implement the interface is an IncompatibleClassChangeError; else the method is selected by its class.
abbrev pub interface_call : {A : Type 0} → Carrier A → Program → Site → Name → Member → MeaningOf A
interface_call C files site named method =
    call_on C files site method (of_class files named ∷ []) (leads_after files site method)
    (λ world r. if_implements (is_subtype files (type_of (object_at world r)) (ClassType named)) (selected files (its_class world r) method))

-- ---- invokespecial: .., objectref, [arg1, [arg2 ..]] -> ..

-- where selection begins: above the current class, where the instruction names a superclass of it, and else at the class that it
-- names
abbrev pub special_class : Program → Name → Name → Name
special_class files current named =
    if not (name_eq current named) && is_subclass files current named then unwrap_or (superclass_of files current) named else named

-- The receiver is of the current class, which alone does not choose the method.
abbrev pub special_call : {A : Type 0} → Carrier A → Program → Site → Name → Member → MeaningOf A
special_call C files site named method =
    call_on C files site method (of_class files site.method.class ∷ []) (leads_after files site method)
    (λ world r. selected files (special_class files site.method.class named) method)

-- a constructor leaves all copies of its receiver initialised
abbrev pub constructed_leads : Site → Member → Slots VerificationType → List VerificationType → List VerificationType
    → List (ℕ × Slots VerificationType)
constructed_leads site method ts ops rest = (
  site.next,
  record {
    locals = map (initialised (slice_index_or ops (parameter_count method) NullType)) ts.locals;
    stack = map (initialised (slice_index_or ops (parameter_count method) NullType)) rest;
  },
)
    ∷ []

-- A constructor is the one that the named class declares.
abbrev pub constructor_call : {A : Type 0} → Carrier A → Program → Site → Member → MeaningOf A
constructor_call C files site method =
    call_on C files site method (AReceiver method.class ∷ []) (constructed_leads site method) (λ world r. Runs method)

-- ---- what the index of a site names

-- the method is there, and is static or not as is wanted
abbrev pub if_method : {A : Type 0} → (MethodTree → Bool) → Program → (Member → MeaningOf A) → Member → Option (MeaningOf A)
if_method test files meaning method = if is_one test files method then Some (meaning method) else None

abbrev pub is_instance_one : MethodTree → Bool
is_instance_one method = not (is_static_method method)

abbrev pub static_at : {A : Type 0} → Carrier A → Program → Site → ℕ → Option (MeaningOf A)
static_at C files site index =
    option_and_then (if_method is_static_method files (static_call C files site)) (option_and_then (find_method files) (method_at site.body.pool index))

abbrev pub virtual_of : {A : Type 0} → Carrier A → Program → Site → Member → Option (MeaningOf A)
virtual_of C files site named =
    option_and_then (if_method is_instance_one files (virtual_call C files site named.class)) (find_method files named)

abbrev pub special_of : {A : Type 0} → Carrier A → Program → Site → Member → Option (MeaningOf A)
special_of C files site named =
    if name_eq named.name constructor_name
    then if_method is_instance_one files (constructor_call C files site) named
    else option_and_then (if_method is_instance_one files (special_call C files site named.class)) (find_method files named)

abbrev pub special_at : {A : Type 0} → Carrier A → Program → Site → ℕ → Option (MeaningOf A)
special_at C files site index = option_and_then (special_of C files site) (method_at site.body.pool index)

abbrev pub interface_of : {A : Type 0} → Carrier A → Program → Site → Member → Option (MeaningOf A)
interface_of C files site named =
    option_and_then (if_method is_instance_one files (interface_call C files site named.class)) (find_interface_method files named)

abbrev pub interface_at : {A : Type 0} → Carrier A → Program → Site → ℕ → Option (MeaningOf A)
interface_at C files site index = option_and_then (interface_of C files site) (interface_method_at site.body.pool index)

-- ---- returns

-- the kind of return of a method, by the type of its result (JVMS 4.3.3, 6.5): `return`, `ireturn` or `areturn`
abbrev pub returned_by : List DeclaredType → Returned
returned_by [] = returned.Nothing
returned_by (DeclaredInt ∷ others) = returned.Int
returned_by (DeclaredReference type ∷ others) = returned.Reference

abbrev pub returned_of : Name → Returned
returned_of descriptor = returned_by (results_declared descriptor)

abbrev pub is_nothing : Returned → Bool
is_nothing returned.Nothing = true
is_nothing returned.Int = false
is_nothing returned.Reference = false

abbrev pub is_int_returned : Returned → Bool
is_int_returned returned.Nothing = false
is_int_returned returned.Int = true
is_int_returned returned.Reference = false

abbrev pub is_reference_returned : Returned → Bool
is_reference_returned returned.Nothing = false
is_reference_returned returned.Int = false
is_reference_returned returned.Reference = true

-- return: .. -> [empty]
abbrev pub return_meaning : {A : Type 0} → Name → MeaningOf A
return_meaning descriptor =
    record {
      looks = None;
      wants = record { allowed = is_nothing (returned_of descriptor); reads = []; pops = []; grows = 0 };
      leads = nowhere;
      may = picks_none;
      does = λ event world slots ops rest. Returns world [];
    }

-- a return of the top, where the method returns such a value
abbrev pub value_return : {A : Type 0} → Carrier A → Bool → List Want → MeaningOf A
value_return C allowed pops =
    record {
      looks = None;
      wants = record { allowed = allowed; reads = []; pops = pops; grows = 0 };
      leads = nowhere;
      may = picks_none;
      does = λ event world slots ops rest. Returns world (operand C ops 0 ∷ []);
    }

-- ireturn: .., value -> [empty]; the int is not narrowed to a smaller type (own)
abbrev pub int_return_meaning : {A : Type 0} → Carrier A → Name → MeaningOf A
int_return_meaning C descriptor = value_return C (is_int_returned (returned_of descriptor)) (AnInt ∷ [])

-- areturn: .., objectref -> [empty]
abbrev pub reference_return_meaning : {A : Type 0} → Carrier A → Program → Name → MeaningOf A
reference_return_meaning C files descriptor =
    value_return C (is_reference_returned (returned_of descriptor)) (map (declared_want files) (results_declared descriptor))

abbrev pub return_of : {A : Type 0} → Carrier A → Program → Name → Returned → MeaningOf A
return_of C files descriptor returned.Nothing = return_meaning descriptor
return_of C files descriptor returned.Int = int_return_meaning C descriptor
return_of C files descriptor returned.Reference = reference_return_meaning C files descriptor
