-- Every instruction brings about what its typing says: the table of meanings.
use Rattle.std.proofs.Common.{◌≡◌, List, true, Option, Some, None, refl, sym, ap, subst}
use Rattle.std.specs.Option.{option_map, option_and_then}
use Rattle.std.specs.List.{list_any}
use Rattle.std.proofs.lemmas.Option.{same_Some}
use Rattle.model.specs.declared.event.Event.{Event}
use Rattle.model.specs.declared.instr.Returned.{Returned}
use Rattle.model.specs.declared.instr.Returned.TheVariants as returned
use Rattle.model.specs.declared.value.Value.{Value}
use Rattle.model.specs.Names.{name_eq, Member}
use Rattle.model.specs.Tree.{Entry, String, CodeTree, FileTree, MethodTree}
use Rattle.model.specs.StringConstants.{string_texts}
use Rattle.model.specs.Spelling.{entry_at}
use Rattle.model.specs.Pool.{utf8_at}
use Rattle.model.specs.Classes.{Program, Body, with_pool, body_in, class_of, declared_in, code_in}
use Rattle.model.specs.DescribedTypes.{type_named}
use Rattle.model.specs.Operands.{values}
use Rattle.model.specs.State.{Frame, World}
use Rattle.model.specs.Sites.{MeaningOf, Site}
use Rattle.model.specs.Step.{ops_of}
use Rattle.model.specs.Calls.{return_of}
use Rattle.run_laws.proofs.laws.Operations.{NamedText, Operation, OfRow, GetSystemStream, GetStatic, PutStatic, GetField, PutField, Println, CallVirtual, CallConstructor, CallSpecial, CallStatic, CallInterface, Return, LoadClass, LoadString, New, NewArray, NewReferenceArray, ArrayLength, LoadElement, StoreElement, CheckCast, InstanceOf, Throw, MonitorEnter, MonitorExit, operation, OfMeaning, each_meaning}
use Rattle.run_laws.proofs.typed_runs.Called.{BuiltInTyped}
use Rattle.run_laws.proofs.typed_runs.Going.{Here, Allows}
use Rattle.run_laws.proofs.typed_runs.Flows.{InstructionsTyped}
use Rattle.run_laws.proofs.typed_runs.Instructions.{Does, row_typed, get_static_typed, put_static_typed, get_field_typed, put_field_typed, println_typed, throw_typed, monitor_enter_typed, monitor_exit_typed}
use Rattle.run_laws.proofs.typed_runs.ObjectInstructions.{class_constant_typed, string_constant_typed, system_stream_typed, new_typed, check_cast_typed, instance_of_typed, return_typed, int_return_typed, reference_return_typed}
use Rattle.run_laws.proofs.typed_runs.ArrayInstructions.{primitive_array_typed, reference_array_typed, array_length_typed, load_typed, store_typed}
use Rattle.run_laws.proofs.typed_runs.Invocations.{static_typed, virtual_typed, interface_typed, special_typed, constructor_typed}

-- ---- the file of a method with code

record FileOf (files : Program) (method : Member) (body : Body) : Type 0 where
  file : FileTree
  is : class_of files method.class ≡ Some file
  pool : body.pool ≡ file.pool

coded_pool : (pool : List Entry) (o : Option CodeTree) (body : Body) → option_map (with_pool pool) o ≡ Some body → body.pool ≡ pool
coded_pool pool None body e = absurd cc
coded_pool pool (Some code) body e = sym (ap (λ (b : Body). b.pool) (same_Some (with_pool pool code) body e))

file_of : (files : Program) (method : Member) (body : Body) (o : Option FileTree) → class_of files method.class ≡ o
    → option_and_then (body_in method.name method.descriptor) o ≡ Some body → FileOf files method body
file_of files method body None q e = absurd cc
file_of files method body (Some file) q e =
    record { file = file; is = q; pool = coded_pool file.pool (option_and_then (λ (m : MethodTree). code_in m.parts) (declared_in file method.name method.descriptor)) body e }

module _ (files : Program) (built_ins : BuiltInTyped files) (event : Event) (w : World) (f : Frame) (site : Site)
    (h : Here files event.thread w f site) where
  -- an instruction that the event may do brings about what its typing says
  abbrev Done : MeaningOf Value → Type 0
  Done m = Allows files f h.ready.stopped.stands site m → m.may event w (ops_of values m f.place.slots) ≡ true → Does files event w f m

  string_found : (constant : NamedText site String) → list_any (name_eq constant.text) (string_texts files) ≡ true
  string_found constant =
      let file = file_of files site.method site.body (class_of files site.method.class) refl h.is_body in
      h.linked.string_known site.method.class file.file file.is constant.index constant.place constant.text (subst (λ pool. entry_at pool constant.index ≡ String constant.place) file.pool constant.is_entry) (subst (λ pool. utf8_at pool constant.place ≡ Some constant.text) file.pool constant.names)

  return_done : (kind : Returned) → Done (return_of values files site.method.descriptor kind)
  return_done returned.Nothing a may = return_typed files event w f site h a
  return_done returned.Int a may = int_return_typed files event w f site h a
  return_done returned.Reference a may = reference_return_typed files event w f site h a

  operation_done : (o : Operation files site) → Done (operation values files site o)
  operation_done (OfRow row e) a may = row_typed files event w f site h row a
  operation_done (GetSystemStream index stream n) a may = system_stream_typed files event w f site h n.named stream n.streams a
  operation_done (GetStatic n) a may = get_static_typed files event w f site h n.field a
  operation_done (PutStatic n) a may = put_static_typed files event w f site h n.field a
  operation_done (GetField n) a may = get_field_typed files event w f site h n.named.class n.field a
  operation_done (PutField n) a may = put_field_typed files event w f site h n.named.class n.field a
  operation_done (Println call e) a may = println_typed files event w f site h a
  operation_done (CallVirtual call e m) a may = virtual_typed files built_ins event w f site h call.index call.named m.method call.instruction call.names m.found m.passes a may
  operation_done (CallConstructor call e passes) a may = constructor_typed files built_ins event w f site h call.named e passes a may
  operation_done (CallSpecial call e m) a may = special_typed files built_ins event w f site h call.index call.named m.method call.instruction call.names e m.found m.passes a may
  operation_done (CallStatic index i m) a may = static_typed files built_ins event w f site h m.method m.passes a may
  operation_done (CallInterface call m) a may = interface_typed files built_ins event w f site h call.index call.count call.last call.named m.method call.instruction call.names m.found m.passes a may
  operation_done (Return kind i) a may = return_done kind a may
  operation_done (LoadClass constant file e) a may = class_constant_typed files event w f site h constant.text file e a
  operation_done (LoadString constant) a may = string_constant_typed files event w f site h constant.text (string_found constant) a
  operation_done (New class file e) a may = new_typed files event w f site h class.name a
  operation_done (NewArray code of i e) a may = primitive_array_typed files event w f site h of a
  operation_done (NewReferenceArray class) a may = reference_array_typed files event w f site h (type_named class.name) a
  operation_done (ArrayLength i) a may = array_length_typed files event w f site h a
  operation_done (LoadElement kind i) a may = load_typed files event w f site h kind a
  operation_done (StoreElement kind i) a may = store_typed files event w f site h kind a
  operation_done (CheckCast class) a may = check_cast_typed files event w f site h (type_named class.name) a
  operation_done (InstanceOf class) a may = instance_of_typed files event w f site h (type_named class.name) a
  operation_done (Throw i) a may = throw_typed files event w f site h a
  operation_done (MonitorEnter i) a may = monitor_enter_typed files event w f site h a
  operation_done (MonitorExit i) a may = monitor_exit_typed files event w f site h a

-- each instruction brings about what its typing says, where the methods of the machine do
pub meaning_typed : (files : Program) → BuiltInTyped files → InstructionsTyped files
meaning_typed files built_ins event w f site h m e a may =
    let done = Done files built_ins event w f site h in
    let each : OfMeaning done (Some m) = subst (OfMeaning done) e (each_meaning values files site done (operation_done files built_ins event w f site h)) in
    each a may
