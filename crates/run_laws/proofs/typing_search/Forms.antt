-- Where instructions lead has few forms; what holds of each form holds of every instruction.
use Rattle.std.proofs.Common.{ℕ, List, [], ◌∷◌, Option}
use Rattle.model.specs.declared.instr.ArrayKind.{ArrayKind}
use Rattle.model.specs.declared.instr.ArrayKind.TheVariants as array_kind
use Rattle.model.specs.declared.instr.Returned.{Returned}
use Rattle.model.specs.declared.instr.Returned.TheVariants as returned
use Rattle.model.specs.declared.value.Value.{Value}
use Rattle.model.specs.Names.{Name, Member, java_lang_class, java_lang_string, java_lang_throwable, java_io_print_stream}
use Rattle.model.specs.Classes.{Program}
use Rattle.model.specs.ReferenceTypes.{ClassType, PrimitiveArray, ReferenceArray}
use Rattle.model.specs.Types.{VerificationType, IntType, OfType, AReference, AnArray}
use Rattle.model.specs.DescribedTypes.{type_named, made_type, verification_type, field_declared}
use Rattle.model.specs.Operands.{Slots, values, Wants}
use Rattle.model.specs.Rows.{Row, row_wants}
use Rattle.model.specs.Sites.{MeaningOf, Site, wants_of, to_next}
use Rattle.model.specs.Sites as sites
use Rattle.model.specs.Objects.{any_object, new_leads, check_cast_meaning, instance_of_meaning}
use Rattle.model.specs.Arrays.{load_of, store_of, primitive_array_meaning, reference_array_meaning}
use Rattle.model.specs.Calls.{result_types, constructed_leads, static_call, virtual_call, special_call, constructor_call, interface_call, return_of}
use Rattle.model.specs.Meanings.{local_meaning, put_static_of, get_field_of, put_field_of, println_meaning, meaning_of}
use Rattle.run_laws.proofs.laws.Operations.{Operation, OfRow, GetSystemStream, GetStatic, PutStatic, GetField, PutField, Println, CallVirtual, CallConstructor, CallSpecial, CallStatic, CallInterface, Return, LoadClass, LoadString, New, NewArray, NewReferenceArray, ArrayLength, LoadElement, StoreElement, CheckCast, InstanceOf, Throw, MonitorEnter, MonitorExit, operation, OfMeaning, each_meaning}

abbrev pub Leading : Type 0
Leading = Slots VerificationType → List VerificationType → List VerificationType → List (ℕ × Slots VerificationType)

-- of what an instruction wants, and where it leads
abbrev pub OfLeads : (Wants → Leading → Type 0) → Option (MeaningOf Value) → Type 0
OfLeads P o = OfMeaning (λ (m : MeaningOf Value). P m.wants m.leads) o

module _ (files : Program) (P : Wants → Leading → Type 0)
    (next : (to : ℕ) (pushed : List VerificationType) (w : Wants) → P w (to_next to pushed)) (nowhere : (w : Wants) → P w sites.nowhere)
    (row_leads : (row : Row) → P (row_wants row) (local_meaning values row).leads)
    (new : (site : Site) (class : Name) (w : Wants) → P w (new_leads site class))
    (constructed : (site : Site) (method : Member) (w : Wants) → P w (constructed_leads site method))
    (element : (site : Site) → P (load_of values files site array_kind.Reference).wants
    (load_of values files site array_kind.Reference).leads) where
  abbrev Of : MeaningOf Value → Type 0
  Of meaning = P meaning.wants meaning.leads

  -- ---- instructions, one by one

  call_each : (site : Site) (method : Member) (w : Wants) → P w (to_next site.next (result_types files method))
  call_each site method w = next site.next (result_types files method) w

  return_each : (descriptor : Name) (kind : Returned) → Of (return_of values files descriptor kind)
  return_each descriptor returned.Nothing = nowhere (return_of values files descriptor returned.Nothing).wants
  return_each descriptor returned.Int = nowhere (return_of values files descriptor returned.Int).wants
  return_each descriptor returned.Reference = nowhere (return_of values files descriptor returned.Reference).wants

  load_each : (site : Site) (kind : ArrayKind) → Of (load_of values files site kind)
  load_each site array_kind.Int = next site.next (IntType ∷ []) (load_of values files site array_kind.Int).wants
  load_each site array_kind.Reference = element site
  load_each site array_kind.ByteOrBoolean = next site.next (IntType ∷ []) (load_of values files site array_kind.ByteOrBoolean).wants
  load_each site array_kind.Char = next site.next (IntType ∷ []) (load_of values files site array_kind.Char).wants
  load_each site array_kind.Short = next site.next (IntType ∷ []) (load_of values files site array_kind.Short).wants

  store_each : (site : Site) (kind : ArrayKind) → Of (store_of values files site kind)
  store_each site array_kind.Int = next site.next [] (store_of values files site array_kind.Int).wants
  store_each site array_kind.Reference = next site.next [] (store_of values files site array_kind.Reference).wants
  store_each site array_kind.ByteOrBoolean = next site.next [] (store_of values files site array_kind.ByteOrBoolean).wants
  store_each site array_kind.Char = next site.next [] (store_of values files site array_kind.Char).wants
  store_each site array_kind.Short = next site.next [] (store_of values files site array_kind.Short).wants

  operation_each : (site : Site) (o : Operation files site) → Of (operation values files site o)
  operation_each site (OfRow row e) = row_leads row
  operation_each site (GetSystemStream index stream n) = next site.next (OfType (ClassType java_io_print_stream) ∷ []) (wants_of [] 1)
  operation_each site (GetStatic f) = next site.next (verification_type files (field_declared f.field.descriptor) ∷ []) (wants_of [] 1)
  operation_each site (PutStatic f) = next site.next [] (put_static_of values files site.next f.field).wants
  operation_each site (GetField f) = next site.next (verification_type files (field_declared f.field.descriptor) ∷ []) (get_field_of values files site.next f.named.class f.field).wants
  operation_each site (PutField f) = next site.next [] (put_field_of values files site.next f.named.class f.field).wants
  operation_each site (Println call e) = next site.next [] (println_meaning values site.next).wants
  operation_each site (CallVirtual call e m) = call_each site m.method (virtual_call values files site call.named.class m.method).wants
  operation_each site (CallConstructor call e passes) = constructed site call.named (constructor_call values files site call.named).wants
  operation_each site (CallSpecial call e m) = call_each site m.method (special_call values files site call.named.class m.method).wants
  operation_each site (CallStatic index i m) = call_each site m.method (static_call values files site m.method).wants
  operation_each site (CallInterface call m) = call_each site m.method (interface_call values files site call.named.class m.method).wants
  operation_each site (Return kind i) = return_each site.method.descriptor kind
  operation_each site (LoadClass constant file e) = next site.next (OfType (ClassType java_lang_class) ∷ []) (wants_of [] 1)
  operation_each site (LoadString constant) = next site.next (OfType (ClassType java_lang_string) ∷ []) (wants_of [] 1)
  operation_each site (New class file e) = new site class.name (wants_of [] 1)
  operation_each site (NewArray code of i e) = next site.next (OfType (made_type files (PrimitiveArray of)) ∷ []) (primitive_array_meaning values files site of).wants
  operation_each site (NewReferenceArray class) = next site.next (OfType (made_type files (ReferenceArray (type_named class.name))) ∷ []) (reference_array_meaning values files site (type_named class.name)).wants
  operation_each site (ArrayLength i) = next site.next (IntType ∷ []) (wants_of (AnArray ∷ []) 1)
  operation_each site (LoadElement kind i) = load_each site kind
  operation_each site (StoreElement kind i) = store_each site kind
  operation_each site (CheckCast class) = next site.next (OfType (made_type files (type_named class.name)) ∷ []) (check_cast_meaning values files site (type_named class.name)).wants
  operation_each site (InstanceOf class) = next site.next (IntType ∷ []) (instance_of_meaning values files site (type_named class.name)).wants
  operation_each site (Throw i) = nowhere (wants_of (AReference (ClassType java_lang_throwable) ∷ []) 0)
  operation_each site (MonitorEnter i) = next site.next [] (wants_of (AReference any_object ∷ []) 0)
  operation_each site (MonitorExit i) = next site.next [] (wants_of (AReference any_object ∷ []) 0)

  pub meaning_each : (site : Site) → OfLeads P (meaning_of values files site)
  meaning_each site = each_meaning values files site Of (operation_each site)
