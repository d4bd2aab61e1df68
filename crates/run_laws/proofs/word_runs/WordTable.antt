-- Each instruction means for words what it means for values.
use Rattle.std.proofs.Common.{ℕ, Option, Some, None}
use Rattle.model.specs.declared.value.Value.{Value}
use Rattle.model.specs.Names.{java_lang_class, java_lang_string}
use Rattle.model.specs.Classes.{Program}
use Rattle.model.specs.DescribedTypes.{type_named}
use Rattle.model.specs.Operands.{words, values}
use Rattle.model.specs.Opening.{class_reference, string_reference}
use Rattle.model.specs.Sites.{MeaningOf, Site}
use Rattle.model.specs.Meanings.{meaning_of}
use Rattle.run_laws.proofs.laws.Operations.{Operation, OfRow, GetSystemStream, GetStatic, PutStatic, GetField, PutField, Println, CallVirtual, CallConstructor, CallSpecial, CallStatic, CallInterface, Return, LoadClass, LoadString, New, NewArray, NewReferenceArray, ArrayLength, LoadElement, StoreElement, CheckCast, InstanceOf, Throw, MonitorEnter, MonitorExit, operation, Operates, nothing, does, operates}
use Rattle.run_laws.proofs.word_runs.WordMeanings.{Same, local_same, system_stream_same, get_static_same, put_static_same, get_field_same, put_field_same, println_same, new_same, check_cast_same, instance_of_same, object_same, throw_same, enter_same, exit_same}
use Rattle.run_laws.proofs.word_runs.WordArrays.{primitive_array_same, reference_array_same, length_same, load_of_same, store_of_same}
use Rattle.run_laws.proofs.word_runs.WordCalls.{static_same, virtual_same, interface_same, special_same, constructor_same, return_same}

-- both have a meaning, and the same, or none has one
abbrev pub SameIf : Program → Option (MeaningOf Value) → Option (MeaningOf ℕ) → Type 0
SameIf files None None = Unit {0}
SameIf files None (Some w) = ⊥
SameIf files (Some v) None = ⊥
SameIf files (Some v) (Some w) = Same files v w

module _ (files : Program) (site : Site) where
  operation_same : (o : Operation files site) → Same files (operation values files site o) (operation words files site o)
  operation_same (OfRow row e) = local_same files row
  operation_same (GetSystemStream index stream n) = system_stream_same files site.next stream
  operation_same (GetStatic f) = get_static_same files site.next f.field
  operation_same (PutStatic f) = put_static_same files site.next f.field
  operation_same (GetField f) = get_field_same files site.next f.named.class f.field
  operation_same (PutField f) = put_field_same files site.next f.named.class f.field
  operation_same (Println call e) = println_same files site.next
  operation_same (CallVirtual call e m) = virtual_same files site call.named.class m.method
  operation_same (CallConstructor call e passes) = constructor_same files site call.named
  operation_same (CallSpecial call e m) = special_same files site call.named.class m.method
  operation_same (CallStatic index i m) = static_same files site m.method m.passes
  operation_same (CallInterface call m) = interface_same files site call.named.class m.method
  operation_same (Return kind i) = return_same files site.method.descriptor kind
  operation_same (LoadClass constant file e) = object_same files site java_lang_class (class_reference files constant.text)
  operation_same (LoadString constant) = object_same files site java_lang_string (string_reference files constant.text)
  operation_same (New class file e) = new_same files site class.name
  operation_same (NewArray code of i e) = primitive_array_same files site of
  operation_same (NewReferenceArray class) = reference_array_same files site (type_named class.name)
  operation_same (ArrayLength i) = length_same files site
  operation_same (LoadElement kind i) = load_of_same files site kind
  operation_same (StoreElement kind i) = store_of_same files site kind
  operation_same (CheckCast class) = check_cast_same files site (type_named class.name)
  operation_same (InstanceOf class) = instance_of_same files site (type_named class.name)
  operation_same (Throw i) = throw_same files
  operation_same (MonitorEnter i) = enter_same files site
  operation_same (MonitorExit i) = exit_same files site

  same_if : {v : Option (MeaningOf Value)} {w : Option (MeaningOf ℕ)} → Operates values words files site v w → SameIf files v w
  same_if nothing = tt
  same_if (does o) = operation_same o

  pub meaning_same : SameIf files (meaning_of values files site) (meaning_of words files site)
  meaning_same = same_if (operates values words files site)
