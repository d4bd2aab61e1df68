-- The text of a StringBuilder in a well-typed heap: null, or a reference to a String.
use Rattle.std.proofs.Common.{◌≡◌, List, true, refl, subst}
use Rattle.model.specs.declared.value.Value.{Value}
use Rattle.model.specs.declared.value.Value.TheVariants as value
use Rattle.model.specs.Names.{builder_text, java_lang_string}
use Rattle.model.specs.BuiltIn.{built_in_classes}
use Rattle.model.specs.Classes.{Program}
use Rattle.model.specs.DescriptorScan.{field_type, field_at, element_at}
use Rattle.model.specs.DescribedTypes.{field_declared, verification_type}
use Rattle.model.specs.ReferenceTypes.{ReferenceType, ClassType}
use Rattle.model.specs.Types.{OfType}
use Rattle.model.specs.Operands.{values}
use Rattle.model.specs.State.{ObjectOf, types_of, World}
use Rattle.model.specs.Opening.{first_of}
use Rattle.model.specs.Worlds.{object_at, fields_of, value_in}
use Rattle.model.specs.BuilderMethods.{kept_string}
use Rattle.model.specs.WellTyped.{has_type, is_object_typed}
use Rattle.run_laws.proofs.typed_runs.Objects.{HeapTyped, value_in_typed}
use Rattle.run_laws.proofs.typed_runs.Instructions.{fields_typed, at_typed}
use Rattle.run_laws.proofs.typed_runs.Names.{told, names_kept}
use Rattle.run_laws.proofs.word_runs.WordWorlds.{KeepsTexts}

pub text_type : (files : Program) → verification_type files (field_declared builder_text.descriptor) ≡ OfType (ClassType java_lang_string)
unfolding field_type field_at element_at built_in_classes
text_type files = refl

text_first : first_of values builder_text ≡ value.Null
unfolding field_type field_at element_at
text_first = refl

pub kept_string_typed : (files : Program) (os : List ReferenceType) (o : ObjectOf Value) → is_object_typed files os o ≡ true
    → has_type files os (OfType (ClassType java_lang_string)) (kept_string values o) ≡ true
kept_string_typed files os o h =
    subst (λ t. has_type files os t (kept_string values o) ≡ true) (text_type files)
    (subst (λ v. has_type files os (verification_type files (field_declared builder_text.descriptor)) (value_in v builder_text (fields_of o)) ≡ true) text_first
    (value_in_typed files os builder_text (fields_of o) (fields_typed files os o h)))

pub texts_kept : (files : Program) (world : World) → HeapTyped files world.heap → KeepsTexts world
texts_kept files world h =
    let os = types_of world.heap in
    record {
      texts = λ r. told files os (kept_string values (object_at world r)) (kept_string_typed files os (object_at world r) (at_typed files os world.heap r h));
      names = names_kept files world h;
    }
