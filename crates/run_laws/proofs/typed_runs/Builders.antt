-- The methods of StringBuilder without code: each brings about what a call of it has to.
use Rattle.std.proofs.Common.{◌≡◌, ℕ, List, [], ◌∷◌, length, true, false, Some, refl, sym, subst}
use Rattle.std.specs.Prelude.{slice_get, codes}
use Rattle.model.specs.declared.value.Value.{Value}
use Rattle.model.specs.declared.value.Value.TheVariants as value
use Rattle.model.specs.Names.{Member, java_lang_string, java_lang_string_builder, constructor_name, builder_text}
use Rattle.model.specs.BuiltIn.{built_in_classes}
use Rattle.model.specs.Classes.{Program}
use Rattle.model.specs.DescriptorScan.{method_type, field_type, parameters_at, field_at, element_at}
use Rattle.model.specs.ReferenceTypes.{ClassType}
use Rattle.model.specs.Types.{VerificationType, IntType, OfType, UninitialisedThis, is_object_below}
use Rattle.model.specs.State.{ObjectOf, Characters, types_of, World}
use Rattle.model.specs.Opening.{string_reference}
use Rattle.model.specs.Worlds.{allocated, object_at, with_field}
use Rattle.model.specs.Texts.{Text}
use Rattle.model.specs.Operands.{values}
use Rattle.model.specs.Calls.{parameter_count, result_types}
use Rattle.model.specs.BuiltInMethods.{of_string_builder}
use Rattle.model.specs.BuilderMethods.{with_string, with_composed}
use Rattle.model.specs.Typing.{has_no_receiver, argument_types}
use Rattle.model.specs.WellTyped.{has_type}
use Rattle.run_laws.proofs.laws.Lists.{get_front}
use Rattle.run_laws.proofs.laws.LinkedConstants.{empty_is_text}
use Rattle.run_laws.proofs.laws.Order.{assignable_self}
use Rattle.run_laws.proofs.typed_runs.Changes.{Fits}
use Rattle.run_laws.proofs.typed_runs.Objects.{added_below}
use Rattle.run_laws.proofs.typed_runs.OpeningObjects.{string_there}
use Rattle.run_laws.proofs.typed_runs.WorldChanges.{Keeps, keeps_trans, object_keeps, allocated_keeps}
use Rattle.run_laws.proofs.typed_runs.Instructions.{at_typed, at_there, with_field_typed, with_field_same}
use Rattle.run_laws.proofs.typed_runs.Texts.{text_type}

-- ---- what the methods take and give

abbrev pub a_string : VerificationType
a_string = OfType (ClassType java_lang_string)

abbrev pub a_builder : VerificationType
a_builder = OfType (ClassType java_lang_string_builder)

-- a method of so many parameters, with a receiver
pub record Shaped (files : Program) (method : Member) (arguments results : List VerificationType) (parameters : ℕ) : Type 0 where
  pub takes : argument_types files method ≡ arguments
  pub gives : result_types files method ≡ results
  pub receiver : has_no_receiver files method ≡ false
  pub count : parameter_count method ≡ parameters

module _ (files : Program) where
  pub empty_constructor : Shaped files (of_string_builder constructor_name (codes "()V")) (UninitialisedThis java_lang_string_builder ∷ []) [] 0
  unfolding method_type parameters_at field_at element_at field_type built_in_classes
  empty_constructor = record { takes = refl; gives = refl; receiver = refl; count = refl }

  pub string_constructor : Shaped files (of_string_builder constructor_name (codes "(Ljava/lang/String;)V")) (UninitialisedThis java_lang_string_builder ∷ a_string ∷ []) [] 1
  unfolding method_type parameters_at field_at element_at field_type built_in_classes
  string_constructor = record { takes = refl; gives = refl; receiver = refl; count = refl }

  pub append_string : Shaped files (of_string_builder (codes "append") (codes "(Ljava/lang/String;)Ljava/lang/StringBuilder;")) (a_builder ∷ a_string ∷ []) (a_builder ∷ []) 1
  unfolding method_type parameters_at field_at element_at field_type built_in_classes
  append_string = record { takes = refl; gives = refl; receiver = refl; count = refl }

  pub append_int : Shaped files (of_string_builder (codes "append") (codes "(I)Ljava/lang/StringBuilder;")) (a_builder ∷ IntType ∷ []) (a_builder ∷ []) 1
  unfolding method_type parameters_at field_at element_at field_type built_in_classes
  append_int = record { takes = refl; gives = refl; receiver = refl; count = refl }

  pub append_char : Shaped files (of_string_builder (codes "append") (codes "(C)Ljava/lang/StringBuilder;")) (a_builder ∷ IntType ∷ []) (a_builder ∷ []) 1
  unfolding method_type parameters_at field_at element_at field_type built_in_classes
  append_char = record { takes = refl; gives = refl; receiver = refl; count = refl }

  pub append_builder : Shaped files (of_string_builder (codes "append") (codes "(Ljava/lang/StringBuilder;)Ljava/lang/StringBuilder;")) (a_builder ∷ a_builder ∷ []) (a_builder ∷ []) 1
  unfolding method_type parameters_at field_at element_at field_type built_in_classes
  append_builder = record { takes = refl; gives = refl; receiver = refl; count = refl }

  pub to_string : Shaped files (of_string_builder (codes "toString") (codes "()Ljava/lang/String;")) (a_builder ∷ []) (a_string ∷ []) 0
  unfolding method_type parameters_at field_at element_at field_type built_in_classes
  to_string = record { takes = refl; gives = refl; receiver = refl; count = refl }

  -- ---- worlds

  -- a String, or null, becomes the text of an object that is there
  pub string_keeps : (world : World) (fits : Fits files world) (r : ℕ) (o : ObjectOf Value) (v : Value) → slice_get world.heap r ≡ Some o
      → has_type files (types_of world.heap) a_string v ≡ true → Keeps files world (with_string world r v)
  string_keeps world fits r o v there typed =
      let os = types_of world.heap in
      let old = object_at world r in
      let field = subst (λ t. has_type files os t v ≡ true) (sym (text_type files)) typed in
      object_keeps files world fits r old (with_field builder_text v old) (at_there world.heap r o there) (with_field_same builder_text v old) (with_field_typed files os builder_text v old field (at_typed files os world.heap r fits.heap))

  -- so does a new one
  pub composed_keeps : (world : World) (fits : Fits files world) (r : ℕ) (o : ObjectOf Value) (text : Text) → slice_get world.heap r ≡ Some o
      → Keeps files world (with_composed values world r text)
  composed_keeps world fits r o text there =
      let s : ObjectOf Value = Characters text in
      let made = allocated_keeps files world fits s refl in
      keeps_trans files world (allocated world s) (with_composed values world r text) made
      (string_keeps (allocated world s) made.fits r o (value.Reference (length world.heap)) (get_front world.heap (s ∷ []) r o there) (added_below files world.heap fits.heap s))

  -- the constant of the empty text is there
  pub empty_typed : (world : World) → Fits files world
      → has_type files (types_of world.heap) a_string (value.Reference (string_reference files [])) ≡ true
  empty_typed world fits =
      subst (λ o. is_object_below files (ClassType java_lang_string) o ≡ true) (sym (fits.opened.keeps (string_reference files []) (ClassType java_lang_string) (string_there files [] (empty_is_text files)))) (assignable_self files (ClassType java_lang_string))
