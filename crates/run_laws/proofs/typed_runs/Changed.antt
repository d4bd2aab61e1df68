-- Strings, arrays and Threads that methods without code change, and objects that they copy: each keeps a world well typed. And what
-- these methods take and give.
use Rattle.std.proofs.Common.{◌≡◌, ℕ, zero, suc, ◌+◌, List, [], ◌∷◌, ◌++◌, map, length, true, Some, refl, sym, subst}
use Rattle.std.specs.Prelude.{slice_get, slice_set, slice_index_or, codes}
use Rattle.std.specs.List.{list_all}
use Rattle.std.proofs.lemmas.Bool.{false≢true, cond_both}
use Rattle.model.specs.declared.value.Value.{Value}
use Rattle.model.specs.declared.value.Value.TheVariants as value
use Rattle.model.specs.Names.{constructor_name, java_lang_object, java_lang_string, java_lang_thread, java_lang_runnable, object_clone, thread_name}
use Rattle.model.specs.BuiltIn.{built_in_classes}
use Rattle.model.specs.Classes.{Program}
use Rattle.model.specs.DescriptorScan.{method_type, field_type, parameters_at, field_at, element_at}
use Rattle.model.specs.DescribedTypes.{made_type}
use Rattle.model.specs.ReferenceTypes.{Primitive, Char, ReferenceType, ClassType, PrimitiveArray, is_assignable}
use Rattle.model.specs.Types.{VerificationType, IntType, OfType, UninitialisedThis, is_int_value, is_object_below}
use Rattle.model.specs.Operands.{values}
use Rattle.model.specs.State.{ObjectOf, Instance, Primitives, References, Characters, type_of, types_of, World}
use Rattle.model.specs.Texts.{Text}
use Rattle.model.specs.Worlds.{allocated, no_object, object_at, with_field, with_elements, with_text, string_text}
use Rattle.model.specs.StringMethods.{is_same_text}
use Rattle.model.specs.TextMethods.{char_value, is_blank, standing_for, is_string_of, with_interned, with_text_at, with_units_at}
use Rattle.model.specs.ThreadNames.{with_one_unnamed, named}
use Rattle.model.specs.BuiltInMethods.{of_thread, of_string}
use Rattle.model.specs.WellTyped.{has_type, is_object_typed}
use Rattle.run_laws.proofs.laws.Found.{found_passes}
use Rattle.run_laws.proofs.laws.Order.{extends_self, assignable_self, has_type_more}
use Rattle.run_laws.proofs.typed_runs.Invariant.{object_typed_more}
use Rattle.run_laws.proofs.typed_runs.Changes.{Fits}
use Rattle.run_laws.proofs.typed_runs.Threads.{stay_self}
use Rattle.run_laws.proofs.typed_runs.Objects.{all_set, added_extends, added_below}
use Rattle.run_laws.proofs.typed_runs.WorldChanges.{Keeps, keeps_trans, self_keeps, object_keeps, allocated_keeps}
use Rattle.run_laws.proofs.typed_runs.Instructions.{with_field_same}
use Rattle.run_laws.proofs.typed_runs.Exceptions.{changed_keeps}
use Rattle.run_laws.proofs.typed_runs.Names.{name_typed}
use Rattle.run_laws.proofs.typed_runs.Builders.{Shaped, a_string}

-- ---- what the methods take and give

abbrev pub an_object : VerificationType
an_object = OfType (ClassType java_lang_object)

abbrev pub a_thread : VerificationType
a_thread = OfType (ClassType java_lang_thread)

abbrev pub a_runnable : Program → VerificationType
a_runnable files = OfType (made_type files (ClassType java_lang_runnable))

abbrev pub chars : VerificationType
chars = OfType (PrimitiveArray Char)

abbrev pub this_string : VerificationType
this_string = UninitialisedThis java_lang_string

abbrev pub this_thread : VerificationType
this_thread = UninitialisedThis java_lang_thread

module _ (files : Program) where
  pub clone : Shaped files object_clone (an_object ∷ []) (an_object ∷ []) 0
  unfolding method_type parameters_at field_at element_at field_type built_in_classes
  clone = record { takes = refl; gives = refl; receiver = refl; count = refl }

  pub empty_string : Shaped files (of_string constructor_name (codes "()V")) (this_string ∷ []) [] 0
  unfolding method_type parameters_at field_at element_at field_type built_in_classes
  empty_string = record { takes = refl; gives = refl; receiver = refl; count = refl }

  pub string_of_string : Shaped files (of_string constructor_name (codes "(Ljava/lang/String;)V")) (this_string ∷ a_string ∷ []) [] 1
  unfolding method_type parameters_at field_at element_at field_type built_in_classes
  string_of_string = record { takes = refl; gives = refl; receiver = refl; count = refl }

  pub string_of_chars : Shaped files (of_string constructor_name (codes "([CII)V")) (this_string ∷ chars ∷ IntType ∷ IntType ∷ []) [] 3
  unfolding method_type parameters_at field_at element_at field_type built_in_classes
  string_of_chars = record { takes = refl; gives = refl; receiver = refl; count = refl }

  pub get_chars : Shaped files (of_string (codes "getChars") (codes "(II[CI)V")) (a_string ∷ IntType ∷ IntType ∷ chars ∷ IntType ∷ []) [] 4
  unfolding method_type parameters_at field_at element_at field_type built_in_classes
  get_chars = record { takes = refl; gives = refl; receiver = refl; count = refl }

  pub intern : Shaped files (of_string (codes "intern") (codes "()Ljava/lang/String;")) (a_string ∷ []) (a_string ∷ []) 0
  unfolding method_type parameters_at field_at element_at field_type built_in_classes
  intern = record { takes = refl; gives = refl; receiver = refl; count = refl }

  pub thread_alone : Shaped files (of_thread constructor_name (codes "()V")) (this_thread ∷ []) [] 0
  unfolding method_type parameters_at field_at element_at field_type built_in_classes
  thread_alone = record { takes = refl; gives = refl; receiver = refl; count = refl }

  pub thread_of_target : Shaped files (of_thread constructor_name (codes "(Ljava/lang/Runnable;)V")) (this_thread ∷ a_runnable files ∷ []) [] 1
  unfolding method_type parameters_at field_at element_at field_type built_in_classes
  thread_of_target = record { takes = refl; gives = refl; receiver = refl; count = refl }

  pub thread_of_name : Shaped files (of_thread constructor_name (codes "(Ljava/lang/String;)V")) (this_thread ∷ a_string ∷ []) [] 1
  unfolding method_type parameters_at field_at element_at field_type built_in_classes
  thread_of_name = record { takes = refl; gives = refl; receiver = refl; count = refl }

  pub thread_of_both : Shaped files (of_thread constructor_name (codes "(Ljava/lang/Runnable;Ljava/lang/String;)V")) (this_thread ∷ a_runnable files ∷ a_string ∷ []) [] 2
  unfolding method_type parameters_at field_at element_at field_type built_in_classes
  thread_of_both = record { takes = refl; gives = refl; receiver = refl; count = refl }

  pub get_name : Shaped files (of_thread (codes "getName") (codes "()Ljava/lang/String;")) (a_thread ∷ []) (a_string ∷ []) 0
  unfolding method_type parameters_at field_at element_at field_type built_in_classes
  get_name = record { takes = refl; gives = refl; receiver = refl; count = refl }

  pub set_name : Shaped files (of_thread (codes "setName") (codes "(Ljava/lang/String;)V")) (a_thread ∷ a_string ∷ []) [] 1
  unfolding method_type parameters_at field_at element_at field_type built_in_classes
  set_name = record { takes = refl; gives = refl; receiver = refl; count = refl }

-- ---- texts and elements

with_text_same : (text : Text) (o : ObjectOf Value) → type_of (with_text text o) ≡ type_of o
with_text_same text (Instance class fields) = refl
with_text_same text (Primitives of elements) = refl
with_text_same text (References of elements) = refl
with_text_same text (Characters old) = refl

units_same : (index : ℕ) (text : Text) (of : Primitive) (elements : List Value)
    → type_of (with_elements index (map (char_value values) text) (Primitives of elements)) ≡ PrimitiveArray of
units_same index [] of elements = refl
units_same index (unit ∷ text) of elements = units_same (index + 1) text of (slice_set elements index (char_value values unit))

module _ (files : Program) (os : List ReferenceType) where
  with_text_typed : (text : Text) (o : ObjectOf Value) → is_object_typed files os o ≡ true → is_object_typed files os (with_text text o) ≡ true
  with_text_typed text (Instance class fields) h = h
  with_text_typed text (Primitives of elements) h = h
  with_text_typed text (References of elements) h = h
  with_text_typed text (Characters old) h = refl

  units_typed : (index : ℕ) (text : Text) (of : Primitive) (elements : List Value) → list_all is_int_value elements ≡ true
      → is_object_typed files os (with_elements index (map (char_value values) text) (Primitives of elements)) ≡ true
  units_typed index [] of elements h = h
  units_typed index (unit ∷ text) of elements h =
      units_typed (index + 1) text of (slice_set elements index (char_value values unit)) (all_set is_int_value elements index (char_value values unit) h refl)

module _ (files : Program) (world : World) (fits : Fits files world) where
  pub text_keeps : (opened r : ℕ) (text : Text) → Keeps files world (with_text_at opened world r text)
  text_keeps opened r text =
      cond_both (is_blank opened world r) _ _ (Keeps files world)
      (λ q. changed_keeps files world fits r (with_text text) (with_text_same text) (λ o h. with_text_typed files (types_of world.heap) text o h))
      (λ q. self_keeps files world fits)

  pub units_keep : (r index : ℕ) (text : Text) (of : Primitive) (elements : List Value) → slice_get world.heap r ≡ Some (Primitives of elements)
      → list_all is_int_value elements ≡ true → object_at world r ≡ Primitives of elements → Keeps files world (with_units_at values world r index text)
  units_keep r index text of elements there ints is =
      let units = map (char_value values) text in
      let new = with_elements index units (Primitives of elements) in
      let keeps = object_keeps files world fits r (Primitives of elements) new there (units_same index text of elements) (units_typed files (types_of world.heap) index text of elements ints) in
      subst_object keeps (sym is)
    where
      subst_object : Keeps files world (record world { heap = slice_set world.heap r (with_elements index (map (char_value values) text) (Primitives of elements)) })
          → Primitives of elements ≡ object_at world r → Keeps files world (with_units_at values world r index text)
      subst_object k e = subst (λ o. Keeps files world (record world { heap = slice_set world.heap r (with_elements index (map (char_value values) text) o) })) e k

  -- ---- Strings that stand for a text

  pub interned_keeps : (string : ℕ) → Keeps files world (with_interned world string)
  interned_keeps string =
      record {
        extends = extends_self _;
        fits = record { heap = fits.heap; statics = fits.statics; monitors = fits.monitors; wait_sets = fits.wait_sets; opened = fits.opened };
        threads = stay_self world.threads;
      }

  string_at : (heap : List (ObjectOf Value)) (r : ℕ) (text : Text) → is_same_text text (string_text (slice_index_or heap r no_object)) ≡ true
      → is_object_below files (ClassType java_lang_string) (slice_get (types_of heap) r) ≡ true
  string_at [] r text h = absurd (false≢true h)
  string_at (Instance class fields ∷ heap) zero text h = absurd (false≢true h)
  string_at (Primitives of elements ∷ heap) zero text h = absurd (false≢true h)
  string_at (References of elements ∷ heap) zero text h = absurd (false≢true h)
  string_at (Characters other ∷ heap) zero text h = assignable_self files (ClassType java_lang_string)
  string_at (o ∷ heap) (suc r) text h = string_at heap r text h

  pub standing_typed : (constants : List ℕ) (text : Text) (r : ℕ) → standing_for constants world text ≡ Some r
      → has_type files (types_of world.heap) a_string (value.Reference r) ≡ true
  standing_typed constants text r e =
      string_at world.heap r text (found_passes (is_string_of world text) (constants ++ world.interned) r e)

  -- ---- copies

  pub copy_keeps : (o : ObjectOf Value) → is_object_typed files (types_of world.heap) o ≡ true → Keeps files world (allocated world o)
  copy_keeps o h =
      allocated_keeps files world fits o
      (object_typed_more files (types_of world.heap) (types_of (world.heap ++ o ∷ [])) (added_extends files world.heap fits.heap o) o h)

  pub copy_below : (o : ObjectOf Value) → is_assignable files (type_of o) (ClassType java_lang_object) ≡ true
      → has_type files (types_of (world.heap ++ o ∷ [])) an_object (value.Reference (length world.heap)) ≡ true
  copy_below o h = at_last world.heap
    where
      at_last : (xs : List (ObjectOf Value)) → is_object_below files (ClassType java_lang_object) (slice_get (types_of (xs ++ o ∷ [])) (length xs)) ≡ true
      at_last [] = h
      at_last (x ∷ xs) = at_last xs

  -- ---- names

  pub unnamed_keeps : Keeps files world (with_one_unnamed world)
  unnamed_keeps =
      record {
        extends = extends_self _;
        fits = record { heap = fits.heap; statics = fits.statics; monitors = fits.monitors; wait_sets = fits.wait_sets; opened = fits.opened };
        threads = stay_self world.threads;
      }

-- a new name
module _ (files : Program) (world : World) (fits : Fits files world) (r : ℕ) (text : Text) where
  abbrev name : Value
  name = value.Reference (length world.heap)

  abbrev made : World
  made = allocated world (Characters text)

  made_keeps : Keeps files world made
  made_keeps = allocated_keeps files world fits (Characters text) refl

  name_is : has_type files (types_of made.heap) a_string name ≡ true
  name_is = added_below files world.heap fits.heap (Characters text)

  set_keeps : Keeps files made (named values world r text)
  set_keeps =
      changed_keeps files made made_keeps.fits r (with_field thread_name name) (with_field_same thread_name name)
      (λ o h. name_typed files (types_of made.heap) name o name_is h)

  pub named_keeps : Keeps files world (named values world r text)
  named_keeps = keeps_trans files world made (named values world r text) made_keeps set_keeps

  pub name_there : has_type files (types_of (named values world r text).heap) a_string name ≡ true
  name_there = has_type_more files (types_of made.heap) (types_of (named values world r text).heap) set_keeps.extends a_string name name_is
