-- The objects of the opening heap are those of the definitions.
use Rattle.std.proofs.Common.{Vec, Global, ◌≡◌, ℕ, suc, ◌≤◌, List, [], ◌∷◌, ◌++◌, map, length, replicate, refl, sym, ap, subst, ◌∙◌}
use Rattle.model.specs.Names.{Member, java_lang_class, java_lang_thread, java_io_print_stream, thread_target, thread_name, thread_ordinal, thread_priority}
use Rattle.model.specs.Tree.{FileTree}
use Rattle.model.specs.BuiltIn.{built_in_classes}
use Rattle.model.specs.Classes.{Program, classes_of}
use Rattle.model.specs.DescribedTypes.{DeclaredType, DeclaredInt, DeclaredReference, field_declared}
use Rattle.model.specs.Lookup.{instance_fields}
use Rattle.model.specs.StringConstants.{string_texts, main_text}
use Rattle.model.specs.Texts.{Text, decoded}
use Rattle.model.specs.Operands.{words}
use Rattle.model.specs.State.{ObjectOf, Instance, Characters}
use Rattle.model.specs.Opening.{first_value, first_of, with_first, main_thread_object, string_reference, opening_heap}
use Rattle.model.specs.Worlds.{with_value}
use Rattle.heap.specs.declared.kind.ObjectKind.TheVariants as kind
use Rattle.heap.specs.Heap.{Object, fresh}
use Rattle.linked_code.specs.declared.class.LinkedClass.{LinkedClass}
use Rattle.linked_code.specs.declared.program.LinkedProgram.{LinkedProgram}
use Rattle.linked_code.specs.declared.types.LinkedType.{LinkedType}
use Rattle.linked_code.specs.Numbers.{IsClassAt}
use Rattle.linked_code.specs.Programs.{AreClasses, IsLinkedProgram}
use Rattle.run_laws.proofs.object_counts.Bounded.{openings_fit}
use Rattle.machine_state.specs.shown_objects.Shown.{names_of, words_in, AreUnits, ShowsObject, ShowsObjects}
use Rattle.machine_state.proofs.shown_objects.Strings.{string_at, decoded_units}
use Rattle.machine_state.proofs.shown_objects.Objects.{counted}
use Rattle.machine_state.specs.Shown.{IsProgram}
use Rattle.machine_threads.specs.machine_opening.Opened.{main_thread, opening_objects, string_object}
use Rattle.model.specs.BuiltInNumbers.{class_number, print_stream_number, thread_number}

-- ---- lists that are shown

module _ (trees : Program) (components : List LinkedType) where
  copies : {X : Type 0} (one : Object) (object : ObjectOf ℕ) → ShowsObject trees components one object → (xs : List X)
      → ShowsObjects trees components (replicate (length xs) one) (map (λ x. object) xs)
  copies one object h [] = tt
  copies one object h (x ∷ xs) = (h, copies one object h xs)

  both : (os : List Object) (ms : List (ObjectOf ℕ)) (others : List Object) (rest : List (ObjectOf ℕ))
      → ShowsObjects trees components os ms → ShowsObjects trees components others rest
      → ShowsObjects trees components (os ++ others) (ms ++ rest)
  both [] [] others rest f s = s
  both [] (m ∷ ms) others rest f s = absurd f
  both (o ∷ os) [] others rest f s = absurd f
  both (o ∷ os) (m ∷ ms) others rest f s = (f.0, both os ms others rest f.1 s)

-- ---- fields before any event

first_is : (type : DeclaredType) → first_value words type ≡ 0
first_is DeclaredInt = refl
first_is (DeclaredReference type) = refl

pub first_names : (fields : List Member) → names_of (map (with_first words) fields) ≡ fields
first_names [] = refl
first_names (field ∷ fields) = ap (λ l. field ∷ l) (first_names fields)

pub first_words : (fields : List Member) → replicate (length fields) 0 ≡ words_in (map (with_first words) fields)
first_words [] = refl
first_words (field ∷ fields) =
    let value = sym (first_is (field_declared field.descriptor)) in
    let rest = first_words fields in
    λ i. value i ∷ rest i

-- ---- each object

thread_fields : (trees : Program) → instance_fields trees java_lang_thread ≡ thread_target ∷ thread_name ∷ thread_ordinal ∷ thread_priority ∷ []
unfolding built_in_classes
thread_fields trees = refl

thread_at : (trees : Program) → IsClassAt trees thread_number java_lang_thread
unfolding built_in_classes
thread_at trees = (_, refl, refl)

module _ (trees : Program) (components : List LinkedType) where
  shows_print_stream : ShowsObject trees components (fresh (kind.Instance print_stream_number) 0) (Instance java_io_print_stream [])
  unfolding built_in_classes
  shows_print_stream = record { kind = ((_, refl, refl), refl, refl); words = refl }

  shows_class : ShowsObject trees components (fresh (kind.Instance class_number) 0) (Instance java_lang_class [])
  unfolding built_in_classes
  shows_class = record { kind = ((_, refl, refl), refl, refl); words = refl }

  shows_string : (units text : Text) → AreUnits text → units ≡ text → ShowsObject trees components (string_object units) (Characters text)
  shows_string units text small same = record { kind = (string_at trees, small); words = same }

  -- a Thread has its name, and nothing else yet
  name_put : (target old ordinal priority name : ℕ)
      → with_value thread_name name ((thread_target, target) ∷ (thread_name, old) ∷ (thread_ordinal, ordinal) ∷ (thread_priority, priority) ∷ [])
      ≡ (thread_target, target) ∷ (thread_name, name) ∷ (thread_ordinal, ordinal) ∷ (thread_priority, priority) ∷ []
  name_put target old ordinal priority name = refl

  zero_first : (field : Member) → 0 ≡ first_of words field
  zero_first field = sym (first_is (field_declared field.descriptor))

  named_fields : (fields : List Member) → fields ≡ thread_target ∷ thread_name ∷ thread_ordinal ∷ thread_priority ∷ [] → (name : ℕ)
      → (names_of (with_value thread_name name (map (with_first words) fields)) ≡ fields)
      × (0 ∷ name ∷ 0 ∷ 0 ∷ [] ≡ words_in (with_value thread_name name (map (with_first words) fields)))
  named_fields fields is name =
      let put = name_put (first_of words thread_target) (first_of words thread_name) (first_of words thread_ordinal) (first_of words thread_priority) name in
      subst (λ (l : List Member). (names_of (with_value thread_name name (map (with_first words) l)) ≡ l)
      × (0 ∷ name ∷ 0 ∷ 0 ∷ [] ≡ words_in (with_value thread_name name (map (with_first words) l)))) (sym is)
      (ap names_of put, (λ i. zero_first thread_target i ∷ name ∷ zero_first thread_ordinal i ∷ zero_first thread_priority i ∷ []) ∙ sym (ap words_in put))

  shows_thread : (name : ℕ) → name ≡ suc (string_reference trees main_text) → ShowsObject trees components (main_thread name) (main_thread_object words trees)
  shows_thread name is =
      let named = named_fields (instance_fields trees java_lang_thread) (thread_fields trees) (suc (string_reference trees main_text)) in
      record {
        kind = (thread_at trees, named.0, refl);
        words = ap (λ n. 0 ∷ n ∷ 0 ∷ 0 ∷ []) is ∙ named.1;
      }

module _ (trees : Program) (components : List LinkedType) where
  texts_shown : {X : Type 0} (units_of : X → Text) (texts : List X) (all : List (List ℕ)) → map units_of texts ≡ map decoded all
      → ShowsObjects trees components (map (λ text. string_object (units_of text)) texts) (map (λ bytes. Characters (decoded bytes)) all)
  texts_shown units_of [] [] e = tt
  texts_shown units_of [] (bytes ∷ all) e = absurd cc
  texts_shown units_of (text ∷ texts) [] e = absurd cc
  texts_shown units_of (text ∷ texts) (bytes ∷ all) e =
      let first : units_of text ≡ decoded bytes = cc in
      let rest : map units_of texts ≡ map decoded all = cc in
      (shows_string trees components (units_of text) (decoded bytes) (decoded_units bytes) first, texts_shown units_of texts all rest)

-- ---- all of them

pub class_count : (trees : Program) (files : List FileTree) (classes : List LinkedClass) → AreClasses trees files classes
    → length classes ≡ length files
class_count trees [] [] h = refl
class_count trees [] (l ∷ ls) h = absurd h
class_count trees (f ∷ fs) [] h = absurd h
class_count trees (f ∷ fs) (l ∷ ls) h = ap suc (class_count trees fs ls h.1)

module _ (trees : Program) (p : LinkedProgram) (linked : IsLinkedProgram trees p) where
  rest_shown : ShowsObjects trees p.components.items
      (replicate (length p.classes.items) (fresh (kind.Instance class_number) 0)
      ++ (map (λ text. string_object text.items) p.texts.items ++ fresh (kind.Instance print_stream_number) 0 ∷ []))
      (map (λ file. Instance java_lang_class []) (classes_of trees)
      ++ (map (λ bytes. Characters (decoded bytes)) (string_texts trees) ++ Instance java_io_print_stream [] ∷ []))
  rest_shown =
      let c = p.components.items in
      let classes =
      subst (λ n. ShowsObjects trees c (replicate n (fresh (kind.Instance class_number) 0)) (map (λ file. Instance java_lang_class []) (classes_of trees)))
      (sym (class_count trees (classes_of trees) p.classes.items linked.classes))
      (copies trees c (fresh (kind.Instance class_number) 0) (Instance java_lang_class []) (shows_class trees c) (classes_of trees)) in
      let strings = texts_shown trees c (λ (text : Vec ℕ Global). text.items) p.texts.items (string_texts trees) linked.texts in
      both trees c _ _ _ _ classes (both trees c _ _ _ _ strings (shows_print_stream trees c, tt))

  pub objects_shown : ShowsObjects trees p.components.items (opening_objects p) (opening_heap words trees)
  unfolding opening_heap
  objects_shown =
      let c = p.components.items in
      (shows_print_stream trees c, (record { kind = linked.string_component; words = refl }, (shows_thread trees c p.main_text linked.main_text, rest_shown)))

  pub object_count : length (opening_objects p) ≡ length (opening_heap words trees)
  object_count = counted trees p.components.items (opening_objects p) (opening_heap words trees) objects_shown

pub few_objects : (trees : Program) (p : LinkedProgram) → IsProgram trees p → length (opening_objects p) ≤ 294967295
few_objects trees p program = subst (λ n. n ≤ 294967295) (sym (object_count trees p program.linked)) (openings_fit.of_words program.files trees program.linkable)
