-- The opening state is well typed.
use Rattle.std.proofs.Common.{◌≡◌, ℕ, suc, List, [], ◌∷◌, ◌++◌, map, true, refl, sym, subst}
use Rattle.std.specs.List.{list_all}
use Rattle.std.proofs.lemmas.Bool.{and_from}
use Rattle.std.proofs.lemmas.List.{length-map}
use Rattle.model.specs.declared.value.Value.{Value}
use Rattle.model.specs.declared.value.Value.TheVariants as value
use Rattle.model.specs.Types.{is_object_below}
use Rattle.model.specs.Names.{java_lang_class, java_lang_string, java_lang_thread, java_io_print_stream}
use Rattle.model.specs.Classes.{Program, classes_of}
use Rattle.model.specs.ReferenceTypes.{ClassType}
use Rattle.model.specs.Operands.{values}
use Rattle.model.specs.StringConstants.{string_texts, main_text}
use Rattle.model.specs.State.{ObjectOf, Instance, Thread, types_of, new_thread, Characters}
use Rattle.model.specs.Monitors.{unlocked}
use Rattle.model.specs.Opening.{with_first, static_fields, new_instance, main_thread_reference, main_thread_object, string_reference, opening_heap, opening}
use Rattle.model.specs.WellTyped.{is_object_typed, is_field_typed, are_wait_sets, IsWellTyped}
use Rattle.model.specs.Texts.{decoded}
use Rattle.run_laws.proofs.laws.Order.{extends_self, assignable_self}
use Rattle.run_laws.proofs.typed_runs.Objects.{all_map, first_of_typed, new_instance_typed}
use Rattle.run_laws.proofs.laws.Lists.{all_append}
use Rattle.run_laws.proofs.laws.LinkedConstants.{main_is_text}
use Rattle.run_laws.proofs.typed_runs.OpeningObjects.{string_there}
use Rattle.run_laws.proofs.typed_runs.Names.{name_typed}

-- the Thread of main has its name, which is a constant
main_thread_typed : (files : Program) → is_object_typed files (types_of (opening_heap values files)) (main_thread_object values files) ≡ true
main_thread_typed files =
    let os = types_of (opening_heap values files) in
    let name = value.Reference (string_reference files main_text) in
    let there =
    subst (λ o. is_object_below files (ClassType java_lang_string) o ≡ true) (sym (string_there files main_text (main_is_text files))) (assignable_self files (ClassType java_lang_string)) in
    name_typed files os name (new_instance values files java_lang_thread) there (new_instance_typed files os java_lang_thread)

heap_typed : (files : Program) → list_all (is_object_typed files (types_of (opening_heap values files))) (opening_heap values files) ≡ true
unfolding opening_heap
heap_typed files =
    let os = types_of (opening_heap values files) in
    and_from _ _ refl (and_from _ _ refl (and_from _ _ (main_thread_typed files)
    (all_append (is_object_typed files os) (map (λ file. Instance java_lang_class []) (classes_of files)) (map (λ bytes. Characters (decoded bytes)) (string_texts files) ++ Instance java_io_print_stream [] ∷ [])
    (all_map (is_object_typed files os) (λ file. Instance java_lang_class []) (classes_of files) (λ file. refl))
    (all_append (is_object_typed files os) (map (λ bytes. Characters (decoded bytes)) (string_texts files)) (Instance java_io_print_stream [] ∷ [])
    (all_map (is_object_typed files os) (λ bytes. Characters (decoded bytes)) (string_texts files) (λ bytes. refl)) refl))))

none_wait : (threads : List Thread) (k : ℕ) (objects : List (ObjectOf Value))
    → are_wait_sets threads k (map (λ object. unlocked) objects) ≡ true
none_wait threads k [] = refl
none_wait threads k (object ∷ objects) = none_wait threads (suc k) objects

pub opening_typed : (files : Program) → IsWellTyped files (opening values files)
unfolding opening_heap
opening_typed files =
    record {
      opened = extends_self (types_of (opening_heap values files));
      heap = heap_typed files;
      statics = all_map (is_field_typed files (types_of (opening_heap values files))) (with_first values) (static_fields files) (first_of_typed files (types_of (opening_heap values files)));
      monitors = length-map (opening_heap values files) (λ object. unlocked);
      wait_sets = none_wait (new_thread main_thread_reference ∷ []) 0 (opening_heap values files);
      threads = (record { object = assignable_self files (ClassType java_lang_thread); stack_typed = tt }, tt);
    }
