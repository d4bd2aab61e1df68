-- The words of the opening state are the opening state of words.
use Rattle.std.proofs.Common.{◌≡◌, ℕ, List, [], ◌∷◌, ◌++◌, map, refl, sym, ap, ◌∙◌}
use Rattle.std.proofs.lemmas.List.{map-append}
use Rattle.model.specs.declared.value.Value.{Value}
use Rattle.model.specs.declared.value.Value.TheVariants as value
use Rattle.model.specs.Names.{java_lang_class, java_lang_string, java_lang_thread, java_io_print_stream, thread_name}
use Rattle.model.specs.Classes.{Program, name_of, classes_of}
use Rattle.model.specs.ReferenceTypes.{ClassType}
use Rattle.model.specs.StringConstants.{string_texts, main_text}
use Rattle.model.specs.Operands.{words, values, word_of}
use Rattle.model.specs.State.{ObjectOf, Instance, References, NotInitialised, new_thread, Characters}
use Rattle.model.specs.Monitors.{unlocked}
use Rattle.model.specs.Opening.{with_first, static_fields, new_instance, main_thread_reference, main_thread_object, string_reference, opening_heap}
use Rattle.model.specs.Words.{map_field}
use Rattle.model.specs.Worlds.{with_field}
use Rattle.model.specs.Texts.{decoded}
use Rattle.run_laws.specs.word_runs.Words.{IsOpenedAsWords}
use Rattle.run_laws.proofs.laws.WordLists.{map_same}
use Rattle.run_laws.proofs.word_runs.WordWorlds.{object_words, new_words, with_first_words, with_field_words}

main_thread_words : (files : Program) → main_thread_object words files ≡ object_words (main_thread_object values files)
main_thread_words files =
    let name = value.Reference (string_reference files main_text) in
    ap (with_field thread_name (word_of name)) (new_words files java_lang_thread) ∙ with_field_words thread_name name (new_instance values files java_lang_thread)

heap_words : (files : Program) → opening_heap words files ≡ map object_words (opening_heap values files)
unfolding opening_heap
heap_words files =
    let classes : List (ObjectOf Value) = map (λ file. Instance java_lang_class []) (classes_of files) in
    let strings : List (ObjectOf Value) = map (λ bytes. Characters (decoded bytes)) (string_texts files) in
    let errors : List (ObjectOf Value) = Instance java_io_print_stream [] ∷ [] in
    let behind =
    ap (λ l. l ++ Instance java_io_print_stream [] ∷ []) (map_same object_words (λ bytes. Characters (decoded bytes)) (λ bytes. Characters (decoded bytes)) (string_texts files) (λ bytes. refl))
    ∙ sym (map-append object_words strings errors) in
    let others =
    ap (λ l. l ++ (map (λ bytes. Characters (decoded bytes)) (string_texts files) ++ Instance java_io_print_stream [] ∷ [])) (map_same object_words (λ file. Instance java_lang_class []) (λ file. Instance java_lang_class []) (classes_of files) (λ file. refl))
    ∙ (ap (λ l. map object_words classes ++ l) behind ∙ sym (map-append object_words classes (strings ++ errors))) in
    λ i. Instance java_io_print_stream [] ∷ References (ClassType java_lang_string) [] ∷ main_thread_words files i ∷ others i

monitors_same : (objects : List (ObjectOf Value))
    → map (λ (o : ObjectOf ℕ). unlocked) (map object_words objects) ≡ map (λ (o : ObjectOf Value). unlocked) objects
monitors_same [] = refl
monitors_same (o ∷ objects) = ap (λ l. unlocked ∷ l) (monitors_same objects)

pub opened_words : (files : Program) → IsOpenedAsWords files
opened_words files =
    let heap = heap_words files in
    let monitors = ap (λ h. map (λ (o : ObjectOf ℕ). unlocked) h) heap ∙ monitors_same (opening_heap values files) in
    let statics = map_same (map_field word_of) (with_first words) (with_first values) (static_fields files) with_first_words in
    λ i. record {
      world = record {
        heap = heap i;
        statics = statics i;
        classes = map (λ file. (name_of file, NotInitialised)) files;
        monitors = monitors i;
        threads = new_thread main_thread_reference ∷ [];
        printed = [];
        interned = [];
        unnamed = 0;
      };
      stacks = [] ∷ [];
    }
