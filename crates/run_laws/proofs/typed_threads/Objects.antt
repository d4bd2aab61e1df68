-- The objects of the opening heap, at the words of a well-typed state.
use Rattle.std.proofs.Common.{◌≡◌, ℕ, List, Some, true, refl, sym, ap, ◌∙◌, subst}
use Rattle.std.specs.Prelude.{slice_get}
use Rattle.std.proofs.lemmas.Bool.{false≢true}
use Rattle.model.specs.Names.{java_lang_class, java_lang_string, java_lang_thread}
use Rattle.model.specs.Classes.{Program}
use Rattle.model.specs.ReferenceTypes.{ClassType}
use Rattle.model.specs.Operands.{words, values, word_of}
use Rattle.model.specs.State.{ObjectOf, types_of, StateOf}
use Rattle.model.specs.Opening.{main_thread_reference, class_reference, string_reference, opening_heap, error_stream_reference, print_stream_reference, arguments_reference}
use Rattle.model.specs.declared.value.Value.{Value}
use Rattle.model.specs.declared.value.Value.TheVariants as value
use Rattle.model.specs.Types.{OfType}
use Rattle.model.specs.Worlds.{object_at}
use Rattle.model.specs.BuilderMethods.{kept_string}
use Rattle.model.specs.ThreadNames.{kept_name}
use Rattle.model.specs.WellTyped.{Extends, has_type}
use Rattle.model.specs.Words.{AreWellTypedWords}
use Rattle.run_laws.proofs.word_runs.OpenedWords.{opened_words}
use Rattle.run_laws.proofs.word_runs.WordWorlds.{types_words, object_at_words, kept_string_words, kept_name_words}
use Rattle.run_laws.proofs.typed_runs.OpeningObjects.{print_stream_there, arguments_there, class_there, string_there, error_stream_there}
use Rattle.run_laws.proofs.typed_runs.Instructions.{at_typed}
use Rattle.run_laws.proofs.typed_runs.Texts.{kept_string_typed}
use Rattle.run_laws.proofs.typed_runs.Names.{kept_name_typed}
use Rattle.run_laws.specs.typed_threads.Objects.{HasOpeningObjects, AreOpeningObjectsThere, IsText, AreTextsStrings, AreNamesStrings}
use Rattle.run_laws.proofs.typed_threads.Instances.{types_are, keeps_of, instance_of}

-- the opening heap of words has the types of the one of values
opening_types : (files : Program) → types_of (opening_heap words files) ≡ types_of (opening_heap values files)
opening_types files = ap (λ (s : StateOf ℕ). types_of s.world.heap) (opened_words files) ∙ types_words (opening_heap values files)

main_thread_there : (files : Program) → slice_get (types_of (opening_heap values files)) main_thread_reference
    ≡ Some (ClassType java_lang_thread)
unfolding opening_heap
main_thread_there files = refl

module _ (files : Program) (at : StateOf ℕ) (h : AreWellTypedWords files at) where
  extended : Extends (types_of (opening_heap values files)) (types_of at.world.heap)
  extended = subst (Extends (types_of (opening_heap values files))) (sym (types_are files at h)) h.1.typed.opened

  pub opening_objects : HasOpeningObjects files at.world.heap
  opening_objects =
      let x = extended in
      record {
        keeps = keeps_of (opening_heap words files) at.world.heap (subst (λ os. Extends os (types_of at.world.heap)) (sym (opening_types files)) x);
        print_stream = x.keeps print_stream_reference _ (print_stream_there files);
        arguments = x.keeps arguments_reference _ (arguments_there files);
        main_thread = x.keeps main_thread_reference _ (main_thread_there files);
        classes = λ name e. x.keeps (class_reference files name) (ClassType java_lang_class) (class_there files name e);
        texts = λ text e. x.keeps (string_reference files text) (ClassType java_lang_string) (string_there files text e);
        error_stream = x.keeps (error_stream_reference files) _ (error_stream_there files);
      }

pub opening_objects_there : AreOpeningObjectsThere
opening_objects_there files at h = opening_objects files at h

-- ---- the texts of StringBuilders

-- what is of type String is null or a String, by its word
text_told : (files : Program) (heap : List (ObjectOf ℕ)) (v : Value)
    → has_type files (types_of heap) (OfType (ClassType java_lang_string)) v ≡ true → IsText files heap (word_of v)
text_told files heap value.Unset h = absurd (false≢true h)
text_told files heap (value.Int bits) h = absurd (false≢true h)
text_told files heap value.Null h = tt
text_told files heap (value.Reference r) h = instance_of heap files java_lang_string refl r (slice_get (types_of heap) r) refl h

pub texts_are_strings : AreTextsStrings
texts_are_strings files at h r =
    let state = h.0 in
    let o = object_at state.world r in
    let is : kept_string words (object_at at.world r) ≡ word_of (kept_string values o) =
    ap (λ (s : StateOf ℕ). kept_string words (object_at s.world r)) h.1.are ∙ (ap (kept_string words) (object_at_words state.world r) ∙ kept_string_words o) in
    let typed = kept_string_typed files (types_of state.world.heap) o (at_typed files (types_of state.world.heap) state.world.heap r h.1.typed.heap) in
    subst (IsText files at.world.heap) (sym is)
    (text_told files at.world.heap (kept_string values o) (subst (λ os. has_type files os (OfType (ClassType java_lang_string)) (kept_string values o) ≡ true) (sym (types_are files at h)) typed))

pub names_are_strings : AreNamesStrings
names_are_strings files at h r =
    let state = h.0 in
    let o = object_at state.world r in
    let os = types_of state.world.heap in
    let is : kept_name words (object_at at.world r) ≡ word_of (kept_name values o) =
    ap (λ (s : StateOf ℕ). kept_name words (object_at s.world r)) h.1.are ∙ (ap (kept_name words) (object_at_words state.world r) ∙ kept_name_words o) in
    let typed = kept_name_typed files os o (at_typed files os state.world.heap r h.1.typed.heap) in
    subst (IsText files at.world.heap) (sym is)
    (text_told files at.world.heap (kept_name values o) (subst (λ ts. has_type files ts (OfType (ClassType java_lang_string)) (kept_name values o) ≡ true) (sym (types_are files at h)) typed))
