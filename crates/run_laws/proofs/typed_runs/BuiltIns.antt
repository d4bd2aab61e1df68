-- The built-in methods without code: each brings about what a call of it has to.
use Rattle.std.proofs.Common.{◌≡◌, ℕ, List, [], ◌∷◌, ◌++◌, ◌-◌, ◌&&◌, nat_le, map, reverse, length, take, drop, Bool, true, false, Option, Some, None, refl, sym, ap, ◌∙◌, subst, ⊎_elim}
use Rattle.std.specs.Prelude.{slice_get, slice_index_or, find, unwrap_or, is_some, codes, if◌then◌else◌}
use Rattle.std.specs.Option.{option_map, is_none}
use Rattle.std.specs.List.{AllByRecursion, list_any}
use Rattle.std.proofs.lemmas.Bool.{false≢true, and_parts, and_from, or_cases, or_from, cond_both}
use Rattle.std.proofs.lemmas.List.{reverse-reverse}
use Rattle.std.proofs.lemmas.Option.{get_or_from_slice_get}
use Rattle.model.specs.declared.event.Event.{Event}
use Rattle.model.specs.declared.value.Value.{Value}
use Rattle.model.specs.declared.value.Value.TheVariants as value
use Rattle.model.specs.Names.{Name, Member, java_lang_object, java_lang_class, java_lang_throwable, java_lang_string, java_lang_string_builder, java_lang_thread, java_io_print_stream, constructor_name, thread_target, thread_name, thread_ordinal, object_clone, throwable_message, throwable_cause, name_eq, println_int}
use Rattle.model.specs.DescriptorParts.{returns_void}
use Rattle.model.specs.Classes.{Program}
use Rattle.model.specs.ReferenceTypes.{Char, ReferenceType, ClassType, PrimitiveArray, ReferenceArray, is_assignable}
use Rattle.model.specs.Types.{VerificationType, Unusable, IntType, OfType, is_value_below, is_object_below}
use Rattle.model.specs.DescribedTypes.{parameters_declared, verification_type}
use Rattle.model.specs.Operands.{values, reference_of}
use Rattle.model.specs.State.{ObjectOf, Instance, Primitives, References, type_of, types_of, Characters, Frame, World, new_thread}
use Rattle.model.specs.Outcomes.{Cost, OutcomeOf, Makes, Fills, Free, not_null}
use Rattle.model.specs.Worlds.{no_object, cells_of, elements_of, thread_at, allocated, object_at, with_object, with_field, with_interrupted, is_owner, is_alive, is_interrupted, thread_of}
use Rattle.model.specs.Frames.{at_offset, at_call}
use Rattle.model.specs.Sites.{pushing, pushing_at, operand, referent, int_operand}
use Rattle.model.specs.Calls.{parameter_count, result_types}
use Rattle.model.specs.declared.string_method.StringMethod.{StringMethod}
use Rattle.model.specs.declared.string_method.StringMethod.TheVariants.{Length, CharAt, Equals, HashCode, CompareTo, Concat, Substring, IndexOf, RegionMatches}
use Rattle.model.specs.declared.builder_method.BuilderMethod.TheVariants.{ConstructEmpty, ToString}
use Rattle.model.specs.BuilderMethods as building
use Rattle.model.specs.BuilderMethods.{Adds, kept_string, built_text, with_string, with_composed, builds}
use Rattle.model.specs.Opening.{string_reference, string_references, opening_count, class_reference}
use Rattle.model.specs.declared.object_method.ObjectMethod.TheVariants as object_method
use Rattle.model.specs.ObjectMethods as telling
use Rattle.model.specs.ObjectMethods.{ObjectAnswer, HasNoClass, IsOf, class_answer, object_answer, tells, type_at}
use Rattle.model.specs.declared.name_method.NameMethod.TheVariants as naming
use Rattle.model.specs.declared.text_method.TextMethod.TheVariants as writing_method
use Rattle.model.specs.Cloning.{is_cloneable, cloned}
use Rattle.model.specs.TextMethods as writing
use Rattle.model.specs.TextMethods.{TextAnswer, IsOutsideArray, Becomes, Stores, StandsFor, if_there, if_room, stored_part, unit_in, units_operand, standing_for, gives_standing, with_interned, with_text_at, with_units_at, writes}
use Rattle.model.specs.ThreadNames.{kept_name, ordinal_text, with_one_unnamed, named, gives_name}
use Rattle.model.specs.StringMethods.{is_at_most, StringAnswer, IsNull, IsOutside, Answers, Same, Composes, string_answer}
use Rattle.model.specs.Texts.{Text}
use Rattle.model.specs.BuiltInMethods
use Rattle.model.specs.declared.print_method.PrintMethod.{PrintMethod}
use Rattle.model.specs.declared.print_method.PrintMethod.TheVariants.{Println, PrintlnChar, PrintlnInt, PrintlnString, PrintChar, PrintInt, PrintString}
use Rattle.model.specs.BuiltInMethods.{BuiltInMethod, Construct, ConstructWithMessage, ConstructWithCause, ObjectClone, ThreadNames, PrintStreamPrints, StringAnswers, StringWrites, StringBuilderBuilds, ObjectAnswers, of_object, constructor_of, of_thread, of_print_stream, of_string, of_string_builder, printed_by, built_in_methods, is_row_of, built_in_does, wait_by, notified, notified_all, if_owner, with_started, start_by, interrupted_on, join_by, bit, with_printed, string_operand, answered, object_of}
use Rattle.model.specs.Typing.{has_no_receiver, receiver_type, parameter_types, argument_types}
use Rattle.model.specs.WellTyped.{has_type, is_object_typed, is_object_in, are_typed, Ready, Awaits}
use Rattle.run_laws.proofs.laws.Lists.{Pairwise, pairs_of, pair_get, get_front}
use Rattle.run_laws.proofs.laws.Classes.{members_same, names_same}
use Rattle.run_laws.proofs.laws.Order.{Extends, extends_self, has_type_more, assignable_self}
use Rattle.run_laws.proofs.laws.StringAnswers.{IsOfInt, IsOfString, length_of_int, char_of_int, equals_of_int, hash_of_int, compared_of_int, index_of_int, regions_of_int, concat_of_string, substring_of_string}
use Rattle.run_laws.proofs.typed_runs.Invariant.{awaits_more}
use Rattle.run_laws.proofs.typed_runs.Objects.{object_found, added_below}
use Rattle.run_laws.proofs.typed_runs.Frames.{resumed}
use Rattle.run_laws.proofs.typed_runs.Changes.{OutcomeTyped}
use Rattle.run_laws.proofs.laws.Linked.{Linked}
use Rattle.run_laws.proofs.laws.LinkedMethods.{returns_nothing}
use Rattle.run_laws.proofs.typed_runs.Threads.{wait_sets_weaken}
use Rattle.run_laws.proofs.typed_runs.WorldChanges.{Keeps, keeps_trans, self_keeps, allocated_keeps, printed_keeps, interrupted_keeps, goes_on}
use Rattle.run_laws.proofs.typed_runs.WaitChanges.{notified_keeps, notified_all_keeps, interrupted_on_keeps, waiting_changes, waits_on}
use Rattle.run_laws.proofs.typed_runs.Builders.{a_builder, Shaped, empty_constructor, string_constructor, append_string, append_int, append_char, append_builder, to_string, string_keeps, composed_keeps, empty_typed}
use Rattle.run_laws.proofs.typed_runs.Texts.{kept_string_typed}
use Rattle.run_laws.proofs.typed_runs.Exceptions.{message_typed, cause_typed, changed_keeps}
use Rattle.run_laws.proofs.typed_runs.Names.{name_typed, ordinal_typed, target_typed, kept_name_typed, referred_typed}
use Rattle.run_laws.proofs.typed_runs.Changed.{an_object, clone, empty_string, string_of_string, string_of_chars, get_chars, intern, thread_alone, thread_of_target, thread_of_name, thread_of_both, get_name, set_name, text_keeps, units_keep, interned_keeps, standing_typed, copy_keeps, copy_below, unnamed_keeps, named_keeps, name_there}
use Rattle.run_laws.proofs.typed_runs.OpeningObjects.{class_there}
use Rattle.run_laws.proofs.typed_runs.Told.{IsIntTold, IsTextTold, a_class, class_is_there, hash_code, get_class, identity_results, name_results, described_results, hash_told, identity_told, name_told, described_told}
use Rattle.run_laws.proofs.typed_runs.Called.{Called, BuiltInTyped}
use Rattle.run_laws.proofs.typed_runs.Instructions.{at_typed, with_field_same}
use Rattle.run_laws.proofs.typed_runs.Callees.{pair_reverse}
use Rattle.run_laws.proofs.typed_runs.Signatures.{void_results, bit_results, thread_results, int_printed_results, char_printed_results, string_printed_results, int_answered_results, char_at_results, equals_results, compare_results, index_results, regions_results, concat_results, concat_arguments, substring_results, substring_arguments, int_text_results, char_text_results, wait_arguments, wait_receiver, start_arguments, start_receiver, no_parameters, message_parameters, cause_parameters}
use Rattle.run_laws.proofs.typed_runs.StartedThreads.{front_waits, started_go}

module _ (files : Program) (linked : Linked files) (event : Event) (w : World) (f : Frame) (next : ℕ) (method : Member)
    (ops rest : List Value) (c : Called files event w f next method ops rest) where
  abbrev a_string : List VerificationType
  a_string = OfType (ClassType java_lang_string) ∷ []

  -- ---- how the frame goes on

  ready_after : (after : World) (vs : List Value) → Extends (types_of w.heap) (types_of after.heap)
      → are_typed files (types_of after.heap) (result_types files method) vs ≡ true
      → Ready files (types_of after.heap) (at_offset f next (record { locals = f.place.slots.locals; stack = vs ++ rest }))
  ready_after after vs x typed =
      subst (λ to. Ready files (types_of after.heap) (at_offset f to (record { locals = f.place.slots.locals; stack = vs ++ rest }))) (sym c.next_is)
      (resumed files linked.rooted (types_of after.heap) (result_types files method) (at_call f rest) vs (awaits_more files (types_of w.heap) (types_of after.heap) x (result_types files method) (at_call f rest) c.awaits) typed)

  carries_at : (cost : Cost) (ts : List VerificationType) (after : World) (vs : List Value) → result_types files method ≡ ts
      → Keeps files w after → are_typed files (types_of after.heap) ts vs ≡ true
      → OutcomeTyped files event.thread w f (pushing_at cost next vs after f.place.slots rest)
  carries_at cost ts after vs e k typed =
      goes_on files event.thread w after f cost (record { locals = f.place.slots.locals; stack = vs ++ rest }) next c.live k
      (ready_after after vs k.extends (subst (λ l. are_typed files (types_of after.heap) l vs ≡ true) (sym e) typed))

  carries : (ts : List VerificationType) (after : World) (vs : List Value) → result_types files method ≡ ts → Keeps files w after
      → are_typed files (types_of after.heap) ts vs ≡ true → OutcomeTyped files event.thread w f (pushing next vs after f.place.slots rest)
  carries ts after vs e k typed = carries_at Free ts after vs e k typed

  -- ---- operands

  typed_operand : (ts : List VerificationType) → argument_types files method ≡ ts → (k : ℕ)
      → has_type files (types_of w.heap) (slice_index_or (reverse ts) k Unusable) (operand values ops k) ≡ true
  typed_operand ts e k =
      let R = has_type files (types_of w.heap) in
      let p = pair_reverse R ts (reverse ops) (pairs_of R ts (reverse ops) (subst (λ l. are_typed files (types_of w.heap) l (reverse ops) ≡ true) e c.arguments)) in
      pair_get R (reverse ts) ops Unusable value.Unset (subst (λ l. Pairwise R (reverse ts) l) (reverse-reverse ops) p) refl k

  receiver_in : (class : Name) (k : ℕ) → has_no_receiver files method ≡ false → parameter_count method ≡ k
      → is_value_below files (types_of w.heap) (ClassType class) (operand values ops k) ≡ true
      → is_object_in files (types_of w.heap) class (object_of values ops k) ≡ true
  receiver_in class k has count below =
      let r = c.receiver has in
      let at = subst (λ n. operand values ops n ≡ value.Reference r.0) count r.1 in
      subst (λ n. is_object_in files (types_of w.heap) class n ≡ true) (sym (ap (λ v. unwrap_or (reference_of v) 0) at)) (subst (λ v. is_value_below files (types_of w.heap) (ClassType class) v ≡ true) at below)

  -- ---- the methods, each by its row

  abbrev Typed : BuiltInMethod → Type 0
  Typed b = OutcomeTyped files event.thread w f (built_in_does values files b next event w f.place.slots ops rest)

  waited : method ≡ of_object (codes "wait") (codes "()V") → (b interrupted : Bool) → is_owner w event.thread (object_of values ops 0) ≡ b
      → OutcomeTyped files event.thread w f (wait_by b interrupted event.thread (object_of values ops 0) w rest)
  waited e false interrupted q = tt
  waited e true true q = tt
  waited e true false q =
      let object = receiver_in java_lang_object 0 (ap (has_no_receiver files) e ∙ wait_receiver files) (ap parameter_count e ∙ no_parameters files java_lang_object (codes "wait")) (typed_operand (OfType (ClassType java_lang_object) ∷ []) (ap (argument_types files) e ∙ wait_arguments files) 0) in
      let x = waiting_changes files w c.fits event.thread (object_of values ops 0) q c.live in
      (x, (waits_on files w c.fits event.thread (object_of values ops 0) c.live object, subst (λ ts. Awaits files (types_of w.heap) ts (at_call f rest)) (ap (result_types files) e ∙ void_results files java_lang_object (codes "wait")) c.awaits))

  owner_typed : (b : Bool) (o : OutcomeOf Value) → (b ≡ true → OutcomeTyped files event.thread w f o)
      → OutcomeTyped files event.thread w f (if_owner b o)
  owner_typed true o k = k refl
  owner_typed false o k = tt

  started : method ≡ of_thread (codes "start") (codes "()V") → (b : Bool)
      → OutcomeTyped files event.thread w f (start_by b next (object_of values ops 0) w f.place.slots rest)
  started e true = tt
  started e false =
      let r = object_of values ops 0 in
      let object = receiver_in java_lang_thread 0 (ap (has_no_receiver files) e ∙ start_receiver files) (ap parameter_count e ∙ no_parameters files java_lang_thread (codes "start")) (typed_operand (OfType (ClassType java_lang_thread) ∷ []) (ap (argument_types files) e ∙ start_arguments files) 0) in (
        record {
          extends = extends_self (types_of w.heap);
          fits = record {
            heap = c.fits.heap;
            statics = c.fits.statics;
            monitors = c.fits.monitors;
            wait_sets = wait_sets_weaken w.threads (w.threads ++ new_thread r ∷ []) (λ o u q. front_waits w.threads (new_thread r) o u q) 0 w.monitors c.fits.wait_sets;
            opened = c.fits.opened;
          };
          go = started_go files (types_of w.heap) event.thread w.threads r object;
        },
        (
          record { thread = c.live.thread; there = get_front w.threads (new_thread r ∷ []) event.thread c.live.thread c.live.there; status = c.live.status; pending = c.live.pending },
          ready_after (with_started w r) [] (extends_self (types_of w.heap)) (subst (λ ts. are_typed files (types_of w.heap) ts [] ≡ true) (sym (ap (result_types files) e ∙ void_results files java_lang_thread (codes "start"))) refl),
        ),
      )

  joined : method ≡ of_thread (codes "join") (codes "()V") → (b : Bool)
      → OutcomeTyped files event.thread w f (join_by b next w f.place.slots rest)
  joined e true = tt
  joined e false = carries [] w [] (ap (result_types files) e ∙ void_results files java_lang_thread (codes "join")) (self_keeps files w c.fits) refl

  printed : (print : PrintMethod) (m : Member) → result_types files m ≡ [] → method ≡ m → Typed (PrintStreamPrints print)
  printed print m void e =
      let text = printed_by values print w ops in
      carries [] (with_printed w text) [] (ap (result_types files) e ∙ void) (printed_keeps files w c.fits text) refl

  -- ---- methods of String

  int_answered : (a : StringAnswer) → result_types files method ≡ IntType ∷ [] → IsOfInt a
      → OutcomeTyped files event.thread w f (answered values a next w f.place.slots ops rest)
  int_answered IsNull e is = tt
  int_answered IsOutside e is = tt
  int_answered (Answers bits) e is = carries (IntType ∷ []) w (value.Int bits ∷ []) e (self_keeps files w c.fits) refl
  int_answered (Same k) e is = absurd is
  int_answered (Composes text) e is = absurd is

  composed : (text : Text) → result_types files method ≡ a_string
      → OutcomeTyped files event.thread w f (answered values (Composes text) next w f.place.slots ops rest)
  composed text e =
      carries_at (Makes (length text)) (OfType (ClassType java_lang_string) ∷ []) (allocated w (Characters text)) (value.Reference (length w.heap) ∷ []) e
      (allocated_keeps files w c.fits (Characters text) refl)
      (and_from _ _ (added_below files w.heap c.fits.heap (Characters text)) refl)

  string_answered : (place : ℕ) (a : StringAnswer) → result_types files method ≡ a_string
      → has_type files (types_of w.heap) (OfType (ClassType java_lang_string)) (operand values ops place) ≡ true → IsOfString place a
      → OutcomeTyped files event.thread w f (answered values a next w f.place.slots ops rest)
  string_answered place IsNull e typed is = tt
  string_answered place IsOutside e typed is = tt
  string_answered place (Answers bits) e typed is = absurd is
  string_answered place (Same k) e typed is =
      carries (OfType (ClassType java_lang_string) ∷ []) w (operand values ops k ∷ []) e (self_keeps files w c.fits)
      (and_from _ _ (subst (λ n. has_type files (types_of w.heap) (OfType (ClassType java_lang_string)) (operand values ops n) ≡ true) (sym is) typed) refl)
  string_answered place (Composes text) e typed is = composed text e

  abbrev ints : ℕ → ℕ
  ints = int_operand values ops

  abbrev texts : ℕ → Option Text
  texts = string_operand values w ops

  abbrev answer : StringMethod → StringAnswer
  answer m = string_answer m ints texts

  answers_int : (string : StringMethod) (m : Member) → result_types files m ≡ IntType ∷ [] → IsOfInt (answer string) → method ≡ m
      → Typed (StringAnswers string)
  answers_int string m results is e = int_answered (answer string) (ap (result_types files) e ∙ results) is

  concat_typed : method ≡ of_string (codes "concat") (codes "(Ljava/lang/String;)Ljava/lang/String;") → Typed (StringAnswers Concat)
  concat_typed e =
      string_answered 1 (answer Concat) (ap (result_types files) e ∙ concat_results files)
      (typed_operand (OfType (ClassType java_lang_string) ∷ a_string) (ap (argument_types files) e ∙ concat_arguments files) 1)
      (concat_of_string ints texts)

  substring_typed : method ≡ of_string (codes "substring") (codes "(II)Ljava/lang/String;") → Typed (StringAnswers Substring)
  substring_typed e =
      string_answered 2 (answer Substring) (ap (result_types files) e ∙ substring_results files)
      (typed_operand (OfType (ClassType java_lang_string) ∷ IntType ∷ IntType ∷ []) (ap (argument_types files) e ∙ substring_arguments files) 2)
      (substring_of_string ints texts)

  -- ---- methods of StringBuilder

  abbrev empty : ℕ
  empty = string_reference files []

  -- of a method of a certain shape: its receiver is there, and it gives what it is to give
  module _ {m : Member} {arguments results : List VerificationType} {parameters : ℕ} (shape : Shaped files m arguments results parameters) (e : method ≡ m) where
    taken : (k : ℕ) → has_type files (types_of w.heap) (slice_index_or (reverse arguments) k Unusable) (operand values ops k) ≡ true
    taken = typed_operand arguments (ap (argument_types files) e ∙ shape.takes)

    builder_there : is_value_below files (types_of w.heap) (ClassType java_lang_string_builder) (operand values ops parameters) ≡ true
        → (o : ObjectOf Value) × (slice_get w.heap (object_of values ops parameters) ≡ Some o)
    builder_there below =
        let r = object_of values ops parameters in
        let found = object_found files w.heap r (ClassType java_lang_string_builder) (receiver_in java_lang_string_builder parameters (ap (has_no_receiver files) e ∙ shape.receiver) (ap parameter_count e ∙ shape.count) below) in
        (found.0, found.1)

    gives : result_types files method ≡ results
    gives = ap (result_types files) e ∙ shape.gives

  keeps_empty : method ≡ of_string_builder constructor_name (codes "()V") → Typed (StringBuilderBuilds ConstructEmpty)
  keeps_empty e =
      let shape = empty_constructor files in
      let o = builder_there shape e (taken shape e 0) in
      let r = object_of values ops 0 in
      let v = value.Reference empty in
      carries [] (with_string w r v) [] (gives shape e) (string_keeps files w c.fits r o.0 v o.1 (empty_typed files w c.fits)) refl

  keeps_string : method ≡ of_string_builder constructor_name (codes "(Ljava/lang/String;)V") → (null : Bool)
      → OutcomeTyped files event.thread w f (builds values empty (if null then building.IsNull else building.Keeps) next w f.place.slots ops rest)
  keeps_string e true = tt
  keeps_string e false =
      let shape = string_constructor files in
      let o = builder_there shape e (taken shape e 1) in
      let r = object_of values ops 1 in
      let v = operand values ops 0 in
      carries [] (with_string w r v) [] (gives shape e) (string_keeps files w c.fits r o.0 v o.1 (taken shape e 0)) refl

  adds : {m : Member} {last : VerificationType} (shape : Shaped files m (a_builder ∷ last ∷ []) (a_builder ∷ []) 1) → method ≡ m → (added : Text)
      → OutcomeTyped files event.thread w f (builds values empty (Adds added) next w f.place.slots ops rest)
  adds shape e added =
      let r = object_of values ops 1 in
      let text = built_text values w r ++ added in
      let o = builder_there shape e (taken shape e 1) in
      let after = with_composed values w r text in
      let k = composed_keeps files w c.fits r o.0 text o.1 in
      carries_at (Makes (length text)) (a_builder ∷ []) after (operand values ops 1 ∷ []) (gives shape e) k
      (and_from _ _ (has_type_more files (types_of w.heap) (types_of after.heap) k.extends a_builder (operand values ops 1) (taken shape e 1)) refl)

  gives_text : method ≡ of_string_builder (codes "toString") (codes "()Ljava/lang/String;") → Typed (StringBuilderBuilds ToString)
  gives_text e =
      let os = types_of w.heap in
      let r = object_of values ops 0 in
      carries (OfType (ClassType java_lang_string) ∷ []) w (kept_string values (object_at w r) ∷ []) (gives (to_string files) e) (self_keeps files w c.fits)
      (and_from _ _ (kept_string_typed files os (object_at w r) (at_typed files os w.heap r c.fits.heap)) refl)

  -- ---- what an object tells of itself

  abbrev asked : Option ℕ
  asked = referent values ops 0

  int_told : (a : ObjectAnswer) → result_types files method ≡ IntType ∷ [] → IsIntTold a
      → OutcomeTyped files event.thread w f (tells values files a next w f.place.slots rest)
  int_told telling.IsNull e is = tt
  int_told HasNoClass e is = tt
  int_told (telling.Answers bits) e is = carries (IntType ∷ []) w (value.Int bits ∷ []) e (self_keeps files w c.fits) refl
  int_told (IsOf class) e is = absurd is
  int_told (telling.Composes text) e is = absurd is

  text_told : (a : ObjectAnswer) → result_types files method ≡ a_string → IsTextTold a
      → OutcomeTyped files event.thread w f (tells values files a next w f.place.slots rest)
  text_told telling.IsNull e is = tt
  text_told HasNoClass e is = tt
  text_told (telling.Answers bits) e is = absurd is
  text_told (IsOf class) e is = absurd is
  text_told (telling.Composes text) e is = composed text e

  -- the Class object of the receiver's class
  class_told : method ≡ of_object (codes "getClass") (codes "()Ljava/lang/Class;") → Typed (ObjectAnswers object_method.GetClass)
  class_told e = by (operand values ops 0) (taken (get_class files) e 0)
    where
      of_type : (t : ReferenceType) → is_assignable files t (ClassType java_lang_object) ≡ true
          → OutcomeTyped files event.thread w f (tells values files (class_answer t) next w f.place.slots rest)
      of_type (ClassType name) h =
          let r = class_reference files name in
          let there = c.fits.opened.keeps r (ClassType java_lang_class) (class_there files name (class_is_there files name h)) in
          carries (a_class ∷ []) w (value.Reference r ∷ []) (gives (get_class files) e) (self_keeps files w c.fits)
          (and_from _ _ (subst (λ o. is_object_below files (ClassType java_lang_class) o ≡ true) (sym there) (assignable_self files (ClassType java_lang_class))) refl)
      of_type (PrimitiveArray of) h = tt
      of_type (ReferenceArray of) h = tt

      by : (v : Value) → is_value_below files (types_of w.heap) (ClassType java_lang_object) v ≡ true
          → OutcomeTyped files event.thread w f (tells values files (object_answer files object_method.GetClass (reference_of v) (type_at w) (int_operand values ops 0)) next w f.place.slots rest)
      by value.Unset h = tt
      by (value.Int bits) h = tt
      by value.Null h = tt
      by (value.Reference r) h =
          let found = object_found files w.heap r (ClassType java_lang_object) h in
          of_type (type_at w r) (subst (λ o. is_assignable files (type_of o) (ClassType java_lang_object) ≡ true) (sym (get_or_from_slice_get w.heap r found.0 no_object found.1)) found.2)

  -- ---- copies

  copied : method ≡ object_clone → Typed ObjectClone
  copied e =
      let r = object_of values ops 0 in
      let below = receiver_in java_lang_object 0 (ap (has_no_receiver files) e ∙ (clone files).receiver) (ap parameter_count e ∙ (clone files).count) (taken (clone files) e 0) in
      let found = object_found files w.heap r (ClassType java_lang_object) below in
      let there = subst (λ o. is_assignable files (type_of o) (ClassType java_lang_object) ≡ true) (sym (get_or_from_slice_get w.heap r found.0 no_object found.1)) found.2 in
      by (is_cloneable files (type_of (object_at w r))) there
    where
      by : (b : Bool) → is_assignable files (type_of (object_at w (object_of values ops 0))) (ClassType java_lang_object) ≡ true
          → OutcomeTyped files event.thread w f (cloned values b (object_at w (object_of values ops 0)) next w f.place.slots rest)
      by true there =
          let o = object_at w (object_of values ops 0) in
          carries_at (Makes (cells_of o)) (an_object ∷ []) (allocated w o) (value.Reference (length w.heap) ∷ []) (gives (clone files) e)
          (copy_keeps files w c.fits o (at_typed files (types_of w.heap) w.heap (object_of values ops 0) c.fits.heap)) (and_from _ _ (copy_below files w c.fits o there) refl)
      by false there = tt

  -- ---- names of threads

  -- an object is changed, and nothing is given
  puts : (r : ℕ) (change : ObjectOf Value → ObjectOf Value) → ((o : ObjectOf Value) → type_of (change o) ≡ type_of o)
      → ((o : ObjectOf Value) → is_object_typed files (types_of w.heap) o ≡ true → is_object_typed files (types_of w.heap) (change o) ≡ true)
      → result_types files method ≡ [] → OutcomeTyped files event.thread w f (pushing next [] (with_object w r (change (object_at w r))) f.place.slots rest)
  puts r change same typed e = carries [] (with_object w r (change (object_at w r))) [] e (changed_keeps files w c.fits r change same typed) refl

  -- and one more Thread has no name
  puts_one : (r : ℕ) (change : ObjectOf Value → ObjectOf Value) → ((o : ObjectOf Value) → type_of (change o) ≡ type_of o)
      → ((o : ObjectOf Value) → is_object_typed files (types_of w.heap) o ≡ true → is_object_typed files (types_of w.heap) (change o) ≡ true)
      → result_types files method ≡ [] → OutcomeTyped files event.thread w f (pushing next [] (with_one_unnamed (with_object w r (change (object_at w r)))) f.place.slots rest)
  puts_one r change same typed e =
      let after = with_object w r (change (object_at w r)) in
      let k = changed_keeps files w c.fits r change same typed in
      carries [] (with_one_unnamed after) [] e (keeps_trans files w after (with_one_unnamed after) k (unnamed_keeps files after k.fits)) refl

  unless_null : (o : Option ℕ) (x : OutcomeOf Value) → OutcomeTyped files event.thread w f x → OutcomeTyped files event.thread w f (not_null o (λ r. x))
  unless_null None x h = tt
  unless_null (Some r) x h = h

  thread_made : method ≡ of_thread constructor_name (codes "()V") → Typed (ThreadNames naming.Construct)
  thread_made e =
      puts_one (object_of values ops 0) (with_field thread_ordinal (value.Int w.unnamed)) (with_field_same thread_ordinal (value.Int w.unnamed))
      (λ o h. ordinal_typed files (types_of w.heap) w.unnamed o h) (gives (thread_alone files) e)

  thread_targeted : method ≡ of_thread constructor_name (codes "(Ljava/lang/Runnable;)V") → Typed (ThreadNames naming.ConstructWithTarget)
  thread_targeted e =
      let os = types_of w.heap in
      let v = operand values ops 0 in
      let n = value.Int w.unnamed in
      let target = taken (thread_of_target files) e 0 in
      puts_one (object_of values ops 1) (λ o. with_field thread_ordinal n (with_field thread_target v o))
      (λ o. with_field_same thread_ordinal n (with_field thread_target v o) ∙ with_field_same thread_target v o)
      (λ o h. ordinal_typed files os w.unnamed (with_field thread_target v o) (target_typed files os v o target h)) (gives (thread_of_target files) e)

  thread_named : method ≡ of_thread constructor_name (codes "(Ljava/lang/String;)V") → Typed (ThreadNames naming.ConstructWithName)
  thread_named e =
      let v = operand values ops 0 in
      unless_null (referent values ops 0) _
      (puts (object_of values ops 1) (with_field thread_name v) (with_field_same thread_name v) (λ o h. name_typed files (types_of w.heap) v o (taken (thread_of_name files) e 0) h) (gives (thread_of_name files) e))

  thread_named_with_target : method ≡ of_thread constructor_name (codes "(Ljava/lang/Runnable;Ljava/lang/String;)V") → Typed (ThreadNames naming.ConstructWithTargetAndName)
  thread_named_with_target e =
      let os = types_of w.heap in
      let v = operand values ops 0 in
      let u = operand values ops 1 in
      let name = taken (thread_of_both files) e 0 in
      let target = taken (thread_of_both files) e 1 in
      unless_null (referent values ops 0) _
      (puts (object_of values ops 2) (λ o. with_field thread_name v (with_field thread_target u o))
      (λ o. with_field_same thread_name v (with_field thread_target u o) ∙ with_field_same thread_target u o)
      (λ o h. name_typed files os v (with_field thread_target u o) name (target_typed files os u o target h)) (gives (thread_of_both files) e))

  gives_a_name : method ≡ of_thread (codes "getName") (codes "()Ljava/lang/String;") → Typed (ThreadNames naming.GetName)
  gives_a_name e =
      let os = types_of w.heap in
      let o = object_at w (object_of values ops 0) in
      by (kept_name values o) (kept_name_typed files os o (at_typed files os w.heap (object_of values ops 0) c.fits.heap)) (reference_of (kept_name values o)) refl
    where
      by : (v : Value) → has_type files (types_of w.heap) (OfType (ClassType java_lang_string)) v ≡ true → (name : Option ℕ) → reference_of v ≡ name
          → OutcomeTyped files event.thread w f (gives_name values name (ordinal_text values (object_at w (object_of values ops 0))) next w f.place.slots ops rest)
      by v typed (Some name) is =
          carries a_string w (value.Reference name ∷ []) (gives (get_name files) e) (self_keeps files w c.fits) (and_from _ _ (referred_typed files (types_of w.heap) v name is typed) refl)
      by v typed None is =
          let r = object_of values ops 0 in
          let text = ordinal_text values (object_at w r) in
          carries_at (Makes (length text)) a_string (named values w r text) (value.Reference (length w.heap) ∷ []) (gives (get_name files) e)
          (named_keeps files w c.fits r text) (and_from _ _ (name_there files w c.fits r text) refl)

  sets_name : method ≡ of_thread (codes "setName") (codes "(Ljava/lang/String;)V") → Typed (ThreadNames naming.SetName)
  sets_name e =
      let v = operand values ops 0 in
      unless_null (referent values ops 0) _
      (puts (object_of values ops 1) (with_field thread_name v) (with_field_same thread_name v) (λ o h. name_typed files (types_of w.heap) v o (taken (set_name files) e 0) h) (gives (set_name files) e))

  -- ---- Strings that get their texts, and what is read of them

  abbrev opened : ℕ
  opened = opening_count files

  abbrev constants : List ℕ
  constants = string_references files

  abbrev Written : TextAnswer → Type 0
  Written a = OutcomeTyped files event.thread w f (writes values opened constants a next w f.place.slots ops rest)

  becomes : (receiver : ℕ) (text : Text) → result_types files method ≡ [] → Written (Becomes receiver text)
  becomes receiver text e =
      let r = object_of values ops receiver in
      carries_at (Fills (length text)) [] (with_text_at opened w r text) [] e (text_keeps files w c.fits opened r text) refl

  -- by a String or an array that may be null
  where_there : (o : Option Text) (go : Text → TextAnswer) → ((text : Text) → Written (go text)) → Written (if_there o go)
  where_there None go h = tt
  where_there (Some text) go h = h text

  either_written : (b : Bool) (a a' : TextAnswer) → Written a → Written a' → Written (if b then a else a')
  either_written true a a' h g = h
  either_written false a a' h g = g

  string_made : method ≡ of_string constructor_name (codes "(Ljava/lang/String;)V") → Typed (StringWrites writing_method.ConstructOfString)
  string_made e = where_there (texts 0) (Becomes 1) (λ text. becomes 1 text (gives (string_of_string files) e))

  chars_made : method ≡ of_string constructor_name (codes "([CII)V") → Typed (StringWrites writing_method.ConstructOfChars)
  chars_made e =
      where_there (units_operand values w ops 2) _
      (λ units. either_written (is_at_most (length units) (ints 0) && is_at_most (length units - ints 0) (ints 1)) (Becomes 3 (take (ints 0) (drop (ints 1) units))) writing.IsOutside
      (becomes 3 (take (ints 0) (drop (ints 1) units)) (gives (string_of_chars files) e)) tt)

  -- an array of chars that is there
  array_there : (r : ℕ) → referent values ops 1 ≡ Some r → has_type files (types_of w.heap) (OfType (PrimitiveArray Char)) (operand values ops 1) ≡ true
      → is_object_below files (PrimitiveArray Char) (slice_get (types_of w.heap) r) ≡ true
  array_there r is typed = by (operand values ops 1) is typed
    where
      by : (v : Value) → reference_of v ≡ Some r → has_type files (types_of w.heap) (OfType (PrimitiveArray Char)) v ≡ true
          → is_object_below files (PrimitiveArray Char) (slice_get (types_of w.heap) r) ≡ true
      by value.Unset q h = absurd cc
      by (value.Int bits) q h = absurd cc
      by value.Null q h = absurd cc
      by (value.Reference s) q h = let same : s ≡ r = cc in subst (λ k. is_object_below files (PrimitiveArray Char) (slice_get (types_of w.heap) k) ≡ true) same h

  chars_stored : method ≡ of_string (codes "getChars") (codes "(II[CI)V") → (r index : ℕ) (text : Text) → referent values ops 1 ≡ Some r → Written (Stores 1 index text)
  chars_stored e r index text is =
      let found = object_found files w.heap r (PrimitiveArray Char) (array_there r is (taken (get_chars files) e 1)) in
      by found.0 (found.1) found.2 (get_or_from_slice_get w.heap r found.0 no_object found.1)
    where
      by : (o : ObjectOf Value) → slice_get w.heap r ≡ Some o → is_assignable files (type_of o) (PrimitiveArray Char) ≡ true → object_at w r ≡ o
          → Written (Stores 1 index text)
      by (Instance class fields) there below at = absurd (false≢true below)
      by (References of elements) there below at = absurd (false≢true below)
      by (Characters other) there below at = absurd (false≢true below)
      by (Primitives of elements) there below at =
          let is_r : object_of values ops 1 ≡ r = ap (λ o. unwrap_or o 0) is in
          let ints = subst (λ o. is_object_typed files (types_of w.heap) o ≡ true) at (at_typed files (types_of w.heap) w.heap r c.fits.heap) in
          subst (λ k. OutcomeTyped files event.thread w f (pushing next [] (with_units_at values w k index text) f.place.slots rest)) (sym is_r)
          (carries [] (with_units_at values w r index text) [] (gives (get_chars files) e) (units_keep files w c.fits r index text of elements there ints at) refl)

  chars_got : method ≡ of_string (codes "getChars") (codes "(II[CI)V") → Typed (StringWrites writing_method.GetChars)
  chars_got e = where_there (texts 4) _ (λ this. by this (referent values ops 1) refl)
    where
      by : (this : Text) (o : Option ℕ) → referent values ops 1 ≡ o
          → Written (if_there (option_map (λ r. map (unit_in values) (elements_of (object_at w r))) o) (λ elements. stored_part (length elements) this (ints 3) (ints 2) (ints 0)))
      by this None is = tt
      by this (Some r) is =
          let n = length (map (unit_in values) (elements_of (object_at w r))) in
          let text = take (ints 2 - ints 3) (drop (ints 3) this) in
          either_written (is_at_most (length this) (ints 2) && is_at_most (ints 2) (ints 3)) (if_room n (ints 0) text) writing.IsOutside
          (either_written (nat_le (length text) n && is_at_most (n - length text) (ints 0)) (Stores 1 (ints 0) text) IsOutsideArray (chars_stored e r (ints 0) text is) tt) tt

  interned : method ≡ of_string (codes "intern") (codes "()Ljava/lang/String;") → Typed (StringWrites writing_method.Intern)
  interned e = where_there (texts 0) StandsFor (λ text. by text (standing_for constants w text) refl)
    where
      by : (text : Text) (o : Option ℕ) → standing_for constants w text ≡ o
          → OutcomeTyped files event.thread w f (gives_standing values o next w f.place.slots ops rest)
      by text (Some r) is =
          carries a_string w (value.Reference r ∷ []) (gives (intern files) e) (self_keeps files w c.fits) (and_from _ _ (standing_typed files w c.fits constants text r is) refl)
      by text None is =
          let r = object_of values ops 0 in
          carries a_string (with_interned w r) (operand values ops 0 ∷ []) (gives (intern files) e) (interned_keeps files w c.fits r) (and_from _ _ (taken (intern files) e 0) refl)

  object_rows : AllByRecursion (λ (row : Member × BuiltInMethod). method ≡ row.0 → Typed row.1) (drop 48 built_in_methods)
  object_rows = (
    λ e. int_told _ (gives (hash_code files) e) (hash_told files (type_at w) (int_operand values ops 0) asked),
    (
      class_told,
      (
        λ e. int_told _ (ap (result_types files) e ∙ identity_results files) (identity_told files (type_at w) (int_operand values ops 0) asked),
        (
          λ e. text_told _ (ap (result_types files) e ∙ name_results files) (name_told files (type_at w) (int_operand values ops 0) asked),
          (
            λ e. text_told _ (ap (result_types files) e ∙ described_results files) (described_told files (type_at w) (int_operand values ops 0) (referent values ops 1)),
            tt,
          ),
        ),
      ),
    ),
  )

  builder_rows : AllByRecursion (λ (row : Member × BuiltInMethod). method ≡ row.0 → Typed row.1) (drop 41 built_in_methods)
  builder_rows = (
    keeps_empty,
    (
      λ e. keeps_string e (is_none (referent values ops 0)),
      (
        λ e. adds (append_string files) e _,
        (
          λ e. adds (append_int files) e _,
          (
            λ e. adds (append_char files) e _,
            (
              λ e. adds (append_builder files) e _,
              (
                gives_text,
                object_rows,
              ),
            ),
          ),
        ),
      ),
    ),
  )

  writing_rows : AllByRecursion (λ (row : Member × BuiltInMethod). method ≡ row.0 → Typed row.1) (drop 36 built_in_methods)
  writing_rows = (
    λ e. becomes 0 [] (gives (empty_string files) e),
    (
      string_made,
      (
        chars_made,
        (
          chars_got,
          (
            interned,
            builder_rows,
          ),
        ),
      ),
    ),
  )

  string_rows : AllByRecursion (λ (row : Member × BuiltInMethod). method ≡ row.0 → Typed row.1) (drop 25 built_in_methods)
  string_rows = (
    answers_int Length (of_string (codes "length") (codes "()I")) (int_answered_results files (codes "length")) (length_of_int ints texts),
    (
      answers_int CharAt (of_string (codes "charAt") (codes "(I)C")) (char_at_results files) (char_of_int ints texts),
      (
        answers_int Equals (of_string (codes "equals") (codes "(Ljava/lang/Object;)Z")) (equals_results files) (equals_of_int ints texts),
        (
          answers_int HashCode (of_string (codes "hashCode") (codes "()I")) (int_answered_results files (codes "hashCode")) (hash_of_int ints texts),
          (
            answers_int CompareTo (of_string (codes "compareTo") (codes "(Ljava/lang/String;)I")) (compare_results files) (compared_of_int ints texts),
            (
              concat_typed,
              (
                substring_typed,
                (
                  answers_int IndexOf (of_string (codes "indexOf") (codes "(II)I")) (index_results files) (index_of_int ints texts),
                  (
                    answers_int RegionMatches (of_string (codes "regionMatches") (codes "(ILjava/lang/String;II)Z")) (regions_results files) (regions_of_int ints texts),
                    (
                      λ e. composed _ (ap (result_types files) e ∙ int_text_results files),
                      (
                        λ e. composed _ (ap (result_types files) e ∙ char_text_results files),
                        writing_rows,
                      ),
                    ),
                  ),
                ),
              ),
            ),
          ),
        ),
      ),
    ),
  )

  on_rows : AllByRecursion (λ (row : Member × BuiltInMethod). method ≡ row.0 → Typed row.1) built_in_methods
  on_rows = (
    λ e. waited e (is_owner w event.thread (object_of values ops 0)) (thread_at w event.thread).interrupted refl,
    (
      λ e. owner_typed (is_owner w event.thread (object_of values ops 0)) _ (λ q. carries [] (notified w event.thread (object_of values ops 0) event.pick) [] (ap (result_types files) e ∙ void_results files java_lang_object (codes "notify")) (notified_keeps files w c.fits event.thread (object_of values ops 0) event.pick q) refl),
      (
        λ e. owner_typed (is_owner w event.thread (object_of values ops 0)) _ (λ q. carries [] (notified_all w event.thread (object_of values ops 0)) [] (ap (result_types files) e ∙ void_results files java_lang_object (codes "notifyAll")) (notified_all_keeps files w c.fits event.thread (object_of values ops 0) q) refl),
        (
          copied,
          (
            thread_made,
            (
              thread_targeted,
              (
                thread_named,
                (
                  thread_named_with_target,
                  (
                    λ e. started e (is_some (thread_of w (object_of values ops 0))),
                    (
                      λ e. carries [] (interrupted_on w (thread_of w (object_of values ops 0))) [] (ap (result_types files) e ∙ void_results files java_lang_thread (codes "interrupt")) (interrupted_on_keeps files w c.fits (thread_of w (object_of values ops 0))) refl,
                      (
                        λ e. carries (IntType ∷ []) w (value.Int (bit (is_interrupted w (object_of values ops 0))) ∷ []) (ap (result_types files) e ∙ bit_results files (codes "isInterrupted")) (self_keeps files w c.fits) refl,
                        (
                          λ e. carries (IntType ∷ []) (with_interrupted w event.thread false) (value.Int (bit (thread_at w event.thread).interrupted) ∷ []) (ap (result_types files) e ∙ bit_results files (codes "interrupted")) (interrupted_keeps files w c.fits event.thread false) refl,
                          (
                            λ e. carries [] w [] (ap (result_types files) e ∙ void_results files java_lang_thread (codes "yield")) (self_keeps files w c.fits) refl,
                            (
                              λ e. carries (OfType (ClassType java_lang_thread) ∷ []) w (value.Reference (thread_at w event.thread).object ∷ []) (ap (result_types files) e ∙ thread_results files) (self_keeps files w c.fits) (and_from _ _ c.self refl),
                              (
                                λ e. joined e (is_alive w (object_of values ops 0)),
                                (
                                  λ e. carries (IntType ∷ []) w (value.Int (bit (is_alive w (object_of values ops 0))) ∷ []) (ap (result_types files) e ∙ bit_results files (codes "isAlive")) (self_keeps files w c.fits) refl,
                                  (
                                    gives_a_name,
                                    (
                                      sets_name,
                                      (
                                        printed Println (of_print_stream (codes "println") (codes "()V")) (void_results files java_io_print_stream (codes "println")),
                                        (
                                          printed PrintlnChar (of_print_stream (codes "println") (codes "(C)V")) (char_printed_results files (codes "println")),
                                          (
                                            printed PrintlnInt println_int (int_printed_results files (codes "println")),
                                            (
                                              printed PrintlnString (of_print_stream (codes "println") (codes "(Ljava/lang/String;)V")) (string_printed_results files (codes "println")),
                                              (
                                                printed PrintChar (of_print_stream (codes "print") (codes "(C)V")) (char_printed_results files (codes "print")),
                                                (
                                                  printed PrintInt (of_print_stream (codes "print") (codes "(I)V")) (int_printed_results files (codes "print")),
                                                  (
                                                    printed PrintString (of_print_stream (codes "print") (codes "(Ljava/lang/String;)V")) (string_printed_results files (codes "print")),
                                                    string_rows,
                                                  ),
                                                ),
                                              ),
                                            ),
                                          ),
                                        ),
                                      ),
                                    ),
                                  ),
                                ),
                              ),
                            ),
                          ),
                        ),
                      ),
                    ),
                  ),
                ),
              ),
            ),
          ),
        ),
      ),
    ),
  )

  -- ---- constructors

  -- an operand of a method with these parameters, whether it has a receiver or not
  typed_over : (ps : List VerificationType) → parameter_types files method ≡ ps → (k : ℕ) (t : VerificationType)
      → slice_index_or (reverse ps) k Unusable ≡ t → slice_index_or (reverse (receiver_type method ∷ ps)) k Unusable ≡ t
      → has_type files (types_of w.heap) t (operand values ops k) ≡ true
  typed_over ps e k t alone over = by (has_no_receiver files method) refl
    where
      by : (b : Bool) → has_no_receiver files method ≡ b → has_type files (types_of w.heap) t (operand values ops k) ≡ true
      by true q =
          subst (λ u. has_type files (types_of w.heap) u (operand values ops k) ≡ true) alone
          (typed_operand ps (ap (λ x. if x then parameter_types files method else receiver_type method ∷ parameter_types files method) q ∙ e) k)
      by false q =
          subst (λ u. has_type files (types_of w.heap) u (operand values ops k) ≡ true) over
          (typed_operand (receiver_type method ∷ ps) (ap (λ x. if x then parameter_types files method else receiver_type method ∷ parameter_types files method) q ∙ ap (λ l. receiver_type method ∷ l) e) k)

  module _ (void : returns_void method.descriptor ≡ true) where
    sets : (r : ℕ) (change : ObjectOf Value → ObjectOf Value) → ((o : ObjectOf Value) → type_of (change o) ≡ type_of o)
        → ((o : ObjectOf Value) → is_object_typed files (types_of w.heap) o ≡ true → is_object_typed files (types_of w.heap) (change o) ≡ true)
        → OutcomeTyped files event.thread w f (pushing next [] (with_object w r (change (object_at w r))) f.place.slots rest)
    sets r change same typed =
        carries [] (with_object w r (change (object_at w r))) [] (ap (map (verification_type files)) (returns_nothing method.descriptor void)) (changed_keeps files w c.fits r change same typed) refl

    abbrev os : List ReferenceType
    os = types_of w.heap

    with_a_message : method.descriptor ≡ codes "(Ljava/lang/String;)V" → Typed ConstructWithMessage
    with_a_message e =
        let v = operand values ops 0 in
        let ps = ap (λ d. map (verification_type files) (parameters_declared d)) e ∙ message_parameters files in
        let given = typed_over (OfType (ClassType java_lang_string) ∷ []) ps 0 (OfType (ClassType java_lang_string)) refl refl in
        sets (object_of values ops 1) (with_field throwable_message v) (with_field_same throwable_message v) (λ o h. message_typed files os v o given h)

    with_a_cause : method.descriptor ≡ codes "(Ljava/lang/String;Ljava/lang/Throwable;)V" → Typed ConstructWithCause
    with_a_cause e =
        let v = operand values ops 0 in
        let m = operand values ops 1 in
        let two = OfType (ClassType java_lang_string) ∷ OfType (ClassType java_lang_throwable) ∷ [] in
        let ps = ap (λ d. map (verification_type files) (parameters_declared d)) e ∙ cause_parameters files in
        let cause = typed_over two ps 0 (OfType (ClassType java_lang_throwable)) refl refl in
        let message = typed_over two ps 1 (OfType (ClassType java_lang_string)) refl refl in
        sets (object_of values ops 2) (λ o. with_field throwable_cause v (with_field throwable_message m o))
        (λ o. with_field_same throwable_cause v (with_field throwable_message m o) ∙ with_field_same throwable_message m o)
        (λ o h. cause_typed files os v (with_field throwable_message m o) cause (message_typed files os m o message h))

    constructed : Typed (constructor_of method.descriptor)
    constructed =
        let one = codes "(Ljava/lang/String;)V" in
        let two = codes "(Ljava/lang/String;Ljava/lang/Throwable;)V" in
        cond_both (name_eq method.descriptor one) _ _ Typed (λ q. with_a_message (names_same method.descriptor one q))
        (λ q. cond_both (name_eq method.descriptor two) _ _ Typed (λ r. with_a_cause (names_same method.descriptor two r))
        (λ r. carries [] w [] (ap (map (verification_type files)) (returns_nothing method.descriptor void)) (self_keeps files w c.fits) refl))

  walk : (rows : List (Member × BuiltInMethod)) → AllByRecursion (λ (row : Member × BuiltInMethod). method ≡ row.0 → Typed row.1) rows
      → (other : BuiltInMethod) → (list_any (is_row_of method) rows ≡ false → Typed other)
      → Typed (unwrap_or (option_map (λ (row : Member × BuiltInMethod). row.1) (find (is_row_of method) rows)) other)
  walk [] h other k = k refl
  walk (row ∷ rows) h other k =
      cond_both (is_row_of method row) (Some row) (find (is_row_of method) rows) (λ o. Typed (unwrap_or (option_map (λ (r : Member × BuiltInMethod). r.1) o) other))
      (λ q. h.0 (sym (members_same row.0 method q))) (λ q. walk rows h.1 other (λ n. k (or_from (is_row_of method row) (list_any (is_row_of method) rows) q n)))

  built_in_case : OutcomeTyped files event.thread w
      f (built_in_does values files (BuiltInMethods.built_in_method method) next event w f.place.slots ops rest)
  built_in_case =
      walk built_in_methods on_rows (constructor_of method.descriptor)
      (λ n. constructed (⊎_elim (λ q. absurd (false≢true (sym n ∙ q))) (λ q. (and_parts _ _ q).1) (or_cases (list_any (is_row_of method) built_in_methods) _ c.machine)))

-- each built-in method brings about what a call of it has to
pub built_in_typed : (files : Program) → Linked files → BuiltInTyped files
built_in_typed files linked event w f next method ops rest c = built_in_case files linked event w f next method ops rest c
