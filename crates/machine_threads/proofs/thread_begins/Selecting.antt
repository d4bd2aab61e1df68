-- The selection of the method `run` of a Thread object.
use Rattle.std.proofs.Common.{◌≡◌, ℕ, List, Option, Some, None, true, false, if◌then◌else◌, refl, sym, ap, subst, ◌∙◌}
use Rattle.std.specs.Prelude.{slice_get, slice_index_or, option_map}
use Rattle.std.proofs.lemmas.Option.{same_Some, slice_get-get_or}
use Rattle.model.specs.Names.{java_lang_object, java_lang_thread, thread_run}
use Rattle.model.specs.BuiltIn.{built_in_classes}
use Rattle.model.specs.Classes.{Program, is_interface}
use Rattle.model.specs.Lookup.{select, is_private_method}
use Rattle.model.specs.ReferenceTypes.{ClassType, is_assignable}
use Rattle.model.specs.DescribedTypes.{made_type}
use Rattle.model.specs.State.{ObjectOf, Instance, Primitives, References, Characters, type_of}
use Rattle.model.specs.Calls.{Runs, if_concrete, is_one}
use Rattle.model.specs.Worlds.{no_object, class_of_object}
use Rattle.run_laws.proofs.laws.Lists.{get_map}
use Rattle.heap.specs.declared.kind.ObjectKind.{ObjectKind}
use Rattle.heap.specs.Heap.{Object, kind_of}
use Rattle.linked_code.specs.declared.program.LinkedProgram.{LinkedProgram}
use Rattle.linked_code.specs.Numbers.{IsClassAt}
use Rattle.linked_code.specs.Selection.{receiver_class}
use Rattle.machine_state.specs.shown_objects.Shown.{IsKindOf, ShowsObject, ShowsObjects}
use Rattle.machine_state.proofs.shown_objects.Objects.{shown_at}
use Rattle.run_laws.specs.typed_threads.Objects.{IsInstance}
use Rattle.machine_state.specs.Shown.{IsProgram}
use Rattle.machine_state.specs.method_selection.Receivers.{IsReceiverClass}
use Rattle.machine_state.specs.method_selection.Selected.{IsChosenBy, SelectsVirtual}

class_same : (m : ObjectOf ℕ) → receiver_class (type_of m) ≡ class_of_object m
class_same (Instance class fields) = refl
class_same (Primitives of elements) = refl
class_same (References of elements) = refl
class_same (Characters text) = refl

thread_is_class : (trees : Program) → is_interface trees java_lang_thread ≡ false
unfolding built_in_classes
thread_is_class trees = refl

run_is_public : (trees : Program) → is_one is_private_method trees thread_run ≡ false
unfolding built_in_classes
run_is_public trees = refl

module _ (trees : Program) (p : LinkedProgram) (program : IsProgram trees p) (objects : List Object) (heap : List (ObjectOf ℕ))
    (shows : ShowsObjects trees p.components.items objects heap)
    (object : ℕ) (instance : IsInstance trees heap java_lang_thread object) where
  abbrev m : ObjectOf ℕ
  m = slice_index_or heap object no_object

  there : slice_get heap object ≡ Some m
  there = slice_get-get_or heap object no_object instance.there

  shown : (o : Object) × (slice_get objects object ≡ Some o) × ShowsObject trees p.components.items o m
  shown = shown_at trees p.components.items objects heap object m shows there

  type : type_of m ≡ ClassType instance.own
  type = same_Some (type_of m) (ClassType instance.own) (sym (get_map type_of heap object m there) ∙ instance.type)

  assignable : is_assignable trees (type_of m) (made_type trees (ClassType java_lang_thread)) ≡ true
  assignable =
      ap (λ t. is_assignable trees t (made_type trees (ClassType java_lang_thread))) type
      ∙ ap (λ b. is_assignable trees (ClassType instance.own) (ClassType (if b then java_lang_object else java_lang_thread))) (thread_is_class trees)
      ∙ instance.below

  pub missing : None ≡ option_map kind_of (slice_get objects object) → ⊥
  missing none = let e = none ∙ ap (option_map kind_of) shown.1 in cc

  pub run_selected : (kind : ObjectKind) → Some kind ≡ option_map kind_of (slice_get objects object) → (class : ℕ)
      → IsReceiverClass kind class → (found : Option ℕ) → SelectsVirtual p class p.run_place found
      → IsChosenBy trees found (if_concrete trees (select trees (class_of_object m) thread_run))
  run_selected kind is class receiver found selects =
      let same : kind ≡ shown.0.kind = same_Some kind shown.0.kind (is ∙ ap (option_map kind_of) shown.1) in
      let at : IsClassAt trees class (receiver_class (type_of m)) = receiver trees p.components.items m (subst (λ (k : ObjectKind). IsKindOf trees p.components.items k m) (sym same) shown.2.kind) in
      subst (IsChosenBy trees found)
      (ap (λ b. if b then Runs thread_run else if_concrete trees (select trees (receiver_class (type_of m)) thread_run)) (run_is_public trees) ∙ ap (λ n. if_concrete trees (select trees n thread_run)) (class_same m))
      (selects trees (ClassType java_lang_thread) thread_run program.linked.run_place (type_of m) assignable at)
