-- What the row of a method's number tells of the method that a call runs.
use Rattle.std.proofs.Common.{◌≡◌, refl, sym, ap, subst, ◌∙◌, ℕ, List, [], Bool, true, false, Option, Some, None}
use Rattle.std.specs.Prelude.{◌||◌, not, is_some, slice_get, option_map}
use Rattle.std.specs.Option.{option_and_then, option_map_or}
use Rattle.std.specs.List.{list_all}
use Rattle.std.proofs.lemmas.Bool.{false≢true, not-true}
use Rattle.std.proofs.lemmas.Option.{same_Some}
use Rattle.thread_calls.specs.declared.thread_methods.ThreadMethod.{ThreadMethod}
use Rattle.model.specs.AccessFlags.{is_abstract_method}
use Rattle.model.specs.BuiltIn.{built_in_classes}
use Rattle.model.specs.BuiltInMethods.{built_in_method, built_in_methods}
use Rattle.model.specs.Calls.{Chosen, Runs, is_one, selected, if_implements}
use Rattle.model.specs.Classes.{Program, Body, body_of, name_of}
use Rattle.model.specs.Names.{Name, name_eq, Member, java_lang_object}
use Rattle.model.specs.ReferenceTypes.{ReferenceType, ClassType, PrimitiveArray, ReferenceArray, is_subclass_or_implements, is_subtype}
use Rattle.model.specs.State.{ObjectOf, type_of}
use Rattle.model.specs.Worlds.{class_of_object}
use Rattle.run_laws.proofs.laws.Classes.{names_same, name_self}
use Rattle.run_laws.proofs.word_runs.WordBuiltIns.{passes, passed}
use Rattle.linked_code.specs.declared.method.BuiltInMethod.{BuiltInMethod}
use Rattle.linked_code.specs.declared.method.BuiltInMethod.TheVariants as called
use Rattle.linked_code.specs.declared.method.LinkedMethod.{LinkedMethod}
use Rattle.linked_code.specs.declared.method.MethodBody.{MethodBody}
use Rattle.linked_code.specs.declared.method.MethodBody.TheVariants as body
use Rattle.linked_code.specs.declared.program.LinkedProgram.{LinkedProgram}
use Rattle.linked_code.specs.Methods.{IsMethodBody, built_in_of}
use Rattle.linked_code.specs.Numbers.{IsMethodAt, IsClassAt}
use Rattle.linked_code.specs.Selection.{IsChosenAt, receiver_class}
use Rattle.heap.specs.declared.kind.ObjectKind.{ObjectKind}
use Rattle.heap.specs.Heap.{Object, kind_of}
use Rattle.hierarchy.specs.Places.{name_at, place_of}
use Rattle.machine_state.specs.method_selection.Receivers.{IsReceiverClass}
use Rattle.machine_state.specs.method_selection.Rows.{AreMethodsRead}
use Rattle.machine_state.specs.method_selection.Run.{AreMethodsRun, RunsBody}
use Rattle.machine_state.specs.Shown.{IsProgram}
use Rattle.machine_state.specs.shown_objects.Shown.{IsKindOf, ShowsObject, ShowsObjects}
use Rattle.machine_state.proofs.shown_objects.Objects.{shown_at}
use Rattle.machine_instructions.proofs.called_methods.Selecting.{class_same}
use Rattle.data_races.specs.EventActions.{without_code}
use Rattle.linked_program.proofs.class_rows.Supers.{class_at_number}
use Rattle.method_tables.specs.selection_tables.Chosen.{IsChosenBy}
use Rattle.thread_calls.specs.thread_methods.Called.{as_thread_method, method_told, thread_method_of, body_method, method_in, TellsChosen, TellsOwn, TellsAbove}

-- ---- built-in methods by either enumeration

same_method : (b : BuiltInMethod) → thread_method_of b ≡ as_thread_method (built_in_of b)
same_method called.Construct = refl
same_method called.ObjectClone = refl
same_method called.ConstructWithMessage = refl
same_method called.ConstructWithCause = refl
same_method called.ObjectWait = refl
same_method called.ObjectNotify = refl
same_method called.ObjectNotifyAll = refl
same_method called.ThreadStart = refl
same_method called.ThreadInterrupt = refl
same_method called.ThreadIsInterrupted = refl
same_method called.ThreadInterrupted = refl
same_method called.ThreadYield = refl
same_method called.ThreadCurrentThread = refl
same_method called.ThreadJoin = refl
same_method called.ThreadIsAlive = refl
same_method (called.ThreadNames names) = refl
same_method (called.PrintStreamPrints print) = refl
same_method (called.StringAnswers answer) = refl
same_method (called.StringWrites writes) = refl
same_method (called.StringBuilderBuilds method) = refl
same_method (called.ObjectAnswers method) = refl

-- ---- a method that is chosen

abbrev run_by : Member → Option Body → Option ThreadMethod
run_by m o = option_and_then as_thread_method (without_code m o)

-- none of these methods is abstract
all_concrete : (trees : Program) → list_all (passes as_thread_method (refl, (refl, refl)) (λ m b. not (is_one is_abstract_method trees m))) built_in_methods ≡ true
unfolding built_in_classes
all_concrete trees = refl

none_abstract : (trees : Program) (m : Member) → is_one is_abstract_method trees m ≡ true → as_thread_method (built_in_method m) ≡ None
none_abstract trees m abstract = by (as_thread_method (built_in_method m)) refl
  where
    by : (o : Option ThreadMethod) → as_thread_method (built_in_method m) ≡ o → o ≡ None
    by None e = refl
    by (Some b) e =
        absurd (false≢true (sym (not-true (is_one is_abstract_method trees m) (passed as_thread_method (refl, (refl, refl)) (λ x y. not (is_one is_abstract_method trees x)) (all_concrete trees) m b e)) ∙ abstract))

module _ (trees : Program) (p : LinkedProgram) where
  by_body : (m : Member) (b : MethodBody) (chosen : Chosen) → RunsBody trees p m b chosen → body_method b ≡ method_told trees chosen
  by_body m body.Abstract chosen h = sym (ap (method_told trees) h)
  by_body m (body.BuiltIn b) chosen h = same_method b ∙ (ap as_thread_method h.2 ∙ sym (ap (method_told trees) h.0 ∙ ap (run_by m) h.1))
  by_body m (body.Code code) chosen h = sym (ap (method_told trees) h.0 ∙ ap (run_by m) h.1.1)

  pub chosen_told : AreMethodsRun → (number : ℕ) (told : Option ThreadMethod) → told ≡ method_in p number → TellsChosen trees p number told
  chosen_told runs number told is program chosen at =
      let run = runs trees p program.linked number chosen at in
      is ∙ (ap (option_and_then (λ (row : LinkedMethod). body_method row.body)) run.is ∙ by_body run.method run.row.body chosen run.runs)

  by_own : (m : Member) (o : Option Body) → body_of trees m ≡ o → (b : MethodBody) → IsMethodBody trees p m o b → body_method b ≡ method_told trees (Runs m)
  by_own m None e body.Abstract h = sym (ap (run_by m) e ∙ none_abstract trees m h)
  by_own m None e (body.BuiltIn b) h = same_method b ∙ (ap as_thread_method h.1 ∙ sym (ap (run_by m) e))
  by_own m None e (body.Code code) h = absurd h
  by_own m (Some own) e body.Abstract h = absurd h
  by_own m (Some own) e (body.BuiltIn b) h = absurd h
  by_own m (Some own) e (body.Code code) h = sym (ap (run_by m) e)

  pub own_told : AreMethodsRead → (number : ℕ) (told : Option ThreadMethod) → told ≡ method_in p number → TellsOwn trees p number told
  own_told reads number told is program m at =
      let has = reads trees p program.linked number m at in
      is ∙ (ap (option_and_then (λ (row : LinkedMethod). body_method row.body)) has.is ∙ by_own m (body_of trees m) refl has.row.body has.linked.runs)

-- ---- by the kind of a receiver

object_computed : (files : Program) (name : Name)
    → is_subclass_or_implements files java_lang_object name ≡ ((name_eq java_lang_object name || false) || (name_eq java_lang_object name || false))
unfolding built_in_classes
object_computed files name = refl

object_below : (trees : Program) (i : Name) → name_eq i java_lang_object ≡ is_subclass_or_implements trees java_lang_object i
object_below trees i = by (name_eq i java_lang_object) (name_eq java_lang_object i) refl refl ∙ sym (object_computed trees i)
  where
    by : (b c : Bool) → name_eq i java_lang_object ≡ b → name_eq java_lang_object i ≡ c → b ≡ ((c || false) || (c || false))
    by true true e f = refl
    by false false e f = refl
    by true false e f = absurd (false≢true (sym f ∙ (ap (name_eq java_lang_object) (names_same i java_lang_object e) ∙ name_self java_lang_object)))
    by false true e f = absurd (false≢true (sym e ∙ (ap (λ n. name_eq n java_lang_object) (sym (names_same java_lang_object i f)) ∙ name_self java_lang_object)))

subtype_is : (trees : Program) (t : ReferenceType) (i : Name) → is_subclass_or_implements trees (receiver_class t) i ≡ is_subtype trees t (ClassType i)
subtype_is trees (ClassType class) i = refl
subtype_is trees (PrimitiveArray of) i = sym (object_below trees i)
subtype_is trees (ReferenceArray of) i = sym (object_below trees i)

module _ (trees : Program) (p : LinkedProgram) (objects : List Object) (object : ℕ) (heap : List (ObjectOf ℕ)) (shows : ShowsObjects trees p.components.items objects heap)
    (receiver : ObjectOf ℕ) (there : slice_get heap object ≡ Some receiver) where
  shown : (o : Object) × (slice_get objects object ≡ Some o) × ShowsObject trees p.components.items o receiver
  shown = shown_at trees p.components.items objects heap object receiver shows there

  pub no_kind : None ≡ option_map kind_of (slice_get objects object) → ⊥
  no_kind none = let e = none ∙ ap (option_map kind_of) shown.1 in cc

  module _ (kind : ObjectKind) (is : Some kind ≡ option_map kind_of (slice_get objects object)) (class : ℕ) (of : IsReceiverClass kind class) where
    class_is : IsClassAt trees class (receiver_class (type_of receiver))
    class_is =
        let same : kind ≡ shown.0.kind = same_Some kind shown.0.kind (is ∙ ap (option_map kind_of) shown.1) in
        of trees p.components.items receiver (subst (λ (k : ObjectKind). IsKindOf trees p.components.items k receiver) (sym same) shown.2.kind)

    chosen_at : (callee number : ℕ) → IsChosenBy trees class callee number → (m : Member) → IsMethodAt trees callee m
        → IsChosenAt trees number (selected trees (class_of_object receiver) m)
    chosen_at callee number chosen m at =
        subst (λ n. IsChosenAt trees number (selected trees n m)) (class_is.2 ∙ class_same receiver) (chosen class_is.0 class_is.1 m at)

    pub virtual_told : (callee number : ℕ) → IsChosenBy trees class callee number → (told : Option ThreadMethod) → TellsChosen trees p number told
        → IsProgram trees p → (m : Member) → IsMethodAt trees callee m → told ≡ method_told trees (selected trees (class_of_object receiver) m)
    virtual_told callee number chosen told tells program m at =
        tells program (selected trees (class_of_object receiver) m) (chosen_at callee number chosen m at)

    -- whether it implements an interface
    implements_is : (interface : Name) → is_subclass_or_implements trees (name_at trees class) interface ≡ is_subtype trees (type_of receiver) (ClassType interface)
    implements_is interface =
        let name : name_at trees class ≡ receiver_class (type_of receiver) = ap (λ o. option_map_or name_of o []) class_is.1 ∙ class_is.2 in
        ap (λ n. is_subclass_or_implements trees n interface) name ∙ subtype_is trees (type_of receiver) interface

    pub implementing : (interface : Name) → is_subclass_or_implements trees (name_at trees class) interface ≡ true
        → (callee number : ℕ) → IsChosenBy trees class callee number → (told : Option ThreadMethod) → TellsChosen trees p number told
        → IsProgram trees p → (m : Member) → IsMethodAt trees callee m
        → told ≡ method_told trees (if_implements (is_subtype trees (type_of receiver) (ClassType interface)) (selected trees (class_of_object receiver) m))
    implementing interface e callee number chosen told tells program m at =
        virtual_told callee number chosen told tells program m at
        ∙ ap (λ b. method_told trees (if_implements b (selected trees (class_of_object receiver) m))) (sym (sym (implements_is interface) ∙ e))

    pub not_implementing : (interface : Name) → is_subclass_or_implements trees (name_at trees class) interface ≡ false → (m : Member)
        → None ≡ method_told trees (if_implements (is_subtype trees (type_of receiver) (ClassType interface)) (selected trees (class_of_object receiver) m))
    not_implementing interface e m =
        ap (λ b. method_told trees (if_implements b (selected trees (class_of_object receiver) m))) (sym (sym (implements_is interface) ∙ e))

-- ---- from a class upwards

module _ (trees : Program) (p : LinkedProgram) (class : Name) (callee : ℕ) (told : Option ThreadMethod) where
  pub above_told : (first number : ℕ) → Some first ≡ place_of trees class → IsChosenBy trees first callee number → TellsChosen trees p number told → TellsAbove trees p class callee told
  above_told first number e chosen tells program begins m at =
      let c = class_at_number trees (program.files, program.linkable) class first (sym e) in
      tells program (selected trees class m) (subst (λ n. IsChosenAt trees number (selected trees n m)) c.2 (chosen c.0 c.1 m at))

  pub no_class : None ≡ place_of trees class → TellsAbove trees p class callee told
  no_class e program begins m at = absurd (false≢true (ap is_some e ∙ begins))
