-- The method that is found by the kind of an object.
use Rattle.std.proofs.Common.{◌≡◌, ℕ, List, Option, Some, None, refl, sym, ap, subst, ◌∙◌}
use Rattle.std.specs.Prelude.{slice_get, option_map}
use Rattle.std.proofs.lemmas.Option.{same_Some}
use Rattle.model.specs.Classes.{Program}
use Rattle.model.specs.ReferenceTypes.{ClassType, is_subtype}
use Rattle.model.specs.State.{ObjectOf, Instance, Primitives, References, Characters, type_of}
use Rattle.model.specs.Worlds.{class_of_object}
use Rattle.model.specs.Calls.{selected, if_implements}
use Rattle.heap.specs.declared.kind.ObjectKind.{ObjectKind}
use Rattle.heap.specs.Heap.{Object, kind_of}
use Rattle.linked_code.specs.declared.program.LinkedProgram.{LinkedProgram}
use Rattle.linked_code.specs.Numbers.{IsClassAt}
use Rattle.linked_code.specs.Selection.{receiver_class}
use Rattle.machine_state.specs.shown_objects.Shown.{IsKindOf, ShowsObject, ShowsObjects}
use Rattle.machine_state.proofs.shown_objects.Objects.{shown_at}
use Rattle.machine_state.specs.method_selection.Receivers.{IsReceiverClass}
use Rattle.machine_state.specs.method_selection.Selected.{IsChosenBy, IsChosenOr, SelectsVirtual, SelectsInterface}
use Rattle.machine_instructions.specs.called_methods.Selected.{ChoosesVirtual, ChoosesInterface}

pub class_same : (m : ObjectOf ℕ) → receiver_class (type_of m) ≡ class_of_object m
class_same (Instance class fields) = refl
class_same (Primitives of elements) = refl
class_same (References of elements) = refl
class_same (Characters text) = refl

module _ (p : LinkedProgram) (objects : List Object) (object : ℕ) where
  module _ (trees : Program) (heap : List (ObjectOf ℕ)) (shows : ShowsObjects trees p.components.items objects heap) (receiver : ObjectOf ℕ) (there : slice_get heap object ≡ Some receiver) where
    shown : (o : Object) × (slice_get objects object ≡ Some o) × ShowsObject trees p.components.items o receiver
    shown = shown_at trees p.components.items objects heap object receiver shows there

    pub missing : None ≡ option_map kind_of (slice_get objects object) → ⊥
    missing none = let e = none ∙ ap (option_map kind_of) shown.1 in cc

    class_is : (kind : ObjectKind) → Some kind ≡ option_map kind_of (slice_get objects object) → (class : ℕ) → IsReceiverClass kind class
        → IsClassAt trees class (receiver_class (type_of receiver))
    class_is kind is class of =
        let same : kind ≡ shown.0.kind = same_Some kind shown.0.kind (is ∙ ap (option_map kind_of) shown.1) in
        of trees p.components.items receiver (subst (λ (k : ObjectKind). IsKindOf trees p.components.items k receiver) (sym same) shown.2.kind)

  module _ (kind : ObjectKind) (is : Some kind ≡ option_map kind_of (slice_get objects object)) (class : ℕ) (of : IsReceiverClass kind class) where
    pub virtual : (place : ℕ) (found : Option ℕ) → SelectsVirtual p class place found → ChoosesVirtual p objects object place found
    virtual place found selects trees program heap shows named callee selection receiver there assignable =
        subst (λ name. IsChosenBy trees found (selected trees name callee)) (class_same receiver)
        (selects trees named callee selection (type_of receiver) assignable (class_is trees heap shows receiver there kind is class of))

    pub interface : (selector : ℕ) (found : Option ℕ) → SelectsInterface p class selector found
        → ChoosesInterface p objects object selector found
    interface selector found selects trees program heap shows named callee selection receiver there =
        subst (λ name. IsChosenOr trees found (if_implements (is_subtype trees (type_of receiver) (ClassType named)) (selected trees name callee))) (class_same receiver)
        (selects trees program.linked named callee selection (type_of receiver) (class_is trees heap shows receiver there kind is class of))
