-- Object is the first of the built-in classes, and these come first.
use Rattle.std.proofs.Common.{◌≡◌, ◌⊎◌, inl, inr, ℕ, refl, sym, subst}
use Rattle.model.specs.Names.{java_lang_object}
use Rattle.model.specs.BuiltIn.{built_in_classes}
use Rattle.model.specs.Classes.{Program}
use Rattle.model.specs.State.{Instance, Primitives, References, Characters}
use Rattle.heap.specs.declared.kind.NarrowKind.{NarrowKind}
use Rattle.heap.specs.declared.kind.ObjectKind.{ObjectKind}
use Rattle.heap.specs.declared.kind.ObjectKind.TheVariants as kind
use Rattle.linked_code.specs.Numbers.{IsClassAt}
use Rattle.machine_state.specs.method_selection.Receivers.{IsReceiverClass}

object_is_first : (files : Program) → IsClassAt files 0 java_lang_object
unfolding built_in_classes
object_is_first files = (_, refl, refl)

-- so the methods of an array are those of the class of number 0
ints : IsReceiverClass kind.Ints 0
ints files components (Instance class fields) is = absurd is
ints files components (Primitives of elements) is = object_is_first files
ints files components (References of elements) is = absurd is
ints files components (Characters text) is = absurd is

narrow : (of : NarrowKind) → IsReceiverClass (kind.Narrow of) 0
narrow of files components (Instance class fields) is = absurd is
narrow of files components (Primitives type elements) is = object_is_first files
narrow of files components (References type elements) is = absurd is
narrow of files components (Characters text) is = absurd is

references : (of : ℕ) → IsReceiverClass (kind.References of) 0
references of files components (Instance class fields) is = absurd is
references of files components (Primitives type elements) is = absurd is
references of files components (References type elements) is = object_is_first files
references of files components (Characters text) is = absurd is

-- an array is of one of these kinds
pub of_array : (of : ObjectKind) → (of ≡ kind.Ints)
    ⊎ (((number : ℕ) × (of ≡ kind.References number)) ⊎ ((narrow_kind : NarrowKind) × (of ≡ kind.Narrow narrow_kind)))
    → IsReceiverClass of 0
of_array of (inl is) = subst (λ k. IsReceiverClass k 0) (sym is) ints
of_array of (inr (inl is)) = subst (λ k. IsReceiverClass k 0) (sym is.1) (references is.0)
of_array of (inr (inr is)) = subst (λ k. IsReceiverClass k 0) (sym is.1) (narrow is.0)
