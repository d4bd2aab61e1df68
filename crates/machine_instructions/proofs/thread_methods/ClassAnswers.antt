-- The Class object of an object's class, by the number of the class.
use Rattle.std.proofs.Common.{◌≡◌, ℕ, Some, None, refl, sym, subst}
use Rattle.model.specs.Classes.{Program}
use Rattle.model.specs.Names.{Name, java_lang_string}
use Rattle.model.specs.ObjectMethods.{HasNoClass, class_answer}
use Rattle.model.specs.ReferenceTypes.{ClassType}
use Rattle.model.specs.State.{ObjectOf, Instance, Primitives, References, Characters, type_of}
use Rattle.heap.specs.declared.kind.ObjectKind.{ObjectKind}
use Rattle.heap.specs.declared.kind.ObjectKind.TheVariants as kind
use Rattle.linked_code.specs.declared.program.LinkedProgram.{LinkedProgram}
use Rattle.linked_code.specs.Numbers.{IsClassAt}
use Rattle.machine_state.specs.exception_handlers.Errors.{class_in}
use Rattle.machine_state.specs.shown_objects.Shown.{IsKindOf}

pub record HasClass (trees : Program) (number : ℕ) (object : ObjectOf ℕ) : Type 0 where
  pub class : Name
  pub numbered : IsClassAt trees number class
  pub is : type_of object ≡ ClassType class

module _ (trees : Program) (p : LinkedProgram) where
  pub of_instance : (k : ObjectKind) (object : ObjectOf ℕ) → IsKindOf trees p.components.items k object → (number : ℕ) → Some number ≡ class_in (Some k)
      → HasClass trees number object
  of_instance (kind.Instance n) (Instance class fields) h number e =
      let same : number ≡ n = cc in record { class = class; numbered = subst (λ m. IsClassAt trees m class) (sym same) h.0; is = refl }
  of_instance (kind.Instance n) (Characters text) h number e =
      let same : number ≡ n = cc in record { class = java_lang_string; numbered = subst (λ m. IsClassAt trees m java_lang_string) (sym same) h.0; is = refl }
  of_instance (kind.Instance n) (Primitives of elements) h number e = absurd h
  of_instance (kind.Instance n) (References of elements) h number e = absurd h
  of_instance kind.Ints object h number e = absurd cc
  of_instance (kind.References n) object h number e = absurd cc
  of_instance (kind.Narrow narrow) object h number e = absurd cc

  pub of_array : (k : ObjectKind) (object : ObjectOf ℕ) → IsKindOf trees p.components.items k object → None ≡ class_in (Some k)
      → class_answer (type_of object) ≡ HasNoClass
  of_array (kind.Instance n) object h e = absurd cc
  of_array kind.Ints (Primitives of elements) h e = refl
  of_array kind.Ints (Instance class fields) h e = absurd h
  of_array kind.Ints (References of elements) h e = absurd h
  of_array kind.Ints (Characters text) h e = absurd h
  of_array (kind.Narrow narrow) (Primitives of elements) h e = refl
  of_array (kind.Narrow narrow) (Instance class fields) h e = absurd h
  of_array (kind.Narrow narrow) (References of elements) h e = absurd h
  of_array (kind.Narrow narrow) (Characters text) h e = absurd h
  of_array (kind.References n) (References of elements) h e = refl
  of_array (kind.References n) (Instance class fields) h e = absurd h
  of_array (kind.References n) (Primitives of elements) h e = absurd h
  of_array (kind.References n) (Characters text) h e = absurd h
