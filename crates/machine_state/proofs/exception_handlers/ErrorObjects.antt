-- Objects that are Errors.
use Rattle.std.proofs.Common.{◌≡◌, ◌∙◌, ℕ, zero, suc, Bool, true, false, List, [], ◌∷◌, length, refl, sym, ap, Option, Some, None, option_map}
use Rattle.std.specs.Prelude.{◌||◌, slice_get}
use Rattle.std.specs.List.{list_any, AllByRecursion}
use Rattle.std.proofs.lemmas.Bool.{or_from}
use Rattle.model.specs.Names.{Name, name_eq, java_lang_error, java_lang_string}
use Rattle.model.specs.BuiltIn.{built_in_classes}
use Rattle.model.specs.Classes.{Program, classes_of, is_interface, superclass_of, is_within, is_subclass, implements, all_superinterfaces}
use Rattle.model.specs.Linkable.{IsLinkable}
use Rattle.model.specs.ReferenceTypes.{ReferenceType, ClassType, is_subclass_or_implements}
use Rattle.model.specs.State.{ObjectOf, Instance, Primitives, References, Characters, type_of, types_of}
use Rattle.model.specs.Types.{is_object_of}
use Rattle.std.specs.Option.{option_map_or}
use Rattle.run_laws.proofs.laws.Classes.{names_same}
use Rattle.run_laws.proofs.laws.LinkedClasses.{all_interfaces}
use Rattle.run_laws.proofs.laws.Unrefused.{unrefused_of}
use Rattle.heap.specs.declared.kind.ObjectKind.{ObjectKind}
use Rattle.heap.specs.declared.kind.ObjectKind.TheVariants as kind
use Rattle.heap.specs.Heap.{Object, kind_of}
use Rattle.linked_code.specs.declared.types.LinkedType.{LinkedType}
use Rattle.linked_code.specs.Numbers.{IsClassAt}
use Rattle.machine_state.specs.exception_handlers.Errors.{class_in}
use Rattle.machine_state.specs.shown_objects.Shown.{IsKindOf, ShowsObjects}

-- ---- Error is no interface

no_interface : (trees : Program) → is_interface trees java_lang_error ≡ false
unfolding built_in_classes
no_interface trees = refl

none_named : (trees : Program) (names : List Name) → AllByRecursion (λ d. is_interface trees d ≡ true) names
    → list_any (λ i. name_eq i java_lang_error) names ≡ false
none_named trees [] h = refl
none_named trees (d ∷ ds) h = or_from _ _ (by (name_eq d java_lang_error) refl) (none_named trees ds h.1)
  where
    by : (b : Bool) → name_eq d java_lang_error ≡ b → b ≡ false
    by false e = refl
    by true e =
        let is : true ≡ false = sym h.0 ∙ ap (is_interface trees) (names_same d java_lang_error e) ∙ no_interface trees in absurd cc

here : (trees : Program) (n : ℕ) (class : Name) → name_eq class java_lang_error ≡ true → is_within trees n class java_lang_error ≡ true
here trees zero class h = h
here trees (suc n) class h = ap (λ b. b || option_map_or (λ s. is_within trees n s java_lang_error) (superclass_of trees class) false) h

-- nothing implements it
pub only_below : (files : List (List ℕ)) (trees : Program) → IsLinkable files trees → (class : Name)
    → is_subclass_or_implements trees class java_lang_error ≡ is_subclass trees class java_lang_error
only_below files trees linkable class = by (is_subclass trees class java_lang_error) (name_eq class java_lang_error) refl refl
  where
    none : list_any (λ i. name_eq i java_lang_error) (all_superinterfaces trees class) ≡ false
    none = none_named trees (all_superinterfaces trees class) (all_interfaces trees (unrefused_of files trees linkable.spelled linkable.no_refusal) class)

    by : (below same : Bool) → is_subclass trees class java_lang_error ≡ below → name_eq class java_lang_error ≡ same
        → (below || implements trees class java_lang_error) ≡ below
    by true same b e = refl
    by false false b e = ap (λ s. s || list_any (λ i. name_eq i java_lang_error) (all_superinterfaces trees class)) e ∙ none
    by false true b e = let is : true ≡ false = sym (here trees (length (classes_of trees)) class e) ∙ b in absurd cc

-- ---- the type of an object, by its kind

abbrev pub IsTypeBy : Program → Option ℕ → Option ReferenceType → Type 0
IsTypeBy trees None type = is_object_of trees (ClassType java_lang_error) type ≡ false
IsTypeBy trees (Some number) type = (own : Name) × (type ≡ Some (ClassType own)) × IsClassAt trees number own

module _ (trees : Program) (components : List LinkedType) where
  typed : (k : ObjectKind) (m : ObjectOf ℕ) → IsKindOf trees components k m → IsTypeBy trees (class_in (Some k)) (Some (type_of m))
  typed (kind.Instance number) (Instance class fields) is = (class, refl, is.0)
  typed (kind.Instance number) (Primitives element elements) is = absurd is
  typed (kind.Instance number) (References element elements) is = absurd is
  typed (kind.Instance number) (Characters text) is = (java_lang_string, refl, is.0)
  typed kind.Ints (Instance class fields) is = absurd is
  typed kind.Ints (Primitives element elements) is = refl
  typed kind.Ints (References element elements) is = refl
  typed kind.Ints (Characters text) is = absurd is
  typed (kind.Narrow narrow) (Instance class fields) is = absurd is
  typed (kind.Narrow narrow) (Primitives element elements) is = refl
  typed (kind.Narrow narrow) (References element elements) is = refl
  typed (kind.Narrow narrow) (Characters text) is = absurd is
  typed (kind.References number) (Instance class fields) is = absurd is
  typed (kind.References number) (Primitives element elements) is = refl
  typed (kind.References number) (References element elements) is = refl
  typed (kind.References number) (Characters text) is = absurd is

  pub type_by : (os : List Object) (ms : List (ObjectOf ℕ)) → ShowsObjects trees components os ms → (r : ℕ)
      → IsTypeBy trees (class_in (option_map kind_of (slice_get os r))) (slice_get (types_of ms) r)
  type_by [] [] h r = refl
  type_by [] (m ∷ ms) h r = absurd h
  type_by (o ∷ os) [] h r = absurd h
  type_by (o ∷ os) (m ∷ ms) h (suc r) = type_by os ms h.1 r
  type_by (o ∷ os) (m ∷ ms) h zero = typed o.kind m h.0.kind
