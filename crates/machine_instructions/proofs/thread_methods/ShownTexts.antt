-- The texts of the Strings of a heap are those of the objects that it shows.
use Rattle.std.proofs.Common.{◌≡◌, ◌==◌, ℕ, zero, suc, List, [], ◌∷◌, Bool, true, false, if◌then◌else◌, Some, None, eqb-true, refl, sym, ap, ◌∙◌}
use Rattle.std.specs.Prelude.{slice_get, slice_index_or, option_and_then}
use Rattle.std.proofs.lemmas.Bool.{true≢false}
use Rattle.std.proofs.lemmas.Option.{same_Some}
use Rattle.model.specs.BuiltInMethods.{string_text, string_operand}
use Rattle.model.specs.BuiltInNumbers.{string_number}
use Rattle.model.specs.Names.{Name, name_eq, java_lang_string}
use Rattle.model.specs.Classes.{Program, name_of}
use Rattle.model.specs.Linkable.{IsLinkable}
use Rattle.model.specs.Operands.{words, word_reference}
use Rattle.model.specs.State.{ObjectOf, Instance, Primitives, References, Characters, WorldOf}
use Rattle.model.specs.Worlds.{no_object, object_at}
use Rattle.heap.specs.declared.kind.ObjectKind.{ObjectKind}
use Rattle.heap.specs.declared.kind.ObjectKind.TheVariants as kind
use Rattle.heap.specs.Heap.{Object}
use Rattle.linked_code.specs.declared.types.LinkedType.{LinkedType}
use Rattle.linked_code.specs.Numbers.{IsClassAt}
use Rattle.machine_state.specs.shown_objects.Shown.{cells_of, IsKindOf, ShowsObjects}
use Rattle.machine_state.proofs.shown_objects.Strings.{string_at}
use Rattle.machine_state.proofs.type_tests.Numbered.{string_numbered}
use Rattle.machine_instructions.specs.thread_methods.Texts.{is_string, text_in, text_by}
use Rattle.machine_instructions.proofs.thread_methods.TextAnswers.{AreUnitsOf}

module _ (files : List (List ℕ)) (trees : Program) (linkable : IsLinkable files trees) (components : List LinkedType) where
  -- the class of that number is String
  named_string : (number : ℕ) (class : Name) → IsClassAt trees number class → number ≡ string_number → class ≡ java_lang_string
  named_string number class at e =
      let string = string_at trees in
      let same : at.0 ≡ string.0 = same_Some at.0 string.0 (sym at.1 ∙ ap (slice_get _) e ∙ string.1) in
      sym at.2 ∙ ap name_of same ∙ string.2

  by_kind : (k : ObjectKind) (m : ObjectOf ℕ) (ws : List ℕ) → IsKindOf trees components k m → ws ≡ cells_of m
      → (if is_string k then Some ws else None) ≡ string_text m
  by_kind (kind.Instance number) (Instance class fields) ws is e = by (number == string_number) refl
    where
      by : (b : Bool) → (number == string_number) ≡ b → (if b then Some ws else None) ≡ None
      by true n =
          let named = named_string number class is.0 (eqb-true number string_number n) in
          absurd (true≢false (ap (λ c. name_eq c java_lang_string) (sym named) ∙ is.2))
      by false n = refl
  by_kind (kind.Instance number) (Characters text) ws is e =
      λ i. if string_numbered files trees linkable number is.0 i == string_number then Some (e i) else None
  by_kind (kind.Instance number) (Primitives of elements) ws is e = absurd is
  by_kind (kind.Instance number) (References of elements) ws is e = absurd is
  by_kind kind.Ints (Instance class fields) ws is e = absurd is
  by_kind kind.Ints (Primitives of elements) ws is e = refl
  by_kind kind.Ints (References of elements) ws is e = absurd is
  by_kind kind.Ints (Characters text) ws is e = absurd is
  by_kind (kind.Narrow narrow) (Instance class fields) ws is e = absurd is
  by_kind (kind.Narrow narrow) (Primitives of elements) ws is e = refl
  by_kind (kind.Narrow narrow) (References of elements) ws is e = absurd is
  by_kind (kind.Narrow narrow) (Characters text) ws is e = absurd is
  by_kind (kind.References number) (Instance class fields) ws is e = absurd is
  by_kind (kind.References number) (Primitives of elements) ws is e = absurd is
  by_kind (kind.References number) (References of elements) ws is e = refl
  by_kind (kind.References number) (Characters text) ws is e = absurd is

  -- each unit is one of 16 bits
  units_by : (m : ObjectOf ℕ) (k : ObjectKind) → IsKindOf trees components k m → AreUnitsOf (string_text m)
  units_by (Instance class fields) k is = tt
  units_by (Primitives of elements) k is = tt
  units_by (References of elements) k is = tt
  units_by (Characters text) (kind.Instance number) is = is.1
  units_by (Characters text) kind.Ints is = absurd is
  units_by (Characters text) (kind.Narrow narrow) is = absurd is
  units_by (Characters text) (kind.References number) is = absurd is

  pub texts : (os : List Object) (ms : List (ObjectOf ℕ)) → ShowsObjects trees components os ms → (r : ℕ)
      → text_in (slice_get os r) ≡ string_text (slice_index_or ms r no_object)
  texts [] [] h r = refl
  texts [] (m ∷ ms) h r = absurd h
  texts (o ∷ os) [] h r = absurd h
  texts (o ∷ os) (m ∷ ms) h zero = by_kind o.kind m o.words h.0.kind h.0.words
  texts (o ∷ os) (m ∷ ms) h (suc r) = texts os ms h.1 r

  pub units : (os : List Object) (ms : List (ObjectOf ℕ)) → ShowsObjects trees components os ms → (r : ℕ)
      → AreUnitsOf (string_text (slice_index_or ms r no_object))
  units [] [] h r = tt
  units [] (m ∷ ms) h r = absurd h
  units (o ∷ os) [] h r = absurd h
  units (o ∷ os) (m ∷ ms) h zero = units_by m o.kind h.0.kind
  units (o ∷ os) (m ∷ ms) h (suc r) = units os ms h.1 r

  module _ (objects : List Object) (world : WorldOf ℕ) (shows : ShowsObjects trees components objects world.heap) where
    pub by_word : (word : ℕ) → text_by objects word ≡ option_and_then (λ r. string_text (object_at world r)) (word_reference word)
    by_word zero = refl
    by_word (suc r) = texts objects world.heap shows r

    pub units_by_word : (word : ℕ) → AreUnitsOf (option_and_then (λ r. string_text (object_at world r)) (word_reference word))
    units_by_word zero = tt
    units_by_word (suc r) = units objects world.heap shows r

    -- of an operand
    pub text_is : (ops : List ℕ) (k : ℕ) → text_by objects (slice_index_or ops k 0) ≡ string_operand words world ops k
    text_is ops k = by_word (slice_index_or ops k 0)

    pub units_are : (ops : List ℕ) (k : ℕ) → AreUnitsOf (string_operand words world ops k)
    units_are ops k = units_by_word (slice_index_or ops k 0)
