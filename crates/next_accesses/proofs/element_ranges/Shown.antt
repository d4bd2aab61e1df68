-- The elements of the arrays and the texts of the Strings of a heap are those of the objects that it shows.
use Rattle.std.proofs.Common.{◌≡◌, ◌==◌, ℕ, zero, suc, List, [], ◌∷◌, Bool, true, false, if◌then◌else◌, Some, None, eqb-true, refl, sym, ap, ◌∙◌}
use Rattle.std.specs.Prelude.{slice_get, slice_index_or}
use Rattle.std.proofs.lemmas.Bool.{true≢false}
use Rattle.std.proofs.lemmas.Option.{same_Some}
use Rattle.model.specs.BuiltInNumbers.{string_number}
use Rattle.model.specs.Names.{Name, name_eq, java_lang_string}
use Rattle.model.specs.Classes.{Program, name_of}
use Rattle.model.specs.Linkable.{IsLinkable}
use Rattle.model.specs.State.{ObjectOf, Instance, Primitives, References, Characters}
use Rattle.model.specs.Worlds.{elements_of, no_object, string_text}
use Rattle.heap.specs.declared.kind.ObjectKind.{ObjectKind}
use Rattle.heap.specs.declared.kind.ObjectKind.TheVariants as kind
use Rattle.heap.specs.Heap.{Object}
use Rattle.linked_code.specs.declared.types.LinkedType.{LinkedType}
use Rattle.linked_code.specs.Numbers.{IsClassAt}
use Rattle.machine_state.specs.shown_objects.Shown.{cells_of, IsKindOf, ShowsObjects}
use Rattle.machine_state.proofs.shown_objects.Strings.{string_at}
use Rattle.machine_state.proofs.type_tests.Numbered.{string_numbered}
use Rattle.machine_instructions.specs.thread_methods.Texts.{is_string, text_in}
use Rattle.machine_instructions.specs.thread_methods.TextWrites.{array_words, elements_in}

-- ---- elements

module _ (trees : Program) (components : List LinkedType) where
  elements_shown : (k : ObjectKind) (m : ObjectOf ℕ) (ws : List ℕ) → IsKindOf trees components k m → ws ≡ cells_of m → array_words k ws ≡ elements_of m
  elements_shown (kind.Instance number) (Instance class fields) ws is e = refl
  elements_shown (kind.Instance number) (Characters text) ws is e = refl
  elements_shown (kind.Instance number) (Primitives of elements) ws is e = absurd is
  elements_shown (kind.Instance number) (References of elements) ws is e = absurd is
  elements_shown kind.Ints (Primitives of elements) ws is e = e
  elements_shown kind.Ints (Instance class fields) ws is e = absurd is
  elements_shown kind.Ints (References of elements) ws is e = absurd is
  elements_shown kind.Ints (Characters text) ws is e = absurd is
  elements_shown (kind.Narrow narrow) (Primitives of elements) ws is e = e
  elements_shown (kind.Narrow narrow) (Instance class fields) ws is e = absurd is
  elements_shown (kind.Narrow narrow) (References of elements) ws is e = absurd is
  elements_shown (kind.Narrow narrow) (Characters text) ws is e = absurd is
  elements_shown (kind.References number) (References of elements) ws is e = e
  elements_shown (kind.References number) (Instance class fields) ws is e = absurd is
  elements_shown (kind.References number) (Primitives of elements) ws is e = absurd is
  elements_shown (kind.References number) (Characters text) ws is e = absurd is

  pub elements_at : (os : List Object) (ms : List (ObjectOf ℕ)) → ShowsObjects trees components os ms → (r : ℕ)
      → elements_in (slice_get os r) ≡ elements_of (slice_index_or ms r no_object)
  elements_at [] [] h r = refl
  elements_at [] (m ∷ ms) h r = absurd h
  elements_at (o ∷ os) [] h r = absurd h
  elements_at (o ∷ os) (m ∷ ms) h zero = elements_shown o.kind m o.words h.0.kind h.0.words
  elements_at (o ∷ os) (m ∷ ms) h (suc r) = elements_at os ms h.1 r

-- ---- texts

module _ (files : List (List ℕ)) (trees : Program) (linkable : IsLinkable files trees) (components : List LinkedType) where
  -- the class of that number is String
  named_string : (number : ℕ) (class : Name) → IsClassAt trees number class → number ≡ string_number → class ≡ java_lang_string
  named_string number class at e =
      let string = string_at trees in
      let same : at.0 ≡ string.0 = same_Some at.0 string.0 (sym at.1 ∙ ap (slice_get _) e ∙ string.1) in
      sym at.2 ∙ ap name_of same ∙ string.2

  by_kind : (k : ObjectKind) (m : ObjectOf ℕ) (ws : List ℕ) → IsKindOf trees components k m → ws ≡ cells_of m
      → (if is_string k then Some ws else None) ≡ string_text m
  by_kind (kind.Instance number) (Instance class fields) ws is e = by (number == string_number) refl
    where
      by : (b : Bool) → (number == string_number) ≡ b → (if b then Some ws else None) ≡ None
      by true n =
          let named = named_string number class is.0 (eqb-true number string_number n) in
          absurd (true≢false (ap (λ c. name_eq c java_lang_string) (sym named) ∙ is.2))
      by false n = refl
  by_kind (kind.Instance number) (Characters text) ws is e =
      λ i. if string_numbered files trees linkable number is.0 i == string_number then Some (e i) else None
  by_kind (kind.Instance number) (Primitives of elements) ws is e = absurd is
  by_kind (kind.Instance number) (References of elements) ws is e = absurd is
  by_kind kind.Ints (Instance class fields) ws is e = absurd is
  by_kind kind.Ints (Primitives of elements) ws is e = refl
  by_kind kind.Ints (References of elements) ws is e = absurd is
  by_kind kind.Ints (Characters text) ws is e = absurd is
  by_kind (kind.Narrow narrow) (Instance class fields) ws is e = absurd is
  by_kind (kind.Narrow narrow) (Primitives of elements) ws is e = refl
  by_kind (kind.Narrow narrow) (References of elements) ws is e = absurd is
  by_kind (kind.Narrow narrow) (Characters text) ws is e = absurd is
  by_kind (kind.References number) (Instance class fields) ws is e = absurd is
  by_kind (kind.References number) (Primitives of elements) ws is e = absurd is
  by_kind (kind.References number) (References of elements) ws is e = refl
  by_kind (kind.References number) (Characters text) ws is e = absurd is

  pub texts : (os : List Object) (ms : List (ObjectOf ℕ)) → ShowsObjects trees components os ms → (r : ℕ)
      → text_in (slice_get os r) ≡ string_text (slice_index_or ms r no_object)
  texts [] [] h r = refl
  texts [] (m ∷ ms) h r = absurd h
  texts (o ∷ os) [] h r = absurd h
  texts (o ∷ os) (m ∷ ms) h zero = by_kind o.kind m o.words h.0.kind h.0.words
  texts (o ∷ os) (m ∷ ms) h (suc r) = texts os ms h.1 r
