-- What keeps the texts of Strings.
use Rattle.std.proofs.Common.{◌≡◌, ℕ, ◌+◌, List, [], ◌∷◌, ◌++◌, length, Bool, true, false, ◌&&◌, ◌==◌, nat_le, Some, refl, sym, ap, ◌∙◌, subst}
use Rattle.std.specs.Prelude.{slice_get, slice_set, slice_index_or}
use Rattle.std.proofs.lemmas.Bool.{false≢true, eqb-true, eq-eqb}
use Rattle.std.proofs.lemmas.Option.{get_or_from_slice_get}
use Rattle.model.specs.declared.value.Value.{Value}
use Rattle.model.specs.Names.{Member}
use Rattle.model.specs.State.{ObjectOf, Instance, Primitives, References, Characters}
use Rattle.model.specs.Worlds.{no_object, with_element, with_elements, with_field, text_of}
use Rattle.run_laws.proofs.laws.Lists.{get_front}
use Rattle.run_laws.proofs.typed_runs.Threads.{get_set_at, get_set_other}
use Rattle.search_laws.specs.Texts.{is_unwritten, KeepsTexts}

-- ---- one object

pub field_text : (field : Member) (value : Value) (o : ObjectOf Value) → text_of (with_field field value o) ≡ text_of o
field_text field value (Instance class fields) = refl
field_text field value (Primitives of elements) = refl
field_text field value (References of elements) = refl
field_text field value (Characters text) = refl

pub element_text : (index : ℕ) (value : Value) (o : ObjectOf Value) → text_of (with_element index value o) ≡ text_of o
element_text index value (Instance class fields) = refl
element_text index value (Primitives of elements) = refl
element_text index value (References of elements) = refl
element_text index value (Characters text) = refl

pub elements_text : (index : ℕ) (values : List Value) (o : ObjectOf Value) → text_of (with_elements index values o) ≡ text_of o
elements_text index [] o = refl
elements_text index (value ∷ values) o = elements_text (index + 1) values (with_element index value o) ∙ element_text index value o

-- ---- all objects

module _ (opened : ℕ) where
  pub texts_same : (heap : List (ObjectOf Value)) → KeepsTexts opened heap heap
  texts_same heap r old e = (old, (e, λ q. refl))

  pub texts_on : (one two three : List (ObjectOf Value)) → KeepsTexts opened one two → KeepsTexts opened two three → KeepsTexts opened one three
  texts_on one two three h g r old e =
      let x = h r old e in
      let y = g r x.0 x.1.0 in
      (y.0, (y.1.0, λ q. let same = x.1.1 q in y.1.1 (ap (λ t. nat_le opened r && length t == 0) same ∙ q) ∙ same))

  pub texts_more : (heap : List (ObjectOf Value)) (object : ObjectOf Value) → KeepsTexts opened heap (heap ++ object ∷ [])
  texts_more heap object r old e = (old, (get_front heap (object ∷ []) r old e, λ q. refl))

  pub texts_set : (heap : List (ObjectOf Value)) (k : ℕ) (new : ObjectOf Value)
      → (is_unwritten opened k (slice_index_or heap k no_object) ≡ false → text_of new ≡ text_of (slice_index_or heap k no_object))
      → KeepsTexts opened heap (slice_set heap k new)
  texts_set heap k new same r old e = by (k == r) refl
    where
      by : (b : Bool) → (k == r) ≡ b
          → (z : ObjectOf Value) × ((slice_get (slice_set heap k new) r ≡ Some z) × (is_unwritten opened r old ≡ false → text_of z ≡ text_of old))
      by true q =
          let is = eqb-true k r q in
          let there = subst (λ j. slice_get heap j ≡ Some old) (sym is) e in
          let at : slice_index_or heap k no_object ≡ old = get_or_from_slice_get heap k old no_object there in (
            new,
            (
              ap (slice_get (slice_set heap k new)) (sym is) ∙ get_set_at heap k old new there,
              λ n. same (ap (is_unwritten opened k) at ∙ (ap (λ j. is_unwritten opened j old) is ∙ n)) ∙ ap text_of at,
            ),
          )
      by false q = (old, (get_set_other heap k r new (λ is. false≢true (sym q ∙ eq-eqb k r is)) ∙ e, λ n. refl))
