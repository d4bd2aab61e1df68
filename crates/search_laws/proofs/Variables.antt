-- What keeps the fields of objects and the elements of arrays.
use Rattle.std.proofs.Common.{◌≡◌, ℕ, ◌+◌, List, [], ◌∷◌, ◌++◌, Bool, true, false, ◌==◌, if◌then◌else◌, Some, refl, sym, ap, ◌∙◌, subst}
use Rattle.std.specs.Prelude.{slice_get, slice_set, slice_index_or}
use Rattle.std.proofs.lemmas.Bool.{false≢true, true≢false, eqb-true, eq-eqb}
use Rattle.std.proofs.lemmas.List.{length-set}
use Rattle.std.proofs.lemmas.Option.{get_or_from_slice_get}
use Rattle.model.specs.declared.value.Value.{Value}
use Rattle.model.specs.HiddenMembers.{is_hidden}
use Rattle.model.specs.Names.{Member, member_eq}
use Rattle.model.specs.State.{ObjectOf, Instance, Primitives, References, Characters}
use Rattle.model.specs.Texts.{Text}
use Rattle.model.specs.Worlds.{no_object, value_in, with_element, with_elements, with_text, with_field, with_value}
use Rattle.run_laws.proofs.laws.Classes.{members_same}
use Rattle.run_laws.proofs.laws.Lists.{get_front}
use Rattle.run_laws.proofs.typed_runs.Threads.{get_set_at, get_set_other}
use Rattle.search_laws.specs.Lengths.{KeepsLengths}
use Rattle.search_laws.specs.Writes.{Variables, Fields, Elements, IsUnchanged, KeepsVariables}

-- another field has the value that it had
pub value_other : (field other : Member) (first value : Value) → member_eq field other ≡ false → (fields : List (Member × Value))
    → value_in first other (with_value field value fields) ≡ value_in first other fields
value_other field other first value n [] = refl
value_other field other first value n (f ∷ fields) = by (member_eq f.0 field) refl (value_other field other first value n fields)
  where
    by : (b : Bool) → member_eq f.0 field ≡ b
        → value_in first other (with_value field value fields) ≡ value_in first other fields
        → value_in first other (if b then (f.0, value) ∷ fields else f ∷ with_value field value fields) ≡ value_in first other (f ∷ fields)
    by true q rest =
        let no = ap (λ m. member_eq m other) (members_same f.0 field q) ∙ n in
        ap (λ b. if b then value else value_in first other fields) no ∙ sym (ap (λ b. if b then f.1 else value_in first other fields) no)
    by false q rest = ap (λ s. if member_eq f.0 other then f.1 else s) rest

module _ (writes : Variables → Bool) where
  abbrev Keeps : List (ObjectOf Value) → List (ObjectOf Value) → Type 0
  Keeps = KeepsVariables writes

  pub unchanged : (o : ObjectOf Value) → IsUnchanged writes o o
  unchanged o = record { lengths = refl; fields = λ field first n k. refl; elements = λ n. refl }

  pub unchanged_on : (one two three : ObjectOf Value) → IsUnchanged writes one two → IsUnchanged writes two three → IsUnchanged writes one three
  unchanged_on one two three h g =
      record {
        lengths = g.lengths ∙ h.lengths;
        fields = λ field first n k. g.fields field first n k ∙ h.fields field first n k;
        elements = λ n. g.elements n ∙ h.elements n;
      }

  pub keeps_same : (heap : List (ObjectOf Value)) → Keeps heap heap
  keeps_same heap r old e = (old, (e, unchanged old))

  pub keeps_on : (one two three : List (ObjectOf Value)) → Keeps one two → Keeps two three → Keeps one three
  keeps_on one two three h g r old e =
      let x = h r old e in
      let y = g r x.0 x.1.0 in
      (y.0, (y.1.0, unchanged_on old x.0 y.0 x.1.1 y.1.1))

  pub keeps_more : (heap : List (ObjectOf Value)) (object : ObjectOf Value) → Keeps heap (heap ++ object ∷ [])
  keeps_more heap object r old e = (old, (get_front heap (object ∷ []) r old e, unchanged old))

  pub keeps_set : (heap : List (ObjectOf Value)) (k : ℕ) (new : ObjectOf Value) → IsUnchanged writes (slice_index_or heap k no_object) new
      → Keeps heap (slice_set heap k new)
  keeps_set heap k new same r old e = by (k == r) refl
    where
      by : (b : Bool) → (k == r) ≡ b → (z : ObjectOf Value) × ((slice_get (slice_set heap k new) r ≡ Some z) × IsUnchanged writes old z)
      by true q =
          let is = eqb-true k r q in
          let there = subst (λ j. slice_get heap j ≡ Some old) (sym is) e in (
            new,
            (
              ap (slice_get (slice_set heap k new)) (sym is) ∙ get_set_at heap k old new there,
              subst (λ o. IsUnchanged writes o new) (get_or_from_slice_get heap k old no_object there) same,
            ),
          )
      by false q = (old, (get_set_other heap k r new (λ is. false≢true (sym q ∙ eq-eqb k r is)) ∙ e, unchanged old))

  put_beside : (field : Member) (value : Value) (o : ObjectOf Value)
      → ((other : Member) → writes (Fields other) ≡ false → is_hidden other ≡ false → member_eq field other ≡ false)
      → IsUnchanged writes o (with_field field value o)
  put_beside field value (Instance class fields) h =
      record { lengths = refl; fields = λ other first n k. value_other field other first value (h other n k) fields; elements = λ n. refl }
  put_beside field value (Primitives of elements) h = unchanged (Primitives of elements)
  put_beside field value (References of elements) h = unchanged (References of elements)
  put_beside field value (Characters text) h = unchanged (Characters text)

  pub field_put : (field : Member) (value : Value) (o : ObjectOf Value) → writes (Fields field) ≡ true → IsUnchanged writes o (with_field field value o)
  field_put field value o w = put_beside field value o (λ other n k. by other n (member_eq field other) refl)
    where
      by : (other : Member) → writes (Fields other) ≡ false → (b : Bool) → member_eq field other ≡ b → member_eq field other ≡ false
      by other n true q = absurd (true≢false (sym w ∙ (ap (λ m. writes (Fields m)) (members_same field other q) ∙ n)))
      by other n false q = q

  pub hidden_put : (field : Member) (value : Value) (o : ObjectOf Value) → is_hidden field ≡ true → IsUnchanged writes o (with_field field value o)
  hidden_put field value o hidden = put_beside field value o (λ other n k. by other k (member_eq field other) refl)
    where
      by : (other : Member) → is_hidden other ≡ false → (b : Bool) → member_eq field other ≡ b → member_eq field other ≡ false
      by other k true q = absurd (true≢false (sym hidden ∙ (ap is_hidden (members_same field other q) ∙ k)))
      by other k false q = q

  pub element_put : (index : ℕ) (value : Value) (o : ObjectOf Value) → writes Elements ≡ true → IsUnchanged writes o (with_element index value o)
  element_put index value (Instance class fields) w = unchanged (Instance class fields)
  element_put index value (Primitives of elements) w =
      record { lengths = length-set elements index value; fields = λ field first n k. refl; elements = λ n. absurd (true≢false (sym w ∙ n)) }
  element_put index value (References of elements) w =
      record { lengths = length-set elements index value; fields = λ field first n k. refl; elements = λ n. absurd (true≢false (sym w ∙ n)) }
  element_put index value (Characters text) w = unchanged (Characters text)

  pub lengths_of : (before after : List (ObjectOf Value)) → Keeps before after → KeepsLengths before after
  lengths_of before after h r old e = let x = h r old e in (x.0, (x.1.0, x.1.1.lengths))

  -- several elements from an index on
  pub elements_put : (index : ℕ) (values : List Value) (o : ObjectOf Value) → writes Elements ≡ true → IsUnchanged writes o (with_elements index values o)
  elements_put index [] o w = unchanged o
  elements_put index (value ∷ values) o w =
      unchanged_on o (with_element index value o) (with_elements (index + 1) values (with_element index value o)) (element_put index value o w)
      (elements_put (index + 1) values (with_element index value o) w)

  -- the text of a String is no variable
  pub text_put : (text : Text) (o : ObjectOf Value) → IsUnchanged writes o (with_text text o)
  text_put text (Instance class fields) = unchanged (Instance class fields)
  text_put text (Primitives of elements) = unchanged (Primitives of elements)
  text_put text (References of elements) = unchanged (References of elements)
  text_put text (Characters old) = record { lengths = refl; fields = λ field first n k. refl; elements = λ n. refl }
