-- Objects and static fields, one by one.
use Rattle.std.proofs.Common.{◌≡◌, ◌<◌, ℕ, zero, suc, List, [], ◌∷◌, ◌++◌, length, true, Some, refl, sym, ap, subst, ◌∙◌}
use Rattle.std.specs.Prelude.{slice_get, slice_index, slice_set}
use Rattle.std.proofs.lemmas.List.{length-map}
use Rattle.model.specs.Names.{Name, Member}
use Rattle.model.specs.Classes.{Program}
use Rattle.model.specs.Lookup.{instance_fields}
use Rattle.model.specs.Opening.{static_fields}
use Rattle.model.specs.State.{ObjectOf, Instance, Primitives, References, Characters}
use Rattle.model.specs.Worlds.{value_in, with_value, with_field, elements_of, with_element, kept}
use Rattle.heap.specs.declared.kind.NarrowKind.TheVariants as narrow
use Rattle.heap.specs.declared.kind.ObjectKind.{ObjectKind}
use Rattle.heap.specs.declared.kind.ObjectKind.TheVariants as kind
use Rattle.heap.specs.Elements.{stored}
use Rattle.heap.specs.Heap.{Object, words_of, words_at, changed, put_field, with_word}
use Rattle.linked_code.specs.declared.types.LinkedType.{LinkedType}
use Rattle.linked_code.specs.Numbers.{slot_in}
use Rattle.machine_state.specs.shown_objects.Shown.{names_of, words_in, cells_of, IsKindOf, ShowsObject, ShowsObjects, ShowsStatics}
use Rattle.machine_state.specs.shown_objects.Laws.{IsField, is_array, kept_in, HasElements, IsStatic}
use Rattle.machine_state.proofs.shown_objects.Cells.{field_cells, element_cells, counts_same}
use Rattle.machine_state.proofs.shown_objects.Slots.{value_slot, with_slot, with_names, slot_within}

pub counted : (files : Program) (components : List LinkedType) (os : List Object) (ms : List (ObjectOf ℕ))
    → ShowsObjects files components os ms → length os ≡ length ms
counted files components [] [] h = refl
counted files components [] (m ∷ ms) h = absurd h
counted files components (o ∷ os) [] h = absurd h
counted files components (o ∷ os) (m ∷ ms) h = ap suc (counted files components os ms h.1)

pub added : (files : Program) (components : List LinkedType) (os : List Object) (ms : List (ObjectOf ℕ)) (o : Object) (m : ObjectOf ℕ)
    → ShowsObjects files components os ms → ShowsObject files components o m → ShowsObjects files components (os ++ o ∷ []) (ms ++ m ∷ [])
added files components [] [] o m h s = (s, tt)
added files components [] (x ∷ ms) o m h s = absurd h
added files components (y ∷ os) [] o m h s = absurd h
added files components (y ∷ os) (x ∷ ms) o m h s = (h.0, added files components os ms o m h.1 s)

-- the word of a slot, of fields that are named so
at_slot : (field : Member) (first : ℕ) (fields : List (Member × ℕ)) (ws : List ℕ) (names : List Member) (n : ℕ) → ws ≡ words_in fields
    → names_of fields ≡ names → slot_in names field ≡ Some n → value_in first field fields ≡ slice_index ws n
at_slot field first fields ws names n is named e = value_slot field first fields n (ap (λ l. slot_in l field) named ∙ e) ∙ ap (λ l. slice_index l n) (sym is)

set_slot : (field : Member) (v : ℕ) (fields : List (Member × ℕ)) (ws : List ℕ) (names : List Member) (n : ℕ) → ws ≡ words_in fields
    → names_of fields ≡ names → slot_in names field ≡ Some n → slice_set ws n v ≡ words_in (with_value field v fields)
set_slot field v fields ws names n is named e = ap (λ l. slice_set l n v) is ∙ sym (with_slot field v fields n (ap (λ l. slot_in l field) named ∙ e))

slot_below : (field : Member) (fields : List (Member × ℕ)) (ws : List ℕ) (names : List Member) (n : ℕ) → ws ≡ words_in fields
    → names_of fields ≡ names → slot_in names field ≡ Some n → n < length ws
slot_below field fields ws names n is named e =
    let count : length names ≡ length ws = ap length (sym named) ∙ length-map fields (λ (f : Member × ℕ). f.0) ∙ sym (length-map fields (λ (f : Member × ℕ). f.1)) ∙ ap length (sym is) in
    subst (λ k. n < k) count (slot_within field names n e)

-- what an array keeps is what its kind stores
kept_is : (files : Program) (components : List LinkedType) (k : ObjectKind) (m : ObjectOf ℕ) (w : ℕ) → IsKindOf files components k m
    → is_array m ≡ true → stored k w ≡ kept_in m w
kept_is files components k (Instance class fields) w h a = absurd cc
kept_is files components (kind.Instance number) (Primitives of elements) w h a = absurd h
kept_is files components kind.Ints (Primitives of elements) w h a = sym (ap (λ p. kept p w) h)
kept_is files components (kind.Narrow narrow.Boolean) (Primitives of elements) w h a = sym (ap (λ p. kept p w) h)
kept_is files components (kind.Narrow narrow.Char) (Primitives of elements) w h a = sym (ap (λ p. kept p w) h)
kept_is files components (kind.Narrow narrow.Byte) (Primitives of elements) w h a = sym (ap (λ p. kept p w) h)
kept_is files components (kind.Narrow narrow.Short) (Primitives of elements) w h a = sym (ap (λ p. kept p w) h)
kept_is files components (kind.References number) (Primitives of elements) w h a = absurd h
kept_is files components (kind.Instance number) (References of elements) w h a = absurd h
kept_is files components kind.Ints (References of elements) w h a = absurd h
kept_is files components (kind.Narrow n) (References of elements) w h a = absurd h
kept_is files components (kind.References number) (References of elements) w h a = refl
kept_is files components k (Characters text) w h a = absurd cc

-- the class and the names of an instance
pub record IsInstance (files : Program) (components : List LinkedType) (k : ObjectKind) (class : Name)
    (fields : List (Member × ℕ)) : Type 0 where
  pub names : names_of fields ≡ instance_fields files class
  pub again : (others : List (Member × ℕ)) → names_of others ≡ names_of fields → IsKindOf files components k (Instance class others)

instance_is : (files : Program) (components : List LinkedType) (k : ObjectKind) (class : Name) (fields : List (Member × ℕ))
    → IsKindOf files components k (Instance class fields) → IsInstance files components k class fields
instance_is files components (kind.Instance number) class fields h = record { names = h.1; again = λ others e. (h.0, e ∙ h.1, h.2) }
instance_is files components kind.Ints class fields h = absurd h
instance_is files components (kind.Narrow n) class fields h = absurd h
instance_is files components (kind.References number) class fields h = absurd h

-- an array stays of its kind
still_kind : (files : Program) (components : List LinkedType) (k : ObjectKind) (m : ObjectOf ℕ) (i v : ℕ) → IsKindOf files components k m
    → IsKindOf files components k (with_element i v m)
still_kind files components k (Instance class fields) i v h = h
still_kind files components (kind.Instance number) (Primitives of elements) i v h = absurd h
still_kind files components kind.Ints (Primitives of elements) i v h = h
still_kind files components (kind.Narrow n) (Primitives of elements) i v h = h
still_kind files components (kind.References number) (Primitives of elements) i v h = absurd h
still_kind files components (kind.Instance number) (References of elements) i v h = absurd h
still_kind files components kind.Ints (References of elements) i v h = absurd h
still_kind files components (kind.Narrow n) (References of elements) i v h = absurd h
still_kind files components (kind.References number) (References of elements) i v h = h
still_kind files components k (Characters text) i v h = h

cells_are : (m : ObjectOf ℕ) → is_array m ≡ true → elements_of m ≡ cells_of m
cells_are (Instance class fields) a = absurd cc
cells_are (Primitives of elements) a = refl
cells_are (References of elements) a = refl
cells_are (Characters text) a = absurd cc

set_cells : (m : ObjectOf ℕ) (i v : ℕ) → is_array m ≡ true → cells_of (with_element i v m) ≡ slice_set (cells_of m) i v
set_cells (Instance class fields) i v a = absurd cc
set_cells (Primitives of elements) i v a = refl
set_cells (References of elements) i v a = refl
set_cells (Characters text) i v a = absurd cc

module _ (files : Program) (components : List LinkedType) where
  pub shown_at : (os : List Object) (ms : List (ObjectOf ℕ)) (r : ℕ) (m : ObjectOf ℕ) → ShowsObjects files components os ms
      → slice_get ms r ≡ Some m → (o : Object) × (slice_get os r ≡ Some o) × ShowsObject files components o m
  shown_at os [] r m h e = absurd cc
  shown_at [] (x ∷ ms) r m h e = absurd h
  shown_at (o ∷ os) (x ∷ ms) zero m h e = let is : x ≡ m = cc in (o, refl, subst (λ y. ShowsObject files components o y) is h.0)
  shown_at (o ∷ os) (x ∷ ms) (suc r) m h e = shown_at os ms r m h.1 e

  pub shown_set : (os : List Object) (ms : List (ObjectOf ℕ)) (r : ℕ) (o : Object) (m : ObjectOf ℕ) → ShowsObjects files components os ms
      → ShowsObject files components o m → ShowsObjects files components (slice_set os r o) (slice_set ms r m)
  shown_set [] [] r o m h s = tt
  shown_set [] (x ∷ ms) r o m h s = absurd h
  shown_set (y ∷ os) [] r o m h s = absurd h
  shown_set (y ∷ os) (x ∷ ms) zero o m h s = (s, h.1)
  shown_set (y ∷ os) (x ∷ ms) (suc r) o m h s = (h.0, shown_set os ms r o m h.1 s)

  -- one of them is changed
  changed_at : (os : List Object) (ms : List (ObjectOf ℕ)) (r : ℕ) (o : Object) (m : ObjectOf ℕ) (change : Object → Object)
      → ShowsObjects files components os ms → slice_get os r ≡ Some o → ShowsObject files components (change o) m
      → ShowsObjects files components (changed os r change (slice_get os r)) (slice_set ms r m)
  changed_at os ms r o m change h e s = subst (λ x. ShowsObjects files components (changed os r change x) (slice_set ms r m)) (sym e) (shown_set os ms r (change o) m h s)

  pub are_fields : (os : List Object) (ms : List (ObjectOf ℕ)) → ShowsObjects files components os ms → (r : ℕ) (class : Name)
      (fields : List (Member × ℕ)) → slice_get ms r ≡ Some (Instance class fields) → (field : Member) (slot : ℕ)
      → slot_in (instance_fields files class) field ≡ Some slot → IsField files components os ms r slot field class fields
  are_fields os ms h r class fields e field slot is_slot =
      let found = shown_at os ms r (Instance class fields) h e in
      let o = found.0 in
      let instance = instance_is files components o.kind class fields found.2.kind in
      let words : words_at os r ≡ o.words = ap words_of found.1 in
      let cells : words_at os r ≡ words_in fields = words ∙ found.2.words in
      record {
        there = slot_below field fields (words_at os r) (instance_fields files class) slot cells instance.names is_slot;
        read = λ first. at_slot field first fields (words_at os r) (instance_fields files class) slot cells instance.names is_slot;
        written = λ word. changed_at os ms r o (Instance class (with_value field word fields)) (with_word slot word) h found.1
            (record {
              kind = instance.again (with_value field word fields) (with_names field word fields);
              words = set_slot field word fields o.words (instance_fields files class) slot found.2.words instance.names is_slot;
            });
        counted = λ word. counts_same ms r (Instance class fields) (with_field field word (Instance class fields)) e (field_cells class fields field word);
      }

  pub are_elements : (os : List Object) (ms : List (ObjectOf ℕ)) → ShowsObjects files components os ms → (r : ℕ) (m : ObjectOf ℕ)
      → slice_get ms r ≡ Some m → is_array m ≡ true → HasElements files components os ms r m
  are_elements os ms h r m e array =
      let found = shown_at os ms r m h e in
      let o = found.0 in
      record {
        are = cells_are m array ∙ sym (ap words_of found.1 ∙ found.2.words);
        written = λ index word. changed_at os ms r o (with_element index (kept_in m word) m) (λ (array : Object). with_word index (stored array.kind word) array) h found.1
            (record {
              kind = still_kind files components o.kind m index (kept_in m word) found.2.kind;
              words =
                  ap (λ v. slice_set o.words index v) (kept_is files components o.kind m word found.2.kind array)
                  ∙ ap (λ l. slice_set l index (kept_in m word)) found.2.words
                  ∙ sym (set_cells m index (kept_in m word) array);
            });
        counted = λ index word. counts_same ms r m (with_element index (kept_in m word) m) e (element_cells m index (kept_in m word));
      }

-- a word that is put among the elements of an array as it is
pub element_put : (files : Program) (components : List LinkedType) (os : List Object) (ms : List (ObjectOf ℕ)) → ShowsObjects files components os ms
    → (r : ℕ) (m : ObjectOf ℕ) → slice_get ms r ≡ Some m → is_array m ≡ true → (index word : ℕ)
    → ShowsObjects files components (put_field os r index word) (slice_set ms r (with_element index word m))
element_put files components os ms h r m e array index word =
    let found = shown_at files components os ms r m h e in
    let o = found.0 in
    changed_at files components os ms r o (with_element index word m) (with_word index word) h found.1
    (record {
      kind = still_kind files components o.kind m index word found.2.kind;
      words = ap (λ l. slice_set l index word) found.2.words ∙ sym (set_cells m index word array);
    })

pub are_statics : (files : Program) (slots : List ℕ) (statics : List (Member × ℕ)) → ShowsStatics files slots statics → (field : Member)
    (slot : ℕ) → slot_in (static_fields files) field ≡ Some slot → IsStatic files slots statics slot field
are_statics files slots statics h field slot is_slot =
    record {
      there = slot_below field statics slots (static_fields files) slot h.words h.names is_slot;
      read = λ first. at_slot field first statics slots (static_fields files) slot h.words h.names is_slot;
      written = λ word. record {
        words = set_slot field word statics slots (static_fields files) slot h.words h.names is_slot;
        names = with_names field word statics ∙ h.names;
      };
    }
