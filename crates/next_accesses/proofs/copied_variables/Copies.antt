-- What is told of clone is what it reads.
use Rattle.std.proofs.Common.{arith, ◌≡◌, ◌+◌, refl, sym, ap, subst, ◌∙◌, ℕ, List, [], ◌∷◌, length, map, Bool, true, false, Option, Some, None}
use Rattle.std.specs.Prelude.{is_some, slice_get, unwrap_or}
use Rattle.std.specs.Option.{option_map, option_map_or}
use Rattle.std.specs.List.{filter}
use Rattle.std.proofs.lemmas.Option.{same_Some, none-some}
use Rattle.model.specs.Classes.{Program, name_of}
use Rattle.model.specs.Cloning.{is_cloneable}
use Rattle.model.specs.Lookup.{instance_fields}
use Rattle.model.specs.Names.{Name, Member, java_lang_string}
use Rattle.model.specs.ReferenceTypes.{Int, ReferenceType, ClassType, PrimitiveArray, ReferenceArray}
use Rattle.model.specs.State.{ObjectOf, Instance, Primitives, References, Characters, type_of}
use Rattle.model.specs.Worlds.{elements_of}
use Rattle.heap.specs.declared.kind.ObjectKind.{ObjectKind}
use Rattle.heap.specs.declared.kind.ObjectKind.TheVariants as kind
use Rattle.heap.specs.Heap.{Object, kind_of, words_at, words_of}
use Rattle.hierarchy.specs.Places.{class_at, name_at}
use Rattle.linked_code.specs.declared.program.LinkedProgram.{LinkedProgram}
use Rattle.linked_code.specs.Numbers.{IsClassAt}
use Rattle.machine_state.specs.method_selection.Rows.{AreClassesRead}
use Rattle.machine_state.specs.Shown.{IsProgram}
use Rattle.machine_state.specs.shown_objects.Shown.{cells_of, IsKindOf, ShowsObject, ShowsObjects}
use Rattle.machine_state.proofs.shown_objects.Objects.{shown_at}
use Rattle.race_places.specs.declared.run_actions.Action.{Action}
use Rattle.race_places.specs.named_actions.Names.{named_action}
use Rattle.data_races.specs.Actions as named
use Rattle.data_races.specs.EventActions.{copy_accesses, is_variable, only_if}
use Rattle.data_races.specs.Variables.{InstanceField, declares_volatile}
use Rattle.field_names.specs.declared.named_fields.NamedField.{NamedField}
use Rattle.field_names.specs.instance_variables.Declared.{AreFields}
use Rattle.field_names.specs.named_fields.Fields.{IsField, member_at, names_of, no_member}
use Rattle.next_accesses.specs.copied_variables.Copied.{TellsCopied, TellsFields, field_read, is_row_cloneable, read_by_cloning, reads_of_fields, whole_array}
use Rattle.next_accesses.specs.element_ranges.Ranges.{range_actions}
use Rattle.next_accesses.specs.next_access.Next.{AreAllRight, AreNamed, names_given}
use Rattle.next_accesses.proofs.element_ranges.Chars.{part_named}
use Rattle.next_accesses.proofs.next_access.Right.{named_none, right_more, right_none}

-- ---- reads of fields

module _ (trees : Program) (object : ℕ) where
  abbrev read_of : Member → named.Action
  read_of field = named.Read (InstanceField object field)

  one_named : (field : Member) (told : NamedField) → IsField trees field told → named_action (names_of trees) (field_read object told) ≡ read_of field
  one_named field told h = ap (λ o. read_of (unwrap_or o no_member)) h.at

  all_named : (fields : List Member) (told : List NamedField) → AreFields trees fields told → names_given trees (map (field_read object) told) ≡ map read_of fields
  all_named [] [] h = refl
  all_named [] (t ∷ ts) h = absurd h
  all_named (f ∷ fs) [] h = absurd h
  all_named (f ∷ fs) (t ∷ ts) h = ap (λ a. a ∷ names_given trees (map (field_read object) ts)) (one_named f t h.0) ∙ ap (λ l. read_of f ∷ l) (all_named fs ts h.1)

  all_right : (fields : List Member) (told : List NamedField) → AreFields trees fields told → AreAllRight trees (map (field_read object) told)
  all_right [] [] h = right_none trees
  all_right [] (t ∷ ts) h = absurd h
  all_right (f ∷ fs) [] h = absurd h
  all_right (f ∷ fs) (t ∷ ts) h =
      right_more trees (field_read object t) (map (field_read object) ts)
      (ap is_some h.0.at, h.0.is_volatile ∙ ap (λ o. declares_volatile trees (unwrap_or o no_member)) (sym h.0.at)) (all_right fs ts h.1)

  pub fields_told : (class : ℕ) (name : Name) → name ≡ name_at trees class → (told : List NamedField)
      → AreFields trees (filter is_variable (instance_fields trees name)) told → TellsFields trees object class (map (field_read object) told)
  fields_told class name e told h =
      subst (λ n. AreNamed trees (map (field_read object) told) (reads_of_fields object (instance_fields trees n))) e
      (record { are = all_named (filter is_variable (instance_fields trees name)) told h; right = all_right (filter is_variable (instance_fields trees name)) told h })

-- ---- of the object that is shown

module _ (trees : Program) (p : LinkedProgram) (objects : List Object) (object : ℕ) (program : IsProgram trees p) (heap : List (ObjectOf ℕ))
    (shows : ShowsObjects trees p.components.items objects heap) (receiver : ObjectOf ℕ) (there : slice_get heap object ≡ Some receiver) where
  shown : (o : Object) × (slice_get objects object ≡ Some o) × ShowsObject trees p.components.items o receiver
  shown = shown_at trees p.components.items objects heap object receiver shows there

  kind_is : (k : ObjectKind) → Some k ≡ option_map kind_of (slice_get objects object) → IsKindOf trees p.components.items k receiver
  kind_is k e =
      let same : k ≡ shown.0.kind = same_Some k shown.0.kind (e ∙ ap (option_map kind_of) shown.1) in
      subst (λ (x : ObjectKind). IsKindOf trees p.components.items x receiver) (sym same) shown.2.kind

  -- of an instance: its class
  record IsOfClass (number : ℕ) : Type 0 where
    class : Name
    at : IsClassAt trees number class
    type : type_of receiver ≡ ClassType class

  of_class : (number : ℕ) (o : ObjectOf ℕ) → receiver ≡ o → IsKindOf trees p.components.items (kind.Instance number) o → IsOfClass number
  of_class number (Instance class fields) e is = record { class = class; at = is.0; type = ap type_of e }
  of_class number (Characters text) e is = record { class = java_lang_string; at = is.0; type = ap type_of e }
  of_class number (Primitives of elements) e is = absurd is
  of_class number (References of elements) e is = absurd is

  module _ (read : AreClassesRead) (number : ℕ) (is : Some (kind.Instance number) ≡ option_map kind_of (slice_get objects object)) where
    abbrev its : IsOfClass number
    its = of_class number receiver refl (kind_is (kind.Instance number) is)

    cloneable_is : is_row_cloneable (slice_get p.classes.items number) ≡ is_cloneable trees (type_of receiver)
    cloneable_is =
        let h = read trees p program.linked number its.class its.at in
        ap is_row_cloneable h.is ∙ (h.linked.cloneable ∙ (ap (λ n. is_cloneable trees (ClassType n)) h.named ∙ ap (is_cloneable trees) (sym its.type)))

    copied_is : (t : ReferenceType) (count : ℕ) → t ≡ ClassType its.class → copy_accesses trees object t count ≡ reads_of_fields object (instance_fields trees its.class)
    copied_is t count e = ap (λ x. copy_accesses trees object x count) e

    pub fields_copied : is_row_cloneable (slice_get p.classes.items number) ≡ true → (told : List Action) → TellsFields trees object number told
        → AreNamed trees told (read_by_cloning trees object receiver)
    fields_copied says told tells =
        let named : name_at trees number ≡ its.class = ap (λ o. option_map_or name_of o []) its.at.1 ∙ its.at.2 in
        let all = copied_is (type_of receiver) (length (elements_of receiver)) its.type ∙ ap (λ n. reads_of_fields object (instance_fields trees n)) (sym named) in
        subst (λ l. AreNamed trees told l)
        (sym (ap (λ b. only_if b (copy_accesses trees object (type_of receiver) (length (elements_of receiver)))) (sym cloneable_is ∙ says) ∙ all)) tells

    pub none_copied : is_row_cloneable (slice_get p.classes.items number) ≡ false → AreNamed trees [] (read_by_cloning trees object receiver)
    none_copied says =
        subst (λ l. AreNamed trees [] l)
        (sym (ap (λ b. only_if b (copy_accesses trees object (type_of receiver) (length (elements_of receiver)))) (sym cloneable_is ∙ says))) (named_none trees)

  -- of an array
  count_is : length (words_at objects object) ≡ length shown.0.words
  count_is = ap (λ o. length (words_of o)) shown.1

  whole : (count : ℕ) → length (words_at objects object) ≡ count
      → AreNamed trees (range_actions (whole_array objects object)) (copy_accesses trees object (PrimitiveArray Int) count)
  whole count e =
      let all : 0 + length (words_at objects object) ≡ length (words_at objects object) = omega arith in
      subst (λ n. AreNamed trees (range_actions (whole_array objects object)) (copy_accesses trees object (PrimitiveArray Int) n)) e
      (subst (λ n. AreNamed trees (range_actions (record { array = object; first = 0; end = n; is_written = false })) (copy_accesses trees object (PrimitiveArray Int) (length (words_at objects object)))) all
      (part_named trees false object 0 (length (words_at objects object))))

  by_kind : (k : ObjectKind) (o : ObjectOf ℕ) → IsKindOf trees p.components.items k o → ((number : ℕ) → k ≡ kind.Instance number → ⊥)
      → length (words_at objects object) ≡ length (cells_of o) → AreNamed trees (range_actions (whole_array objects object)) (read_by_cloning trees object o)
  by_kind (kind.Instance number) o is never e = absurd (never number refl)
  by_kind kind.Ints (Primitives of elements) is never e = whole (length elements) e
  by_kind kind.Ints (Instance class fields) is never e = absurd is
  by_kind kind.Ints (References of elements) is never e = absurd is
  by_kind kind.Ints (Characters text) is never e = absurd is
  by_kind (kind.Narrow narrow) (Primitives of elements) is never e = whole (length elements) e
  by_kind (kind.Narrow narrow) (Instance class fields) is never e = absurd is
  by_kind (kind.Narrow narrow) (References of elements) is never e = absurd is
  by_kind (kind.Narrow narrow) (Characters text) is never e = absurd is
  by_kind (kind.References number) (References of elements) is never e = whole (length elements) e
  by_kind (kind.References number) (Instance class fields) is never e = absurd is
  by_kind (kind.References number) (Primitives of elements) is never e = absurd is
  by_kind (kind.References number) (Characters text) is never e = absurd is

  pub array_copied : (k : ObjectKind) → Some k ≡ option_map kind_of (slice_get objects object) → ((number : ℕ) → k ≡ kind.Instance number → ⊥)
      → AreNamed trees (range_actions (whole_array objects object)) (read_by_cloning trees object receiver)
  array_copied k e never = by_kind k receiver (kind_is k e) never (count_is ∙ ap length shown.2.words)

  pub no_object : None ≡ option_map kind_of (slice_get objects object) → ⊥
  no_object none = none-some shown.0.kind (none ∙ ap (option_map kind_of) shown.1)
