-- The StringBuilders of a heap, and their texts, are those of the objects that it shows.
use Rattle.std.proofs.Common.{◌≡◌, ◌==◌, ◌++◌, ℕ, zero, suc, List, [], ◌∷◌, length, take, drop, Bool, true, false, if◌then◌else◌, Option, Some, None, eqb-true, refl, sym, ap, subst, ◌∙◌}
use Rattle.std.specs.Prelude.{slice_get, slice_index, slice_index_or, slice_set, option_and_then, unwrap_or, sum_by}
use Rattle.std.specs.List.{AllByRecursion, list_any}
use Rattle.std.proofs.lemmas.Bool.{true≢false, or_parts, or_from}
use Rattle.std.proofs.lemmas.List.{set-get_or}
use Rattle.std.proofs.lemmas.Option.{get_or_from_slice_get, same_Some}
use Rattle.model.specs.BuiltIn.{built_in_classes}
use Rattle.model.specs.BuiltInNumbers.{string_builder_number}
use Rattle.model.specs.BuilderMethods.{kept_string, text_or_empty, built_text, with_string, builder_shown}
use Rattle.model.specs.BuiltInMethods.{string_text}
use Rattle.model.specs.Classes.{Program, name_of, is_named, is_built_in, classes_of}
use Rattle.model.specs.Linkable.{IsLinkable, has_built_in_name, two_of_one_name}
use Rattle.model.specs.LimitStands.{Bounds}
use Rattle.model.specs.Lookup.{instance_fields}
use Rattle.model.specs.Names.{Name, Member, name_eq, member_eq, java_lang_string, java_lang_string_builder, builder_text}
use Rattle.model.specs.Operands.{words, word_reference}
use Rattle.model.specs.State.{ObjectOf, Instance, Primitives, References, Characters, WorldOf}
use Rattle.model.specs.Tree.{FileTree}
use Rattle.model.specs.Worlds.{no_object, object_at, value_in, with_value, with_field, text_of, string_shown, cells_of}
use Rattle.run_laws.proofs.laws.Classes.{names_same}
use Rattle.run_laws.proofs.laws.Unrefused.{names_differ}
use Rattle.heap.specs.declared.kind.ObjectKind.{ObjectKind}
use Rattle.heap.specs.declared.kind.ObjectKind.TheVariants as kind
use Rattle.heap.specs.Heap.{Object, Heap, put_field}
use Rattle.linked_code.specs.declared.program.LinkedProgram.{LinkedProgram}
use Rattle.linked_code.specs.declared.types.LinkedType.{LinkedType}
use Rattle.linked_code.specs.Numbers.{IsClassAt, slot_in}
use Rattle.machine_state.specs.shown_objects.Shown as machine
use Rattle.machine_state.specs.shown_objects.Shown.{names_of, words_in, IsKindOf, ShowsObject, ShowsObjects}
use Rattle.machine_state.specs.declared.state.Shared.{Shared}
use Rattle.machine_state.specs.Shown.{Represents}
use Rattle.machine_state.proofs.shown_objects.Objects.{are_fields, shown_at}
use Rattle.machine_state.proofs.type_tests.Numbered.{string_numbered}
use Rattle.machine_instructions.specs.thread_methods.Builders.{is_builder, is_builder_if, kept_in, kept_word, units_by, kept_text, with_kept, added_string, added_builder}
use Rattle.machine_instructions.proofs.field_instructions.Referred.{with_objects}
use Rattle.machine_instructions.proofs.thread_methods.BuilderFields.{builder_fields, other_fields}
use Rattle.machine_instructions.proofs.thread_methods.ShownTexts.{by_word}

-- ---- lists

-- where none of them passes a test, that at a place doesn't
none_at : {A : Type 0} (test : A → Bool) (xs : List A) (k : ℕ) (x : A) → list_any test xs ≡ false → slice_get xs k ≡ Some x
    → test x ≡ false
none_at test [] k x h e = absurd cc
none_at test (y ∷ xs) zero x h e = let same : y ≡ x = cc in subst (λ z. test z ≡ false) same (or_parts (test y) _ h).0
none_at test (y ∷ xs) (suc k) x h e = none_at test xs k x (or_parts (test y) _ h).1 e

-- one that passes it, among others that don't, is at its place
one_place : {A : Type 0} (test : A → Bool) (xs : List A) (y : A) (zs : List A) (n : ℕ) (x : A) → list_any test xs ≡ false
    → list_any test zs ≡ false → slice_get (xs ++ y ∷ zs) n ≡ Some x → test x ≡ true → n ≡ length xs
one_place test [] y zs zero x before behind e h = refl
one_place test [] y zs (suc n) x before behind e h = absurd (true≢false (sym h ∙ none_at test zs n x behind e))
one_place test (w ∷ xs) y zs zero x before behind e h =
    let same : w ≡ x = cc in absurd (true≢false (sym h ∙ subst (λ z. test z ≡ false) same (or_parts (test w) _ before).0))
one_place test (w ∷ xs) y zs (suc n) x before behind e h = ap suc (one_place test xs y zs n x (or_parts (test w) _ before).1 behind e h)

-- what is not there is read so
read_default : {A : Type 0} (xs : List A) (k : ℕ) (d : A) → slice_get xs k ≡ None → slice_index_or xs k d ≡ d
read_default [] k d e = refl
read_default (x ∷ xs) zero d e = absurd cc
read_default (x ∷ xs) (suc k) d e = read_default xs k d e

-- ---- its number

builder_at : (files : Program) → IsClassAt files string_builder_number java_lang_string_builder
unfolding built_in_classes
builder_at files = (_, refl, refl)

builder_found : is_built_in java_lang_string_builder ≡ true
unfolding built_in_classes
builder_found = refl

-- no file has its name
no_builder : (file : FileTree) → has_built_in_name file ≡ false → is_named java_lang_string_builder file ≡ false
no_builder file h = by (name_eq (name_of file) java_lang_string_builder) refl
  where
    by : (b : Bool) → name_eq (name_of file) java_lang_string_builder ≡ b → b ≡ false
    by true e = absurd (true≢false (sym builder_found ∙ ap is_built_in (sym (names_same (name_of file) java_lang_string_builder e)) ∙ h))
    by false e = refl

no_builders : (files : Program) → list_any has_built_in_name files ≡ false → list_any (is_named java_lang_string_builder) files ≡ false
no_builders [] h = refl
no_builders (file ∷ files) h =
    let both = or_parts (has_built_in_name file) _ h in
    or_from _ _ (no_builder file both.0) (no_builders files both.1)

before_builder : list_any (is_named java_lang_string_builder) (take string_builder_number built_in_classes) ≡ false
unfolding built_in_classes
before_builder = refl

builder_place : (files : Program) (number : ℕ) (file : FileTree) → list_any (is_named java_lang_string_builder) files ≡ false
    → slice_get (classes_of files) number ≡ Some file → is_named java_lang_string_builder file ≡ true → number ≡ string_builder_number
unfolding built_in_classes
builder_place files number file behind at named =
    one_place (is_named java_lang_string_builder) (take string_builder_number built_in_classes) _ files number file before_builder behind at named

-- ---- its only field

-- by the word of an object, where the names of its fields are these
read_first : (fields : List (Member × ℕ)) (ws : List ℕ) → ws ≡ words_in fields → names_of fields ≡ builder_text ∷ []
    → slice_index ws 0 ≡ value_in 0 builder_text fields
read_first [] ws e names = absurd cc
read_first (f ∷ fields) ws e names =
    let named : f.0 ≡ builder_text = cc in
    ap (λ l. slice_index l 0) e
    ∙ sym (ap (λ b. if b then f.1 else value_in 0 builder_text fields) (ap (λ m. member_eq m builder_text) named ∙ itself))
  where
    itself : member_eq builder_text builder_text ≡ true
    itself = refl

-- fields of other names
read_none : (fields : List (Member × ℕ)) → AllByRecursion (λ field. member_eq field builder_text ≡ false) (names_of fields)
    → value_in 0 builder_text fields ≡ 0
read_none [] h = refl
read_none (f ∷ fields) h = ap (λ b. if b then f.1 else value_in 0 builder_text fields) h.0 ∙ read_none fields h.1

kept_none : (word : ℕ) (fields : List (Member × ℕ)) → AllByRecursion (λ field. member_eq field builder_text ≡ false) (names_of fields)
    → with_value builder_text word fields ≡ fields
kept_none word [] h = refl
kept_none word (f ∷ fields) h =
    ap (λ b. if b then (f.0, word) ∷ fields else f ∷ with_value builder_text word fields) h.0 ∙ ap (λ l. f ∷ l) (kept_none word fields h.1)

-- ---- texts

text_or_none : (m : ObjectOf ℕ) → unwrap_or (string_text m) [] ≡ text_of m
text_or_none (Instance class fields) = refl
text_or_none (Primitives of elements) = refl
text_or_none (References of elements) = refl
text_or_none (Characters text) = refl

pub text_shown : (world : WorldOf ℕ) (o : Option ℕ) → unwrap_or (option_and_then (λ r. string_text (object_at world r)) o) [] ≡ text_or_empty world o
text_shown world None = refl
text_shown world (Some r) = text_or_none (object_at world r)

module _ (files : List (List ℕ)) (trees : Program) (linkable : IsLinkable files trees) (components : List LinkedType) where
  -- the class of that number is StringBuilder, and no other is
  named_builder : (number : ℕ) (class : Name) → IsClassAt trees number class → number ≡ string_builder_number
      → class ≡ java_lang_string_builder
  named_builder number class at e =
      let builder = builder_at trees in
      let same : at.0 ≡ builder.0 = same_Some at.0 builder.0 (sym at.1 ∙ ap (slice_get _) e ∙ builder.1) in
      sym at.2 ∙ ap name_of same ∙ builder.2

  other_builder : (number : ℕ) (class : Name) → IsClassAt trees number class → (number == string_builder_number) ≡ false
      → name_eq class java_lang_string_builder ≡ false
  other_builder number class at h = by (name_eq class java_lang_string_builder) refl
    where
      none : list_any (is_named java_lang_string_builder) trees ≡ false
      none = no_builders trees (or_parts (two_of_one_name trees) _ (names_differ trees linkable.no_refusal)).1

      by : (b : Bool) → name_eq class java_lang_string_builder ≡ b → b ≡ false
      by true e =
          let is : number ≡ string_builder_number =
          builder_place trees number at.0 none at.1 (ap (λ c. name_eq c java_lang_string_builder) at.2 ∙ e)
          in
          absurd (true≢false (sym (ap (λ n. n == string_builder_number) is) ∙ h))
      by false e = refl

  -- an instance of another class
  other_names : (number : ℕ) (class : Name) (fields : List (Member × ℕ)) → IsClassAt trees number class
      → names_of fields ≡ instance_fields trees class → (number == string_builder_number) ≡ false
      → AllByRecursion (λ field. member_eq field builder_text ≡ false) (names_of fields)
  other_names number class fields at names h =
      subst (AllByRecursion (λ field. member_eq field builder_text ≡ false)) (sym names) (other_fields files trees linkable class (other_builder number class at h))

  -- a String is none
  string_other : (number : ℕ) → IsClassAt trees number java_lang_string → (number == string_builder_number) ≡ false
  string_other number at = ap (λ n. n == string_builder_number) (string_numbered files trees linkable number at)

  -- ---- reading

  read_by : (k : ObjectKind) (m : ObjectOf ℕ) (ws : List ℕ) → IsKindOf trees components k m → ws ≡ machine.cells_of m
      → (if is_builder k then slice_index ws 0 else 0) ≡ kept_string words m
  read_by (kind.Instance number) (Instance class fields) ws is e = by (number == string_builder_number) refl
    where
      by : (b : Bool) → (number == string_builder_number) ≡ b → (if b then slice_index ws 0 else 0) ≡ value_in 0 builder_text fields
      by true h =
          let named = named_builder number class is.0 (eqb-true number string_builder_number h) in
          read_first fields ws e (is.1 ∙ ap (instance_fields trees) named ∙ builder_fields trees)
      by false h = sym (read_none fields (other_names number class fields is.0 is.1 h))
  read_by (kind.Instance number) (Characters text) ws is e = ap (λ b. if b then slice_index ws 0 else 0) (string_other number is.0)
  read_by (kind.Instance number) (Primitives of elements) ws is e = absurd is
  read_by (kind.Instance number) (References of elements) ws is e = absurd is
  read_by kind.Ints (Instance class fields) ws is e = absurd is
  read_by kind.Ints (Primitives of elements) ws is e = refl
  read_by kind.Ints (References of elements) ws is e = absurd is
  read_by kind.Ints (Characters text) ws is e = absurd is
  read_by (kind.Narrow narrow) (Instance class fields) ws is e = absurd is
  read_by (kind.Narrow narrow) (Primitives of elements) ws is e = refl
  read_by (kind.Narrow narrow) (References of elements) ws is e = absurd is
  read_by (kind.Narrow narrow) (Characters text) ws is e = absurd is
  read_by (kind.References number) (Instance class fields) ws is e = absurd is
  read_by (kind.References number) (Primitives of elements) ws is e = absurd is
  read_by (kind.References number) (References of elements) ws is e = refl
  read_by (kind.References number) (Characters text) ws is e = absurd is

  kept_is : (os : List Object) (ms : List (ObjectOf ℕ)) → ShowsObjects trees components os ms → (r : ℕ)
      → kept_in (slice_get os r) ≡ kept_string words (slice_index_or ms r no_object)
  kept_is [] [] h r = refl
  kept_is [] (m ∷ ms) h r = absurd h
  kept_is (o ∷ os) [] h r = absurd h
  kept_is (o ∷ os) (m ∷ ms) h zero = read_by o.kind m o.words h.0.kind h.0.words
  kept_is (o ∷ os) (m ∷ ms) h (suc r) = kept_is os ms h.1 r

  module _ (objects : List Object) (world : WorldOf ℕ) (shows : ShowsObjects trees components objects world.heap) where
    pub word_is : (r : ℕ) → kept_word objects r ≡ kept_string words (object_at world r)
    word_is r = kept_is objects world.heap shows r

    units_is : (word : ℕ) → units_by objects word ≡ text_or_empty world (word_reference word)
    units_is word =
        ap (λ o. unwrap_or o []) (by_word files trees linkable components objects world shows word) ∙ text_shown world (word_reference word)

    pub kept_text_is : (r : ℕ) → kept_text objects r ≡ built_text words world r
    kept_text_is r = units_is (kept_word objects r) ∙ ap (λ w. text_or_empty world (word_reference w)) (word_is r)

    pub string_is : (word : ℕ) → added_string objects word ≡ string_shown world (word_reference word)
    string_is zero = refl
    string_is (suc r) = units_is (suc r)

    pub builder_is : (word : ℕ) → added_builder objects word ≡ builder_shown words world (word_reference word)
    builder_is zero = refl
    builder_is (suc r) = kept_text_is r

  -- ---- writing

  -- what it has become shows its text, and counts as it did
  pub record IsKept (objects : List Object) (ms : List (ObjectOf ℕ)) (r word : ℕ) : Type 0 where
    pub shows : ShowsObjects trees components (with_kept objects r word)
        (slice_set ms r (with_field builder_text word (slice_index_or ms r no_object)))
    pub counted : (n : ℕ) → sum_by cells_of (drop n (slice_set ms r (with_field builder_text word (slice_index_or ms r no_object))))
        ≡ sum_by cells_of (drop n ms)

  -- another object stays as it is
  unkept : (objects : List Object) (ms : List (ObjectOf ℕ)) (r word : ℕ) → ShowsObjects trees components objects ms
      → with_kept objects r word ≡ objects
      → with_field builder_text word (slice_index_or ms r no_object) ≡ slice_index_or ms r no_object → IsKept objects ms r word
  unkept objects ms r word h same stays =
      let unchanged : slice_set ms r (with_field builder_text word (slice_index_or ms r no_object)) ≡ ms =
      ap (slice_set ms r) stays ∙ set-get_or ms r no_object
      in
      record {
        shows = subst (λ os. ShowsObjects trees components os (slice_set ms r (with_field builder_text word (slice_index_or ms r no_object)))) (sym same) (subst (ShowsObjects trees components objects) (sym unchanged) h);
        counted = λ n. ap (λ l. sum_by cells_of (drop n l)) unchanged;
      }

  -- an object of a kind is a StringBuilder, or another one
  data Kept (k : ObjectKind) (m : ObjectOf ℕ) (word : ℕ) : Type 0 where
    Builder : is_builder k ≡ true → (fields : List (Member × ℕ)) → m ≡ Instance java_lang_string_builder fields → Kept k m word
    Other : is_builder k ≡ false → with_field builder_text word m ≡ m → Kept k m word

  kept_by : (k : ObjectKind) (m : ObjectOf ℕ) (word : ℕ) → IsKindOf trees components k m → Kept k m word
  kept_by (kind.Instance number) (Instance class fields) word is = by (number == string_builder_number) refl
    where
      by : (b : Bool) → (number == string_builder_number) ≡ b → Kept (kind.Instance number) (Instance class fields) word
      by true h = Builder h fields (ap (λ c. Instance c fields) (named_builder number class is.0 (eqb-true number string_builder_number h)))
      by false h = Other h (ap (λ l. Instance class l) (kept_none word fields (other_names number class fields is.0 is.1 h)))
  kept_by (kind.Instance number) (Characters text) word is = Other (string_other number is.0) refl
  kept_by (kind.Instance number) (Primitives of elements) word is = absurd is
  kept_by (kind.Instance number) (References of elements) word is = absurd is
  kept_by kind.Ints (Instance class fields) word is = absurd is
  kept_by kind.Ints (Primitives of elements) word is = Other refl refl
  kept_by kind.Ints (References of elements) word is = absurd is
  kept_by kind.Ints (Characters text) word is = absurd is
  kept_by (kind.Narrow narrow) (Instance class fields) word is = absurd is
  kept_by (kind.Narrow narrow) (Primitives of elements) word is = Other refl refl
  kept_by (kind.Narrow narrow) (References of elements) word is = absurd is
  kept_by (kind.Narrow narrow) (Characters text) word is = absurd is
  kept_by (kind.References number) (Instance class fields) word is = absurd is
  kept_by (kind.References number) (Primitives of elements) word is = absurd is
  kept_by (kind.References number) (References of elements) word is = Other refl refl
  kept_by (kind.References number) (Characters text) word is = absurd is

  none_shown : (os : List Object) (xs : List (ObjectOf ℕ)) → ShowsObjects trees components os xs → (k : ℕ) → slice_get xs k ≡ None
      → slice_get os k ≡ None
  none_shown [] xs q k e = refl
  none_shown (o ∷ os) [] q k e = absurd q
  none_shown (o ∷ os) (x ∷ xs) q zero e = absurd cc
  none_shown (o ∷ os) (x ∷ xs) q (suc k) e = none_shown os xs q.1 k e

  text_slot : slot_in (instance_fields trees java_lang_string_builder) builder_text ≡ Some 0
  text_slot = ap (λ fields. slot_in fields builder_text) (builder_fields trees)

  module _ (objects : List Object) (ms : List (ObjectOf ℕ)) (h : ShowsObjects trees components objects ms) (r word : ℕ) where
    at_one : (m : ObjectOf ℕ) → slice_get ms r ≡ Some m → (o : Object) → slice_get objects r ≡ Some o → Kept o.kind m word
        → IsKept objects ms r word
    at_one m there o found (Builder is fields e) =
        let object : slice_get ms r ≡ Some (Instance java_lang_string_builder fields) = there ∙ ap (λ (x : ObjectOf ℕ). Some x) e in
        let field = are_fields trees components objects ms h r java_lang_string_builder fields object builder_text 0 text_slot in
        let read : Instance java_lang_string_builder fields ≡ slice_index_or ms r no_object =
        sym (get_or_from_slice_get ms r (Instance java_lang_string_builder fields) no_object object)
        in
        let kept : put_field objects r 0 word ≡ with_kept objects r word =
        sym (ap (λ b. if b then put_field objects r 0 word else objects) (ap is_builder_if found ∙ is))
        in
        record {
          shows = subst (λ os. ShowsObjects trees components os (slice_set ms r (with_field builder_text word (slice_index_or ms r no_object)))) kept
              (subst (λ m. ShowsObjects trees components (put_field objects r 0 word) (slice_set ms r (with_field builder_text word m))) read (field.written word));
          counted = λ n.
              ap (λ m. sum_by cells_of (drop n (slice_set ms r (with_field builder_text word m)))) (sym read) ∙ field.counted word n;
        }
    at_one m there o found (Other is stays) =
        unkept objects ms r word h (ap (λ b. if b then put_field objects r 0 word else objects) (ap is_builder_if found ∙ is))
        (subst (λ x. with_field builder_text word x ≡ x) (sym (get_or_from_slice_get ms r m no_object there)) stays)

    at_none : slice_get ms r ≡ None → IsKept objects ms r word
    at_none none =
        unkept objects ms r word h
        (ap (λ b. if b then put_field objects r 0 word else objects) (ap is_builder_if (none_shown objects ms h r none)))
        (ap (with_field builder_text word) (read_default ms r no_object none) ∙ sym (read_default ms r no_object none))

    pub kept : IsKept objects ms r word
    kept = by (slice_get ms r) refl
      where
        by : (o : Option (ObjectOf ℕ)) → slice_get ms r ≡ o → IsKept objects ms r word
        by None e = at_none e
        by (Some m) e = let found = shown_at trees components objects ms r m h e in at_one m e found.0 found.1 (kept_by found.0.kind m word found.2.kind)

-- ---- all that is shared

-- a String becomes the text
pub keeps : (trees : Program) (p : LinkedProgram) (bounds : Bounds) (files : List (List ℕ)) → IsLinkable files trees
    → (old : Shared) (world : WorldOf ℕ) → Represents trees p bounds old world → (r word : ℕ) → (heap : Heap)
    → heap ≡ record old.heap { objects = with_kept old.heap.objects r word }
    → Represents trees p bounds (record old { heap = heap }) (with_string world r word)
keeps trees p bounds files linkable old world represents r word heap is =
    let k = kept files trees linkable p.components.items old.heap.objects world.heap represents.world_is.objects r word in
    subst (λ (h : Heap). Represents trees p bounds (record old { heap = h }) (with_string world r word)) (sym is)
    (with_objects trees p bounds old world represents (with_kept old.heap.objects r word) (slice_set world.heap r (with_field builder_text word (object_at world r))) k.shows k.counted)
