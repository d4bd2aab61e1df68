-- Worlds by their words: what is read of them, and how they change.
use Rattle.std.proofs.Common.{◌≡◌, ℕ, suc, ◌+◌, List, [], ◌∷◌, ◌++◌, map, length, cond, filter, Bool, true, false, ◌==◌, if◌then◌else◌, Option, Some, None, option_map, refl, sym, ap, ◌∙◌}
use Rattle.std.specs.Option.{option_map_or, option_and_then}
use Rattle.std.proofs.lemmas.List.{map-append, length-map}
use Rattle.model.specs.declared.value.Value.{Value}
use Rattle.model.specs.declared.value.Value.TheVariants as value
use Rattle.model.specs.Names.{Name, Member, member_eq, name_eq, java_lang_string, builder_text, thread_name, thread_ordinal}
use Rattle.model.specs.Tree.{Entry, Utf8, Integer, Float, Long, Double, Class, String, Field, Method, InterfaceMethod, NameAndType, Unusable, FieldTree, FileTree}
use Rattle.model.specs.Spelling.{entry_at}
use Rattle.model.specs.Pool.{utf8_at}
use Rattle.model.specs.Classes.{Program, class_of}
use Rattle.model.specs.Descriptors.{ElementType, FieldType}
use Rattle.model.specs.Descriptors as descriptors
use Rattle.model.specs.DescriptorScan.{field_type}
use Rattle.model.specs.DescribedTypes.{DeclaredType, DeclaredInt, DeclaredReference, field_declared}
use Rattle.model.specs.Lookup.{field_member, instance_fields}
use Rattle.model.specs.Operands.{values, words, word_of, word_reference, reference_of}
use Rattle.model.specs.BuilderMethods.{kept_string}
use Rattle.model.specs.ThreadNames.{kept_name, ordinal_text}
use Rattle.model.specs.Texts.{Text}
use Rattle.model.specs.Ints.{signed}
use Rattle.std.specs.Fmt.{signed_decimal}
use Rattle.std.specs.Prelude.{codes}
use Rattle.model.specs.State.{Waiter, WakeCause, ObjectOf, Instance, Primitives, References, InProgress, type_of, types_of, World, WorldOf, Characters}
use Rattle.model.specs.Opening.{first_value, first_of, with_first, first_instance, new_instance, string_reference}
use Rattle.model.specs.Worlds.{woken, all_woken, allocated, no_object, object_at, with_object, value_in, with_value, fields_of, with_field, is_cell_field, cells_of, with_static, elements_of, with_element, with_elements, with_text, element_kept, type_kept, put_value, class_of_object, text_of}
use Rattle.model.specs.BuiltInMethods.{string_text}
use Rattle.model.specs.ClassInitialisation.{constant_in, constant_of, constant_value, with_constant, with_constants, with_class_status, with_class_begun}
use Rattle.model.specs.Words.{map_field, map_object, map_world}
use Rattle.run_laws.proofs.laws.WordLists.{map_index, map_set, map_same}

abbrev pub world_words : World → WorldOf ℕ
world_words world = map_world word_of world

abbrev pub object_words : ObjectOf Value → ObjectOf ℕ
object_words o = map_object word_of o

-- ---- types of objects

pub type_words : (o : ObjectOf Value) → type_of (object_words o) ≡ type_of o
type_words (Instance class fields) = refl
type_words (Primitives of elements) = refl
type_words (References of elements) = refl
type_words (Characters text) = refl

pub types_words : (heap : List (ObjectOf Value)) → types_of (map object_words heap) ≡ types_of heap
types_words [] = refl
types_words (o ∷ heap) = ap (λ t. t ∷ types_of (map object_words heap)) (type_words o) ∙ ap (λ l. type_of o ∷ l) (types_words heap)

pub class_words : (o : ObjectOf Value) → class_of_object (object_words o) ≡ class_of_object o
class_words (Instance class fields) = refl
class_words (Primitives of elements) = refl
class_words (References of elements) = refl
class_words (Characters text) = refl

pub object_at_words : (world : World) (r : ℕ) → object_at (world_words world) r ≡ object_words (object_at world r)
object_at_words world r = map_index object_words world.heap r no_object

-- ---- fields

first_value_words : (d : DeclaredType) → first_value words d ≡ word_of (first_value values d)
first_value_words DeclaredInt = refl
first_value_words (DeclaredReference t) = refl

pub first_words : (field : Member) → first_of words field ≡ word_of (first_of values field)
first_words field = first_value_words (field_declared field.descriptor)

pub with_first_words : (field : Member) → with_first words field ≡ map_field word_of (with_first values field)
with_first_words field = ap (λ v. (field, v)) (first_words field)

value_in_if : (b : Bool) (x y : Value) (z : ℕ) → z ≡ word_of y → (if b then word_of x else z) ≡ word_of (if b then x else y)
value_in_if true x y z e = refl
value_in_if false x y z e = e

pub value_in_words : (first : Value) (field : Member) (fields : List (Member × Value))
    → value_in (word_of first) field (map (map_field word_of) fields) ≡ word_of (value_in first field fields)
value_in_words first field [] = refl
value_in_words first field (f ∷ fields) =
    value_in_if (member_eq f.0 field) f.1 (value_in first field fields) (value_in (word_of first) field (map (map_field word_of) fields)) (value_in_words first field fields)

-- a field of a list, or what it begins with
pub field_words : (field : Member) (fields : List (Member × Value))
    → value_in (first_of words field) field (map (map_field word_of) fields) ≡ word_of (value_in (first_of values field) field fields)
field_words field fields =
    ap (λ v. value_in v field (map (map_field word_of) fields)) (first_words field) ∙ value_in_words (first_of values field) field fields

with_value_if : (b : Bool) (f : Member × Value) (v : Value) (fields after : List (Member × Value)) (l : List (Member × ℕ))
    → l ≡ map (map_field word_of) after
    → (if b then (f.0, word_of v) ∷ map (map_field word_of) fields else (f.0, word_of f.1) ∷ l)
    ≡ map (map_field word_of) (if b then (f.0, v) ∷ fields else f ∷ after)
with_value_if true f v fields after l e = refl
with_value_if false f v fields after l e = ap (λ x. (f.0, word_of f.1) ∷ x) e

pub with_value_words : (field : Member) (v : Value) (fields : List (Member × Value))
    → with_value field (word_of v) (map (map_field word_of) fields) ≡ map (map_field word_of) (with_value field v fields)
with_value_words field v [] = refl
with_value_words field v (f ∷ fields) =
    with_value_if (member_eq f.0 field) f v fields (with_value field v fields) (with_value field (word_of v) (map (map_field word_of) fields)) (with_value_words field v fields)

pub fields_words : (o : ObjectOf Value) → fields_of (object_words o) ≡ map (map_field word_of) (fields_of o)
fields_words (Instance class fields) = refl
fields_words (Primitives of elements) = refl
fields_words (References of elements) = refl
fields_words (Characters text) = refl

pub with_field_words : (field : Member) (v : Value) (o : ObjectOf Value)
    → with_field field (word_of v) (object_words o) ≡ object_words (with_field field v o)
with_field_words field v (Instance class fields) = ap (λ l. Instance class l) (with_value_words field v fields)
with_field_words field v (Primitives of elements) = refl
with_field_words field v (References of elements) = refl
with_field_words field v (Characters text) = refl

-- ---- cells

cells_kept : (c d : Bool) (x : Member × Value) (xs : List (Member × Value)) (ys : List (Member × ℕ)) → d ≡ c → length ys ≡ length xs
    → length (cond d (map_field word_of x ∷ ys) ys) ≡ length (cond c (x ∷ xs) xs)
cells_kept true d x xs ys e h = ap (λ b. length (cond b (map_field word_of x ∷ ys) ys)) e ∙ ap suc h
cells_kept false d x xs ys e h = ap (λ b. length (cond b (map_field word_of x ∷ ys) ys)) e ∙ h

cell_count_words : (fields : List (Member × Value)) → length (filter is_cell_field (map (map_field word_of) fields)) ≡ length (filter is_cell_field fields)
cell_count_words [] = refl
cell_count_words (f ∷ fields) =
    cells_kept (is_cell_field f) (is_cell_field f) f (filter is_cell_field fields) (filter is_cell_field (map (map_field word_of) fields)) refl (cell_count_words fields)

pub cells_words : (o : ObjectOf Value) → cells_of (object_words o) ≡ cells_of o
cells_words (Instance class fields) = cell_count_words fields
cells_words (Primitives of elements) = length-map elements word_of
cells_words (References of elements) = length-map elements word_of
cells_words (Characters text) = refl

-- ---- elements

pub elements_words : (o : ObjectOf Value) → elements_of (object_words o) ≡ map word_of (elements_of o)
elements_words (Instance class fields) = refl
elements_words (Primitives of elements) = refl
elements_words (References of elements) = refl
elements_words (Characters text) = refl

pub with_element_words : (k : ℕ) (v : Value) (o : ObjectOf Value)
    → with_element k (word_of v) (object_words o) ≡ object_words (with_element k v o)
with_element_words k v (Instance class fields) = refl
with_element_words k v (Primitives of elements) = ap (λ l. Primitives of l) (map_set word_of elements k v)
with_element_words k v (References of elements) = ap (λ l. References of l) (map_set word_of elements k v)
with_element_words k v (Characters text) = refl

pub with_elements_words : (k : ℕ) (vs : List Value) (o : ObjectOf Value)
    → with_elements k (map word_of vs) (object_words o) ≡ object_words (with_elements k vs o)
with_elements_words k [] o = refl
with_elements_words k (v ∷ vs) o =
    ap (with_elements (k + 1) (map word_of vs)) (with_element_words k v o) ∙ with_elements_words (k + 1) vs (with_element k v o)

-- ---- texts

pub with_text_words : (text : Text) (o : ObjectOf Value) → with_text text (object_words o) ≡ object_words (with_text text o)
with_text_words text (Instance class fields) = refl
with_text_words text (Primitives of elements) = refl
with_text_words text (References of elements) = refl
with_text_words text (Characters old) = refl

pub text_words : (o : ObjectOf Value) → text_of (object_words o) ≡ text_of o
text_words (Instance class fields) = refl
text_words (Primitives of elements) = refl
text_words (References of elements) = refl
text_words (Characters text) = refl

pub string_text_words : (o : ObjectOf Value) → string_text (object_words o) ≡ string_text o
string_text_words (Instance class fields) = refl
string_text_words (Primitives of elements) = refl
string_text_words (References of elements) = refl
string_text_words (Characters text) = refl

-- the String of a StringBuilder
pub kept_string_words : (o : ObjectOf Value) → kept_string words (object_words o) ≡ word_of (kept_string values o)
kept_string_words o = ap (value_in 0 builder_text) (fields_words o) ∙ value_in_words value.Null builder_text (fields_of o)

-- the name of a Thread, and its number
pub kept_name_words : (o : ObjectOf Value) → kept_name words (object_words o) ≡ word_of (kept_name values o)
kept_name_words o = ap (value_in 0 thread_name) (fields_words o) ∙ value_in_words value.Null thread_name (fields_of o)

pub ordinal_words : (o : ObjectOf Value) → ordinal_text words (object_words o) ≡ ordinal_text values o
ordinal_words o =
    ap (λ n. codes "Thread-" ++ signed_decimal (signed n)) (ap (value_in 0 thread_ordinal) (fields_words o) ∙ value_in_words (value.Int 0) thread_ordinal (fields_of o))

-- each is null or a reference, and its word tells which
pub record KeepsTexts (world : World) : Type 0 where
  pub texts : (r : ℕ) → word_reference (word_of (kept_string values (object_at world r))) ≡ reference_of (kept_string values (object_at world r))
  pub names : (r : ℕ) → word_reference (word_of (kept_name values (object_at world r))) ≡ reference_of (kept_name values (object_at world r))

-- ---- what a put keeps

element_kept_words : (element : ElementType) (v : Value) → element_kept words element (word_of v) ≡ word_of (element_kept values element v)
element_kept_words descriptors.Byte v = refl
element_kept_words descriptors.Char v = refl
element_kept_words descriptors.Double v = refl
element_kept_words descriptors.Float v = refl
element_kept_words descriptors.Int v = refl
element_kept_words descriptors.Long v = refl
element_kept_words (descriptors.Object name) v = refl
element_kept_words descriptors.Short v = refl
element_kept_words descriptors.Boolean v = refl

kept_if : (b : Bool) (x : ℕ) (y v : Value) → x ≡ word_of y → (if b then x else word_of v) ≡ word_of (if b then y else v)
kept_if true x y v e = e
kept_if false x y v e = refl

type_kept_words : (o : Option FieldType) (v : Value) → type_kept words o (word_of v) ≡ word_of (type_kept values o v)
type_kept_words None v = refl
type_kept_words (Some t) v = kept_if (t.dimensions == 0) (element_kept words t.element (word_of v)) (element_kept values t.element v) v (element_kept_words t.element v)

pub put_words : (field : Member) (v : Value) → put_value words field (word_of v) ≡ word_of (put_value values field v)
put_words field v = type_kept_words (field_type field.descriptor) v

-- ---- changes

pub with_object_words : (world : World) (r : ℕ) (o : ObjectOf Value)
    → with_object (world_words world) r (object_words o) ≡ world_words (with_object world r o)
with_object_words world r o = ap (λ h. record (world_words world) { heap = h }) (map_set object_words world.heap r o)

pub allocated_words : (world : World) (o : ObjectOf Value)
    → allocated (world_words world) (object_words o) ≡ world_words (allocated world o)
allocated_words world o = ap (λ h. record (world_words (allocated world o)) { heap = h }) (sym (map-append object_words world.heap (o ∷ [])))

pub with_static_words : (world : World) (field : Member) (v : Value)
    → with_static (world_words world) field (word_of v) ≡ world_words (with_static world field v)
with_static_words world field v = ap (λ s. record (world_words world) { statics = s }) (with_value_words field v world.statics)

pub first_instance_words : (files : Program) (class : Name) → first_instance words files class ≡ object_words (first_instance values files class)
first_instance_words files class =
    ap (λ l. Instance class l) (map_same (map_field word_of) (with_first words) (with_first values) (instance_fields files class) with_first_words)

pub new_words : (files : Program) (class : Name) → new_instance words files class ≡ object_words (new_instance values files class)
new_words files class = by (name_eq class java_lang_string)
  where
    by : (b : Bool) → (if b then Characters [] else first_instance words files class)
        ≡ object_words (if b then Characters [] else first_instance values files class)
    by true = refl
    by false = first_instance_words files class

-- ---- constants of a class

constant_words : (files : Program) (pool : List Entry) (e : Entry)
    → constant_of words files pool e ≡ option_map word_of (constant_of values files pool e)
constant_words files pool (Utf8 text) = refl
constant_words files pool (Integer bits) = refl
constant_words files pool (Float bits) = refl
constant_words files pool (Long bits) = refl
constant_words files pool (Double bits) = refl
constant_words files pool (Class name) = refl
constant_words files pool (String text) = found (utf8_at pool text)
  where
    found : (o : Option (List ℕ)) → option_map (λ (bytes : List ℕ). words.reference (string_reference files bytes)) o
        ≡ option_map word_of (option_map (λ (bytes : List ℕ). values.reference (string_reference files bytes)) o)
    found None = refl
    found (Some bytes) = refl
constant_words files pool (Field class name) = refl
constant_words files pool (Method class name) = refl
constant_words files pool (InterfaceMethod class name) = refl
constant_words files pool (NameAndType name descriptor) = refl
constant_words files pool Unusable = refl

constant_in_words : (files : Program) (pool : List Entry) (o : Option ℕ)
    → option_and_then (λ index. constant_of words files pool (entry_at pool index)) o
    ≡ option_map word_of (option_and_then (λ index. constant_of values files pool (entry_at pool index)) o)
constant_in_words files pool None = refl
constant_in_words files pool (Some index) = constant_words files pool (entry_at pool index)

module _ (files : Program) (class : Name) (pool : List Entry) where
  set_words : (world : World) (field : FieldTree) (o : Option Value)
      → option_map_or (λ v. with_static (world_words world) (field_member class pool field)
      (put_value words (field_member class pool field) v)) (option_map word_of o) (world_words world)
      ≡ world_words (option_map_or (λ v. with_static
      world (field_member class pool field) (put_value values (field_member class pool field) v)) o world)
  set_words world field None = refl
  set_words world field (Some v) =
      ap (λ x. with_static (world_words world) (field_member class pool field) x) (put_words (field_member class pool field) v)
      ∙ with_static_words world (field_member class pool field) (put_value values (field_member class pool field) v)

  with_constant_words : (world : World) (field : FieldTree)
      → with_constant words files class pool (world_words world) field ≡ world_words (with_constant values files class pool world field)
  with_constant_words world field =
      ap (λ o. option_map_or (λ v. with_static (world_words world) (field_member class pool field) (put_value words (field_member class pool field) v)) o (world_words world)) (constant_in_words files pool (constant_in field.parts))
      ∙ set_words world field (constant_value values files pool field)

  with_constants_words : (world : World) (fields : List FieldTree)
      → with_constants words files class pool (world_words world) fields ≡ world_words (with_constants values files class pool world fields)
  with_constants_words world [] = refl
  with_constants_words world (field ∷ fields) =
      ap (λ w. with_constants words files class pool w fields) (with_constant_words world field) ∙ with_constants_words (with_constant values files class pool world field) fields

pub begun_words : (files : Program) (t : ℕ) (class : Name) (world : World)
    → with_class_begun words files t class (world_words world) ≡ world_words (with_class_begun values files t class world)
begun_words files t class world = by (class_of files class)
  where
    by : (o : Option FileTree) → option_map_or
        (λ (file : FileTree). with_constants words files class file.pool (with_class_status (world_words world) class (InProgress t))
        file.fields) o (with_class_status (world_words world) class (InProgress t))
        ≡ world_words (option_map_or (λ (file : FileTree). with_constants values files class
        file.pool (with_class_status world class (InProgress t)) file.fields) o (with_class_status world class (InProgress t)))
    by None = refl
    by (Some file) = with_constants_words files class file.pool (with_class_status world class (InProgress t)) file.fields

-- ---- wait sets

pub all_words : (object : ℕ) (cause : WakeCause) (world : World) (waiters : List Waiter)
    → all_woken object cause (world_words world) waiters ≡ world_words (all_woken object cause world waiters)
all_words object cause world [] = refl
all_words object cause world (waiter ∷ waiters) = all_words object cause (woken object cause world waiter) waiters
