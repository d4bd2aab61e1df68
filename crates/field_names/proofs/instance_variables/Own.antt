-- The instance fields that a class itself declares and that are variables, by their places.
use Rattle.std.proofs.Common.{arith, ◌≡◌, ◌<◌, ◌≤◌, refl, sym, ap, subst, ◌∙◌, ℕ, zero, suc, List, [], ◌∷◌, ◌++◌, length, map, drop, Bool, true, false, if◌then◌else◌, cond, Option, Some, None}
use Rattle.std.specs.Prelude.{find, not, slice_get, ◌&&◌}
use Rattle.std.specs.Option.{option_and_then, option_map_or, option_or, option_to_list}
use Rattle.std.specs.List.{AllByRecursion, filter, list_all}
use Rattle.std.proofs.lemmas.Bool.{and_parts, true≢false}
use Rattle.std.proofs.lemmas.List.{append-nil, append_assoc, drop_all}
use Rattle.std.proofs.lemmas.Option.{same_Some, none-some, slice_get_within}
use Rattle.model.specs.AccessFlags.{is_instance_field, is_static_field}
use Rattle.model.specs.BuiltIn.{built_in_classes}
use Rattle.model.specs.Classes.{Program, class_of, classes_of, is_named, name_of, superclass_of, superinterfaces_of}
use Rattle.model.specs.Conditions.{entry_indices, field_indices, field_part_indices, is_utf8, member_indices, method_indices, names_class, names_utf8, skipped_indices, text_at}
use Rattle.model.specs.Lookup.{field_from, field_in_class, field_member, field_of, find_field, first_found, in_class, is_field, own_instance_fields, where_so}
use Rattle.model.specs.Names.{Name, Member, spells}
use Rattle.model.specs.Pool.{utf8_at, utf8_of}
use Rattle.model.specs.Spelling.{entry_at, text_of}
use Rattle.model.specs.Spells.{IsWhole}
use Rattle.model.specs.Tree.{Entry, Utf8, FieldTree, FileTree}
use Rattle.run_laws.proofs.laws.Classes.{name_self}
use Rattle.run_laws.proofs.laws.Found.{every_all}
use Rattle.run_laws.proofs.laws.Lists.{every_append, every_at}
use Rattle.run_laws.proofs.laws.Unrefused.{names_differ, unrefused_of}
use Rattle.hierarchy.specs.Places.{class_at, place_of}
use Rattle.hierarchy.proofs.Apart.{class_of_its_name}
use Rattle.hierarchy.proofs.Finding.{position_within}
use Rattle.hierarchy.proofs.SetLaws.{class_at_place, name_at_place, no_class}
use Rattle.linker.proofs.field_links.Loops.{item_at}
use Rattle.types.specs.method_code.Linked.{IsLinked}
use Rattle.data_races.specs.EventActions.{is_variable}
use Rattle.field_names.specs.declared.named_fields.NamedField.{NamedField}
use Rattle.field_names.specs.instance_variables.Declared.{kept_variable, variable_at, variable_of}
use Rattle.field_names.specs.named_fields.Fields.{IsFieldIf}
use Rattle.field_names.proofs.instance_variables.Lists.{kept_so}

-- ---- each field has a name and a descriptor

abbrev is_written : List Entry → FieldTree → Bool
is_written pool f = names_utf8 pool f.name && names_utf8 pool f.descriptor

abbrev are_written : FileTree → Bool
are_written file = list_all (is_written file.pool) file.fields

built_in_written : list_all are_written built_in_classes ≡ true
unfolding built_in_classes
built_in_written = refl

all_written : (pool : List Entry) (fields : List FieldTree) → list_all (field_indices pool) fields ≡ true → list_all (is_written pool) fields ≡ true
all_written pool [] h = refl
all_written pool (f ∷ fs) h =
    let parts = and_parts (field_indices pool f) (list_all (field_indices pool) fs) h in
    let name = and_parts (names_utf8 pool f.name) (names_utf8 pool f.descriptor && list_all (field_part_indices pool) f.parts) parts.0 in
    let descriptor = and_parts (names_utf8 pool f.descriptor) (list_all (field_part_indices pool) f.parts) name.1 in
    ap (λ b. (b && names_utf8 pool f.descriptor) && list_all (is_written pool) fs) name.0
    ∙ (ap (λ b. b && list_all (is_written pool) fs) descriptor.0 ∙ all_written pool fs parts.1)

file_written : (file : FileTree) → IsWhole file → are_written file ≡ true
file_written file whole =
    let pool = file.pool in
    let members = member_indices file in
    let interfaces = list_all (names_class pool) file.interfaces in
    let above = names_class pool file.super_class && (interfaces && members) in
    let one = and_parts (list_all (entry_indices pool) pool) (names_class pool file.this_class && above) whole.indices in
    let two = and_parts (names_class pool file.this_class) above one.1 in
    let three = and_parts (names_class pool file.super_class) (interfaces && members) two.1 in
    let four = and_parts interfaces members three.1 in
    let rest = list_all (method_indices pool) file.methods && list_all (skipped_indices pool) file.attributes in
    all_written pool file.fields (and_parts (list_all (field_indices pool) file.fields) rest four.1).0

files_written : (files : Program) → AllByRecursion IsWhole files → AllByRecursion (λ file. are_written file ≡ true) files
files_written [] h = tt
files_written (file ∷ files) h = (file_written file h.0, files_written files h.1)

at_of : {A : Type 0} (test : A → Bool) (xs : List A) (k : ℕ) (x : A) → list_all test xs ≡ true → slice_get xs k ≡ Some x → test x ≡ true
at_of test [] k x h e = absurd (none-some x e)
at_of test (y ∷ ys) zero x h e = subst (λ z. test z ≡ true) (same_Some y x e) (and_parts (test y) (list_all test ys) h).0
at_of test (y ∷ ys) (suc k) x h e = at_of test ys k x (and_parts (test y) (list_all test ys) h).1 e

spells_own : (pool : List Entry) (index : ℕ) → names_utf8 pool index ≡ true → spells (utf8_at pool index) (text_at pool index) ≡ true
spells_own pool index h = by (entry_at pool index) h
  where
    by : (e : Entry) → is_utf8 e ≡ true → spells (utf8_of e) (text_of e) ≡ true
    by (Utf8 text) g = name_self text
    by _ g = absurd (true≢false (sym g))

-- ---- a field is found by its names

found_some : {A : Type 0} (test : A → Bool) (xs : List A) (k : ℕ) (x : A) → slice_get xs k ≡ Some x → test x ≡ true → (y : A) × (find test xs ≡ Some y)
found_some test [] k x e h = absurd (none-some x e)
found_some test (y ∷ ys) zero x e h = (y, ap (λ b. cond b (Some y) (find test ys)) (ap test (same_Some y x e) ∙ h))
found_some test (y ∷ ys) (suc k) x e h = by (test y) (found_some test ys k x e h)
  where
    by : (b : Bool) → (z : _) × (find test ys ≡ Some z) → (z : _) × (cond b (Some y) (find test ys) ≡ Some z)
    by true f = (y, refl)
    by false f = f

module _ (files : Program) (linked : IsLinked files) (class place : ℕ) (file : FileTree) (at : class_at files class ≡ Some file) (f : FieldTree)
    (there : slice_get file.fields place ≡ Some f) where
  abbrev pub member : Member
  member = field_member (name_of file) file.pool f

  written : are_written file ≡ true
  written =
      every_at (λ (g : FileTree). are_written g ≡ true) (classes_of files) class file
      (every_append (λ (g : FileTree). are_written g ≡ true) built_in_classes files (every_all are_written built_in_classes built_in_written)
      (files_written files (unrefused_of linked.0 files linked.1.spelled linked.1.no_refusal).whole)) at

  its_class : class_of files (name_of file) ≡ Some file
  its_class = class_of_its_name files class file (names_differ files linked.1.no_refusal) at

  is_found : is_field file.pool member.name member.descriptor f ≡ true
  is_found =
      let texts = and_parts (names_utf8 file.pool f.name) (names_utf8 file.pool f.descriptor) (at_of (is_written file.pool) file.fields place f written there) in
      ap (λ b. b && spells (utf8_at file.pool f.descriptor) member.descriptor) (spells_own file.pool f.name texts.0) ∙ spells_own file.pool f.descriptor texts.1

  declared : (g : FieldTree) × (field_of files member ≡ Some g)
  declared =
      let found = found_some (is_field file.pool member.name member.descriptor) file.fields place f there is_found in
      (found.0, ap (option_and_then (λ (x : FileTree). find (is_field x.pool member.name member.descriptor) x.fields)) its_class ∙ found.1)

  in_its_class : field_in_class files member member.class ≡ Some member
  in_its_class = ap (λ o. where_so (option_map_or (λ (g : FieldTree). true) o false) (in_class member.class member)) declared.1

  pub found : find_field files member ≡ Some member
  found = by (length (classes_of files)) refl
    where
      by : (n : ℕ) → length (classes_of files) ≡ n → field_from files n member member.class ≡ Some member
      by zero e = absurd (omega (arith, e, slice_get_within (classes_of files) class file at))
      by (suc n) e =
          ap (λ o. option_or o (option_or (first_found (λ i. field_from files n member i) (superinterfaces_of files member.class))
          (option_and_then (λ s. field_from files n member s) (superclass_of files member.class)))) in_its_class

  variable_is : (b : Bool) → is_instance_field f ≡ b → variable_at files class place ≡ (if b && is_variable member then Some member else None)
  variable_is b e =
      ap (option_and_then (λ (x : FileTree). option_and_then (variable_of x) (slice_get x.fields place))) at
      ∙ (ap (option_and_then (variable_of file)) there ∙ ap (λ c. if c && is_variable member then Some member else None) e)

  -- of an instance field
  pub variable_told : is_static_field f ≡ false → (told : Option NamedField) → IsFieldIf files (find_field files member) told
      → IsFieldIf files (variable_at files class place) (kept_variable told)
  variable_told static told is =
      subst (λ o. IsFieldIf files o (kept_variable told)) (sym (variable_is true (ap not static)))
      (kept_so files member told (subst (λ o. IsFieldIf files o told) found is))

  -- of a static field there is none
  pub static_told : is_static_field f ≡ true → IsFieldIf files (variable_at files class place) None
  static_told static = subst (λ o. IsFieldIf files o None) (sym (variable_is false (ap not static))) tt

-- nor where there is no class or no field
pub no_class_told : (files : Program) (class place : ℕ) → None ≡ class_at files class → IsFieldIf files (variable_at files class place) None
no_class_told files class place e =
    subst (λ o. IsFieldIf files o None) (ap (option_and_then (λ (x : FileTree). option_and_then (variable_of x) (slice_get x.fields place))) e) tt

pub no_field_told : (files : Program) (class place : ℕ) (file : FileTree) → Some file ≡ class_at files class → None ≡ slice_get file.fields place
    → IsFieldIf files (variable_at files class place) None
no_field_told files class place file at e =
    subst (λ o. IsFieldIf files o None)
    (ap (option_and_then (variable_of file)) e ∙ ap (option_and_then (λ (x : FileTree). option_and_then (variable_of x) (slice_get x.fields place))) at) tt

-- ---- all that a class declares

-- of the first fields, of so many
abbrev pub variables_to : Program → ℕ → ℕ → List Member
variables_to files class zero = []
variables_to files class (suc k) = variables_to files class k ++ option_to_list (variable_at files class k)

there_at : {A : Type 0} (l : List A) (k : ℕ) → k < length l → (x : A) × (slice_get l k ≡ Some x) × (drop k l ≡ x ∷ drop (suc k) l)
there_at [] k h = absurd (omega (arith, h))
there_at (y ∷ ys) zero h = (y, refl, refl)
there_at (y ∷ ys) (suc k) h = there_at ys k (omega (arith, h))

module _ (files : Program) (class : ℕ) (file : FileTree) (at : class_at files class ≡ Some file) where
  abbrev own : List FieldTree → List Member
  own fields = filter is_variable (map (field_member (name_of file) file.pool) (filter is_instance_field fields))

  module _ (f : FieldTree) (fields : List FieldTree) where
    abbrev named : Member
    named = field_member (name_of file) file.pool f

    abbrev made : Bool → Bool → Option Member
    made b c = if b && c then Some named else None

    abbrev kept : Bool → List FieldTree
    kept b = if b then f ∷ filter is_instance_field fields else filter is_instance_field fields

    by_both : (b c : Bool) → is_variable named ≡ c
        → filter is_variable (map (field_member (name_of file) file.pool) (kept b)) ≡ option_to_list (made b c) ++ own fields
    by_both true true e = ap (λ x. if x then named ∷ own fields else own fields) e
    by_both true false e = ap (λ x. if x then named ∷ own fields else own fields) e
    by_both false c e = refl

    one_own : own (f ∷ fields) ≡ option_to_list (variable_of file f) ++ own fields
    one_own = by_both (is_instance_field f) (is_variable named) refl

  so_far : (k : ℕ) → k ≤ length file.fields → variables_to files class k ++ own (drop k file.fields) ≡ own file.fields
  so_far zero h = refl
  so_far (suc k) h =
      let x = there_at file.fields k (omega (arith, h)) in
      let is : variable_at files class k ≡ variable_of file x.0 =
      ap (option_and_then (λ (g : FileTree). option_and_then (variable_of g) (slice_get g.fields k))) at ∙ ap (option_and_then (variable_of file)) x.1 in
      append_assoc (variables_to files class k) (option_to_list (variable_at files class k)) (own (drop (suc k) file.fields))
      ∙ (ap (λ o. variables_to files class k ++ (option_to_list o ++ own (drop (suc k) file.fields))) is
      ∙ (ap (λ l. variables_to files class k ++ l) (sym (one_own x.0 (drop (suc k) file.fields)))
      ∙ (ap (λ l. variables_to files class k ++ own l) (sym x.2) ∙ so_far k (omega (arith, h)))))

  pub all_of_file : variables_to files class (length file.fields) ≡ own file.fields
  all_of_file =
      sym (append-nil (variables_to files class (length file.fields)))
      ∙ (ap (λ l. variables_to files class (length file.fields) ++ own l) (sym (drop_all (length file.fields) file.fields (omega arith)))
      ∙ so_far (length file.fields) (omega arith))

-- by the name of a class
pub own_is : (files : Program) (name : Name) (class : ℕ) → Some class ≡ place_of files name → (count : ℕ)
    → count ≡ option_map_or (λ (file : FileTree). length file.fields) (class_at files class) 0
    → variables_to files class count ≡ filter is_variable (own_instance_fields files name)
own_is files name class e count counted =
    let c = item_at (classes_of files) class (position_within (is_named name) (classes_of files) class (sym e)) in
    let file = c.0 in
    let named : class_of files name ≡ Some file = class_at_place files name class (sym e) ∙ c.1 in
    let its_name : name_of file ≡ name = name_at_place files name class file (sym e) c.1 in
    let as_many : count ≡ length file.fields = counted ∙ ap (λ o. option_map_or (λ (g : FileTree). length g.fields) o 0) c.1 in
    ap (variables_to files class) as_many
    ∙ (all_of_file files class file c.1
    ∙ (ap (λ n. filter is_variable (map (field_member n file.pool) (filter is_instance_field file.fields))) its_name
    ∙ ap (λ o. filter is_variable (option_map_or (λ (g : FileTree). map (field_member name g.pool) (filter is_instance_field g.fields)) o [])) (sym named)))

pub none_own : (files : Program) (name : Name) → None ≡ place_of files name → filter is_variable (own_instance_fields files name) ≡ []
none_own files name e =
    ap (λ o. filter is_variable (option_map_or (λ (g : FileTree). map (field_member name g.pool) (filter is_instance_field g.fields)) o [])) (no_class files name (sym e))
