-- Where a static field stands among those of all files.
use Rattle.std.proofs.Common.{◌≡◌, ℕ, zero, suc, ◌+◌, Bool, true, false, ◌&&◌, cond, find, List, [], ◌∷◌, length, refl, sym, ap, ◌∙◌, arith, Some, None}
use Rattle.std.specs.Prelude.{position, slice_get, is_some}
use Rattle.std.specs.List.{AllByRecursion, filter, flat_map, list_any}
use Rattle.std.proofs.lemmas.Bool.{false≢true, or_parts, false_from_ne_true}
use Rattle.model.specs.Names.{Name, name_eq, Member, member_eq}
use Rattle.model.specs.Tree.{FileTree}
use Rattle.model.specs.BuiltIn.{built_in_classes}
use Rattle.model.specs.Classes.{name_of, is_named}
use Rattle.model.specs.Lookup.{is_static_field, field_member}
use Rattle.model.specs.Linkable.{two_of_one_name, has_built_in_name}
use Rattle.model.specs.Opening.{static_fields_in, static_fields}
use Rattle.run_laws.proofs.laws.Found.{none_any}
use Rattle.run_laws.proofs.laws.RootedOf.{name_turned}
use Rattle.linker.specs.field_links.Slots.{static_ends}
use Rattle.linker.proofs.field_links.Positions.{position_before, position_behind, position_nowhere}
use Rattle.linker.proofs.field_links.Lineages.{every_flat, every_map}
use Rattle.hierarchy.proofs.Finding.{none_at}

-- the fields of another class differ
others : (field : Member) (file : FileTree) → name_eq (name_of file) field.class ≡ false
    → AllByRecursion (λ (f : Member). member_eq f field ≡ false) (static_fields_in file)
others field file h =
    every_map (λ (f : Member). member_eq f field ≡ false) (field_member (name_of file) file.pool) (λ f. ap (λ b. b && (name_eq (field_member (name_of file) file.pool f).name field.name && name_eq (field_member (name_of file) file.pool f).descriptor field.descriptor)) h)
    (filter is_static_field file.fields)

turned_false : (a b : Name) → name_eq a b ≡ false → name_eq b a ≡ false
turned_false a b h = false_from_ne_true (name_eq b a) (λ t. false≢true (sym h ∙ name_turned b a t))

-- its slot, and so many as stand from it on, and where those of its file end
abbrev pub IsStaticSlot : ℕ → List FileTree → ℕ → FileTree → Member → ℕ → Type 0
IsStaticSlot n files i file field k =
    (slot end : ℕ) × (position (λ (f : Member). member_eq f field) (flat_map static_fields_in files) ≡ Some slot)
    × (slice_get (static_ends n files) i ≡ Some end) × ((n + slot) + length (static_fields_in file) ≡ end + k)

pub static_slot : (n : ℕ) (files : List FileTree) (i : ℕ) (file : FileTree) (field : Member) (k : ℕ) → two_of_one_name files ≡ false
    → slice_get files i ≡ Some file → field.class ≡ name_of file
    → position (λ (f : Member). member_eq f field) (static_fields_in file) ≡ Some k → IsStaticSlot n files i file field k
static_slot n [] i file field k differ at is e = absurd cc
static_slot n (x ∷ files) zero file field k differ at is e =
    let same : x ≡ file = cc in (
      k,
      n + length (static_fields_in x),
      position_before (λ (f : Member). member_eq f field) (static_fields_in x) (flat_map static_fields_in files) k (ap (λ y. position (λ (f : Member). member_eq f field) (static_fields_in y)) same ∙ e),
      refl,
      ap (λ y. (n + k) + length (static_fields_in y)) (sym same) ∙ omega arith,
    )
static_slot n (x ∷ files) (suc i) file field k differ at is e =
    let parts = or_parts (list_any (is_named (name_of x)) files) _ differ in
    let other : name_eq (name_of x) field.class ≡ false = ap (name_eq (name_of x)) is ∙ turned_false (name_of file) (name_of x) (none_at (is_named (name_of x)) files i file parts.0 at) in
    let rest = static_slot (n + length (static_fields_in x)) files i file field k parts.1 at is e in
    (length (static_fields_in x) + rest.0, rest.1, position_behind (λ (f : Member). member_eq f field) (static_fields_in x) (flat_map static_fields_in files) rest.0 (others field x other) rest.2, rest.3, omega (arith, rest.4))

-- a built-in class has none among them
pub no_static_slot : (files : List FileTree) (i : ℕ) (file : FileTree) (field : Member) → list_any has_built_in_name files ≡ false
    → slice_get built_in_classes i ≡ Some file → field.class ≡ name_of file
    → position (λ (f : Member). member_eq f field) (static_fields files) ≡ None
no_static_slot files i file field none at is =
    position_nowhere (λ (f : Member). member_eq f field) (static_fields files)
    (every_flat (λ (x : FileTree). has_built_in_name x ≡ false) (λ (f : Member). member_eq f field ≡ false) static_fields_in
    (λ x h. others field x (ap (name_eq (name_of x)) is ∙ turned_false (name_of file) (name_of x) (among (is_named (name_of x)) built_in_classes i h at))) files (none_any has_built_in_name files none))
  where
    among : (test : FileTree → Bool) (xs : List FileTree) (i : ℕ) → is_some (find test xs) ≡ false → slice_get xs i ≡ Some file
        → test file ≡ false
    among test [] i h e = absurd cc
    among test (x ∷ xs) i h e = by i (test x) refl (λ j k. among test xs j k) h e
      where
        by : (i : ℕ) (b : Bool) → test x ≡ b → ((j : ℕ) → is_some (find test xs) ≡ false → slice_get xs j ≡ Some file → test file ≡ false)
            → is_some (cond b (Some x) (find test xs)) ≡ false → slice_get (x ∷ xs) i ≡ Some file → test file ≡ false
        by i true t rest h e = absurd (false≢true (sym h))
        by zero false t rest h e = let same : x ≡ file = cc in ap test (sym same) ∙ t
        by (suc i) false t rest h e = rest i h e
