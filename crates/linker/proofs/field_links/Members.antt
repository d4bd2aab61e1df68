-- The fields that a class declares, by their names and by the indices of these.
use Rattle.std.proofs.Common.{◌≡◌, ℕ, ◌+◌, Bool, true, false, ◌&&◌, cond, List, [], ◌∷◌, length, map, drop, refl, ap, ◌∙◌, Some}
use Rattle.std.specs.Prelude.{position, slice_get}
use Rattle.std.specs.List.{AllByRecursion, list_all, filter}
use Rattle.std.proofs.lemmas.Bool.{false≢true, and_parts}
use Rattle.model.specs.Names.{Name, name_eq, spells, Member, member_eq}
use Rattle.model.specs.Tree.{Entry, Utf8, Integer, Float, Long, Double, Class, String, Field, Method, InterfaceMethod, NameAndType, Unusable, FieldTree, FileTree}
use Rattle.model.specs.Spelling.{entry_at, text_of}
use Rattle.model.specs.Spells.{IsWhole}
use Rattle.model.specs.Pool.{utf8_of}
use Rattle.model.specs.Conditions.{is_utf8, names_utf8, entry_indices, names_class, field_indices, text_at}
use Rattle.model.specs.BuiltIn.{built_in_classes}
use Rattle.model.specs.Classes.{Program, classes_of}
use Rattle.model.specs.Lookup.{is_field, field_member}
use Rattle.run_laws.proofs.laws.Classes.{name_self}
use Rattle.run_laws.proofs.laws.Lists.{every_append, every_weaken}
use Rattle.run_laws.proofs.laws.Found.{every_all}
use Rattle.run_laws.proofs.laws.Unrefused.{Unrefused}
use Rattle.linker.proofs.field_links.Positions.{position_kept, position_matches}

-- a text that is a Utf8
spelled : (e : Entry) (name : Name) → is_utf8 e ≡ true → name_eq (text_of e) name ≡ spells (utf8_of e) name
spelled (Utf8 text) name h = refl
spelled (Integer bits) name h = absurd (false≢true h)
spelled (Float bits) name h = absurd (false≢true h)
spelled (Long bits) name h = absurd (false≢true h)
spelled (Double bits) name h = absurd (false≢true h)
spelled (Class index) name h = absurd (false≢true h)
spelled (String index) name h = absurd (false≢true h)
spelled (Field class index) name h = absurd (false≢true h)
spelled (Method class index) name h = absurd (false≢true h)
spelled (InterfaceMethod class index) name h = absurd (false≢true h)
spelled (NameAndType index descriptor) name h = absurd (false≢true h)
spelled Unusable name h = absurd (false≢true h)

-- the indices of a field's name and descriptor name texts
abbrev pub has_texts : List Entry → FieldTree → Bool
has_texts pool f = names_utf8 pool f.name && names_utf8 pool f.descriptor

abbrev pub HaveTexts : FileTree → Type 0
HaveTexts file = AllByRecursion (λ (f : FieldTree). has_texts file.pool f ≡ true) file.fields

module _ (files : Program) (ok : Unrefused files) where
  built_in_texts : list_all (λ (file : FileTree). list_all (has_texts file.pool) file.fields) built_in_classes ≡ true
  unfolding built_in_classes
  built_in_texts = refl

  both : (a b : Bool) → a ≡ true → b ≡ true → (a && b) ≡ true
  both true b h k = k
  both false b h k = h

  file_texts : (file : FileTree) → IsWhole file → HaveTexts file
  file_texts file whole =
      let a = and_parts (list_all (entry_indices file.pool) file.pool) _ whole.indices in
      let b = and_parts (names_class file.pool file.this_class) _ a.1 in
      let c = and_parts (names_class file.pool file.super_class) _ b.1 in
      let d = and_parts (list_all (names_class file.pool) file.interfaces) _ c.1 in
      let e = and_parts (list_all (field_indices file.pool) file.fields) _ d.1 in
      every_weaken (λ (f : FieldTree). field_indices file.pool f ≡ true) (λ (f : FieldTree). has_texts file.pool f ≡ true) file.fields
      (λ f h. let x = and_parts (names_utf8 file.pool f.name) _ h in let y = and_parts (names_utf8 file.pool f.descriptor) _ x.1 in both (names_utf8 file.pool f.name) (names_utf8 file.pool f.descriptor) x.0 y.0)
      (every_all (field_indices file.pool) file.fields e.0)

  -- those of each class
  pub all_texts : AllByRecursion HaveTexts (classes_of files)
  all_texts =
      every_append HaveTexts built_in_classes files
      (every_weaken (λ (file : FileTree). list_all (has_texts file.pool) file.fields ≡ true) HaveTexts built_in_classes (λ file h. every_all (has_texts file.pool) file.fields h) (every_all _ built_in_classes built_in_texts))
      (every_weaken IsWhole HaveTexts files file_texts ok.whole)

-- a field by its name, and by the texts of its indices
same_field : (class : Name) (pool : List Entry) (field : Member) (f : FieldTree) → field.class ≡ class → has_texts pool f ≡ true
    → member_eq (field_member class pool f) field ≡ is_field pool field.name field.descriptor f
same_field class pool field f is h =
    let texts = and_parts (names_utf8 pool f.name) _ h in
    ap (λ b. b && (name_eq (text_at pool f.name) field.name && name_eq (text_at pool f.descriptor) field.descriptor)) (ap (name_eq class) is ∙ name_self class)
    ∙ ap (λ b. b && name_eq (text_at pool f.descriptor) field.descriptor) (spelled (entry_at pool f.name) field.name texts.0)
    ∙ ap (λ b. spells (utf8_of (entry_at pool f.name)) field.name && b) (spelled (entry_at pool f.descriptor) field.descriptor texts.1)

every_filter : {A : Type 0} (P : A → Type 0) (q : A → Bool) (xs : List A) → AllByRecursion P xs → AllByRecursion P (filter q xs)
every_filter P q [] h = tt
every_filter P q (x ∷ xs) h = by (every_filter P q xs h.1) (q x)
  where
    by : AllByRecursion P (filter q xs) → (b : Bool) → AllByRecursion P (cond b (x ∷ filter q xs) (filter q xs))
    by rest true = (h.0, rest)
    by rest false = rest

-- The place of a field among the members that its class declares of its kind, counted from their end.
abbrev pub IsAmong : (FieldTree → Bool) → Name → FileTree → Member → ℕ → Type 0
IsAmong kind class file field i =
    (k : ℕ) × (position (λ (f : Member). member_eq f field) (map (field_member class file.pool) (filter kind file.fields)) ≡ Some k)
    × (k + length (filter kind (drop i file.fields)) ≡ length (filter kind file.fields))

pub stands_among : (kind : FieldTree → Bool) (class : Name) (file : FileTree) (field : Member) (i : ℕ) (f : FieldTree) → HaveTexts file
    → field.class ≡ class
    → position (is_field file.pool field.name field.descriptor) file.fields ≡ Some i → slice_get file.fields i ≡ Some f → kind f ≡ true
    → IsAmong kind class file field i
stands_among kind class file field i f texts is e at h =
    let k = position_kept (is_field file.pool field.name field.descriptor) kind file.fields i f e at h in
    let same : position (λ (f : Member). member_eq f field) (map (field_member class file.pool) (filter kind file.fields)) ≡ position (is_field file.pool field.name field.descriptor) (filter kind file.fields) =
    position_matches (λ (f : Member). member_eq f field) (field_member class file.pool) (is_field file.pool field.name field.descriptor) (filter kind file.fields)
    (every_weaken (λ (f : FieldTree). has_texts file.pool f ≡ true) (λ (f : FieldTree). member_eq (field_member class file.pool f) field ≡ is_field file.pool field.name field.descriptor f) (filter kind file.fields)
    (λ f t. same_field class file.pool field f is t) (every_filter _ kind file.fields texts)) in
    (k.0, same ∙ k.1, k.2)
