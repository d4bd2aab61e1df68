-- No two classes of linked files have one name, and no two fields.
use Rattle.std.proofs.Common.{◌≡◌, ℕ, zero, suc, List, [], ◌∷◌, true, false, inl, inr, Option, Some, None, refl, sym, ap, subst, ◌∙◌}
use Rattle.std.specs.Prelude.{Bool, IsTrue, is_some, map, not, slice_get, ◌==◌, ◌&&◌}
use Rattle.std.specs.Option.{option_and_then, option_map, option_map_or}
use Rattle.std.specs.List.{AllByRecursion, list_all, list_any}
use Rattle.std.proofs.lemmas.Bool.{and_parts, or_parts}
use Rattle.std.proofs.lemmas.Bool.Decides.{eqb_tells}
use Rattle.model.specs.Names.{Member, name_eq, member_eq}
use Rattle.model.specs.Tree.{FieldTree, FileTree}
use Rattle.model.specs.Spells.{IsWhole}
use Rattle.model.specs.Conditions.{differ, fields_differ, is_same, name_and_descriptor_at}
use Rattle.model.specs.Pool.{NameAndDescriptor}
use Rattle.model.specs.BuiltIn.{built_in_classes}
use Rattle.model.specs.Classes.{Program, name_of, classes_of, is_named}
use Rattle.model.specs.Linkable.{two_of_one_name}
use Rattle.model.specs.Lookup.{field_member}
use Rattle.run_laws.proofs.laws.Classes.{name_self}
use Rattle.run_laws.proofs.laws.Found.{every_all}
use Rattle.run_laws.proofs.laws.Lists.{every_append, every_at}
use Rattle.run_laws.proofs.laws.Unrefused.{names_differ, unrefused_of}
use Rattle.hierarchy.specs.Places.{class_at, name_at}
use Rattle.hierarchy.proofs.Apart.{all_differ}
use Rattle.hierarchy.proofs.Finding.{none_at}
use Rattle.hierarchy.proofs.Names.{name_eq_sym}
use Rattle.types.specs.method_code.Linked.{IsLinked}
use Rattle.race_places.specs.named_actions.Names.{AreApart}
use Rattle.field_names.specs.named_fields.Fields.{member_at, names_of}

-- ---- lists of which no two items are the same

two_names : (xs : List FileTree) (i j : ℕ) (a b : FileTree) → two_of_one_name xs ≡ false → slice_get xs i ≡ Some a → slice_get xs j ≡ Some b
    → (i ≡ j → ⊥) → name_eq (name_of a) (name_of b) ≡ false
two_names [] i j a b h p q ne = absurd cc
two_names (x ∷ xs) zero zero a b h p q ne = absurd (ne refl)
two_names (x ∷ xs) zero (suc j) a b h p q ne =
    let parts = or_parts (list_any (is_named (name_of x)) xs) _ h in
    let same : x ≡ a = cc in
    subst (λ (z : FileTree). name_eq (name_of z) (name_of b) ≡ false) same
    (name_eq_sym (name_of x) (name_of b) ∙ none_at (is_named (name_of x)) xs j b parts.0 q)
two_names (x ∷ xs) (suc i) zero a b h p q ne =
    let parts = or_parts (list_any (is_named (name_of x)) xs) _ h in
    let same : x ≡ b = cc in
    subst (λ (z : FileTree). name_eq (name_of a) (name_of z) ≡ false) same (none_at (is_named (name_of x)) xs i a parts.0 p)
two_names (x ∷ xs) (suc i) (suc j) a b h p q ne =
    let parts = or_parts (list_any (is_named (name_of x)) xs) _ h in two_names xs i j a b parts.1 p q (λ e. ne (ap suc e))

not_true : (b : Bool) → not b ≡ true → b ≡ false
not_true true e = absurd cc
not_true false e = refl

same_sym : (a b : NameAndDescriptor) → is_same a b ≡ is_same b a
same_sym a b = ap (λ t. t && name_eq a.descriptor b.descriptor) (name_eq_sym a.name b.name) ∙ ap (λ t. name_eq b.name a.name && t) (name_eq_sym a.descriptor b.descriptor)

two_members : (xs : List NameAndDescriptor) (i j : ℕ) (a b : NameAndDescriptor) → differ xs ≡ true → slice_get xs i ≡ Some a → slice_get xs j ≡ Some b
    → (i ≡ j → ⊥) → is_same a b ≡ false
two_members [] i j a b h p q ne = absurd cc
two_members (x ∷ xs) zero zero a b h p q ne = absurd (ne refl)
two_members (x ∷ xs) zero (suc j) a b h p q ne =
    let parts = and_parts (not (list_any (is_same x) xs)) _ h in
    let same : x ≡ a = cc in
    subst (λ (z : NameAndDescriptor). is_same z b ≡ false) same (none_at (is_same x) xs j b (not_true _ parts.0) q)
two_members (x ∷ xs) (suc i) zero a b h p q ne =
    let parts = and_parts (not (list_any (is_same x) xs)) _ h in
    let same : x ≡ b = cc in
    subst (λ (z : NameAndDescriptor). is_same a z ≡ false) same (same_sym a x ∙ none_at (is_same x) xs i a (not_true _ parts.0) p)
two_members (x ∷ xs) (suc i) (suc j) a b h p q ne =
    let parts = and_parts (not (list_any (is_same x) xs)) _ h in two_members xs i j a b parts.1 p q (λ e. ne (ap suc e))

slice_get_mapped : {A B : Type 0} (f : A → B) (xs : List A) (k : ℕ) (x : A) → slice_get xs k ≡ Some x → slice_get (map f xs) k ≡ Some (f x)
slice_get_mapped f [] k x e = absurd cc
slice_get_mapped f (y ∷ ys) zero x e = let same : y ≡ x = cc in ap (λ z. Some (f z)) same
slice_get_mapped f (y ∷ ys) (suc k) x e = slice_get_mapped f ys k x e

-- ---- the fields of each class differ

built_in_apart : list_all fields_differ built_in_classes ≡ true
unfolding built_in_classes
built_in_apart = refl

files_apart : (files : Program) → AllByRecursion IsWhole files → AllByRecursion (λ file. fields_differ file ≡ true) files
files_apart [] h = tt
files_apart (file ∷ files) h = ((and_parts (fields_differ file) _ h.0.members).0, files_apart files h.1)

-- ---- what stands at a number

abbrev record_of : FileTree → FieldTree → NameAndDescriptor
record_of file f = name_and_descriptor_at file.pool f.name f.descriptor

record IsThere (files : Program) (class field : ℕ) (m : Member) : Type 0 where
  file : FileTree
  at : class_at files class ≡ Some file
  tree : FieldTree
  tree_at : slice_get file.fields field ≡ Some tree
  is : field_member (name_of file) file.pool tree ≡ m

there : (files : Program) (class field : ℕ) (m : Member) → member_at files class field ≡ Some m → IsThere files class field m
there files class field m e = by (class_at files class) refl e
  where
    within : (file : FileTree) → class_at files class ≡ Some file → (o : Option FieldTree) → slice_get file.fields field ≡ o
        → option_map (field_member (name_of file) file.pool) o ≡ Some m → IsThere files class field m
    within file c None s g = absurd cc
    within file c (Some tree) s g = record { file = file; at = c; tree = tree; tree_at = s; is = cc }

    by : (o : Option FileTree) → class_at files class ≡ o
        → option_and_then (λ (file : FileTree). option_map (field_member (name_of file) file.pool) (slice_get file.fields field)) o ≡ Some m → IsThere files class field m
    by None c g = absurd cc
    by (Some file) c g = within file c (slice_get file.fields field) refl g

some_of : {A : Type 0} (o : Option A) → IsTrue (is_some o) → (x : A) × (o ≡ Some x)
some_of None h = absurd cc
some_of (Some x) h = (x, refl)

module _ (files : Program) (linked : IsLinked files) where
  names_apart : (c d : ℕ) (a b : FileTree) → class_at files c ≡ Some a → class_at files d ≡ Some b → (c ≡ d → ⊥) → name_eq (name_of a) (name_of b) ≡ false
  names_apart c d a b p q ne = two_names (classes_of files) c d a b (all_differ files (names_differ files linked.1.no_refusal)) p q ne

  fields_apart : (c : ℕ) (file : FileTree) → class_at files c ≡ Some file → fields_differ file ≡ true
  fields_apart c file at =
      every_at (λ (f : FileTree). fields_differ f ≡ true) (classes_of files) c file
      (every_append (λ (f : FileTree). fields_differ f ≡ true) built_in_classes files (every_all fields_differ built_in_classes built_in_apart)
      (files_apart files (unrefused_of linked.0 files linked.1.spelled linked.1.no_refusal).whole)) at

  -- ---- classes

  classes_by : (c d : ℕ) (a b : FileTree) → class_at files c ≡ Some a → class_at files d ≡ Some b → name_eq (name_of a) (name_of b) ≡ (c == d)
  classes_by c d a b p q =
      elim (eqb_tells c d) [
        | inl e ↦
            let one : Some a ≡ Some b = sym p ∙ ap (class_at files) e.1 ∙ q in
            let same : a ≡ b = cc in
            ap (λ (z : FileTree). name_eq (name_of a) (name_of z)) (sym same) ∙ name_self (name_of a) ∙ sym e.0
        | inr e ↦ names_apart c d a b p q e.1 ∙ sym e.0
      ]

  classes_are : (c d : ℕ) → IsTrue (is_some (class_at files c)) → IsTrue (is_some (class_at files d))
      → name_eq (name_at files c) (name_at files d) ≡ (c == d)
  classes_are c d h g =
      let p = some_of (class_at files c) h in
      let q = some_of (class_at files d) g in
      ap (λ (o : Option FileTree). name_eq (option_map_or name_of o []) (name_at files d)) p.1
      ∙ ap (λ (o : Option FileTree). name_eq (name_of p.0) (option_map_or name_of o [])) q.1
      ∙ classes_by c d p.0 q.0 p.1 q.1

  -- ---- fields

  apart_in : (file : FileTree) (f g : ℕ) (a b : FieldTree) → fields_differ file ≡ true → slice_get file.fields f ≡ Some a → slice_get file.fields g ≡ Some b
      → (f ≡ g → ⊥) → is_same (record_of file a) (record_of file b) ≡ false
  apart_in file f g a b h p q ne =
      two_members (map (record_of file) file.fields) f g (record_of file a) (record_of file b) h
      (slice_get_mapped (record_of file) file.fields f a p) (slice_get_mapped (record_of file) file.fields g b q) ne

  member_self : (m : Member) → member_eq m m ≡ true
  member_self m = rw (name_self m.class, name_self m.name, name_self m.descriptor)

  fields_in : (file : FileTree) (c f g : ℕ) (a b : FieldTree) → class_at files c ≡ Some file → slice_get file.fields f ≡ Some a → slice_get file.fields g ≡ Some b
      → member_eq (field_member (name_of file) file.pool a) (field_member (name_of file) file.pool b) ≡ (f == g)
  fields_in file c f g a b at p q =
      elim (eqb_tells f g) [
        | inl e ↦
            let one : Some a ≡ Some b = sym p ∙ ap (slice_get file.fields) e.1 ∙ q in
            let same : a ≡ b = cc in
            ap (λ (z : FieldTree). member_eq (field_member (name_of file) file.pool a) (field_member (name_of file) file.pool z)) (sym same)
            ∙ member_self (field_member (name_of file) file.pool a) ∙ sym e.0
        | inr e ↦
            ap (λ t. t && is_same (record_of file a) (record_of file b)) (name_self (name_of file))
            ∙ apart_in file f g a b (fields_apart c file at) p q e.1 ∙ sym e.0
      ]

  fields_by : (c f d g : ℕ) (m n : Member) → IsThere files c f m → IsThere files d g n → member_eq m n ≡ ((c == d) && (f == g))
  fields_by c f d g m n s t =
      let texts : member_eq m n ≡ member_eq (field_member (name_of s.file) s.file.pool s.tree) (field_member (name_of t.file) t.file.pool t.tree)
      = sym (ap (λ (x : Member). member_eq x (field_member (name_of t.file) t.file.pool t.tree)) s.is ∙ ap (member_eq m) t.is) in
      texts ∙ elim (eqb_tells c d) [
        | inl e ↦
            let one : Some s.file ≡ Some t.file = sym s.at ∙ ap (class_at files) e.1 ∙ t.at in
            let same : t.file ≡ s.file = cc in
            let there_too : slice_get s.file.fields g ≡ Some t.tree = ap (λ (z : FileTree). slice_get z.fields g) (sym same) ∙ t.tree_at in
            ap (λ (z : FileTree). member_eq (field_member (name_of s.file) s.file.pool s.tree) (field_member (name_of z) z.pool t.tree)) same
            ∙ fields_in s.file c f g s.tree t.tree s.at s.tree_at there_too ∙ ap (λ b. b && (f == g)) (sym e.0)
        | inr e ↦
            ap (λ b. b && is_same (record_of s.file s.tree) (name_and_descriptor_at t.file.pool t.tree.name t.tree.descriptor)) (names_apart c d s.file t.file s.at t.at e.1)
            ∙ ap (λ b. b && (f == g)) (sym e.0)
      ]

  fields_are : (c f d g : ℕ) → IsTrue (is_some (member_at files c f)) → IsTrue (is_some (member_at files d g))
      → member_eq ((names_of files).field c f) ((names_of files).field d g) ≡ ((c == d) && (f == g))
  fields_are c f d g h k =
      let p = some_of (member_at files c f) h in
      let q = some_of (member_at files d g) k in
      rw (p.1, q.1, fields_by c f d g p.0 q.0 (there files c f p.0 p.1) (there files d g q.0 q.1))

  pub apart : AreApart (names_of files)
  apart = record { classes = classes_are; fields = fields_are }
