-- How many instance fields of a class don't count for the limit on cells: those of built-in classes alone.
use Rattle.std.proofs.Common.{◌≡◌, ℕ, zero, suc, ◌+◌, ◌≤◌, Bool, true, false, not, ◌&&◌, ◌||◌, cond, find, List, [], ◌∷◌, ◌++◌, length, map, Option, Some, None, is_some, refl, sym, ap, subst, ◌∙◌, arith}
use Rattle.std.specs.Prelude.{nat_le}
use Rattle.std.specs.Option.{option_map_or}
use Rattle.std.specs.List.{filter, list_all, list_any}
use Rattle.std.proofs.lemmas.Bool.{false≢true, false_from_ne_true, and_parts, or_from}
use Rattle.std.proofs.lemmas.Bool.Decides.{nat_tests}
use Rattle.model.specs.Names.{Name, Member, member_eq, thread_target}
use Rattle.model.specs.Tree.{Entry, FieldTree, FileTree}
use Rattle.model.specs.AccessFlags.{is_instance_field}
use Rattle.model.specs.BuiltIn.{built_in_classes}
use Rattle.model.specs.Classes.{Program, name_of, is_named, is_built_in, class_of, classes_of, superclass_of}
use Rattle.model.specs.HiddenMembers.{hidden_fields, is_cell}
use Rattle.model.specs.Lookup.{own_instance_fields, instance_fields, field_member}
use Rattle.run_laws.specs.laws.Steps.{ends}
use Rattle.run_laws.proofs.laws.Classes.{names_same}
use Rattle.run_laws.proofs.laws.Found.{every_all, found_has, found_passes}
use Rattle.run_laws.proofs.laws.LinkedClasses as linked_classes
use Rattle.run_laws.proofs.laws.RootedOf.{ends_above}
use Rattle.link_conditions.proofs.limits_of_linking.CellLaws.{filter_append}
use Rattle.linker.specs.Linking.{IsLinked}
use Rattle.linker.proofs.field_links.Lineages.{fields_below, fields_top}
use Rattle.linker.proofs.field_links.OwnNames.{unrefused}

abbrev pub is_uncounted : Member → Bool
is_uncounted field = not (is_cell field)

-- each field counts or doesn't
pub split : (xs : List Member) → length xs ≡ length (filter is_cell xs) + length (filter is_uncounted xs)
split [] = refl
split (x ∷ xs) = by (is_cell x) (split xs)
  where
    by : (b : Bool) → length xs ≡ length (filter is_cell xs) + length (filter is_uncounted xs)
        → length (x ∷ xs) ≡ length (cond b (x ∷ filter is_cell xs) (filter is_cell xs)) + length (cond (not b) (x ∷ filter is_uncounted xs) (filter is_uncounted xs))
    by true h = omega (arith, h)
    by false h = omega (arith, h)

within : (m n : ℕ) → nat_le n m ≡ true → n ≤ m
within m n h = grind (arith, nat_tests)

-- ---- a class that isn't built in declares none of them

hidden_built_in : list_all (λ (hidden : Member). is_built_in hidden.class) hidden_fields ≡ true
unfolding built_in_classes
hidden_built_in = refl

differs : (field hidden : Member) → is_built_in hidden.class ≡ true → is_built_in field.class ≡ false → member_eq field hidden ≡ false
differs field hidden h f =
    false_from_ne_true (member_eq field hidden) (λ m. false≢true (sym f ∙ ap is_built_in (names_same field.class hidden.class (and_parts _ _ m).0) ∙ h))

none_hidden : (field : Member) (all : List Member) → list_all (λ (hidden : Member). is_built_in hidden.class) all ≡ true
    → is_built_in field.class ≡ false → list_any (member_eq field) all ≡ false
none_hidden field [] h f = refl
none_hidden field (hidden ∷ all) h f =
    let parts = and_parts _ _ h in
    or_from (member_eq field hidden) (list_any (member_eq field) all) (differs field hidden parts.0 f) (none_hidden field all parts.1 f)

counted : (field : Member) → is_built_in field.class ≡ false → is_uncounted field ≡ false
counted field f = ap (λ h. not (not h || member_eq field thread_target)) (none_hidden field hidden_fields hidden_built_in f)

none_among : (class : Name) (pool : List Entry) → is_built_in class ≡ false → (fields : List FieldTree)
    → length (filter is_uncounted (map (field_member class pool) fields)) ≡ 0
none_among class pool b [] = refl
none_among class pool b (f ∷ fields) =
    let rest = map (field_member class pool) fields in
    ap (λ t. length (cond t (field_member class pool f ∷ filter is_uncounted rest) (filter is_uncounted rest))) (counted (field_member class pool f) b)
    ∙ none_among class pool b fields

-- ---- up the chain of superclasses

some_of : {A : Type 0} (o : Option A) → is_some o ≡ true → (x : A) × (o ≡ Some x)
some_of None h = absurd (false≢true h)
some_of (Some x) h = (x, refl)

module _ (files : Program) (linked : IsLinked files) where
  abbrev uncounted : Name → ℕ
  uncounted class = length (filter is_uncounted (instance_fields files class))

  abbrev own_uncounted : Name → ℕ
  own_uncounted class = length (filter is_uncounted (own_instance_fields files class))

  built_in_few : list_all (λ (file : FileTree). nat_le (length (filter is_uncounted (instance_fields files (name_of file)))) 3) built_in_classes ≡ true
  unfolding built_in_classes
  built_in_few = refl

  -- of a class that is built in
  few_built_in : (class : Name) → is_built_in class ≡ true → uncounted class ≤ 3
  few_built_in class h =
      let found = some_of (find (is_named class) built_in_classes) h in
      let few = found_has (λ (file : FileTree). nat_le (uncounted (name_of file)) 3 ≡ true) (is_named class) built_in_classes found.0 (every_all _ built_in_classes built_in_few) found.1 in
      let named : name_of found.0 ≡ class = names_same (name_of found.0) class (found_passes (is_named class) built_in_classes found.0 found.1) in
      within 3 (uncounted class) (subst (λ name. nat_le (uncounted name) 3 ≡ true) named few)

  own_none : (class : Name) → is_built_in class ≡ false → own_uncounted class ≡ 0
  own_none class b = by (class_of files class)
    where
      by : (o : Option FileTree)
          → length (filter is_uncounted (option_map_or (λ (file : FileTree). map (field_member class file.pool) (filter is_instance_field file.fields)) o [])) ≡ 0
      by None = refl
      by (Some file) = none_among class file.pool b (filter is_instance_field file.fields)

  few_within : (n : ℕ) (class : Name) → ends files n class ≡ true → uncounted class ≤ 3
  few_within zero class e = absurd (false≢true e)
  few_within (suc n) class e = by (λ s h. few_within n s h) (is_built_in class) refl
    where
      of_file : ((s : Name) → ends files n s ≡ true → uncounted s ≤ 3) → is_built_in class ≡ false → (o : Option Name)
          → superclass_of files class ≡ o → uncounted class ≤ 3
      of_file above b None q =
          omega (arith, ap (λ (l : List Member). length (filter is_uncounted l)) (fields_top files (unrefused files linked) class q) ∙ own_none class b)
      of_file above b (Some s) q =
          omega (
            arith,
            own_none class b,
            ap (λ (l : List Member). length (filter is_uncounted l)) (fields_below files (unrefused files linked) class s q)
                ∙ filter_append is_uncounted (instance_fields files s) (own_instance_fields files class),
            above s (ends_above files n class s q e),
          )

      by : ((s : Name) → ends files n s ≡ true → uncounted s ≤ 3) → (b : Bool) → is_built_in class ≡ b → uncounted class ≤ 3
      by above true h = few_built_in class h
      by above false h = of_file above h (superclass_of files class) refl

  pub few_uncounted : (class : Name) → uncounted class ≤ 3
  few_uncounted class = few_within (suc (length (classes_of files))) class (linked_classes.rooted files (unrefused files linked) class)
