-- How many fields linked programs have at most.
use Rattle.std.proofs.Common.{◌≡◌, ℕ, ◌+◌, ◌*◌, ◌<◌, ◌≤◌, ◌^◌, Bool, true, false, cond, List, [], ◌∷◌, length, refl, length-append, arith, Some}
use Rattle.std.specs.Prelude.{slice_get, nat_lt, nat_le}
use Rattle.std.specs.List.{filter, list_all}
use Rattle.std.proofs.lemmas.List.{length-map}
use Rattle.std.proofs.lemmas.Bool.Decides.{nat_tests}
use Rattle.model.specs.Tree.{FileTree}
use Rattle.model.specs.AccessFlags.{is_static_field}
use Rattle.model.specs.BuiltIn.{built_in_classes}
use Rattle.model.specs.Classes.{Program, name_of, classes_of}
use Rattle.model.specs.HiddenMembers.{is_cell}
use Rattle.model.specs.Lookup.{instance_fields, field_member}
use Rattle.model.specs.Names.{Name}
use Rattle.model.specs.Opening.{static_fields_in, static_fields}
use Rattle.model.specs.Linkable.{AreSpelled, too_many_fields}
use Rattle.run_laws.proofs.laws.Lists.{every_append, every_weaken, every_at}
use Rattle.run_laws.proofs.laws.Found.{none_any, every_all}
use Rattle.linker.specs.Linking.{IsLinked}
use Rattle.linker.proofs.field_links.OwnNames.{unrefused, few_fields}
use Rattle.linker.proofs.field_links.Uncounted.{split, few_uncounted}

not_over : (m n : ℕ) → nat_lt m n ≡ false → n ≤ m
not_over m n h = grind (arith, nat_tests)

within : (m n : ℕ) → nat_le n m ≡ true → n ≤ m
within m n h = grind (arith, nat_tests)

pub length-filter-le : {A : Type 0} (p : A → Bool) (xs : List A) → length (filter p xs) ≤ length xs
length-filter-le p [] = omega arith
length-filter-le p (x ∷ xs) = by (p x) (length-filter-le p xs)
  where
    by : (b : Bool) → length (filter p xs) ≤ length xs → length (cond b (x ∷ filter p xs) (filter p xs)) ≤ length (x ∷ xs)
    by true h = omega arith
    by false h = omega arith

-- ---- instance fields

module _ (files : Program) (linked : IsLinked files) where
  abbrev HasFewCells : FileTree → Type 0
  HasFewCells file = length (filter is_cell (instance_fields files (name_of file))) ≤ 65535

  built_in_few : list_all (λ (file : FileTree). nat_le (length (filter is_cell (instance_fields files (name_of file)))) 65535) built_in_classes ≡ true
  unfolding built_in_classes
  built_in_few = refl

  pub cells_fit : (k : ℕ) (file : FileTree) → slice_get (classes_of files) k ≡ Some file
      → length (filter is_cell (instance_fields files (name_of file))) ≤ 65535
  cells_fit k file at =
      every_at HasFewCells (classes_of files) k file
      (every_append HasFewCells built_in_classes files
      (every_weaken _ HasFewCells built_in_classes (λ file h. within 65535 (length (filter is_cell (instance_fields files (name_of file)))) h) (every_all _ built_in_classes built_in_few))
      (every_weaken _ HasFewCells files (λ file h. not_over 65535 (length (filter is_cell (instance_fields files (name_of file)))) h) (none_any (too_many_fields files) files (few_fields files linked))))
      at

  -- those that don't count are fields of built-in classes
  pub others_fit : (class : Name) → length (instance_fields files class) ≤ length (filter is_cell (instance_fields files class)) + 3
  others_fit class = omega (arith, split (instance_fields files class), few_uncounted files linked class)

  pub instances_fit : (k : ℕ) (file : FileTree) → slice_get (classes_of files) k ≡ Some file
      → length (instance_fields files (name_of file)) ≤ 65538
  instances_fit k file at = omega (arith, cells_fit k file at, others_fit (name_of file))

-- ---- static fields

static_length : (file : FileTree) → length (static_fields_in file) ≤ length file.fields
static_length file = omega (arith, length-map (filter is_static_field file.fields) (field_member (name_of file) file.pool), length-filter-le is_static_field file.fields)

few_statics : (bytes : List (List ℕ)) (files : Program) → AreSpelled bytes files → length (static_fields files) ≤ 65535 * length files
few_statics [] [] h = omega arith
few_statics [] (file ∷ files) h = absurd h
few_statics (b ∷ bytes) [] h = absurd h
few_statics (b ∷ bytes) (file ∷ files) h =
    omega (arith, static_length file, h.0.layout.fits.fields.0, few_statics bytes files h.1, length-append (static_fields_in file) (static_fields files))

pub statics_fit : (files : Program) → IsLinked files → length (static_fields files) < 2 ^ 64
statics_fit files linked =
    omega (arith, few_statics linked.0 files linked.1.spelled, not_over 65000 (length files) (unrefused files linked).files_fit)
