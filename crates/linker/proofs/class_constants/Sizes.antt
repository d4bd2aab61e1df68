-- How many files, texts and fields linked programs have at most.
use Rattle.std.proofs.Common.{◌≡◌, ℕ, zero, suc, ◌+◌, ◌-◌, ◌*◌, ◌<◌, ◌≤◌, ◌^◌, Bool, true, false, cond, List, [], ◌∷◌, length, take, refl, length-append, arith, Some}
use Rattle.std.specs.Prelude.{slice_get, nat_lt, nat_le}
use Rattle.std.specs.List.{AllByRecursion, filter, list_all}
use Rattle.std.proofs.lemmas.List.{length-map}
use Rattle.std.proofs.lemmas.Option.{slice_get_within}
use Rattle.std.proofs.lemmas.Bool.Decides.{nat_tests}
use Rattle.model.specs.Tree.{FileTree}
use Rattle.model.specs.AccessFlags.{is_static_field}
use Rattle.model.specs.BuiltIn.{built_in_classes}
use Rattle.model.specs.Classes.{Program, name_of, classes_of}
use Rattle.model.specs.Lookup.{field_member}
use Rattle.model.specs.Opening.{static_fields_in, static_fields}
use Rattle.model.specs.StringConstants.{file_texts, string_texts}
use Rattle.model.specs.Linkable.{AreSpelled}
use Rattle.run_laws.proofs.laws.Lists.{every_append, every_weaken, every_at}
use Rattle.run_laws.proofs.laws.Found.{every_all}
use Rattle.linker.specs.Linking.{IsLinked}
use Rattle.hierarchy.proofs.Indices.{count_behind}
use Rattle.linker.proofs.field_links.OwnNames.{unrefused}
use Rattle.linker.proofs.field_links.TextNumbers.{few_texts_more}
use Rattle.linker.specs.class_constants.Constants.{slots_before}

not_over : (m n : ℕ) → nat_lt m n ≡ false → n ≤ m
not_over m n h = grind (arith, nat_tests)

within : (m n : ℕ) → nat_le n m ≡ true → n ≤ m
within m n h = grind (arith, nat_tests)

pub length-filter-le : {A : Type 0} (p : A → Bool) (xs : List A) → length (filter p xs) ≤ length xs
length-filter-le p [] = omega arith
length-filter-le p (x ∷ xs) = by (p x) (length-filter-le p xs)
  where
    by : (b : Bool) → length (filter p xs) ≤ length xs → length (cond b (x ∷ filter p xs) (filter p xs)) ≤ length (x ∷ xs)
    by true h = omega arith
    by false h = omega arith

abbrev pub HasFew : FileTree → Type 0
HasFew file = length file.fields ≤ 65535

static_length : (file : FileTree) → length (static_fields_in file) ≤ length file.fields
static_length file = omega (arith, length-map (filter is_static_field file.fields) (field_member (name_of file) file.pool), length-filter-le is_static_field file.fields)

few_fields : (bytes : List (List ℕ)) (files : Program) → AreSpelled bytes files → AllByRecursion HasFew files
few_fields [] [] h = tt
few_fields [] (file ∷ files) h = absurd h
few_fields (b ∷ bytes) [] h = tt
few_fields (b ∷ bytes) (file ∷ files) h = (omega (arith, h.0.layout.fits.fields.0), few_fields bytes files h.1)

statics_before : (files : Program) (n : ℕ) → AllByRecursion HasFew files → length (static_fields (take n files)) ≤ 65535 * n
statics_before [] zero h = omega arith
statics_before [] (suc n) h = omega arith
statics_before (file ∷ files) zero h = omega arith
statics_before (file ∷ files) (suc n) h =
    omega (arith, static_length file, h.0, statics_before files n h.1, length-append (static_fields_in file) (static_fields (take n files)))

built_in_few : list_all (λ (file : FileTree). nat_le (length file.fields) 65535) built_in_classes ≡ true
unfolding built_in_classes
built_in_few = refl

module _ (files : Program) (linked : IsLinked files) where
  pub few_files : length files ≤ 65000
  few_files = not_over 65000 (length files) (unrefused files linked).files_fit

  pub few_classes : length (classes_of files) ≤ 65037
  few_classes = omega (arith, few_files, count_behind files)

  pub few_texts : length (string_texts files) ≤ 200001000
  few_texts = omega (arith, not_over 200000000 (length (file_texts files)) (unrefused files linked).strings_fit, few_texts_more files)

  fields_of_class : (class : ℕ) (file : FileTree) → slice_get (classes_of files) class ≡ Some file → length file.fields ≤ 65535
  fields_of_class class file at =
      every_at HasFew (classes_of files) class file
      (every_append HasFew built_in_classes files
      (every_weaken _ HasFew built_in_classes (λ file h. within 65535 (length file.fields) h) (every_all _ built_in_classes built_in_few))
      (few_fields linked.0 files linked.1.spelled))
      at

  pub slots_fit : (class : ℕ) (file : FileTree) → slice_get (classes_of files) class ≡ Some file
      → (slots_before files class + length file.fields) + 1 < 2 ^ 32
  slots_fit class file at =
      let before = statics_before files (class - 37) (few_fields linked.0 files linked.1.spelled) in
      omega (arith, before, few_files, count_behind files, slice_get_within (classes_of files) class file at, fields_of_class class file at)

pub filter_take_le : {A : Type 0} (p : A → Bool) (xs : List A) (i : ℕ) → length (filter p (take i xs)) ≤ length xs
filter_take_le p [] zero = omega arith
filter_take_le p [] (suc i) = omega arith
filter_take_le p (x ∷ xs) zero = omega arith
filter_take_le p (x ∷ xs) (suc i) = by (p x) (filter_take_le p xs i)
  where
    by : (b : Bool) → length (filter p (take i xs)) ≤ length xs
        → length (cond b (x ∷ filter p (take i xs)) (filter p (take i xs))) ≤ length (x ∷ xs)
    by true h = omega arith
    by false h = omega arith
