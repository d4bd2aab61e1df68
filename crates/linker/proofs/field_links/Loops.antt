-- Rows that are pushed one after the other.
use Rattle.std.proofs.Common.{◌≡◌, ℕ, zero, suc, ◌+◌, ◌<◌, ◌≤◌, ◌^◌, List, [], ◌∷◌, ◌++◌, length, drop, flat_map, refl, sym, ap, ◌∙◌, append_assoc, length-append, arith, Some}
use Rattle.std.specs.Prelude.{slice_get}
use Rattle.std.specs.List.{filter}
use Rattle.std.proofs.lemmas.List.{length-map}
use Rattle.model.specs.Tree.{FileTree}
use Rattle.model.specs.AccessFlags.{is_static_field}
use Rattle.model.specs.Classes.{Program, name_of, classes_of}
use Rattle.model.specs.HiddenMembers.{is_cell}
use Rattle.model.specs.Lookup.{instance_fields, field_member}
use Rattle.model.specs.Names.{Member}
use Rattle.model.specs.Opening.{static_fields_in}
use Rattle.hierarchy.proofs.SetLaws.{class_at_place, no_class}
use Rattle.linker.specs.declared.field_links.chain.Counted.{Counted}
use Rattle.linker.specs.declared.field_links.chain.Counted.TheVariants as counted
use Rattle.linker.specs.declared.field_links.chain.Shape.{Shape}
use Rattle.linker.specs.Linking.{IsLinked}
use Rattle.linker.specs.field_links.Chains.{count_in, shape_of, shapes, chain_sum}
use Rattle.linker.specs.field_links.Slots.{static_ends}
use Rattle.linker.proofs.field_links.Sums.{sum_of}
use Rattle.linker.proofs.field_links.OwnNames.{class_is}
use Rattle.linker.proofs.field_links.Bounds.{instances_fit, length-filter-le}
use Rattle.hierarchy.proofs.RowLaws.{drop_at}

-- there is an item below the length
pub item_at : {A : Type 0} (xs : List A) (i : ℕ) → i < length xs → (x : A) × (slice_get xs i ≡ Some x)
item_at [] i lt = absurd (omega arith)
item_at (x ∷ xs) zero lt = (x, refl)
item_at (x ∷ xs) (suc i) lt = item_at xs i (omega arith)

-- ---- where the static fields of a file end

static_length : (file : FileTree) → length (static_fields_in file) ≡ length (filter is_static_field file.fields)
static_length file = length-map (filter is_static_field file.fields) (field_member (name_of file) file.pool)

module _ (files : Program) (i : ℕ) (file : FileTree) (at : slice_get files i ≡ Some file) where
  pub end_pushed : (done new all : List ℕ) (end after : ℕ) → after ≡ end + length (filter is_static_field file.fields)
      → new ≡ done ++ after ∷ [] → done ++ static_ends end (drop i files) ≡ all → new ++ static_ends after (drop (i + 1) files) ≡ all
  end_pushed done new all end after is pushed e =
      let so : end + length (static_fields_in file) ≡ after = omega (arith, is, static_length file) in
      ap (λ (l : List ℕ). l ++ static_ends after (drop (i + 1) files)) pushed
      ∙ append_assoc done (after ∷ []) (static_ends after (drop (i + 1) files))
      ∙ ap (λ (n : ℕ). done ++ n ∷ static_ends n (drop (i + 1) files)) (sym so)
      ∙ ap (λ (l : List FileTree). done ++ static_ends end l) (sym (drop_at files i file at))
      ∙ e

  pub end_within : (end all : ℕ) → end + length (flat_map static_fields_in (drop i files)) ≡ all
      → (end + length (filter is_static_field file.fields)) + length (flat_map static_fields_in (drop (i + 1) files)) ≡ all
  end_within end all e =
      omega (arith, e, ap (λ (l : List FileTree). length (flat_map static_fields_in l)) (drop_at files i file at), length-append (static_fields_in file) (flat_map static_fields_in (drop (i + 1) files)), static_length file)

-- ---- how many slots an object has, and how many of these count

shapes_length : (what : Counted) (files : Program) → length (shapes what files) ≡ length (classes_of files)
unfolding shapes
shapes_length what files = length-map (classes_of files) (shape_of what files)

count_fits : (what : Counted) (fields : List Member) → length fields ≤ 65538 → count_in what fields ≤ 65538
count_fits counted.Fields fields h = h
count_fits counted.Cells fields h = omega (arith, h, length-filter-le is_cell fields)

module _ (files : Program) (what : Counted) (rows : List Shape) (k : ℕ) (is : rows ≡ shapes what files) where
  pub size_is : IsLinked files → (file : FileTree) → slice_get (classes_of files) k ≡ Some file
      → chain_sum rows (length rows) k ≡ count_in what (instance_fields files (name_of file))
  size_is linked file at =
      ap (λ (l : List Shape). chain_sum l (length l) k) is
      ∙ ap (λ n. chain_sum (shapes what files) n k) (shapes_length what files)
      ∙ sum_of files what (class_is files linked) (class_at_place files) (no_class files) (length (classes_of files)) k (Some file) at

  pub size_fits : IsLinked files → (file : FileTree) → slice_get (classes_of files) k ≡ Some file → chain_sum rows (length rows) k < 2 ^ 64
  size_fits linked file at =
      let few = count_fits what (instance_fields files (name_of file)) (instances_fit files linked k file at) in
      omega (arith, size_is linked file at, few)

  pub class_below : k < length rows → (file : FileTree) × (slice_get (classes_of files) k ≡ Some file)
  class_below lt = item_at (classes_of files) k (omega (arith, lt, ap length is, shapes_length what files))

  pub all_classes : length rows ≤ k → drop k (classes_of files) ≡ []
  all_classes le = none (classes_of files) k (omega (arith, le, ap length is, shapes_length what files))
    where
      none : (xs : List FileTree) (k : ℕ) → length xs ≤ k → drop k xs ≡ []
      none [] zero le = refl
      none [] (suc k) le = refl
      none (x ∷ xs) zero le = absurd (omega arith)
      none (x ∷ xs) (suc k) le = none xs k (omega arith)
