-- The class at a place is the one of its name, in programs that are linked.
use Rattle.std.proofs.Common.{◌≡◌, ℕ, zero, suc, false, List, [], ◌∷◌, ap, ◌∙◌, Some}
use Rattle.std.specs.Prelude.{position, slice_get, option_map}
use Rattle.std.specs.List.{list_any}
use Rattle.std.proofs.lemmas.Bool.{or_parts}
use Rattle.model.specs.Names.{name_eq}
use Rattle.model.specs.Tree.{FileTree}
use Rattle.model.specs.Classes.{Program, name_of, is_named, class_of, classes_of}
use Rattle.model.specs.Linkable.{too_many_fields, stands, DuplicateClass, TooManyFields, NoMain, two_of_one_name, has_built_in_name}
use Rattle.run_laws.proofs.laws.Classes.{name_self}
use Rattle.run_laws.proofs.laws.Unrefused.{Unrefused, unrefused_of, names_differ}
use Rattle.hierarchy.proofs.Names.{name_eq_sym}
use Rattle.linker.specs.Linking.{IsLinked}
use Rattle.linker.proofs.field_links.Positions.{step_over, stop_at}
use Rattle.hierarchy.proofs.Apart.{all_differ, class_of_its_name}
use Rattle.hierarchy.proofs.Finding.{none_at}

-- ---- no two classes have one name

first_place : (xs : List FileTree) (k : ℕ) (file : FileTree) → two_of_one_name xs ≡ false → slice_get xs k ≡ Some file
    → position (is_named (name_of file)) xs ≡ Some k
first_place [] k file h e = absurd cc
first_place (x ∷ xs) zero file h e =
    let same : x ≡ file = cc in
    stop_at (is_named (name_of file)) x xs (ap (λ (y : FileTree). name_eq (name_of y) (name_of file)) same ∙ name_self (name_of file))
first_place (x ∷ xs) (suc k) file h e =
    let both = or_parts (list_any (is_named (name_of x)) xs) _ h in
    let other : is_named (name_of file) x ≡ false = name_eq_sym (name_of x) (name_of file) ∙ none_at (is_named (name_of x)) xs k file both.0 e in
    step_over (is_named (name_of file)) x xs other ∙ ap (option_map (λ (j : ℕ). suc j)) (first_place xs k file both.1 e)

-- ---- what linking gives

pub unrefused : (files : Program) → IsLinked files → Unrefused files
unrefused files linked = unrefused_of linked.0 files linked.1.spelled linked.1.no_refusal

module _ (files : Program) (linked : IsLinked files) where
  names_apart : stands files DuplicateClass ≡ false
  names_apart = names_differ files linked.1.no_refusal

  pub few_fields : list_any (too_many_fields files) files ≡ false
  few_fields = (or_parts (stands files TooManyFields) _ (or_parts (stands files NoMain) _ linked.1.no_refusal).1).0

  pub files_differ : two_of_one_name files ≡ false
  files_differ = (or_parts (two_of_one_name files) _ names_apart).0

  pub no_built_in_name : list_any has_built_in_name files ≡ false
  no_built_in_name = (or_parts (two_of_one_name files) _ names_apart).1

  pub place_is : (k : ℕ) (file : FileTree) → slice_get (classes_of files) k ≡ Some file
      → position (is_named (name_of file)) (classes_of files) ≡ Some k
  place_is k file at = first_place (classes_of files) k file (all_differ files names_apart) at

  pub class_is : (k : ℕ) (file : FileTree) → slice_get (classes_of files) k ≡ Some file → class_of files (name_of file) ≡ Some file
  class_is k file at = class_of_its_name files k file names_apart at
