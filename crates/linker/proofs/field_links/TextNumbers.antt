-- The texts of the string constants of files, of built-in classes, and of the machine.
use Rattle.std.proofs.Common.{◌≡◌, ℕ, ◌+◌, ◌<◌, ◌≤◌, Bool, true, false, cond, List, [], ◌∷◌, ◌++◌, length, drop, refl, sym, ap, ◌∙◌, arith, length-append, Some, None}
use Rattle.std.specs.Prelude.{slice_get, nat_le}
use Rattle.std.specs.List.{flat_map, list_any}
use Rattle.std.proofs.lemmas.Option.{slice_get_past}
use Rattle.std.proofs.lemmas.Bool.Decides.{nat_tests}
use Rattle.model.specs.Names.{Name, name_eq}
use Rattle.model.specs.Tree.{FileTree}
use Rattle.model.specs.BuiltIn.{built_in_classes}
use Rattle.model.specs.Classes.{Program, classes_of}
use Rattle.model.specs.StringConstants.{texts_in, file_texts, machine_texts, string_texts}
use Rattle.link_conditions.specs.limits_of_linking.Texts.{with_text, with_texts}
use Rattle.link_conditions.proofs.limits_of_linking.TextLaws.{with_texts-append, distinct-append}
use Rattle.hierarchy.proofs.Indices.{built_in_count, get_front}
use Rattle.hierarchy.proofs.RowLaws.{drop_at, drop_past}
use Rattle.hierarchy.proofs.SetLaws.{no_item}

-- ---- those of built-in classes, one after the other

-- a built-in class by its place
pub built_in_at : (files : Program) (i : ℕ) (file : FileTree) → i < 37 → slice_get (classes_of files) i ≡ Some file
    → slice_get built_in_classes i ≡ Some file
built_in_at files i file lt at = sym (get_front built_in_classes files i (omega (arith, lt, built_in_count))) ∙ at

pub built_in_there : (files : Program) (i : ℕ) → i < 37 → slice_get (classes_of files) i ≡ None → ⊥
built_in_there files i lt at = no_item built_in_classes i (omega (arith, lt, built_in_count)) (sym (get_front built_in_classes files i (omega (arith, lt, built_in_count))) ∙ at)

module _ (now all : List Name) (i : ℕ) (rest : with_texts now (flat_map texts_in (drop i built_in_classes)) ≡ all) where
  pub texts_behind : (after : List Name) (file : FileTree) → slice_get built_in_classes i ≡ Some file → after ≡ with_texts now (texts_in file)
      → with_texts after (flat_map texts_in (drop (i + 1) built_in_classes)) ≡ all
  texts_behind after file at is =
      ap (λ l. with_texts l (flat_map texts_in (drop (i + 1) built_in_classes))) is
      ∙ sym (with_texts-append now (texts_in file) (flat_map texts_in (drop (i + 1) built_in_classes)))
      ∙ ap (λ l. with_texts now (flat_map texts_in l)) (sym (drop_at built_in_classes i file at))
      ∙ rest

  pub texts_done : 37 ≤ i → now ≡ all
  texts_done le =
      let past : drop i built_in_classes ≡ [] = drop_past built_in_classes i (slice_get_past built_in_classes i (omega (arith, le, built_in_count))) in
      ap (λ l. with_texts now (flat_map texts_in l)) (sym past) ∙ rest

-- all of them

pub all_texts_are : (files : Program)
    → with_texts (with_texts (file_texts files) (flat_map texts_in built_in_classes)) machine_texts ≡ string_texts files
all_texts_are files =
    sym (with_texts-append (file_texts files) (flat_map texts_in built_in_classes) machine_texts)
    ∙ sym (distinct-append (flat_map texts_in files) (flat_map texts_in built_in_classes ++ machine_texts))

-- ---- how many there are

length-with_text-le : (acc : List Name) (text : Name) → length (with_text acc text) ≤ length acc + 1
length-with_text-le acc text = by (list_any (name_eq text) acc)
  where
    by : (b : Bool) → length (cond b acc (acc ++ text ∷ [])) ≤ length acc + 1
    by true = omega arith
    by false = omega (arith, length-append acc (text ∷ []))

length-with_texts-le : (acc texts : List Name) → length (with_texts acc texts) ≤ length acc + length texts
length-with_texts-le acc [] = omega arith
length-with_texts-le acc (text ∷ texts) = omega (arith, length-with_text-le acc text, length-with_texts-le (with_text acc text) texts)

within : (m n : ℕ) → nat_le n m ≡ true → n ≤ m
within m n h = grind (arith, nat_tests)

few_besides : nat_le (length (flat_map texts_in built_in_classes) + length machine_texts) 1000 ≡ true
unfolding built_in_classes
few_besides = refl

-- few besides those of the files
pub few_texts_more : (files : Program) → length (string_texts files) ≤ length (file_texts files) + 1000
few_texts_more files =
    omega (
      arith,
      ap length (all_texts_are files),
      length-with_texts-le (with_texts (file_texts files) (flat_map texts_in built_in_classes)) machine_texts,
      length-with_texts-le (file_texts files) (flat_map texts_in built_in_classes),
      within 1000 (length (flat_map texts_in built_in_classes) + length machine_texts) few_besides,
    )
