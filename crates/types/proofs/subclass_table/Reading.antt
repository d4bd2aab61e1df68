-- Rows one after the other, and what a table says by them.
use Rattle.std.proofs.Common.{◌≡◌, ◌∙◌, ℕ, suc, ◌+◌, ◌*◌, ◌/◌, ◌%◌, ◌<◌, ◌≤◌, List, ◌++◌, false, length, get_or, sym, ap, subst, ⊎_elim, arith, length-append, Option, Some}
use Rattle.std.proofs.Math.Nat.{mul-le-mul_right}
use Rattle.std.specs.Prelude.{◌==◌}
use Rattle.std.specs.Int.{bit_at}
use Rattle.std.specs.Option.{option_map_or}
use Rattle.std.proofs.lemmas.Bool.{cases_lt}
use Rattle.std.proofs.lemmas.List.{get_or_append_left, get_or-append-add}
use Rattle.std.proofs.lemmas.Option.{slice_get_within}
use Rattle.model.specs.Names.{Name}
use Rattle.model.specs.Tree.{FileTree}
use Rattle.model.specs.Classes.{Program, name_of, classes_of}
use Rattle.model.specs.ReferenceTypes.{is_subclass_or_implements}
use Rattle.hierarchy.specs.Places.{class_at}
use Rattle.linked_code.specs.declared.subclasses.Subclasses.{Subclasses}
use Rattle.linked_code.specs.Subtypes.{is_set, AreSubclasses}
use Rattle.types.specs.subclass_table.Columns.{column_in}
use Rattle.types.specs.subclass_table.Rows.{FitIn, HasRowMore, is_set_at, AreRows}

-- a place within rows
within : (count width c q : ℕ) → c < count → q < width → c * width + q < count * width
within count width c q less few = let most : suc c * width ≤ count * width = mul-le-mul_right width (omega arith) in omega (arith, most, few)

module _ (files : Program) (columns : List (Option ℕ)) (width : ℕ) where
  pub no_rows : (words : List ℕ) → AreRows files columns width words 0
  no_rows words place file less = absurd (omega (arith, less))

  pub row_more : (words new : List ℕ) (count : ℕ) (file : FileTree) → FitIn columns width → class_at files count ≡ Some file
      → length words ≡ count * width → HasRowMore files columns width (name_of file) words new
      → AreRows files columns width words count → AreRows files columns width new (count + 1)
  row_more words new count file fit is ends more before place other less at = ⊎_elim
      (λ old class column above c there. ap (λ w. bit_at w (column % 64) == 1)
      (ap (λ l. get_or l (place * width + column / 64) 0) more.added
      ∙ get_or_append_left words more.row 0 (place * width + column / 64) (subst (λ n. place * width + column / 64 < n) (sym ends) (within count width place (column / 64) old (word class column c))))
      ∙ before place other old at class column above c there)
      (λ last class column above c there. here (omega (arith, less, last)) class column above c there)
      (cases_lt place count)
    where
      word : (class column : ℕ) → column_in columns class ≡ Some column → column / 64 < width
      word class column c = let fits = fit.within class column c in omega (arith, fits)

      here : place ≡ count → (class column : ℕ) (above : FileTree) → column_in columns class ≡ Some column
          → class_at files class ≡ Some above → is_set_at new width place column
          ≡ is_subclass_or_implements files (name_of other) (name_of above)
      here same class column above c there =
          let one : Some file ≡ Some other = sym is ∙ ap (class_at files) (sym same) ∙ at in
          let file_is : file ≡ other = cc in
          let from : place * width + column / 64 ≡ length words + column / 64 = ap (λ n. n * width + column / 64) same ∙ ap (λ n. n + column / 64) (sym ends) in
          ap (λ w. bit_at w (column % 64) == 1)
          (ap (λ l. get_or l (place * width + column / 64) 0) more.added ∙ ap (λ n. get_or (words ++ more.row) n 0) from ∙ get_or-append-add words more.row (column / 64) 0)
          ∙ more.is.says class column above c there
          ∙ ap (λ (f : FileTree). is_subclass_or_implements files (name_of f) (name_of above)) file_is

  pub count_more : (words new : List ℕ) (count : ℕ) (class : Name) → length words ≡ count * width
      → HasRowMore files columns width class words new → length new ≡ (count + 1) * width
  count_more words new count class ends more =
      ap length more.added ∙ length-append words more.row ∙ ap (λ n. n + length more.row) ends ∙ ap (λ n. count * width + n) more.is.wide ∙ omega arith

pub says : (files : Program) (table : Subclasses)
    → AreRows files table.columns.items table.width table.bits.items (length (classes_of files)) → AreSubclasses files table
says files table rows c d class above i j column =
    ap (λ (o : Option ℕ). option_map_or (is_set table c) o false) column.1
    ∙ rows c i.0 (slice_get_within (classes_of files) c i.0 i.1) i.1 d column.0 j.0 column.1 j.1
    ∙ ap (λ n. is_subclass_or_implements files n (name_of j.0)) i.2
    ∙ ap (λ n. is_subclass_or_implements files class n) j.2
