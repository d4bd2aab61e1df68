-- Rows of one class more.
use Rattle.std.proofs.Common.{◌≡◌, ◌∙◌, ℕ, List, [], ◌∷◌, ◌++◌, length, map, refl, ap, subst, Some}
use Rattle.std.specs.Prelude.{slice_get}
use Rattle.model.specs.Tree.{FileTree}
use Rattle.model.specs.Classes.{Program}
use Rattle.linked_code.specs.declared.class.LinkedClass.{LinkedClass}
use Rattle.linked_code.specs.ClassRows.{IsLinkedClass}
use Rattle.linked_code.specs.Programs.{AreClasses}
use Rattle.linker.proofs.field_links.RowLaws.{Pairs}

pub are_classes : (files : Program) (cs : List FileTree) (ls : List LinkedClass) → Pairs (IsLinkedClass files) cs ls
    → AreClasses files cs ls
are_classes files [] [] h = tt
are_classes files [] (l ∷ ls) h = absurd h
are_classes files (c ∷ cs) [] h = absurd h
are_classes files (c ∷ cs) (l ∷ ls) h = (h.0, are_classes files cs ls h.1)

-- ---- selections: those of the rows that there are, then those that are left

-- the first of those that are left
pub next_is : {A B : Type 0} (f : A → B) (rows : List A) (rest all : List B) (x : B) (n : ℕ) → map f rows ++ (x ∷ rest) ≡ all
    → length rows ≡ n → slice_get all n ≡ Some x
next_is {A = A} f rows rest all x n kept count = subst (λ l. slice_get l n ≡ Some x) kept (subst (λ k. slice_get (map f rows ++ (x ∷ rest)) k ≡ Some x) count (at rows))
  where
    at : (rows : List A) → slice_get (map f rows ++ (x ∷ rest)) (length rows) ≡ Some x
    at [] = refl
    at (r ∷ rows) = at rows

pub row_kept : {A B : Type 0} (f : A → B) (rows new : List A) (row : A) (rest all : List B) (x : B) → f row ≡ x → new ≡ rows ++ row ∷ []
    → map f rows ++ (x ∷ rest) ≡ all → map f new ++ rest ≡ all
row_kept {A = A} f rows new row rest all x is pushed kept =
    ap (λ l. map f l ++ rest) pushed ∙ by rows ∙ ap (λ y. map f rows ++ (y ∷ rest)) is ∙ kept
  where
    by : (rows : List A) → map f (rows ++ row ∷ []) ++ rest ≡ map f rows ++ (f row ∷ rest)
    by [] = refl
    by (r ∷ rows) = ap (λ l. f r ∷ l) (by rows)
