-- Files that spell trees, one by one.
use Rattle.std.proofs.Common.{◌≡◌, ℕ, zero, suc, List, [], ◌∷◌, ◌++◌, Some, refl, subst}
use Rattle.std.specs.Prelude.{slice_get}
use Rattle.model.specs.Tree.{FileTree}
use Rattle.model.specs.Spells.{Spells}
use Rattle.model.specs.Classes.{Program}
use Rattle.model.specs.Linkable.{AreSpelled}

pub spelled_push : (files : List (List ℕ)) (trees : Program) (bytes : List ℕ) (tree : FileTree) → AreSpelled files trees → Spells bytes tree
    → AreSpelled (files ++ bytes ∷ []) (trees ++ tree ∷ [])
spelled_push [] [] bytes tree are is = (is, tt)
spelled_push [] (other ∷ trees) bytes tree are is = absurd are
spelled_push (file ∷ files) [] bytes tree are is = absurd are
spelled_push (file ∷ files) (other ∷ trees) bytes tree are is = (are.0, spelled_push files trees bytes tree are.1 is)

-- the file at a place spells a tree
pub spelled_at : (files : List (List ℕ)) (trees : Program) (i : ℕ) (bytes : List ℕ) → slice_get files i ≡ Some bytes → AreSpelled files trees
    → (tree : FileTree) × Spells bytes tree
spelled_at [] trees i bytes at are = absurd cc
spelled_at (file ∷ files) [] i bytes at are = absurd are
spelled_at (file ∷ files) (tree ∷ trees) zero bytes at are = let same : file ≡ bytes = cc in (tree, subst (λ (b : List ℕ). Spells b tree) same are.0)
spelled_at (file ∷ files) (tree ∷ trees) (suc i) bytes at are = spelled_at files trees i bytes at are.1
