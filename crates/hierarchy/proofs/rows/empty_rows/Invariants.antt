use Rattle.std.proofs.Common.{◌≡◌, ◌++◌, [], ℕ, List, drop, map}
use Rattle.model.specs.Tree.{FileTree}
use Rattle.model.specs.Classes.{classes_of}
use Rattle.hierarchy.proofs.rows.empty_rows.Given as goal

abbrev pub invariant-loop-place : goal.invariant-loop-place
invariant-loop-place l =
    let none : FileTree → List ℕ = λ file. [] in
    l.rows.items ++ map none (drop l.place (classes_of l.set)) ≡ map none (classes_of l.set)
