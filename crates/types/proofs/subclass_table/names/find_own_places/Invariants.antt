use Rattle.std.proofs.Common.{◌≡◌, ◌<◌, ℕ, Some}
use Rattle.model.specs.Tree.{FileTree}
use Rattle.model.specs.Classes.{name_of}
use Rattle.hierarchy.specs.Places.{class_at, place_of}
use Rattle.types.proofs.subclass_table.names.find_own_places.Given as goal

abbrev pub invariant-loop-place : goal.invariant-loop-place
invariant-loop-place l = (place : ℕ) (file : FileTree) → place < l.place → class_at l.set place ≡ Some file → place_of l.set (name_of file) ≡ Some place
