-- What files are read as.
use Rattle.std.specs.Prelude.{◌≡◌, ℕ, List, Some, length, map, vec_items}
use Rattle.model.specs.Classes.{Program}
use Rattle.model.specs.CodeParts.{count_from}
use Rattle.model.specs.Linkable.{AreSpelled}
use Rattle.hierarchy.specs.Set.{trees_of}
use Rattle.advice.specs.declared.given.GivenFile.{GivenFile}
use Rattle.advice.specs.declared.reading.ReadFiles.{ReadFiles}

-- the bytes of a file that is given
abbrev pub bytes_of : GivenFile → List ℕ
bytes_of file = vec_items file.bytes

-- Of files that are class files, the classes are theirs, each at the place of its file.
abbrev pub AreRead : List GivenFile → ReadFiles → Type 0
AreRead files read = (trees : Program) → AreSpelled (map bytes_of files) trees
    → (trees_of read.classes.items ≡ trees) × (read.places.items ≡ map (λ k. Some k) (count_from 0 (length files)))
