-- What is lost of a file.
use Rattle.std.proofs.Common.{ℕ, List, [], Option, Some, None, refl, sym}
use Rattle.std.proofs.lemmas.List.{append-nil}
use Rattle.model.specs.Devices.{LosesFront}

-- nothing
pub loses_nothing : (left : Option (List ℕ)) → LosesFront left left
loses_nothing None = ([], tt)
loses_nothing (Some bytes) = ([], refl)

-- all of it
pub loses_all : (left : Option (List ℕ)) → LosesFront left (Some [])
loses_all None = ([], tt)
loses_all (Some bytes) = (bytes, sym (append-nil bytes))
