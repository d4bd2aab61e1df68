-- The class file that bytes are (JVMS chapter 4).
use Rattle.std.specs.Prelude.{ℕ, List, IsTrue}
use Rattle.model.specs.Tree.{FileTree}
use Rattle.model.specs.Spelling.{Layout}
use Rattle.model.specs.Conditions.{file_indices, file_names, file_descriptors, file_attributes, members_differ}

-- each condition is met
pub record IsWhole (c : FileTree) : Type 0 where
  pub indices : IsTrue (file_indices c)
  pub names : IsTrue (file_names c)
  pub descriptors : IsTrue (file_descriptors c)
  pub attributes : IsTrue (file_attributes c)
  pub members : IsTrue (members_differ c)

pub record Spells (bytes : List ℕ) (c : FileTree) : Type 0 where
  pub layout : Layout bytes c
  pub whole : IsWhole c
