-- What marks of texts of a constant pool stand for.
use Rattle.std.specs.Prelude.{◌≡◌, ◌⊎◌, ℕ, List, Bool, true, false, Some, slice_index_or}
use Rattle.std.specs.List.{Contains}
use Rattle.model.specs.Names.{Name}
use Rattle.model.specs.Tree.{Entry}
use Rattle.model.specs.Pool.{utf8_at}
use Rattle.model.specs.DescriptorParts.{classes_in}
use Rattle.library_files.specs.declared.needed_texts.NeededTexts.{NeededTexts}

abbrev pub is_marked : List Bool → ℕ → Bool
is_marked marks k = slice_index_or marks k false

abbrev pub IsMarked : List Bool → ℕ → Type 0
IsMarked marks k = is_marked marks k ≡ true

-- the text at a marked index
pub record IsMarkedText (pool : List Entry) (marks : List Bool) (text : Name) : Type 0 where
  pub index : ℕ
  pub marked : IsMarked marks index
  pub stands : utf8_at pool index ≡ Some text

-- a class of a marked descriptor
pub record IsDescribed (pool : List Entry) (marks : List Bool) (name : Name) : Type 0 where
  pub text : Name
  pub marked : IsMarkedText pool marks text
  pub among : Contains (classes_in text) name

-- the name of a class is marked, or it is of a marked descriptor
abbrev pub IsNeededBy : List Entry → NeededTexts → Name → Type 0
IsNeededBy pool texts name = IsMarkedText pool texts.names.items name ⊎ IsDescribed pool texts.descriptors.items name

-- these names are needed besides, and no other
pub record Adds (pool : List Entry) (old new : NeededTexts) (names : List Name) : Type 0 where
  pub kept : (name : Name) → IsNeededBy pool old name → IsNeededBy pool new name
  pub added : (name : Name) → Contains names name → IsNeededBy pool new name
  pub only : (name : Name) → IsNeededBy pool new name → IsNeededBy pool old name ⊎ Contains names name
