-- What a walk tells.
use Rattle.std.specs.Prelude.{◌≡◌, ◌<◌, ℕ, List, Option, None, Some, Bool, true, slice_index_or}
use Rattle.model.specs.Tree.{MethodTree, CodeTree, FileTree}
use Rattle.model.specs.Classes.{Program}
use Rattle.advice.specs.declared.told.Told.{Told}
use Rattle.advice.specs.declared.told.ToldPlace.{ToldPlace}
use Rattle.advice.specs.declared.told.ToldPlace.TheVariants as places
use Rattle.advice.specs.Told.{IsTold, Keeps}
use Rattle.advice.specs.Wrong.{is_declaration_wrong, is_offset_wrong, is_entry_wrong, in_code, is_wrong_at, is_wrong_in}

-- what was told is kept, and a place is told if something is wrong there
pub record Tells (before after : List Told) (file : ℕ) (place : ToldPlace) (is_wrong : Bool) : Type 0 where
  pub kept : Keeps before after
  pub told : is_wrong ≡ true → IsTold after file place

-- the same of each of some places
pub record TellsEach (before after : List Told) (file : ℕ) (place : ℕ → ToldPlace) (is_wrong : ℕ → Bool) : Type 0 where
  pub kept : Keeps before after
  pub told : (k : ℕ) → is_wrong k ≡ true → IsTold after file (place k)

-- of the places in the code of the method of a number
pub record TellsCode (files : Program) (tree : FileTree) (before after : List Told) (file method : ℕ) (c : CodeTree) : Type 0 where
  pub kept : Keeps before after
  pub offsets : (pc : ℕ) → is_offset_wrong files tree c pc ≡ true → IsTold after file (places.Instruction method pc)
  pub entries : (k : ℕ) → is_entry_wrong files tree c k ≡ true → IsTold after file (places.Exception method k)

-- of those of a method
pub record TellsMethod (files : Program) (tree : FileTree) (before after : List Told) (file method : ℕ) (m : MethodTree) : Type 0 where
  pub kept : Keeps before after
  pub declaration : is_declaration_wrong files tree m ≡ true → IsTold after file (places.Method method)
  pub offsets : (pc : ℕ) → in_code (is_offset_wrong files tree) pc m ≡ true → IsTold after file (places.Instruction method pc)
  pub entries : (k : ℕ) → in_code (is_entry_wrong files tree) k m ≡ true → IsTold after file (places.Exception method k)

-- of those of the first so many methods of a class file
pub record TellsMethods (files : Program) (tree : FileTree) (before after : List Told) (file count : ℕ) : Type 0 where
  pub kept : Keeps before after
  pub declarations : (j : ℕ) → j < count → is_wrong_at files tree (places.Method j) ≡ true → IsTold after file (places.Method j)
  pub offsets : (j pc : ℕ) → j < count → is_wrong_at files tree (places.Instruction j pc) ≡ true → IsTold after file (places.Instruction j pc)
  pub entries : (j k : ℕ) → j < count → is_wrong_at files tree (places.Exception j k) ≡ true → IsTold after file (places.Exception j k)

-- of those of a class file of a program
pub record TellsFile (files : Program) (tree : FileTree) (before after : List Told) (file : ℕ) : Type 0 where
  pub kept : Keeps before after
  pub told : (place : ToldPlace) → is_wrong_at files tree place ≡ true → IsTold after file place

-- of those of the class at a place of the program, where that is the place of its file
pub record TellsPlace (files : Program) (at : Option ℕ) (before after : List Told) (number : ℕ) : Type 0 where
  pub kept : Keeps before after
  pub told : at ≡ Some number → (place : ToldPlace) → is_wrong_in files number place ≡ true → IsTold after number place

-- of those of the first so many files whose classes stand at their places
abbrev pub TellsFiles : Program → List (Option ℕ) → List Told → ℕ → Type 0
TellsFiles files at told count =
    (number : ℕ) → number < count → slice_index_or at number None ≡ Some number
    → (place : ToldPlace) → is_wrong_in files number place ≡ true → IsTold told number place
