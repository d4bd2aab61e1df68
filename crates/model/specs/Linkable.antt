-- When the files of a program may be linked, and which refusal they get where they may not (own).
use Rattle.std.specs.Prelude.{◌≡◌, ℕ, List, [], ◌∷◌, Bool, true, false, not, ◌&&◌, ◌||◌, nat_lt, length}
use Rattle.std.specs.Option.{option_map_or}
use Rattle.std.specs.List.{filter, list_any}
use Rattle.model.specs.Names.{main_of}
use Rattle.model.specs.HiddenMembers.{is_cell}
use Rattle.model.specs.Tree.{FileTree}
use Rattle.model.specs.Spells.{Spells}
use Rattle.model.specs.AccessFlags.{is_static_method}
use Rattle.model.specs.Classes.{Program, name_of, is_named, is_built_in}
use Rattle.model.specs.Lookup.{method_of, instance_fields}
use Rattle.model.specs.StringConstants.{file_texts}
use Rattle.model.specs.Profile.{is_outside_profile}
use Rattle.model.specs.CodeConditions.{has_malformed_code}
use Rattle.model.specs.Hierarchy.{has_bad_hierarchy}
use Rattle.model.specs.Resolution.{is_unresolved}

-- ---- TooLarge

abbrev pub too_many_files : Program → Bool
too_many_files files = nat_lt 65000 (length files)

-- texts of the files' string constants
abbrev pub too_many_strings : Program → Bool
too_many_strings files = nat_lt 200000000 (length (file_texts files))

-- instance fields of a class that count as cells, those of its superclasses included
abbrev pub too_many_fields : Program → FileTree → Bool
too_many_fields files file = nat_lt 65535 (length (filter is_cell (instance_fields files (name_of file))))

-- ---- DuplicateClass (JVMS 5.3)

-- two files of one name
abbrev pub two_of_one_name : Program → Bool
two_of_one_name [] = false
two_of_one_name (file ∷ files) = list_any (is_named (name_of file)) files || two_of_one_name files

-- a file of the name of a built-in class
abbrev pub has_built_in_name : FileTree → Bool
has_built_in_name file = is_built_in (name_of file)

-- ---- NoMain (JVMS 5.2)

abbrev pub no_file : Program → Bool
no_file [] = true
no_file (file ∷ files) = false

-- the class of the first file declares no static main
abbrev pub no_static_main : Program → Bool
no_static_main [] = false
no_static_main (file ∷ files) = not (option_map_or is_static_method (method_of (file ∷ files) (main_of (name_of file))) false)

-- ---- all conditions

-- the refusals of linking for what stands in the trees of the files; TooLarge has two places in their order
pub data LinkCondition : Type 0 where
  TooLarge : LinkCondition
  DuplicateClass : LinkCondition
  OutsideProfile : LinkCondition
  MalformedCode : LinkCondition
  BadHierarchy : LinkCondition
  Unresolved : LinkCondition
  TooManyFields : LinkCondition
  NoMain : LinkCondition

-- a condition stands in a program
abbrev pub stands : Program → LinkCondition → Bool
stands files TooLarge = too_many_files files || too_many_strings files
stands files DuplicateClass = two_of_one_name files || list_any has_built_in_name files
stands files OutsideProfile = list_any is_outside_profile files
stands files MalformedCode = list_any (has_malformed_code files) files
stands files BadHierarchy = list_any (has_bad_hierarchy files) files
stands files Unresolved = list_any (is_unresolved files) files
stands files TooManyFields = list_any (too_many_fields files) files
stands files NoMain = no_file files || no_static_main files

-- those that come before a condition; OutsideProfile and Malformed Code are met in one walk over the files, in either order
abbrev pub before_walk : List LinkCondition
before_walk = TooLarge ∷ DuplicateClass ∷ []

abbrev pub before_links : List LinkCondition
before_links = OutsideProfile ∷ MalformedCode ∷ before_walk

abbrev pub earlier : LinkCondition → List LinkCondition
earlier TooLarge = []
earlier DuplicateClass = TooLarge ∷ []
earlier OutsideProfile = before_walk
earlier MalformedCode = before_walk
earlier BadHierarchy = before_links
earlier Unresolved = BadHierarchy ∷ before_links
earlier TooManyFields = Unresolved ∷ BadHierarchy ∷ before_links
earlier NoMain = TooManyFields ∷ Unresolved ∷ BadHierarchy ∷ before_links

-- the condition stands, and none before it does: a refusal names such a one
abbrev pub stands_first : Program → LinkCondition → Bool
stands_first files condition = stands files condition && not (list_any (stands files) (earlier condition))

abbrev pub all_conditions : List LinkCondition
all_conditions = NoMain ∷ earlier NoMain

abbrev pub some_stands : Program → Bool
some_stands files = list_any (stands files) all_conditions

-- each file spells the tree at its place
abbrev pub AreSpelled : List (List ℕ) → Program → Type 0
AreSpelled [] [] = Unit {0}
AreSpelled [] (tree ∷ trees) = ⊥
AreSpelled (bytes ∷ files) [] = ⊥
AreSpelled (bytes ∷ files) (tree ∷ trees) = Spells bytes tree × AreSpelled files trees

-- What a refusal for a condition says. A file that spells no tree is refused before any condition is asked.
pub record IsRefusedFor (condition : LinkCondition) (files : List (List ℕ)) (trees : Program) : Type 0 where
  pub spelled : AreSpelled files trees
  pub first : stands_first trees condition ≡ true

-- The files spell these trees, and no condition stands in them.
pub record IsLinkable (files : List (List ℕ)) (trees : Program) : Type 0 where
  pub spelled : AreSpelled files trees
  pub no_refusal : some_stands trees ≡ false
