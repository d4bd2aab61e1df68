-- What a set of classes holds, and which files are refused.
use Rattle.std.specs.Prelude.{◌≡◌, ℕ, List, drop, take, length, map, Some, true, is_some, slice_get}
use Rattle.hierarchy.specs.declared.refusal.SetRefusal as declared_refusal
use Rattle.hierarchy.specs.declared.refusal.SetRefusal.TheVariants as refusals
use Rattle.model.specs.Linkable as linkable
use Rattle.class_tree.specs.declared.tree.ClassFile.{ClassFile}
use Rattle.class_tree.specs.View.{file_of}
use Rattle.model.specs.Tree.{FileTree}
use Rattle.model.specs.BuiltIn.{built_in_classes}
use Rattle.model.specs.Names.{Name}
use Rattle.model.specs.Classes.{Program, name_of, classes_of, class_of}
use Rattle.hierarchy.specs.declared.lineage.Lineage.{Lineage}
use Rattle.hierarchy.specs.Lineages.{HasLineages}
use Rattle.hierarchy.specs.declared.member_keys.MemberKeys.{MemberKeys}
use Rattle.hierarchy.specs.MemberKeys.{HasMemberKeys}

abbrev pub trees_of : List ClassFile → List FileTree
trees_of classes = map file_of classes

-- the files behind the built-in classes
unfoldable pub files_of : List FileTree → Program
files_of trees = drop (length built_in_classes) trees

-- The trees are those of the built-in classes, and of files; the names are theirs, in this order; and the tables are so of them.
pub record Holds (trees : List FileTree) (names : List Name) (table : List Lineage) (keys : MemberKeys) : Type 0 where
  pub whole : classes_of (files_of trees) ≡ trees
  pub named : names ≡ map name_of trees
  pub lineages : HasLineages (files_of trees) table
  pub keyed : HasMemberKeys (files_of trees) keys.texts keys.classes.items

-- the class of the file at a place has the name of a built-in class, or of a file before it
pub record IsAgain (files : Program) (place : ℕ) : Type 0 where
  pub file : FileTree
  pub stands : slice_get files place ≡ Some file
  pub named : is_some (class_of (take place files) (name_of file)) ≡ true

-- what is so of files that are refused
abbrev pub IsRefused : Program → declared_refusal.SetRefusal → Type 0
IsRefused files (refusals.DuplicateClass place) = (linkable.stands files linkable.DuplicateClass ≡ true) × IsAgain files place
IsRefused files refusals.OutOfMemory = Unit {0}
