-- Where a method is declared.
use Rattle.std.specs.Prelude.{◌≡◌, ℕ, ◌<◌, length, Some}
use Rattle.model.specs.Tree.{FileTree, MethodTree, CodeTree}
use Rattle.model.specs.Conditions.{text_at}
use Rattle.model.specs.Classes.{Program, class_of, declared_in, code_in}
use Rattle.hierarchy.specs.Places.{name_at}

-- The class at a place has this file, the file declares this method, and the method has this code (JVMS 4.7.3).
pub record IsDeclared (files : Program) (class : ℕ) (file : FileTree) (method : MethodTree) (code : CodeTree) : Type 0 where
  pub is_class : class_of files (name_at files class) ≡ Some file
  pub is_method : declared_in file (text_at file.pool method.name) (text_at file.pool method.descriptor) ≡ Some method
  pub is_code : code_in method.parts ≡ Some code
  pub is_short : length code.code < 65536
