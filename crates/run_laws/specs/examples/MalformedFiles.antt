-- Trees in which a condition of a class file (JVMS 4.1 to 4.7) stands, and no other one.
use Rattle.std.specs.Prelude.{◌≡◌, [], ◌∷◌, ◌++◌, codes}
use Rattle.model.specs.Names.{Name}
use Rattle.model.specs.Tree.{Entry, Class, String, Field, ConstantOf, SkippedTree, FieldTree, MethodTree, FileTree}
use Rattle.run_laws.specs.examples.Conditions.{malformed_as}
use Rattle.run_laws.specs.examples.Made.{pool, class, field, method, code_with, returns, exception, main, a_with, a_alone}
use Rattle.run_laws.specs.examples.PrintsSeven.{prints_seven_file}

abbrev pub IsMalformed : FileTree → Name → Type 0
IsMalformed file cause = malformed_as file ≡ cause ∷ []

-- A with a field, with a method, and with one more entry of its pool
abbrev pub of_field : FieldTree → FileTree
of_field f = a_with (f ∷ []) []

abbrev pub of_method : MethodTree → FileTree
of_method m = a_with [] (m ∷ [])

abbrev pub of_entry : Entry → FileTree
of_entry e = record a_alone { pool = pool ++ e ∷ [] }

abbrev pub attribute_of_class : SkippedTree
attribute_of_class = record { name = 2; bytes = [] }

pub record MalformedFiles : Type 0 where
  pub none : malformed_as a_alone ≡ []
  pub prints_seven : malformed_as prints_seven_file ≡ []
  -- a String of a Class, an attribute named by a Class, a handler for a Utf8
  pub string : IsMalformed (of_entry (String 2)) (codes "Index")
  pub attribute : IsMalformed (record a_alone { attributes = attribute_of_class ∷ [] }) (codes "Index")
  pub catch_type : IsMalformed (of_method (method 0x0009 8 9 (code_with 1 (codes "00 b1") (exception 0 1 1 1 ∷ [])))) (codes "Index")
  -- a class p//B, a class that is an array, a field with a slash in its name
  pub class_name : IsMalformed (of_entry (Class 70)) (codes "Name")
  pub array : IsMalformed (class 0x0021 21 4 [] [] (main ∷ [])) (codes "Name")
  pub field_name : IsMalformed (of_field (field 0x0009 3 12 [])) (codes "Name")
  -- a field of type V, a method of type I, a Fieldref of f()V
  pub void_field : IsMalformed (of_field (field 0x0009 13 69 [])) (codes "Descriptor")
  pub method_of_int : IsMalformed (of_method (method 0x0009 8 12 returns)) (codes "Descriptor")
  pub field_of_method : IsMalformed (of_entry (Field 2 38)) (codes "Descriptor")
  -- a method without a Code, an abstract one with a Code, an int with a constant of type long
  pub no_code : IsMalformed (of_method (method 0x0009 8 9 [])) (codes "Attribute")
  pub abstract_code : IsMalformed (of_method (method 0x0401 8 9 returns)) (codes "Attribute")
  pub long_constant : IsMalformed (of_field (field 0x0008 13 12 (ConstantOf 66 67 ∷ []))) (codes "Attribute")
  -- x and x; f() and f(); but f() and f(int) may stand
  pub fields : IsMalformed (a_with (field 0x0001 13 12 [] ∷ field 0x0009 13 12 [] ∷ []) []) (codes "Duplicate")
  pub methods : IsMalformed (a_with [] (method 0x0009 8 9 returns ∷ method 0x0001 8 9 returns ∷ [])) (codes "Duplicate")
  pub overloaded : malformed_as (a_with [] (method 0x0009 8 9 returns ∷ method 0x0009 8 14 returns ∷ [])) ≡ []
