-- A class file as a tree (JVMS 4.1).
use Rattle.std.specs.Prelude.{ℕ, List}
use Rattle.model.specs.declared.class_file.ExceptionEntry.{ExceptionEntry}

-- an entry of the constant pool (JVMS 4.4), its numbers by their bits
pub data Entry : Type 0 where
  Utf8 : List ℕ → Entry
  Integer : ℕ → Entry
  Float : ℕ → Entry
  Long : ℕ → Entry
  Double : ℕ → Entry
  -- the index of a Utf8 each
  Class : ℕ → Entry
  String : ℕ → Entry
  -- the indices of a Class and of a NameAndType each
  Field : ℕ → ℕ → Entry
  Method : ℕ → ℕ → Entry
  InterfaceMethod : ℕ → ℕ → Entry
  -- the indices of the Utf8 of the name and of that of the descriptor
  NameAndType : ℕ → ℕ → Entry
  -- the second place of a Long or of a Double (JVMS 4.4.5)
  Unusable : Entry

-- an attribute that is not interpreted (JVMS 4.7): the index of its name, and its bytes
pub record SkippedTree : Type 0 where
  pub name : ℕ
  pub bytes : List ℕ

-- what a Code attribute holds (JVMS 4.7.3)
pub record CodeTree : Type 0 where
  pub max_stack : ℕ
  pub max_locals : ℕ
  pub code : List ℕ
  pub exceptions : List ExceptionEntry
  pub attributes : List SkippedTree

-- an attribute of a field
pub data FieldPart : Type 0 where
  -- a ConstantValue (JVMS 4.7.2): the index of its name, and that of the constant
  ConstantOf : ℕ → ℕ → FieldPart
  SkippedOfField : SkippedTree → FieldPart

-- an attribute of a method
pub data MethodPart : Type 0 where
  -- a Code: the index of its name, and what it holds
  CodeOf : ℕ → CodeTree → MethodPart
  SkippedOfMethod : SkippedTree → MethodPart

-- a field (JVMS 4.5): its access flags, and the indices of its name and descriptor
pub record FieldTree : Type 0 where
  pub flags : ℕ
  pub name : ℕ
  pub descriptor : ℕ
  pub parts : List FieldPart

-- a method (JVMS 4.6)
pub record MethodTree : Type 0 where
  pub flags : ℕ
  pub name : ℕ
  pub descriptor : ℕ
  pub parts : List MethodPart

-- The entry of index 1 is the first of the pool.
pub record FileTree : Type 0 where
  pub pool : List Entry
  pub flags : ℕ
  pub this_class : ℕ
  pub super_class : ℕ
  pub interfaces : List ℕ
  pub fields : List FieldTree
  pub methods : List MethodTree
  pub attributes : List SkippedTree
