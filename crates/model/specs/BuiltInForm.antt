-- The form of the built-in classes (own): a class by its names, its members and what its code names, and the class file that it is.
use Rattle.std.specs.Prelude.{ℕ, ◌+◌, ◌*◌, List, [], ◌∷◌, ◌++◌, Option, None, Some, length, codes}
use Rattle.model.specs.Names.{Name}
use Rattle.model.specs.Tree.{Entry, Utf8, Class, CodeOf, FieldTree, MethodTree, FileTree}

-- ---- members

-- a method without code: its access flags, its name and its descriptor
pub record Declared : Type 0 where
  pub flags : ℕ
  pub name : Name
  pub descriptor : Name

abbrev pub declared : ℕ → Name → Name → Declared
declared flags name descriptor = record { flags = flags; name = name; descriptor = descriptor }

-- a field: its access flags, and the indices of its name and descriptor
abbrev pub field : ℕ → ℕ → ℕ → FieldTree
field flags name descriptor = record { flags = flags; name = name; descriptor = descriptor; parts = [] }

-- a method with code, which has no handlers: its access flags, the indices of its name and descriptor, and what its Code holds
pub record Coded : Type 0 where
  pub flags : ℕ
  pub name : ℕ
  pub descriptor : ℕ
  pub max_stack : ℕ
  pub max_locals : ℕ
  pub code : List ℕ

abbrev pub coded : ℕ → ℕ → ℕ → ℕ → ℕ → List ℕ → Coded
coded flags name descriptor max_stack max_locals code =
    record { flags = flags; name = name; descriptor = descriptor; max_stack = max_stack; max_locals = max_locals; code = code }

-- ---- flags (JVMS tables 4.1-A, 4.5-A, 4.6-A)

-- ACC_PUBLIC and ACC_SUPER
abbrev pub public_class : ℕ
public_class = 0x0021

-- with ACC_FINAL, and with ACC_ABSTRACT
abbrev pub final_class : ℕ
final_class = 0x0031

abbrev pub abstract_class : ℕ
abstract_class = 0x0421

-- ACC_PUBLIC, ACC_INTERFACE and ACC_ABSTRACT
abbrev pub public_interface : ℕ
public_interface = 0x0601

-- ACC_PUBLIC and ACC_NATIVE, then with ACC_FINAL, and with ACC_STATIC
abbrev pub native_method : ℕ
native_method = 0x0101

abbrev pub final_native_method : ℕ
final_native_method = 0x0111

abbrev pub static_native_method : ℕ
static_native_method = 0x0109

-- ACC_PRIVATE, ACC_STATIC and ACC_NATIVE
abbrev pub hidden_native_method : ℕ
hidden_native_method = 0x010a

-- ACC_PUBLIC and ACC_ABSTRACT
abbrev pub abstract_method : ℕ
abstract_method = 0x0401

-- ---- classes

pub record BuiltInClass : Type 0 where
  pub flags : ℕ
  pub name : Name
  -- Object alone has none (JVMS 4.1, super_class).
  pub superclass : Option Name
  pub interfaces : List Name
  -- what stands in the constant pool behind the names of classes: what code and fields name, and last the text `Code` where there is code
  pub operands : List Entry
  pub fields : List FieldTree
  pub coded : List Coded
  -- those without code, which are native or abstract
  pub natives : List Declared

-- the names of a class, of its superclass and of its interfaces
abbrev pub above : Option Name → List Name → List Name
above None interfaces = interfaces
above (Some superclass) interfaces = superclass ∷ interfaces

abbrev pub names_of : BuiltInClass → List Name
names_of c = c.name ∷ above c.superclass c.interfaces

-- ---- its class file

-- names and their Classes, from an index of the constant pool on
abbrev pub classes_from : ℕ → List Name → List Entry
classes_from at [] = []
classes_from at (name ∷ names) = Utf8 name ∷ Class at ∷ classes_from (at + 2) names

-- the texts of members, as they stand in the constant pool
abbrev pub texts_of : List Declared → List Entry
texts_of [] = []
texts_of (m ∷ members) = Utf8 m.name ∷ Utf8 m.descriptor ∷ texts_of members

-- the index of a superclass
abbrev pub super_index : Option Name → ℕ
super_index None = 0
super_index (Some superclass) = 4

-- the indices of interfaces, from one on
abbrev pub indices_from : ℕ → List Name → List ℕ
indices_from at [] = []
indices_from at (name ∷ names) = at ∷ indices_from (at + 2) names

-- the method whose Code has its name at an index
abbrev pub with_code : ℕ → Coded → MethodTree
with_code at m =
    record {
      flags = m.flags;
      name = m.name;
      descriptor = m.descriptor;
      parts = CodeOf at (record { max_stack = m.max_stack; max_locals = m.max_locals; code = m.code; exceptions = []; attributes = [] }) ∷ [];
    }

-- methods with code, the name of whose Code has an index
abbrev pub methods_with_code : ℕ → List Coded → List MethodTree
methods_with_code at [] = []
methods_with_code at (m ∷ methods) = with_code at m ∷ methods_with_code at methods

-- the methods whose texts stand in the pool from an index on
abbrev pub methods_from : ℕ → List Declared → List MethodTree
methods_from at [] = []
methods_from at (m ∷ methods) = record { flags = m.flags; name = at; descriptor = at + 1; parts = [] } ∷ methods_from (at + 2) methods

-- the index of the last entry before the texts of methods without code
abbrev pub operands_end : BuiltInClass → ℕ
operands_end c = 2 * length (names_of c) + length c.operands

abbrev pub tree_of : BuiltInClass → FileTree
tree_of c =
    record {
      pool = classes_from 1 (names_of c) ++ c.operands ++ texts_of c.natives;
      flags = c.flags;
      this_class = 2;
      super_class = super_index c.superclass;
      interfaces = indices_from 6 c.interfaces;
      fields = c.fields;
      methods = methods_with_code (operands_end c) c.coded ++ methods_from (operands_end c + 1) c.natives;
      attributes = [];
    }

-- ---- in short

-- <init>()V, the constructor without parameters (JVMS 2.9)
abbrev pub constructor : Declared
constructor = declared native_method (codes "<init>") (codes "()V")

-- the constructors of exceptions with a message, and with a message and a cause
abbrev pub with_message : Declared
with_message = declared native_method (codes "<init>") (codes "(Ljava/lang/String;)V")

abbrev pub with_cause : Declared
with_cause = declared native_method (codes "<init>") (codes "(Ljava/lang/String;Ljava/lang/Throwable;)V")

-- a class of this name directly below that one, with methods that have no code
abbrev pub built_in : ℕ → Name → Name → List Declared → FileTree
built_in flags name superclass methods =
    tree_of (record {
      flags = flags;
      name = name;
      superclass = Some superclass;
      interfaces = [];
      operands = [];
      fields = [];
      coded = [];
      natives = methods;
    })
