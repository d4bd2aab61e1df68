-- What linking gives to the proof: facts of the files of a program that is linked.
use Rattle.std.proofs.Common.{◌≡◌, ℕ, List, [], Bool, true, false, ◌&&◌, ◌||◌, Some, None}
use Rattle.std.specs.List.{list_any, AllByRecursion}
use Rattle.model.specs.declared.class_file.ExceptionEntry.{ExceptionEntry}
use Rattle.model.specs.declared.instr.Instr.TheVariants.{Invoke, InvokeInterface}
use Rattle.model.specs.declared.instr.Invocation.{Invocation}
use Rattle.model.specs.declared.instr.Invocation.TheVariants as invocation
use Rattle.model.specs.Names.{Name, name_eq, Member, main_of, constructor_name, initialiser_name, java_lang_object}
use Rattle.model.specs.Tree.{String, FieldTree, MethodTree, FileTree}
use Rattle.model.specs.Spelling.{entry_at}
use Rattle.model.specs.Conditions.{text_at, is_constant_of}
use Rattle.model.specs.StringConstants.{string_texts}
use Rattle.model.specs.ClassInitialisation.{constant_in}
use Rattle.model.specs.Pool.{utf8_at, class_name_at, method_at, interface_method_at}
use Rattle.model.specs.AccessFlags.{is_abstract_method, is_private_method, is_static_method}
use Rattle.model.specs.Classes.{Program, Body, body_of, class_of, superclass_of, is_interface, is_subclass}
use Rattle.model.specs.Instruction.{sized_at}
use Rattle.model.specs.InstructionStarts.{is_start}
use Rattle.model.specs.ReferenceTypes.{ClassType, is_subclass_or_implements, is_assignable}
use Rattle.model.specs.Lookup.{method_of, find_method, find_interface_method}
use Rattle.model.specs.DescriptorParts.{is_array_class, returns_void}
use Rattle.model.specs.DescribedTypes.{results_declared, made_type}
use Rattle.model.specs.BuiltInMethods.{built_in_methods, is_row_of}
use Rattle.model.specs.Step.{initial_class}
use Rattle.run_laws.specs.laws.Steps.{Rooted}

-- a method of the machine: one of its table, or a constructor
abbrev pub is_of_the_machine : Member → Bool
is_of_the_machine method =
    list_any (is_row_of method) built_in_methods || (name_eq method.name constructor_name && returns_void method.descriptor)

-- what is called is not the initialiser of a class
abbrev pub IsCallable : Member → Type 0
IsCallable named = name_eq named.name initialiser_name ≡ false

-- main of the initial class is there, is static and has code
pub record Main (files : Program) : Type 0 where
  pub method : MethodTree
  pub is_method : method_of files (main_of (initial_class files)) ≡ Some method
  pub is_static : is_static_method method ≡ true
  pub body : Body
  pub is_body : body_of files (main_of (initial_class files)) ≡ Some body

pub record Linked (files : Program) : Type 0 where
  -- no class is above itself
  pub rooted : Rooted files
  pub main : Main files
  -- a method without code is abstract or one of the machine
  pub native : (method : Member) (m : MethodTree) → method_of files method ≡ Some m → is_abstract_method m ≡ false
      → body_of files method ≡ None → is_of_the_machine method ≡ true
  -- a static method is not abstract
  pub static_is_concrete : (method : Member) (m : MethodTree) → method_of files method ≡ Some m → is_static_method m ≡ true
      → is_abstract_method m ≡ false
  -- a constructor is not abstract, and returns nothing
  pub constructor_is_concrete : (method : Member) (m : MethodTree) → method_of files method ≡ Some m
      → name_eq method.name constructor_name ≡ true → is_abstract_method m ≡ false
  pub constructor_returns_nothing : (method : Member) (m : MethodTree) → method_of files method ≡ Some m
      → name_eq method.name constructor_name ≡ true → results_declared method.descriptor ≡ []
  -- of the methods of an interface none is private, its initialiser aside
  pub interface_is_public : (method : Member) (m : MethodTree) → method_of files method ≡ Some m → is_interface files method.class ≡ true
      → name_eq method.name initialiser_name ≡ false → is_private_method m ≡ false
  -- a private method is not abstract
  pub private_is_concrete : (method : Member) (m : MethodTree) → method_of files method ≡ Some m → is_private_method m ≡ true
      → is_abstract_method m ≡ false
  -- a private method that a class's method reference finds stands in the class or above it
  pub private_is_above : (named found : Member) (m : MethodTree) → IsCallable named → find_method files named ≡ Some found
      → method_of files found ≡ Some m → is_private_method m ≡ true → is_subclass files named.class found.class ≡ true
  -- and the reference names no array class
  pub private_is_of_class : (named found : Member) (m : MethodTree) → IsCallable named → find_method files named ≡ Some found
      → method_of files found ≡ Some m → is_private_method m ≡ true → is_array_class named.class ≡ false
  pub interface_found_is_public : (named found : Member) (m : MethodTree) → IsCallable named → is_interface files named.class ≡ true
      → find_interface_method files named ≡ Some found → method_of files found ≡ Some m → is_private_method m ≡ false
  -- no instruction calls the initialiser of a class (JVMS 4.9.1)
  pub callable : (method : Member) (body : Body) (offset size : ℕ) (how : Invocation) (index : ℕ) (named : Member)
      → body_of files method ≡ Some body → is_start body.code.code offset ≡ true
      → sized_at body.code.code offset ≡ Some (Invoke how index, size) → method_at body.pool index ≡ Some named → IsCallable named
  pub callable_interface : (method : Member) (body : Body) (offset size index count last : ℕ) (named : Member)
      → body_of files method ≡ Some body → is_start body.code.code offset ≡ true
      → sized_at body.code.code offset ≡ Some (InvokeInterface index count last, size) → interface_method_at body.pool index ≡ Some named
      → IsCallable named
  -- invokeinterface names an interface, and no other call does (JVMS 5.4.3.3, 5.4.3.4)
  pub calls_class : (method : Member) (body : Body) (offset size : ℕ) (how : Invocation) (index : ℕ) (named : Member)
      → body_of files method ≡ Some body → is_start body.code.code offset ≡ true
      → sized_at body.code.code offset ≡ Some (Invoke how index, size) → method_at body.pool index ≡ Some named
      → is_interface files named.class ≡ false
  pub calls_interface : (method : Member) (body : Body) (offset size index count last : ℕ) (named : Member)
      → body_of files method ≡ Some body → is_start body.code.code offset ≡ true
      → sized_at body.code.code offset ≡ Some (InvokeInterface index count last, size) → interface_method_at body.pool index ≡ Some named
      → is_interface files named.class ≡ true
  -- invokespecial of another method than a constructor names the current class or one above it (JVMS 4.9.1)
  pub special : (method : Member) (body : Body) (offset size index : ℕ) (named : Member) → body_of files method ≡ Some body
      → is_start body.code.code offset ≡ true → sized_at body.code.code offset ≡ Some (Invoke invocation.Special index, size)
      → method_at body.pool index ≡ Some named → name_eq named.name constructor_name ≡ false
      → is_subclass files method.class named.class ≡ true
  -- above an interface there is Object alone
  pub interface_super : (class : Name) → is_interface files class ≡ true → superclass_of files class ≡ Some java_lang_object
  -- an object of a class or of one that implements it is of the verifier's type for it
  pub subtype_made : (c d : Name) → is_subclass_or_implements files c d ≡ true
      → is_assignable files (ClassType c) (made_type files (ClassType d)) ≡ true
  -- what a handler catches is no array class
  pub catches : (method : Member) (body : Body) → body_of files method ≡ Some body
      → AllByRecursion (λ (e : ExceptionEntry). (class : Name) → class_name_at body.pool e.catch_type ≡ Some class
      → is_array_class class ≡ false) body.code.exceptions
  -- the constant of a field is of a kind that its descriptor asks for (JVMS 4.7.2)
  pub constants_fit : (class : Name) (file : FileTree) → class_of files class ≡ Some file
      → AllByRecursion (λ (field : FieldTree). (index : ℕ) → constant_in field.parts ≡ Some index
      → is_constant_of (text_at file.pool field.descriptor) (entry_at file.pool index) ≡ true) file.fields
  -- the text of each String of a constant pool has an object
  pub string_known : (class : Name) (file : FileTree) → class_of files class ≡ Some file → (index text : ℕ) (bytes : List ℕ)
      → entry_at file.pool index ≡ String text → utf8_at file.pool text ≡ Some bytes → list_any (name_eq bytes) (string_texts files) ≡ true
