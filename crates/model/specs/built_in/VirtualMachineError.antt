-- The class java/lang/VirtualMachineError (own).
-- Made by `tools/build-built-in` of the class files of builtin/classes. Not to be edited.
use Rattle.std.specs.Prelude.{ℕ, List, [], ◌∷◌, Some, codes}
use Rattle.model.specs.Tree.{Entry, Utf8, Method, NameAndType, FileTree}
use Rattle.model.specs.BuiltInForm.{Coded, coded, tree_of, abstract_class, constructor, with_message, with_cause}

-- VirtualMachineError.<init>(Ljava/lang/Throwable;)V: 0 aload_0, 1 aload_1, 2 invokespecial Error.<init>, 5 return
abbrev pub virtual_machine_error_init_code : List ℕ
virtual_machine_error_init_code =
    0x2a ∷ 0x2b ∷ 0xb7 ∷ 0 ∷ 8 ∷ 0xb1 ∷ []

abbrev pub virtual_machine_error_coded : List Coded
virtual_machine_error_coded =
    coded 0x0001 5 6 2 2 virtual_machine_error_init_code
    ∷ []

abbrev pub virtual_machine_error_operands : List Entry
virtual_machine_error_operands =
    Utf8 (codes "<init>") ∷ Utf8 (codes "(Ljava/lang/Throwable;)V") ∷ NameAndType 5 6 ∷ Method 4 7 ∷ Utf8 (codes "Code")
    ∷ []

abbrev pub virtual_machine_error_class : FileTree
virtual_machine_error_class =
    tree_of (record {
      flags = abstract_class;
      name = codes "java/lang/VirtualMachineError";
      superclass = Some (codes "java/lang/Error");
      interfaces = [];
      operands = virtual_machine_error_operands;
      fields = [];
      coded = virtual_machine_error_coded;
      natives = constructor ∷ with_message ∷ with_cause ∷ [];
    })
