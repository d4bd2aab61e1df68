-- Class files written out: their parts, and lists of them with their bytes.
use Rattle.std.specs.Prelude.{ℕ, List, [], ◌∷◌}
use Rattle.model.specs.declared.class_file.ExceptionEntry.{ExceptionEntry}
use Rattle.model.specs.Tree.{Entry, FieldPart, CodeOf, FieldTree, MethodTree, FileTree}
use Rattle.model.specs.Spelling.{Layout}

-- by its access flags and the indices of its name and descriptor
abbrev pub field : ℕ → ℕ → ℕ → List FieldPart → FieldTree
field flags name descriptor parts = record { flags = flags; name = name; descriptor = descriptor; parts = parts }

-- a method with code: its access flags, the indices of its name, its descriptor and `Code`, then max_stack, max_locals, the
-- code and the handlers
abbrev pub method : ℕ → ℕ → ℕ → ℕ → ℕ → ℕ → List ℕ → List ExceptionEntry → MethodTree
method flags name descriptor code_name max_stack max_locals code exceptions =
    record {
      flags = flags;
      name = name;
      descriptor = descriptor;
      parts = CodeOf code_name (record { max_stack = max_stack; max_locals = max_locals; code = code; exceptions = exceptions; attributes = [] }) ∷ [];
    }

-- from an offset on and before another one, at this offset, of what the index names; 0 names any exception
abbrev pub handler : ℕ → ℕ → ℕ → ℕ → ExceptionEntry
handler start end at catch_type = record { start = start; end = end; handler = at; catch_type = catch_type }

-- a public class: its constant pool, the indices of itself and of its superclass, its fields and methods
abbrev pub class_with : List Entry → ℕ → ℕ → List FieldTree → List MethodTree → FileTree
class_with pool this_class super_class fields methods =
    record {
      pool = pool;
      flags = 0x0021;
      this_class = this_class;
      super_class = super_class;
      interfaces = [];
      fields = fields;
      methods = methods;
      attributes = [];
    }

-- the bytes are those of the files, in their order
abbrev pub AreLaidOut : List (List ℕ) → List FileTree → Type 0
AreLaidOut [] [] = Unit {0}
AreLaidOut [] (file ∷ files) = ⊥
AreLaidOut (bytes ∷ others) [] = ⊥
AreLaidOut (bytes ∷ others) (file ∷ files) = Layout bytes file × AreLaidOut others files

-- a method with no code
abbrev pub no_code : ℕ → ℕ → ℕ → MethodTree
no_code flags name descriptor = record { flags = flags; name = name; descriptor = descriptor; parts = [] }

-- a class by its access flags, its constant pool, the indices of itself, of its superclass and of its interfaces, its fields and
-- its methods
abbrev pub file_with : ℕ → List Entry → ℕ → ℕ → List ℕ → List FieldTree → List MethodTree → FileTree
file_with flags pool this_class super_class interfaces fields methods =
    record {
      pool = pool;
      flags = flags;
      this_class = this_class;
      super_class = super_class;
      interfaces = interfaces;
      fields = fields;
      methods = methods;
      attributes = [];
    }
