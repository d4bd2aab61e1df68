-- The classes that linking looks up for the parts of a class file.
use Rattle.std.specs.Prelude.{ℕ, suc, List, [], ◌∷◌, ◌++◌, Bool, true, false}
use Rattle.std.specs.Option.{option_map_or, option_to_list}
use Rattle.std.specs.List.{flat_map}
use Rattle.model.specs.Names.{Name}
use Rattle.model.specs.Tree.{Entry, FieldTree, MethodTree}
use Rattle.model.specs.Pool.{utf8_at, class_name_at}
use Rattle.model.specs.Instruction.{instr_at}
use Rattle.model.specs.Classes.{code_in}
use Rattle.model.specs.DescriptorParts.{classes_in}
use Rattle.model.specs.Resolution.{operand_classes}
use Rattle.library_files.specs.Needs.{code_classes}

-- the class of an index
abbrev pub classes_at : List Entry → ℕ → List Name
classes_at pool index = option_to_list (class_name_at pool index)

-- those of the descriptor at an index
abbrev pub described_classes : List Entry → ℕ → List Name
described_classes pool index = flat_map classes_in (option_to_list (utf8_at pool index))

abbrev pub field_classes : List Entry → FieldTree → List Name
field_classes pool f = described_classes pool f.descriptor

-- those of the descriptor of a method, and those of its code
abbrev pub declared_classes : List Entry → MethodTree → List Name
declared_classes pool m = described_classes pool m.descriptor

abbrev pub method_classes : List Entry → MethodTree → List Name
method_classes pool m = option_map_or (code_classes pool) (code_in m.parts) []

-- those of the operand of the instruction at an offset, if one begins there
abbrev pub instruction_classes : List Entry → List ℕ → ℕ → Bool → List Name
instruction_classes pool code pc true = option_map_or (operand_classes pool) (instr_at code pc) []
instruction_classes pool code pc false = []

-- by marks of offsets, from an offset on
abbrev pub marked_classes : List Entry → List ℕ → ℕ → List Bool → List Name
marked_classes pool code pc [] = []
marked_classes pool code pc (is_start ∷ marks) = instruction_classes pool code pc is_start ++ marked_classes pool code (suc pc) marks
