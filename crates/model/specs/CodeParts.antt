-- The instructions of a method's code, and what their operands name (JVMS 4.7.3, 4.9.1).
use Rattle.std.specs.Prelude.{ℕ, zero, suc, ℤ, List, [], ◌∷◌, Option, Some, None, Bool, true, false, not, ◌&&◌, map, if◌then◌else◌, find, is_some}
use Rattle.std.specs.Option.{option_map_or}
use Rattle.std.specs.List.{list_any}
use Rattle.model.specs.declared.instr.Instr.{Instr}
use Rattle.model.specs.declared.instr.Instr.TheVariants.{LoadConstant, If, IfInts, IfReferences, IfNull, Goto, TableSwitch, LookupSwitch, Field, Invoke, InvokeInterface, New, NewReferenceArray, CheckCast, InstanceOf}
use Rattle.model.specs.Names.{Name, Member}
use Rattle.model.specs.Tree.{Entry, CodeTree, MethodTree, FileTree}
use Rattle.model.specs.Pool.{class_name_at, field_at, method_at, interface_method_at}
use Rattle.model.specs.Instruction.{sized_at, instr_at, jump_count, table_jump, lookup_pair}
use Rattle.model.specs.InstructionStarts.{starts}
use Rattle.model.specs.Classes.{code_in}
use Rattle.model.specs.DescriptorParts.{is_array_class}

-- ---- instructions

-- the offsets that are marked, counted from one on
abbrev pub marked_from : ℕ → List Bool → List ℕ
marked_from pc [] = []
marked_from pc (true ∷ marks) = pc ∷ marked_from (suc pc) marks
marked_from pc (false ∷ marks) = marked_from (suc pc) marks

-- the instruction boundaries of a code
abbrev pub boundaries : List ℕ → List ℕ
boundaries code = marked_from 0 (starts code)

-- no whole instruction of the table begins at an offset
abbrev pub begins_none : List ℕ → ℕ → Bool
begins_none code pc = not (is_some (sized_at code pc))

-- Where decoding ends, from offset 0 on: at the first boundary at which none begins. What stands behind it is not looked at (own)
abbrev pub end_of_decoding : List ℕ → Option ℕ
end_of_decoding code = find (begins_none code) (boundaries code)

-- all of a code decodes: an instruction begins at each boundary
abbrev pub decodes : List ℕ → Bool
decodes code = not (is_some (end_of_decoding code))

-- a method of the file has code, and a test holds of both
abbrev pub any_code : (MethodTree → CodeTree → Bool) → FileTree → Bool
any_code test file = list_any (λ (m : MethodTree). option_map_or (test m) (code_in m.parts) false) file.methods

-- a test holds of an instruction of a code, and of its offset
abbrev pub any_instruction : (ℕ → Instr → Bool) → CodeTree → Bool
any_instruction test c = list_any (λ pc. option_map_or (test pc) (instr_at c.code pc) false) (boundaries c.code)

-- the same of a code that decodes; the operands of another are not looked at (own)
abbrev pub any_decoded : (ℕ → Instr → Bool) → CodeTree → Bool
any_decoded test c = decodes c.code && any_instruction test c

abbrev pub any_decoded_in : (Instr → Bool) → FileTree → Bool
any_decoded_in test file = any_code (λ m c. any_decoded (λ pc i. test i) c) file

-- a test holds of an instruction of the file
abbrev pub any_instruction_in : (Instr → Bool) → FileTree → Bool
any_instruction_in test file = any_code (λ m c. any_instruction (λ pc i. test i) c) file

-- ---- jumps

abbrev pub count_from : ℕ → ℕ → List ℕ
count_from k zero = []
count_from k (suc n) = k ∷ count_from (suc k) n

-- how far an instruction may jump, counted from its opcode; the default of a switch first
abbrev pub jumps_of : List ℕ → Instr → List ℤ
jumps_of code (If comparison by) = by ∷ []
jumps_of code (IfInts comparison by) = by ∷ []
jumps_of code (IfReferences equal by) = by ∷ []
jumps_of code (IfNull null by) = by ∷ []
jumps_of code (Goto by) = by ∷ []
jumps_of code (TableSwitch default low high at) = default ∷ map (table_jump code at) (count_from 0 (jump_count low high))
jumps_of code (LookupSwitch default pairs at) = default ∷ map (λ k. (lookup_pair code at k).1) (count_from 0 pairs)
jumps_of code other = []

-- ---- what an operand names

-- the class of new, anewarray, checkcast and instanceof, and of an ldc of a Class
abbrev pub class_operand : List Entry → Instr → Option Name
class_operand pool (LoadConstant index) = class_name_at pool index
class_operand pool (New index) = class_name_at pool index
class_operand pool (NewReferenceArray index) = class_name_at pool index
class_operand pool (CheckCast index) = class_name_at pool index
class_operand pool (InstanceOf index) = class_name_at pool index
class_operand pool other = None

-- the field of getstatic, putstatic, getfield and putfield
abbrev pub field_operand : List Entry → Instr → Option Member
field_operand pool (Field access index) = field_at pool index
field_operand pool other = None

-- the method of a call
abbrev pub method_operand : List Entry → Instr → Option Member
method_operand pool (Invoke invocation index) = method_at pool index
method_operand pool (InvokeInterface index count last) = interface_method_at pool index
method_operand pool other = None

abbrev pub descriptors_of : Option Member → List Name
descriptors_of None = []
descriptors_of (Some m) = m.descriptor ∷ []

abbrev pub array_descriptor : Option Name → List Name
array_descriptor None = []
array_descriptor (Some name) = if is_array_class name then name ∷ [] else []

-- the descriptors of an operand: that of a field or of a method, and that of the array class of anewarray, checkcast and
-- instanceof
abbrev pub operand_descriptors : List Entry → Instr → List Name
operand_descriptors pool (Field access index) = descriptors_of (field_at pool index)
operand_descriptors pool (Invoke invocation index) = descriptors_of (method_at pool index)
operand_descriptors pool (InvokeInterface index count last) = descriptors_of (interface_method_at pool index)
operand_descriptors pool (NewReferenceArray index) = array_descriptor (class_name_at pool index)
operand_descriptors pool (CheckCast index) = array_descriptor (class_name_at pool index)
operand_descriptors pool (InstanceOf index) = array_descriptor (class_name_at pool index)
operand_descriptors pool other = []
