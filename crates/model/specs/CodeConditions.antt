-- What a method's code has to meet beyond its bytes (JVMS 4.9.1, 4.7.3): the conditions of Malformed with cause Code, each
-- under a name. A file in which one stands is refused.
use Rattle.std.specs.Prelude.{ℕ, suc, ◌+◌, ◌-◌, ◌^◌, ℤ, pos, negsuc, List, Option, Some, Bool, true, false, not, ◌&&◌, ◌||◌, ◌==◌, nat_lt, nat_le, int_lt, if◌then◌else◌, length, is_some}
use Rattle.std.specs.Int.{w32}
use Rattle.std.specs.Option.{option_map_or}
use Rattle.std.specs.List.{list_any}
use Rattle.model.specs.declared.class_file.ExceptionEntry.{ExceptionEntry}
use Rattle.model.specs.declared.instr.Instr.{Instr}
use Rattle.model.specs.declared.instr.Instr.TheVariants.{LoadConstant, Load, Store, Increment, LookupSwitch, Field, Invoke, InvokeInterface, New, NewReferenceArray, CheckCast, InstanceOf}
use Rattle.model.specs.declared.instr.Invocation.TheVariants as invocation
use Rattle.model.specs.Names.{Name, name_eq, Member, constructor_name, initialiser_name}
use Rattle.model.specs.Tree.{Entry, Integer, Float, Class, String, MethodTree, CodeTree, FileTree}
use Rattle.model.specs.Spelling.{entry_at}
use Rattle.model.specs.Pool.{class_name_at, field_at, method_at, interface_method_at}
use Rattle.model.specs.AccessFlags.{is_static_method}
use Rattle.model.specs.DescriptorScan.{dimensions_of}
use Rattle.model.specs.DescriptorParts.{argument_slots, is_array_class}
use Rattle.model.specs.Instruction.{word_at, signed_at, sized_at, operands_of, lookup_pair}
use Rattle.model.specs.InstructionStarts.{is_start}
use Rattle.model.specs.Classes.{Program, name_of, is_subclass}
use Rattle.model.specs.CodeParts.{end_of_decoding, decodes, any_code, any_decoded, count_from, jumps_of, method_operand}
use Rattle.model.specs.Profile.{opcode_at, is_known_opcode, is_initialiser, method_descriptor}

-- ---- instructions that are not whole

abbrev pub exceeds : Option ℤ → Option ℤ → Bool
exceeds (Some low) (Some high) = int_lt high low
exceeds low high = false

-- a tableswitch whose low is above its high
abbrev pub low_above_high : List ℕ → ℕ → Bool
low_above_high code pc = (opcode_at code pc == 0xaa) && exceeds (signed_at w32 code (operands_of pc + 4)) (signed_at w32 code (operands_of pc + 8))

-- a lookupswitch whose number of pairs, which is signed, is negative
abbrev pub negative_count : List ℕ → ℕ → Bool
negative_count code pc = (opcode_at code pc == 0xab) && option_map_or (nat_le (2 ^ 31)) (word_at 4 code (operands_of pc + 4)) false

-- an instruction whose opcode is known, but whose operands pass the end of the code
abbrev pub cut_instruction : List ℕ → ℕ → Bool
cut_instruction code pc =
    is_known_opcode code pc && (not (is_some (sized_at code pc)) && (not (low_above_high code pc) && not (negative_count code pc)))

-- ---- jumps

-- a jump from an offset leads to an instruction boundary
abbrev pub lands : List ℕ → ℕ → ℤ → Bool
lands code pc (pos n) = is_start code (pc + n)
lands code pc (negsuc n) = nat_lt n pc && is_start code (pc - suc n)

-- a jump, or one of a switch, that leads to none
abbrev pub jump_off_boundary : CodeTree → ℕ → Instr → Bool
jump_off_boundary c pc i = list_any (λ by. not (lands c.code pc by)) (jumps_of c.code i)

-- matches of a lookupswitch that do not rise strictly (JVMS 6.5 lookupswitch)
abbrev pub unsorted_matches : CodeTree → Instr → Bool
unsorted_matches c (LookupSwitch default pairs at) =
    list_any (λ k. not (int_lt (lookup_pair c.code at k).0 (lookup_pair c.code at (suc k)).0)) (count_from 0 (pairs - 1))
unsorted_matches c other = false

-- ---- local variables

-- a local variable at or above max_locals (JVMS 4.9.1)
abbrev pub local_above_max : CodeTree → Instr → Bool
local_above_max c (Load kind local) = nat_le c.max_locals local
local_above_max c (Store kind local) = nat_le c.max_locals local
local_above_max c (Increment local by) = nat_le c.max_locals local
local_above_max c other = false

-- the slots of the arguments, the receiver's included; an initialiser has none, whatever its flags (own)
abbrev pub entry_slots : FileTree → MethodTree → ℕ
entry_slots file m =
    if is_initialiser file m || is_static_method m then argument_slots (method_descriptor file m) else argument_slots (method_descriptor file m) + 1

-- max_locals below the slots of the arguments (JVMS 4.7.3)
abbrev pub too_few_locals : FileTree → MethodTree → CodeTree → Bool
too_few_locals file m c = nat_lt c.max_locals (entry_slots file m)

-- ---- operands

-- what ldc may name (JVMS 6.5 ldc); of these a Float is left out of the profile
abbrev pub is_loadable : Entry → Bool
is_loadable (Integer bits) = true
is_loadable (Float bits) = true
is_loadable (Class name) = true
is_loadable (String text) = true
is_loadable e = false

-- an index of the constant pool that names an entry of another kind than the instruction asks for (JVMS 4.9.1)
abbrev pub operand_of_wrong_kind : List Entry → Instr → Bool
operand_of_wrong_kind pool (LoadConstant index) = not (is_loadable (entry_at pool index))
operand_of_wrong_kind pool (Field access index) = not (is_some (field_at pool index))
operand_of_wrong_kind pool (Invoke how index) = not (is_some (method_at pool index))
operand_of_wrong_kind pool (InvokeInterface index count last) = not (is_some (interface_method_at pool index))
operand_of_wrong_kind pool (New index) = not (is_some (class_name_at pool index))
operand_of_wrong_kind pool (NewReferenceArray index) = not (is_some (class_name_at pool index))
operand_of_wrong_kind pool (CheckCast index) = not (is_some (class_name_at pool index))
operand_of_wrong_kind pool (InstanceOf index) = not (is_some (class_name_at pool index))
operand_of_wrong_kind pool other = false

-- an invokeinterface whose count is not the slots of its arguments with the receiver (JVMS 4.9.1)
abbrev pub wrong_interface_count : List Entry → Instr → Bool
wrong_interface_count pool (InvokeInterface index count last) =
    option_map_or (λ (m : Member). not (count == argument_slots m.descriptor + 1)) (interface_method_at pool index) false
wrong_interface_count pool other = false

-- an invokeinterface whose fourth operand byte is not 0 (JVMS 4.9.1)
abbrev pub wrong_interface_end : Instr → Bool
wrong_interface_end (InvokeInterface index count last) = not (last == 0)
wrong_interface_end other = false

abbrev pub is_special : Instr → Bool
is_special (Invoke invocation.Special index) = true
is_special other = false

abbrev pub calls_named : List Entry → Name → Instr → Bool
calls_named pool name i = option_map_or (λ (m : Member). name_eq m.name name) (method_operand pool i) false

-- a constructor that another instruction than invokespecial calls (JVMS 4.9.1)
abbrev pub constructor_not_by_special : List Entry → Instr → Bool
constructor_not_by_special pool i = calls_named pool constructor_name i && not (is_special i)

-- a call of an initialiser (JVMS 4.9.1)
abbrev pub calls_initialiser : List Entry → Instr → Bool
calls_initialiser pool i = calls_named pool initialiser_name i

abbrev pub is_class_aside : Program → FileTree → Member → Bool
is_class_aside files file m = not (name_eq m.name constructor_name) && not (is_subclass files (name_of file) m.class)

-- an invokespecial of another method than a constructor, on a class that is neither the current one nor, by the names along
-- the chain, a superclass of it (JVMS 4.9.1)
abbrev pub special_of_class_aside : Program → FileTree → Instr → Bool
special_of_class_aside files file (Invoke invocation.Special index) = option_map_or (is_class_aside files file) (method_at file.pool index) false
special_of_class_aside files file other = false

-- `new` of an array class (JVMS 4.9.1)
abbrev pub new_of_array : List Entry → Instr → Bool
new_of_array pool (New index) = option_map_or is_array_class (class_name_at pool index) false
new_of_array pool other = false

-- anewarray of an array class of 255 dimensions, of which one more would be needed (JVMS 4.9.1)
abbrev pub too_many_dimensions : List Entry → Instr → Bool
too_many_dimensions pool (NewReferenceArray index) = option_map_or (λ name. nat_le 255 (dimensions_of name)) (class_name_at pool index) false
too_many_dimensions pool other = false

-- ---- exception entries (JVMS 4.7.3)

abbrev pub empty_range : CodeTree → ExceptionEntry → Bool
empty_range c e = nat_le e.end e.start

-- a range that begins or ends off an instruction boundary; it may end with the code
abbrev pub range_off_boundary : CodeTree → ExceptionEntry → Bool
range_off_boundary c e = not (is_start c.code e.start) || not (is_start c.code e.end || (e.end == length c.code))

abbrev pub handler_off_boundary : CodeTree → ExceptionEntry → Bool
handler_off_boundary c e = not (is_start c.code e.handler)

-- ---- the refusal

-- the conditions of an offset, of an instruction, and of an exception entry
abbrev pub malformed_offset : CodeTree → ℕ → Bool
malformed_offset c pc = low_above_high c.code pc || (negative_count c.code pc || cut_instruction c.code pc)

abbrev pub malformed_instruction : Program → FileTree → CodeTree → ℕ → Instr → Bool
malformed_instruction files file c pc i =
    jump_off_boundary c pc i
    || (unsorted_matches c i
    || (local_above_max c i
    || (operand_of_wrong_kind file.pool i
    || (wrong_interface_count file.pool i
    || (wrong_interface_end i
    || (constructor_not_by_special file.pool i
    || (calls_initialiser file.pool i
    || (special_of_class_aside files file i
    || (new_of_array file.pool i
    || too_many_dimensions file.pool i)))))))))

abbrev pub malformed_exception : CodeTree → ExceptionEntry → Bool
malformed_exception c e = empty_range c e || (range_off_boundary c e || handler_off_boundary c e)

-- decoding ends at an instruction that is not whole
abbrev pub ends_in_instruction : CodeTree → Bool
ends_in_instruction c = option_map_or (malformed_offset c) (end_of_decoding c.code) false

-- of a code that decodes; else its exception entries are not looked at (own)
abbrev pub malformed_exceptions : CodeTree → Bool
malformed_exceptions c = decodes c.code && list_any (malformed_exception c) c.exceptions

abbrev pub malformed_code : Program → FileTree → MethodTree → CodeTree → Bool
malformed_code files file m c =
    too_few_locals file m c
    || (ends_in_instruction c
    || (any_decoded (malformed_instruction files file c) c
    || malformed_exceptions c))

-- Malformed, cause Code: one of the conditions stands in the file
abbrev pub has_malformed_code : Program → FileTree → Bool
has_malformed_code files file = any_code (malformed_code files file) file
