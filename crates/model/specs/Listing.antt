-- The listing of a class file (own): a line for the class, one for each field, and for each method one with, where it has
-- code, a line for each instruction and for each entry of the exception table.
use Rattle.std.specs.Prelude.{◌≡◌, ℕ, zero, suc, ◌+◌, ◌-◌, ◌/◌, ◌%◌, ℤ, pos, ◌+ℤ◌, List, [], ◌∷◌, ◌++◌, length, take, drop, replicate, slice_index_or, codes, Option, Some, None, Bool, nat_lt, ◌==◌, if◌then◌else◌, unwrap_or, refl}
use Rattle.std.specs.List.{flat_map}
use Rattle.std.specs.Int.{w32, cast_signed}
use Rattle.std.specs.Fmt.{digits}
use Rattle.model.specs.declared.class_file.ExceptionEntry.{ExceptionEntry}
use Rattle.model.specs.declared.instr.Instr.{Instr}
use Rattle.model.specs.declared.instr.Instr.TheVariants.{Const, LoadConstant, Load, Store, Increment, If, IfInts, IfReferences, IfNull, Goto, TableSwitch, LookupSwitch, Field, Invoke, InvokeInterface, New, NewArray, NewReferenceArray, CheckCast, InstanceOf}
use Rattle.model.specs.Report.{number, signed_number, line}
use Rattle.model.specs.Tree.{Entry, CodeTree, FieldTree, MethodTree, FileTree}
use Rattle.model.specs.Tree as tree
use Rattle.model.specs.Spelling.{entry_at}
use Rattle.model.specs.Pool.{Reference, utf8_at, class_name_at, field_at, method_at, interface_method_at, integer_of}
use Rattle.model.specs.Classes.{code_in}
use Rattle.model.specs.OpcodeTable.{mnemonic_of, low_mnemonic, high_mnemonic, low_form, high_form}
use Rattle.model.specs.Instruction.{Sized, sized_at, jump_count, table_jump, lookup_pair, wide_at, lookup_switch_at}
use Rattle.model.specs.InstructionStarts.{step_at, starts_from, is_start}

-- ---- numbers

-- 0 to 15 as 0 to 9 and a to f
abbrev pub hex_digit : ℕ → ℕ
hex_digit n = if nat_lt n 10 then 48 + n else 87 + n

-- 8 bits in two hexadecimal digits
abbrev pub hex_byte : ℕ → List ℕ
hex_byte b = hex_digit (b / 16) ∷ hex_digit (b % 16) ∷ []

-- 16 bits in four
abbrev pub hex_short : ℕ → List ℕ
hex_short n = hex_byte (n / 256) ++ hex_byte (n % 256)

-- an offset in decimal, in five digits or more
abbrev pub offset_digits : ℕ → List ℕ
offset_digits pc = replicate (5 - length (number pc)) 48 ++ number pc

-- ---- what an index of the constant pool names

-- # and the index, where it names nothing of the wanted kind
abbrev pub index_word : ℕ → List ℕ
index_word index = codes "#" ++ number index

abbrev pub name_or_index : ℕ → Option (List ℕ) → List ℕ
name_or_index index (Some name) = name
name_or_index index None = index_word index

abbrev pub utf8_word : List Entry → ℕ → List ℕ
utf8_word pool index = name_or_index index (utf8_at pool index)

abbrev pub class_word : List Entry → ℕ → List ℕ
class_word pool index = name_or_index index (class_name_at pool index)

-- a class, a member of it, and the member's descriptor
abbrev pub reference_word : Reference → List ℕ
reference_word m = m.class ++ (codes "." ++ (m.name ++ (codes ":" ++ m.descriptor)))

abbrev pub member_word : ℕ → Option Reference → List ℕ
member_word index (Some m) = reference_word m
member_word index None = index_word index

abbrev pub class_or_index : ℕ → Option (List ℕ) → List ℕ
class_or_index index (Some name) = codes "class " ++ name
class_or_index index None = index_word index

abbrev pub integer_or : List ℕ → Option ℕ → List ℕ
integer_or other (Some bits) = signed_number (cast_signed w32 bits)
integer_or other None = other

-- what `ldc` and `ldc_w` load: an int, a class, or by its index another constant
abbrev pub constant_word : List Entry → ℕ → List ℕ
constant_word pool index = integer_or (class_or_index index (class_name_at pool index)) (integer_of (entry_at pool index))

-- the element type of `newarray` by its code (JVMS table 6.5.newarray-A), of those that this machine has
abbrev pub element_word : ℕ → List ℕ
element_word code =
    if code == 4 then codes "boolean"
    else if code == 5 then codes "char"
    else if code == 8 then codes "byte"
    else if code == 9 then codes "short"
    else if code == 10 then codes "int"
    else index_word code

-- ---- instructions

-- a space, and an operand
abbrev pub operand : List ℕ → List ℕ
operand word = codes " " ++ word

-- the offset to which the instruction at pc jumps
abbrev pub target : ℕ → ℤ → List ℕ
target pc by = signed_number (pos pc +ℤ by)

-- what is said of 0, 1 and so on below n
abbrev pub each_below : (ℕ → List ℕ) → ℕ → List ℕ
each_below said zero = []
each_below said (suc n) = each_below said n ++ said n

-- a case of a switch: the value, and the offset to which it jumps
abbrev pub switch_case : ℕ → ℤ → ℤ → List ℕ
switch_case pc value by = operand (signed_number value ++ (codes ":" ++ target pc by))

abbrev pub table_case : List ℕ → ℕ → ℤ → ℕ → ℕ → List ℕ
table_case code pc low at k = switch_case pc (low +ℤ pos k) (table_jump code at k)

abbrev pub lookup_case : List ℕ → ℕ → ℕ → ℕ → List ℕ
lookup_case code pc at k = switch_case pc (lookup_pair code at k).0 (lookup_pair code at k).1

abbrev pub default_case : ℕ → ℤ → List ℕ
default_case pc default = operand (codes "default") ++ operand (target pc default)

-- the operands of the instruction at pc
abbrev pub operands : List Entry → List ℕ → ℕ → Instr → List ℕ
operands pool code pc (Const value) = operand (signed_number value)
operands pool code pc (LoadConstant index) = operand (constant_word pool index)
operands pool code pc (Load kind local) = operand (number local)
operands pool code pc (Store kind local) = operand (number local)
operands pool code pc (Increment local by) = operand (number local) ++ operand (signed_number by)
operands pool code pc (If comparison by) = operand (target pc by)
operands pool code pc (IfInts comparison by) = operand (target pc by)
operands pool code pc (IfReferences equal by) = operand (target pc by)
operands pool code pc (IfNull null by) = operand (target pc by)
operands pool code pc (Goto by) = operand (target pc by)
operands pool code pc (TableSwitch default low high at) = default_case pc default ++ each_below (table_case code pc low at) (jump_count low high)
operands pool code pc (LookupSwitch default pairs at) = default_case pc default ++ each_below (lookup_case code pc at) pairs
operands pool code pc (Field access index) = operand (member_word index (field_at pool index))
operands pool code pc (Invoke invocation index) = operand (member_word index (method_at pool index))
operands pool code pc (InvokeInterface index count last) = operand (member_word index (interface_method_at pool index)) ++ operand (number count)
operands pool code pc (New index) = operand (class_word pool index)
operands pool code pc (NewArray element) = operand (element_word element)
operands pool code pc (NewReferenceArray index) = operand (class_word pool index)
operands pool code pc (CheckCast index) = operand (class_word pool index)
operands pool code pc (InstanceOf index) = operand (class_word pool index)
operands pool code pc other = []

abbrev pub byte_at : List ℕ → ℕ → ℕ
byte_at code pc = slice_index_or code pc 0

abbrev pub mnemonic_word : ℕ → List ℕ
mnemonic_word opcode = unwrap_or (mnemonic_of opcode) (codes "unknown")

-- the mnemonic of the instruction at pc; behind `wide` that of the instruction which it widens
abbrev pub mnemonic : List ℕ → ℕ → List ℕ
mnemonic code pc =
    if byte_at code pc == 0xc4 then mnemonic_word 0xc4 ++ operand (mnemonic_word (byte_at code (pc + 1))) else mnemonic_word (byte_at code pc)

-- the mnemonic and the operands: what is one byte long has no operand beside its opcode, and what begins no whole instruction is unknown
abbrev pub meaning : List Entry → List ℕ → ℕ → Option Sized → List ℕ
meaning pool code pc None = codes "unknown"
meaning pool code pc (Some found) = mnemonic code pc ++ (if found.1 == 1 then [] else operands pool code pc found.0)

-- the bytes from pc up to the next instruction
abbrev pub bytes_of : List ℕ → ℕ → List ℕ
bytes_of code pc = take (step_at code pc) (drop pc code)

-- the line of what begins at pc: its offset, its bytes, its mnemonic and its operands
abbrev pub instruction_line : List Entry → List ℕ → ℕ → List ℕ
instruction_line pool code pc = line (offset_digits pc ++ (operand (flat_map hex_byte (bytes_of code pc)) ++ operand (meaning pool code pc (sized_at code pc))))

-- nothing, where pc is no instruction boundary
abbrev pub lines_at : List Entry → List ℕ → ℕ → List ℕ
lines_at pool code pc = if is_start code pc then instruction_line pool code pc else []

abbrev pub instruction_lines : List Entry → List ℕ → List ℕ
instruction_lines pool code = each_below (lines_at pool code) (length code)

-- ---- methods, fields and the class

-- the class that a handler takes, where the entry names one
abbrev pub caught : List Entry → ℕ → List ℕ
caught pool catch_type = if catch_type == 0 then codes "any" else class_word pool catch_type

abbrev pub catch_line : List Entry → ExceptionEntry → List ℕ
catch_line pool e = line (codes "catch" ++ (operand (number e.start) ++ (operand (number e.end) ++ (operand (number e.handler) ++ operand (caught pool e.catch_type)))))

abbrev pub flags_word : ℕ → List ℕ
flags_word flags = codes " flags " ++ hex_short flags

abbrev pub field_line : List Entry → FieldTree → List ℕ
field_line pool f = line (codes "field" ++ (operand (utf8_word pool f.name) ++ (operand (utf8_word pool f.descriptor) ++ flags_word f.flags)))

abbrev pub method_head : List Entry → MethodTree → List ℕ
method_head pool m = codes "method" ++ (operand (utf8_word pool m.name) ++ (utf8_word pool m.descriptor ++ flags_word m.flags))

abbrev pub sizes : CodeTree → List ℕ
sizes c = codes " stack " ++ (number c.max_stack ++ (codes " locals " ++ number c.max_locals))

abbrev pub code_lines : List Entry → CodeTree → List ℕ
code_lines pool c = instruction_lines pool c.code ++ flat_map (catch_line pool) c.exceptions

abbrev pub method_lines_of : List Entry → List ℕ → Option CodeTree → List ℕ
method_lines_of pool head None = line head
method_lines_of pool head (Some c) = line (head ++ sizes c) ++ code_lines pool c

abbrev pub method_lines : List Entry → MethodTree → List ℕ
method_lines pool m = method_lines_of pool (method_head pool m) (code_in m.parts)

-- ACC_INTERFACE (JVMS table 4.1-A) is set
abbrev pub is_interface : ℕ → Bool
is_interface flags = flags / 0x0200 % 2 == 1

abbrev pub kind_word : ℕ → List ℕ
kind_word flags = if is_interface flags then codes "interface" else codes "class"

abbrev pub implements_words : List Entry → List ℕ → List ℕ
implements_words pool [] = []
implements_words pool (first ∷ interfaces) = codes " implements" ++ flat_map (λ i. operand (class_word pool i)) (first ∷ interfaces)

abbrev pub class_line : FileTree → List ℕ
class_line c = line (kind_word c.flags ++ (operand (class_word c.pool c.this_class) ++ (codes " extends" ++ (operand (class_word c.pool c.super_class) ++ implements_words c.pool c.interfaces))))

abbrev pub listing : FileTree → List ℕ
listing c = class_line c ++ (flat_map (field_line c.pool) c.fields ++ flat_map (method_lines c.pool) c.methods)

-- ---- examples

widened_increment : instruction_line [] (codes "\0\0" ++ (0xc4 ∷ 0x84 ∷ 0x00 ∷ 0x01 ∷ 0x80 ∷ 0x00 ∷ [])) 2
    ≡ codes "00002 c48400018000 wide iinc 1 -32768\n"
unfolding low_form high_form low_mnemonic high_mnemonic wide_at digits
widened_increment = refl

lookup_of_one : instruction_line [] (0x08 ∷ 0xab ∷ 0 ∷ 0 ∷ 0 ∷ 0 ∷ 0 ∷ 0x1b ∷ 0 ∷ 0 ∷ 0 ∷ 1 ∷ 0 ∷ 0 ∷ 0 ∷ 5 ∷ 0 ∷ 0 ∷ 0 ∷ 0x13 ∷ []) 1
    ≡ codes "00001 ab00000000001b000000010000000500000013 lookupswitch default 28 5:20\n"
unfolding low_form high_form low_mnemonic high_mnemonic lookup_switch_at digits
lookup_of_one = refl

cut_push : instruction_lines [] (0x10 ∷ []) ≡ codes "00000 10 unknown\n"
unfolding low_form high_form low_mnemonic high_mnemonic digits starts_from
cut_push = refl

no_opcode : instruction_lines [] (0xca ∷ []) ≡ codes "00000 ca unknown\n"
unfolding low_form high_form low_mnemonic high_mnemonic digits starts_from
no_opcode = refl

abbrev prints_seven_tree : FileTree
prints_seven_tree =
    record {
      pool =
          tree.Utf8 (codes "A") ∷ tree.Class 1
          ∷ tree.Utf8 (codes "java/lang/Object") ∷ tree.Class 3
          ∷ tree.Utf8 (codes "main") ∷ tree.Utf8 (codes "([Ljava/lang/String;)V") ∷ tree.Utf8 (codes "Code")
          ∷ tree.Utf8 (codes "java/lang/System") ∷ tree.Class 8
          ∷ tree.Utf8 (codes "out") ∷ tree.Utf8 (codes "Ljava/io/PrintStream;") ∷ tree.NameAndType 10 11 ∷ tree.Field 9 12
          ∷ tree.Utf8 (codes "java/io/PrintStream") ∷ tree.Class 14
          ∷ tree.Utf8 (codes "println") ∷ tree.Utf8 (codes "(I)V") ∷ tree.NameAndType 16 17 ∷ tree.Method 15 18
          ∷ [];
      flags = 0x0020;
      this_class = 2;
      super_class = 4;
      interfaces = [];
      fields = [];
      methods =
          record {
            flags = 0x0009;
            name = 5;
            descriptor = 6;
            parts =
                tree.CodeOf 7 (record {
                  max_stack = 2;
                  max_locals = 1;
                  code = 0xb2 ∷ 0x00 ∷ 0x0d ∷ 0x10 ∷ 0x07 ∷ 0xb6 ∷ 0x00 ∷ 0x13 ∷ 0xb1 ∷ [];
                  exceptions = [];
                  attributes = [];
                })
                ∷ [];
          }
          ∷ [];
      attributes = [];
    }

lists_prints_seven : listing prints_seven_tree
    ≡ codes "class A extends java/lang/Object\nmethod main([Ljava/lang/String;)V flags 0009 stack 2 locals 1\n00000 b2000d getstatic java/lang/System.out:Ljava/io/PrintStream;\n00003 1007 bipush 7\n00005 b60013 invokevirtual java/io/PrintStream.println:(I)V\n00008 b1 return\n"
unfolding low_form high_form low_mnemonic high_mnemonic digits starts_from
lists_prints_seven = refl

element_types : flat_map (λ code. operand (element_word code)) (4 ∷ 5 ∷ 8 ∷ 9 ∷ 10 ∷ 11 ∷ []) ≡ codes " boolean char byte short int #11"
unfolding digits
element_types = refl
