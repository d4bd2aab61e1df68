-- What the instructions of methods are, and which fields they name, by the numbers of the methods (JVMS 4.7.3, 5.4.3.2).
use Rattle.std.specs.Prelude.{◌≡◌, ℕ, Option, Some}
use Rattle.model.specs.declared.instr.Instr.{Instr}
use Rattle.model.specs.declared.instr.Instr.TheVariants as instr
use Rattle.model.specs.Names.{Member}
use Rattle.model.specs.Instruction.{instr_at}
use Rattle.model.specs.Classes.{Program, Body, body_of}
use Rattle.linked_code.specs.Numbers.{IsMethodAt}
use Rattle.field_names.specs.declared.named_fields.NamedField.{NamedField}
use Rattle.field_names.specs.named_fields.Fields.{NamesField}

-- at an offset of the method of a number, where that has code
abbrev pub IsInstructionAt : Program → ℕ → ℕ → Option Instr → Type 0
IsInstructionAt files number offset told =
    (method : Member) (body : Body) → IsMethodAt files number method → body_of files method ≡ Some body → told ≡ instr_at body.code.code offset

-- where the instruction is one on a field
abbrev pub IsFieldNamed : Program → ℕ → ℕ → Instr → Option NamedField → Type 0
IsFieldNamed files number offset (instr.Field access index) told = NamesField files number offset told
IsFieldNamed files number offset _ told = Unit {0}
