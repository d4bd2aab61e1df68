-- Instructions that put into fields of each primitive type (JVMS 6.5).
use Rattle.std.specs.Prelude.{ℕ}
use Rattle.linked_code.specs.declared.instruction.LinkedInstruction.{LinkedInstruction}
use Rattle.linked_code.specs.declared.instruction.LinkedInstruction.TheVariants as linked
use Rattle.model.specs.declared.primitive.Primitive.{Primitive}
use Rattle.model.specs.declared.primitive.Primitive.TheVariants as primitive

-- putfield of a field of the type; a reference is put as an int is
abbrev pub put_field_instruction : Primitive → (slot : ℕ) → LinkedInstruction
put_field_instruction primitive.Boolean slot = linked.PutBooleanField slot
put_field_instruction primitive.Char slot = linked.PutCharField slot
put_field_instruction primitive.Byte slot = linked.PutByteField slot
put_field_instruction primitive.Short slot = linked.PutShortField slot
put_field_instruction primitive.Int slot = linked.PutField slot

-- putstatic, likewise
abbrev pub put_static_instruction : Primitive → (class slot : ℕ) → LinkedInstruction
put_static_instruction primitive.Boolean class slot = linked.PutBooleanStatic class slot
put_static_instruction primitive.Char class slot = linked.PutCharStatic class slot
put_static_instruction primitive.Byte class slot = linked.PutByteStatic class slot
put_static_instruction primitive.Short class slot = linked.PutShortStatic class slot
put_static_instruction primitive.Int class slot = linked.PutStatic class slot
