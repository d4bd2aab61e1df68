-- Which instructions call, and which touch fields or their frame alone (JVMS 2.11.5, 2.11.8).
use Rattle.std.specs.Prelude.{Bool, true, false}
use Rattle.linked_code.specs.declared.instruction.LinkedInstruction.{LinkedInstruction}
use Rattle.linked_code.specs.declared.instruction.LinkedInstruction.TheVariants as linked
use Rattle.machine_instructions.specs.local_instructions.Local.{is_local}

-- an invoking instruction, or println (JVMS 2.11.8)
abbrev pub is_call : LinkedInstruction → Bool
is_call (linked.InvokeStatic parameters class method) = true
is_call (linked.InvokeSpecial parameters method) = true
is_call (linked.InvokeVirtual parameters place) = true
is_call (linked.InvokeInterface parameters selector) = true
is_call linked.Println = true
is_call _ = false

-- one on a field (JVMS 2.11.5), or one that touches its frame alone
abbrev pub is_field_or_local : LinkedInstruction → Bool
is_field_or_local (linked.GetField slot) = true
is_field_or_local (linked.PutField slot) = true
is_field_or_local (linked.PutBooleanField slot) = true
is_field_or_local (linked.PutByteField slot) = true
is_field_or_local (linked.PutCharField slot) = true
is_field_or_local (linked.PutShortField slot) = true
is_field_or_local (linked.GetStatic class slot) = true
is_field_or_local (linked.PutStatic class slot) = true
is_field_or_local (linked.PutBooleanStatic class slot) = true
is_field_or_local (linked.PutByteStatic class slot) = true
is_field_or_local (linked.PutCharStatic class slot) = true
is_field_or_local (linked.PutShortStatic class slot) = true
is_field_or_local i = is_local i
