use Rattle.std.specs.Prelude.{Ok}
use Rattle.linked_code.specs.declared.instruction.LinkedInstruction.TheVariants as linked
use Rattle.machine_threads.proofs.instruction_events.Families.{field_same, local_left}
use Rattle.machine_threads.proofs.instruction_events.fields.field_instruction.Goals as goal

-- src/fields.rt:12:1
pub returns-in-GetField : goal.returns-in-GetField
returns-in-GetField c = field_same c.args.program.now c.args.instruction (linked.GetField c.in-GetField.slot) c.get_field.result c.args.shared.now c.args.shared.now c.args.stack.now c.get_field.new.stack c.in-GetField.is (c.get_field.ensures c.args.program.now)

-- src/fields.rt:12:1
pub returns-in-PutField : goal.returns-in-PutField
returns-in-PutField c = field_same c.args.program.now c.args.instruction (linked.PutField c.in-PutField.slot) (Ok c.put_field.result) c.args.shared.now c.put_field.new.shared c.args.stack.now c.put_field.new.stack c.in-PutField.is (c.put_field.ensures c.args.program.now)

-- src/fields.rt:12:1
pub returns-in-PutBooleanField : goal.returns-in-PutBooleanField
returns-in-PutBooleanField c = field_same c.args.program.now c.args.instruction (linked.PutBooleanField c.in-PutBooleanField.slot) (Ok c.put_field-in-PutBooleanField.result) c.args.shared.now c.put_field-in-PutBooleanField.new.shared c.args.stack.now c.put_field-in-PutBooleanField.new.stack c.in-PutBooleanField.is (c.put_field-in-PutBooleanField.ensures c.args.program.now)

-- src/fields.rt:12:1
pub returns-in-PutByteField : goal.returns-in-PutByteField
returns-in-PutByteField c = field_same c.args.program.now c.args.instruction (linked.PutByteField c.in-PutByteField.slot) (Ok c.put_field-in-PutByteField.result) c.args.shared.now c.put_field-in-PutByteField.new.shared c.args.stack.now c.put_field-in-PutByteField.new.stack c.in-PutByteField.is (c.put_field-in-PutByteField.ensures c.args.program.now)

-- src/fields.rt:12:1
pub returns-in-PutCharField : goal.returns-in-PutCharField
returns-in-PutCharField c = field_same c.args.program.now c.args.instruction (linked.PutCharField c.in-PutCharField.slot) (Ok c.put_field-in-PutCharField.result) c.args.shared.now c.put_field-in-PutCharField.new.shared c.args.stack.now c.put_field-in-PutCharField.new.stack c.in-PutCharField.is (c.put_field-in-PutCharField.ensures c.args.program.now)

-- src/fields.rt:12:1
pub returns-in-PutShortField : goal.returns-in-PutShortField
returns-in-PutShortField c = field_same c.args.program.now c.args.instruction (linked.PutShortField c.in-PutShortField.slot) (Ok c.put_field-in-PutShortField.result) c.args.shared.now c.put_field-in-PutShortField.new.shared c.args.stack.now c.put_field-in-PutShortField.new.stack c.in-PutShortField.is (c.put_field-in-PutShortField.ensures c.args.program.now)

-- src/fields.rt:12:1
pub returns-in-GetStatic : goal.returns-in-GetStatic
returns-in-GetStatic c = field_same c.args.program.now c.args.instruction (linked.GetStatic c.in-GetStatic.class c.in-GetStatic.slot) c.get_static.result c.args.shared.now c.args.shared.now c.args.stack.now c.get_static.new.stack c.in-GetStatic.is (c.get_static.ensures c.args.program.now c.in-GetStatic.class)

-- src/fields.rt:12:1
pub returns-in-PutStatic : goal.returns-in-PutStatic
returns-in-PutStatic c = field_same c.args.program.now c.args.instruction (linked.PutStatic c.in-PutStatic.class c.in-PutStatic.slot) (Ok c.put_static.result) c.args.shared.now c.put_static.new.shared c.args.stack.now c.put_static.new.stack c.in-PutStatic.is (c.put_static.ensures c.args.program.now c.in-PutStatic.class)

-- src/fields.rt:12:1
pub returns-in-PutBooleanStatic : goal.returns-in-PutBooleanStatic
returns-in-PutBooleanStatic c = field_same c.args.program.now c.args.instruction (linked.PutBooleanStatic c.in-PutBooleanStatic.class c.in-PutBooleanStatic.slot) (Ok c.put_static-in-PutBooleanStatic.result) c.args.shared.now c.put_static-in-PutBooleanStatic.new.shared c.args.stack.now c.put_static-in-PutBooleanStatic.new.stack c.in-PutBooleanStatic.is (c.put_static-in-PutBooleanStatic.ensures c.args.program.now c.in-PutBooleanStatic.class)

-- src/fields.rt:12:1
pub returns-in-PutByteStatic : goal.returns-in-PutByteStatic
returns-in-PutByteStatic c = field_same c.args.program.now c.args.instruction (linked.PutByteStatic c.in-PutByteStatic.class c.in-PutByteStatic.slot) (Ok c.put_static-in-PutByteStatic.result) c.args.shared.now c.put_static-in-PutByteStatic.new.shared c.args.stack.now c.put_static-in-PutByteStatic.new.stack c.in-PutByteStatic.is (c.put_static-in-PutByteStatic.ensures c.args.program.now c.in-PutByteStatic.class)

-- src/fields.rt:12:1
pub returns-in-PutCharStatic : goal.returns-in-PutCharStatic
returns-in-PutCharStatic c = field_same c.args.program.now c.args.instruction (linked.PutCharStatic c.in-PutCharStatic.class c.in-PutCharStatic.slot) (Ok c.put_static-in-PutCharStatic.result) c.args.shared.now c.put_static-in-PutCharStatic.new.shared c.args.stack.now c.put_static-in-PutCharStatic.new.stack c.in-PutCharStatic.is (c.put_static-in-PutCharStatic.ensures c.args.program.now c.in-PutCharStatic.class)

-- src/fields.rt:12:1
pub returns-in-PutShortStatic : goal.returns-in-PutShortStatic
returns-in-PutShortStatic c = field_same c.args.program.now c.args.instruction (linked.PutShortStatic c.in-PutShortStatic.class c.in-PutShortStatic.slot) (Ok c.put_static-in-PutShortStatic.result) c.args.shared.now c.put_static-in-PutShortStatic.new.shared c.args.stack.now c.put_static-in-PutShortStatic.new.stack c.in-PutShortStatic.is (c.put_static-in-PutShortStatic.ensures c.args.program.now c.in-PutShortStatic.class)

-- src/fields.rt:12:1
pub returns-in_default : goal.returns-in_default
returns-in_default c = λ reached t. c.local_instruction.ensures c.args.instruction (local_left c.args.instruction reached c.in_default.not-GetField c.in_default.not-PutField c.in_default.not-PutBooleanField c.in_default.not-PutByteField c.in_default.not-PutCharField c.in_default.not-PutShortField c.in_default.not-GetStatic c.in_default.not-PutStatic c.in_default.not-PutBooleanStatic c.in_default.not-PutByteStatic c.in_default.not-PutCharStatic c.in_default.not-PutShortStatic) t c.args.shared.now
