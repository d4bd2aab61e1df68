use Rattle.std.proofs.Common.{subst}
use Rattle.std.specs.Prelude.{Ok}
use Rattle.linked_code.specs.declared.instruction.LinkedInstruction.TheVariants as linked
use Rattle.linked_code.specs.Linked.{offset_in}
use Rattle.machine_state.specs.linked_frames.Frames.{CanRun}
use Rattle.machine_threads.proofs.instruction_events.Families.{own_same, field_left}
use Rattle.machine_threads.proofs.instruction_events.own.own_instruction.Goals as goal

-- src/own.rt:47:44
pub monitor_enter-requires : goal.monitor_enter-requires
monitor_enter-requires c = (c.args.program.now, subst (CanRun c.args.program.now c.args.thread c.args.shared.now c.args.stack.now) c.in-MonitorEnter.is c.requires.able)

-- src/own.rt:48:46
pub monitor_exit-requires : goal.monitor_exit-requires
monitor_exit-requires c = (c.args.program.now, subst (CanRun c.args.program.now c.args.thread c.args.shared.now c.args.stack.now) c.in-MonitorExit.is c.requires.able)

-- src/own.rt:20:1
pub returns-in-GetSystemStream : goal.returns-in-GetSystemStream
returns-in-GetSystemStream c = own_same c.args.program.now c.args.instruction (linked.GetSystemStream c.in-GetSystemStream.word) c.args.thread c.get_system_stream.result c.args.shared.now c.args.shared.now c.args.stack.now c.get_system_stream.new.stack c.in-GetSystemStream.is (c.get_system_stream.ensures c.args.program.now c.args.thread c.args.shared.now)

-- src/own.rt:20:1
pub returns-in-LoadElement : goal.returns-in-LoadElement
returns-in-LoadElement c = own_same c.args.program.now c.args.instruction linked.LoadElement c.args.thread c.load_element.result c.args.shared.now c.args.shared.now c.args.stack.now c.load_element.new.stack c.in-LoadElement.is (c.load_element.ensures c.args.program.now c.args.thread)

-- src/own.rt:20:1
pub returns-in-StoreInt : goal.returns-in-StoreInt
returns-in-StoreInt c = own_same c.args.program.now c.args.instruction linked.StoreInt c.args.thread (Ok c.store_int.result) c.args.shared.now c.store_int.new.shared c.args.stack.now c.store_int.new.stack c.in-StoreInt.is (c.store_int.ensures c.args.program.now c.args.thread)

-- src/own.rt:20:1
pub returns-in-StoreNarrow : goal.returns-in-StoreNarrow
returns-in-StoreNarrow c = own_same c.args.program.now c.args.instruction linked.StoreNarrow c.args.thread (Ok c.store_narrow.result) c.args.shared.now c.store_narrow.new.shared c.args.stack.now c.store_narrow.new.stack c.in-StoreNarrow.is (c.store_narrow.ensures c.args.program.now c.args.thread)

-- src/own.rt:20:1
pub returns-in-StoreReference : goal.returns-in-StoreReference
returns-in-StoreReference c = own_same c.args.program.now c.args.instruction linked.StoreReference c.args.thread (Ok c.store_reference.result) c.args.shared.now c.store_reference.new.shared c.args.stack.now c.store_reference.new.stack c.in-StoreReference.is (c.store_reference.ensures c.args.thread)

-- src/own.rt:20:1
pub returns-in-ArrayLength : goal.returns-in-ArrayLength
returns-in-ArrayLength c = own_same c.args.program.now c.args.instruction linked.ArrayLength c.args.thread c.array_length.result c.args.shared.now c.args.shared.now c.args.stack.now c.array_length.new.stack c.in-ArrayLength.is (c.array_length.ensures c.args.program.now c.args.thread)

-- src/own.rt:20:1
pub returns-in-LoadObject : goal.returns-in-LoadObject
returns-in-LoadObject c = own_same c.args.program.now c.args.instruction (linked.LoadObject c.in-LoadObject.word) c.args.thread c.load_object.result c.args.shared.now c.args.shared.now c.args.stack.now c.load_object.new.stack c.in-LoadObject.is (c.load_object.ensures c.args.program.now c.args.thread c.args.shared.now)

-- src/own.rt:20:1
pub returns-in-New : goal.returns-in-New
returns-in-New c = own_same c.args.program.now c.args.instruction (linked.New c.in-New.class c.in-New.cells c.in-New.uncounted) c.args.thread c.new_object.result c.args.shared.now c.new_object.new.shared c.args.stack.now c.new_object.new.stack c.in-New.is (c.new_object.ensures c.args.program.now c.args.thread)

-- src/own.rt:20:1
pub returns-in-NewArray : goal.returns-in-NewArray
returns-in-NewArray c = own_same c.args.program.now c.args.instruction (linked.NewArray c.in-NewArray.of) c.args.thread c.new_array.result c.args.shared.now c.new_array.new.shared c.args.stack.now c.new_array.new.stack c.in-NewArray.is (c.new_array.ensures c.args.program.now c.args.thread)

-- src/own.rt:20:1
pub returns-in-NewReferenceArray : goal.returns-in-NewReferenceArray
returns-in-NewReferenceArray c = own_same c.args.program.now c.args.instruction (linked.NewReferenceArray c.in-NewReferenceArray.component) c.args.thread c.new_reference_array.result c.args.shared.now c.new_reference_array.new.shared c.args.stack.now c.new_reference_array.new.stack c.in-NewReferenceArray.is (c.new_reference_array.ensures c.args.program.now c.args.thread)

-- src/own.rt:20:1
pub returns-in-CheckCast : goal.returns-in-CheckCast
returns-in-CheckCast c = own_same c.args.program.now c.args.instruction (linked.CheckCast c.in-CheckCast.of) c.args.thread (Ok c.check_cast.result) c.args.shared.now c.args.shared.now c.args.stack.now c.check_cast.new.stack c.in-CheckCast.is (c.check_cast.ensures c.args.thread)

-- src/own.rt:20:1
pub returns-in-InstanceOf : goal.returns-in-InstanceOf
returns-in-InstanceOf c = own_same c.args.program.now c.args.instruction (linked.InstanceOf c.in-InstanceOf.of) c.args.thread c.instance_of.result c.args.shared.now c.args.shared.now c.args.stack.now c.instance_of.new.stack c.in-InstanceOf.is (c.instance_of.ensures c.args.thread)

-- src/own.rt:20:1
pub returns-in-Throw : goal.returns-in-Throw
returns-in-Throw c = own_same c.args.program.now c.args.instruction linked.Throw c.args.thread (Ok c.throw.result) c.args.shared.now c.args.shared.now c.args.stack.now c.args.stack.now c.in-Throw.is (c.throw.ensures c.args.program.now c.args.thread c.args.shared.now)

-- src/own.rt:20:1
pub returns-in-MonitorEnter : goal.returns-in-MonitorEnter
returns-in-MonitorEnter c = own_same c.args.program.now c.args.instruction linked.MonitorEnter c.args.thread c.monitor_enter.result c.args.shared.now c.monitor_enter.new.shared c.args.stack.now c.monitor_enter.new.stack c.in-MonitorEnter.is (c.monitor_enter.ensures c.args.program.now)

-- src/own.rt:20:1
pub returns-in-MonitorExit : goal.returns-in-MonitorExit
returns-in-MonitorExit c = own_same c.args.program.now c.args.instruction linked.MonitorExit c.args.thread (Ok c.monitor_exit.result) c.args.shared.now c.monitor_exit.new.shared c.args.stack.now c.monitor_exit.new.stack c.in-MonitorExit.is (c.monitor_exit.ensures c.args.program.now)

-- src/own.rt:20:1
pub returns-in-Return : goal.returns-in-Return
returns-in-Return c = own_same c.args.program.now c.args.instruction linked.Return c.args.thread c.return_from.result c.args.shared.now c.return_from.new.shared c.args.stack.now c.return_from.new.stack c.in-Return.is (c.return_from.ensures)

-- src/own.rt:20:1
pub returns-in-ReturnValue : goal.returns-in-ReturnValue
returns-in-ReturnValue c = own_same c.args.program.now c.args.instruction linked.ReturnValue c.args.thread c.return_from-in-ReturnValue.result c.args.shared.now c.return_from-in-ReturnValue.new.shared c.args.stack.now c.return_from-in-ReturnValue.new.stack c.in-ReturnValue.is (c.return_from-in-ReturnValue.ensures)

-- src/own.rt:20:1
pub returns-in_default : goal.returns-in_default
returns-in_default c = λ frames trees bounds inflated state frame rest code site meaning is.
    c.field_instruction.ensures (field_left trees c.args.program.now (offset_in code.starts.items) code.instructions.items site is.shown.place c.args.instruction c.requires.own is.stands.linked
    c.in_default.not-GetSystemStream c.in_default.not-LoadElement c.in_default.not-StoreInt c.in_default.not-StoreNarrow c.in_default.not-StoreReference c.in_default.not-ArrayLength c.in_default.not-LoadObject c.in_default.not-New c.in_default.not-NewArray c.in_default.not-NewReferenceArray c.in_default.not-CheckCast c.in_default.not-InstanceOf c.in_default.not-Throw c.in_default.not-MonitorEnter c.in_default.not-MonitorExit c.in_default.not-Return c.in_default.not-ReturnValue)
    c.args.thread frames trees bounds inflated state frame rest code site meaning is
