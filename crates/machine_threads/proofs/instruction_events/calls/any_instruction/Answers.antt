use Rattle.std.proofs.Common.{subst}
use Rattle.linked_code.specs.declared.instruction.LinkedInstruction.TheVariants as linked
use Rattle.machine_state.specs.linked_frames.Frames.{CanRun}
use Rattle.machine_threads.proofs.instruction_events.Classes.{not_zero, not_enabled}
use Rattle.machine_threads.proofs.instruction_events.Steps.{instruction_same, unpicked, own_left}
use Rattle.machine_threads.proofs.instruction_events.calls.any_instruction.Goals as goal

-- src/calls.rt:44:39
pub println-requires-clause-running : goal.println-requires-clause-running
println-requires-clause-running c = subst (CanRun c.args.program.now c.args.thread c.args.shared.now c.args.stack.now) c.in-Println.is c.requires.able

-- src/calls.rt:13:1
pub returns-in-InvokeStatic : goal.returns-in-InvokeStatic
returns-in-InvokeStatic c =
    instruction_same c.args.program.now c.args.instruction (linked.InvokeStatic c.in-InvokeStatic.parameters c.in-InvokeStatic.class c.in-InvokeStatic.method) c.args.frames (record { thread = c.args.thread; pick = c.args.pick }) c.invoke_static.result c.args.shared.now c.invoke_static.new.shared c.args.stack.now c.invoke_static.new.stack c.in-InvokeStatic.is (c.invoke_static.ensures c.in-InvokeStatic.class)

-- src/calls.rt:13:1
pub returns-in-InvokeSpecial : goal.returns-in-InvokeSpecial
returns-in-InvokeSpecial c =
    instruction_same c.args.program.now c.args.instruction (linked.InvokeSpecial c.in-InvokeSpecial.parameters c.in-InvokeSpecial.method) c.args.frames (record { thread = c.args.thread; pick = c.args.pick }) c.invoke_special.result c.args.shared.now c.invoke_special.new.shared c.args.stack.now c.invoke_special.new.stack c.in-InvokeSpecial.is c.invoke_special.ensures

-- src/calls.rt:13:1
pub returns-in-InvokeVirtual : goal.returns-in-InvokeVirtual
returns-in-InvokeVirtual c =
    instruction_same c.args.program.now c.args.instruction (linked.InvokeVirtual c.in-InvokeVirtual.parameters c.in-InvokeVirtual.place) c.args.frames (record { thread = c.args.thread; pick = c.args.pick }) c.invoke_virtual.result c.args.shared.now c.invoke_virtual.new.shared c.args.stack.now c.invoke_virtual.new.stack c.in-InvokeVirtual.is c.invoke_virtual.ensures

-- src/calls.rt:13:1
pub returns-in-InvokeInterface : goal.returns-in-InvokeInterface
returns-in-InvokeInterface c =
    instruction_same c.args.program.now c.args.instruction (linked.InvokeInterface c.in-InvokeInterface.parameters c.in-InvokeInterface.selector) c.args.frames (record { thread = c.args.thread; pick = c.args.pick }) c.invoke_interface.result c.args.shared.now c.invoke_interface.new.shared c.args.stack.now c.invoke_interface.new.stack c.in-InvokeInterface.is c.invoke_interface.ensures

-- src/calls.rt:13:1
pub returns-in-Println : goal.returns-in-Println
returns-in-Println c =
    instruction_same c.args.program.now c.args.instruction linked.Println c.args.frames (record { thread = c.args.thread; pick = c.args.pick }) c.println.result c.args.shared.now c.println.new.shared c.args.stack.now c.println.new.stack c.in-Println.is (c.println.ensures c.args.frames)

-- src/calls.rt:13:1
pub returns-then-pick-eq0 : goal.returns-then-pick-eq0
returns-then-pick-eq0 c =
    unpicked c.args.program.now c.args.instruction c.args.frames c.args.thread c.args.pick c.own_instruction.result c.args.shared.now c.own_instruction.new.shared c.args.stack.now c.own_instruction.new.stack c.if-pick-eq0.true c.own_instruction.ensures

-- src/calls.rt:13:1
pub returns-else-pick-eq0 : goal.returns-else-pick-eq0
returns-else-pick-eq0 c = λ trees bounds inflated state frame rest code site meaning is.
    not_enabled trees c.args.program.now bounds inflated (record { thread = c.args.thread; pick = c.args.pick }) c.args.shared.now c.args.stack.now state frame rest code site meaning c.args.instruction is c.args.frames
    (own_left c.args.instruction c.in_default.not-InvokeStatic c.in_default.not-InvokeSpecial c.in_default.not-InvokeVirtual c.in_default.not-InvokeInterface c.in_default.not-Println)
    (not_zero c.args.pick c.if-pick-eq0.false)
