use Rattle.std.proofs.Common.{sym, subst}
use Rattle.linked_code.specs.Linked.{offset_in}
use Rattle.linked_code.specs.declared.instruction.LinkedInstruction.{LinkedInstruction}
use Rattle.waiting_circles.proofs.needs.Linked.{quick_of, static_calls, special_calls, virtual_calls, interface_calls}
use Rattle.waiting_circles.specs.Needs.{IsNeed, NeedsReady}
use Rattle.std.specs.Prelude.{Some, None}
use Rattle.waiting_circles.specs.declared.needs.kinds.Need.TheVariants as the
use Rattle.waiting_circles.proofs.needs.Instructed.{enter_need, quick_need, call_need}
use Rattle.waiting_circles.proofs.needs.instructions.ready_need.Goals as goal

pub returns-in-Some : goal.returns-in-Some
returns-in-Some c =
    subst (λ (i : LinkedInstruction). NeedsReady c.args.program.now i c.args.frames (Some (the.Monitor c.in-Some.object)) c.args.shared.now c.args.stack.now) (sym c.in-MonitorEnter.is)
    (λ trees bounds inflated t state frame rest code site meaning is.
    enter_need trees c.args.program.now bounds inflated t c.args.shared.now c.args.stack.now state frame rest code site meaning _ c.args.frames is is.stands.linked.is (Some c.in-Some.object) c.in-Some.ensures)

pub returns-in-None : goal.returns-in-None
returns-in-None c =
    subst (λ (i : LinkedInstruction). NeedsReady c.args.program.now i c.args.frames None c.args.shared.now c.args.stack.now) (sym c.in-MonitorEnter.is)
    (λ trees bounds inflated t state frame rest code site meaning is.
    enter_need trees c.args.program.now bounds inflated t c.args.shared.now c.args.stack.now state frame rest code site meaning _ c.args.frames is is.stands.linked.is None c.in-None.ensures)

pub returns-in-InvokeStatic : goal.returns-in-InvokeStatic
returns-in-InvokeStatic c =
    subst (λ (i : LinkedInstruction). NeedsReady c.args.program.now i c.args.frames c.static_need.result c.args.shared.now c.args.stack.now) (sym c.in-InvokeStatic.is)
    (λ trees bounds inflated t state frame rest code site meaning is.
    subst (IsNeed trees c.static_need.result)
    (sym (call_need trees c.args.program.now bounds inflated t c.args.shared.now c.args.stack.now state frame rest code site meaning _ c.args.frames is
    (static_calls trees c.args.program.now (offset_in code.starts.items) code.instructions.items site is.shown.place meaning is.stands.at.means c.in-InvokeStatic.parameters c.in-InvokeStatic.class c.in-InvokeStatic.method is.stands.linked)))
    (c.static_need.ensures c.in-InvokeStatic.parameters c.in-InvokeStatic.class c.args.shared.now trees bounds inflated t state frame rest code site meaning is))

pub returns-in-InvokeSpecial : goal.returns-in-InvokeSpecial
returns-in-InvokeSpecial c =
    subst (λ (i : LinkedInstruction). NeedsReady c.args.program.now i c.args.frames c.special_need.result c.args.shared.now c.args.stack.now) (sym c.in-InvokeSpecial.is)
    (λ trees bounds inflated t state frame rest code site meaning is.
    subst (IsNeed trees c.special_need.result)
    (sym (call_need trees c.args.program.now bounds inflated t c.args.shared.now c.args.stack.now state frame rest code site meaning _ c.args.frames is
    (special_calls trees c.args.program.now (offset_in code.starts.items) code.instructions.items site is.shown.place meaning is.stands.at.means c.in-InvokeSpecial.parameters c.in-InvokeSpecial.method is.stands.linked)))
    (c.special_need.ensures c.args.shared.now trees bounds inflated t state frame rest code site meaning is))

pub returns-in-InvokeVirtual : goal.returns-in-InvokeVirtual
returns-in-InvokeVirtual c =
    subst (λ (i : LinkedInstruction). NeedsReady c.args.program.now i c.args.frames c.virtual_need.result c.args.shared.now c.args.stack.now) (sym c.in-InvokeVirtual.is)
    (λ trees bounds inflated t state frame rest code site meaning is.
    subst (IsNeed trees c.virtual_need.result)
    (sym (call_need trees c.args.program.now bounds inflated t c.args.shared.now c.args.stack.now state frame rest code site meaning _ c.args.frames is
    (virtual_calls trees c.args.program.now (offset_in code.starts.items) code.instructions.items site is.shown.place meaning is.stands.at.means c.in-InvokeVirtual.parameters c.in-InvokeVirtual.place is.stands.linked)))
    (c.virtual_need.ensures trees bounds inflated t state frame rest code site meaning is))

pub returns-in-InvokeInterface : goal.returns-in-InvokeInterface
returns-in-InvokeInterface c =
    subst (λ (i : LinkedInstruction). NeedsReady c.args.program.now i c.args.frames c.interface_need.result c.args.shared.now c.args.stack.now) (sym c.in-InvokeInterface.is)
    (λ trees bounds inflated t state frame rest code site meaning is.
    subst (IsNeed trees c.interface_need.result)
    (sym (call_need trees c.args.program.now bounds inflated t c.args.shared.now c.args.stack.now state frame rest code site meaning _ c.args.frames is
    (interface_calls trees c.args.program.now (offset_in code.starts.items) code.instructions.items site is.shown.place meaning is.stands.at.means c.in-InvokeInterface.parameters c.in-InvokeInterface.selector is.stands.linked)))
    (c.interface_need.ensures trees bounds inflated t state frame rest code site meaning is))

pub returns-in_default : goal.returns-in_default
returns-in_default c = λ trees bounds inflated t state frame rest code site meaning is.
    quick_need trees c.args.program.now bounds inflated t c.args.shared.now c.args.stack.now state frame rest code site meaning c.args.instruction c.args.frames is
    (quick_of trees c.args.program.now (offset_in code.starts.items) code.instructions.items site is.shown.place meaning is.stands.at.means c.args.instruction is.stands.linked
    c.in_default.not-MonitorEnter c.in_default.not-InvokeStatic c.in_default.not-InvokeSpecial c.in_default.not-InvokeVirtual c.in_default.not-InvokeInterface)
