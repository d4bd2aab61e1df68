use Rattle.std.proofs.Common.{sym, subst, ◌∙◌}
use Rattle.linked_code.specs.Linked.{offset_in}
use Rattle.machine_threads.specs.declared.waiting_instructions.kinds.Standing.TheVariants as standing
use Rattle.machine_threads.specs.waiting_instructions.Held.{StandsReady}
use Rattle.machine_threads.proofs.waiting_instructions.Instructed.{quick_of, static_calls, special_calls, virtual_calls, interface_calls, quick_end, call_end, entered_end, blocked_end}
use Rattle.machine_threads.proofs.waiting_instructions.ready.ready_standing.Goals as goal

pub returns-then-may_enter_top : goal.returns-then-may_enter_top
returns-then-may_enter_top c =
    subst (λ i. StandsReady c.args.program.now i c.args.frames c.args.thread standing.Runnable c.args.shared.now c.args.stack.now) (sym c.in-MonitorEnter.is)
    (λ trees bounds inflated state frame rest code site meaning is.
    entered_end trees c.args.frames c.args.thread state.world frame rest site meaning is.stands.at.means is.stands.linked.is
    (c.may_enter_top.ensures trees c.args.program.now bounds inflated state frame rest code site meaning is ∙ c.if-may_enter_top.true))

pub returns-else-may_enter_top : goal.returns-else-may_enter_top
returns-else-may_enter_top c =
    subst (λ i. StandsReady c.args.program.now i c.args.frames c.args.thread standing.Blocked c.args.shared.now c.args.stack.now) (sym c.in-MonitorEnter.is)
    (λ trees bounds inflated state frame rest code site meaning is.
    blocked_end trees c.args.frames c.args.thread state.world frame rest site meaning is.stands.at.means is.stands.linked.is
    (c.may_enter_top.ensures trees c.args.program.now bounds inflated state frame rest code site meaning is ∙ c.if-may_enter_top.false))

pub returns-in-InvokeStatic : goal.returns-in-InvokeStatic
returns-in-InvokeStatic c =
    subst (λ i. StandsReady c.args.program.now i c.args.frames c.args.thread c.static_standing.result c.args.shared.now c.args.stack.now) (sym c.in-InvokeStatic.is)
    (λ trees bounds inflated state frame rest code site meaning is.
    call_end trees c.args.frames c.args.thread state.world frame rest site meaning is.stands.at.means
    (static_calls trees c.args.program.now (offset_in code.starts.items) code.instructions.items site is.shown.place meaning is.stands.at.means c.in-InvokeStatic.parameters c.in-InvokeStatic.class c.in-InvokeStatic.method is.stands.linked)
    c.static_standing.result (c.static_standing.ensures c.in-InvokeStatic.parameters c.in-InvokeStatic.class trees bounds inflated state frame rest code site meaning is))

pub returns-in-InvokeSpecial : goal.returns-in-InvokeSpecial
returns-in-InvokeSpecial c =
    subst (λ i. StandsReady c.args.program.now i c.args.frames c.args.thread c.special_standing.result c.args.shared.now c.args.stack.now) (sym c.in-InvokeSpecial.is)
    (λ trees bounds inflated state frame rest code site meaning is.
    call_end trees c.args.frames c.args.thread state.world frame rest site meaning is.stands.at.means
    (special_calls trees c.args.program.now (offset_in code.starts.items) code.instructions.items site is.shown.place meaning is.stands.at.means c.in-InvokeSpecial.parameters c.in-InvokeSpecial.method is.stands.linked)
    c.special_standing.result (c.special_standing.ensures trees bounds inflated state frame rest code site meaning is))

pub returns-in-InvokeVirtual : goal.returns-in-InvokeVirtual
returns-in-InvokeVirtual c =
    subst (λ i. StandsReady c.args.program.now i c.args.frames c.args.thread c.virtual_standing.result c.args.shared.now c.args.stack.now) (sym c.in-InvokeVirtual.is)
    (λ trees bounds inflated state frame rest code site meaning is.
    call_end trees c.args.frames c.args.thread state.world frame rest site meaning is.stands.at.means
    (virtual_calls trees c.args.program.now (offset_in code.starts.items) code.instructions.items site is.shown.place meaning is.stands.at.means c.in-InvokeVirtual.parameters c.in-InvokeVirtual.place is.stands.linked)
    c.virtual_standing.result (c.virtual_standing.ensures trees bounds inflated state frame rest code site meaning is))

pub returns-in-InvokeInterface : goal.returns-in-InvokeInterface
returns-in-InvokeInterface c =
    subst (λ i. StandsReady c.args.program.now i c.args.frames c.args.thread c.interface_standing.result c.args.shared.now c.args.stack.now) (sym c.in-InvokeInterface.is)
    (λ trees bounds inflated state frame rest code site meaning is.
    call_end trees c.args.frames c.args.thread state.world frame rest site meaning is.stands.at.means
    (interface_calls trees c.args.program.now (offset_in code.starts.items) code.instructions.items site is.shown.place meaning is.stands.at.means c.in-InvokeInterface.parameters c.in-InvokeInterface.selector is.stands.linked)
    c.interface_standing.result (c.interface_standing.ensures trees bounds inflated state frame rest code site meaning is))

pub returns-in_default : goal.returns-in_default
returns-in_default c = λ trees bounds inflated state frame rest code site meaning is.
    quick_end trees c.args.frames c.args.thread state.world frame rest site meaning is.stands.at.means
    (quick_of trees c.args.program.now (offset_in code.starts.items) code.instructions.items site is.shown.place meaning is.stands.at.means c.args.instruction is.stands.linked
    c.in_default.not-MonitorEnter c.in_default.not-InvokeStatic c.in_default.not-InvokeSpecial c.in_default.not-InvokeVirtual c.in_default.not-InvokeInterface)
