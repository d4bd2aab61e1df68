use Rattle.std.proofs.Common.{sym, subst}
use Rattle.linked_code.specs.Linked.{offset_in}
use Rattle.program_runs.specs.policies.Picks.{PicksAt}
use Rattle.program_runs.proofs.policies.Picked.{at_interface, at_special, at_virtual}
use Rattle.program_runs.proofs.policies.Unpicked.{not_may, picks_none}
use Rattle.program_runs.proofs.policies.picks.instruction_picks.Goals as goal

pub returns-in-InvokeSpecial : goal.returns-in-InvokeSpecial
returns-in-InvokeSpecial c =
    subst (λ i. PicksAt c.args.program.now i c.args.thread c.special_picks.result c.args.shared.now c.args.stack.now) (sym c.in-InvokeSpecial.is)
    (at_special c.instructions_are_done.ensures.holds c.args.program.now c.args.thread c.special_picks.result c.args.shared.now c.args.stack.now c.in-InvokeSpecial.parameters c.in-InvokeSpecial.method c.special_picks.ensures)

pub returns-in-InvokeVirtual : goal.returns-in-InvokeVirtual
returns-in-InvokeVirtual c =
    subst (λ i. PicksAt c.args.program.now i c.args.thread c.virtual_picks.result c.args.shared.now c.args.stack.now) (sym c.in-InvokeVirtual.is)
    (at_virtual c.instructions_are_done.ensures.holds c.args.program.now c.args.thread c.virtual_picks.result c.args.shared.now c.args.stack.now c.in-InvokeVirtual.parameters c.in-InvokeVirtual.place c.virtual_picks.ensures)

pub returns-in-InvokeInterface : goal.returns-in-InvokeInterface
returns-in-InvokeInterface c =
    subst (λ i. PicksAt c.args.program.now i c.args.thread c.interface_picks.result c.args.shared.now c.args.stack.now) (sym c.in-InvokeInterface.is)
    (at_interface c.instructions_are_done.ensures.holds c.args.program.now c.args.thread c.interface_picks.result c.args.shared.now c.args.stack.now c.in-InvokeInterface.parameters c.in-InvokeInterface.selector c.interface_picks.ensures)

pub returns-in_default : goal.returns-in_default
returns-in_default c = λ trees bounds inflated state frame rest code site meaning frames is k.
    not_may trees frames c.args.thread k state.world frame rest site meaning is.stands.at
    (picks_none trees c.args.program.now (offset_in code.starts.items) code.instructions.items site is.shown.place meaning is.stands.at.means c.args.instruction is.stands.linked
    c.in_default.not-InvokeSpecial c.in_default.not-InvokeVirtual c.in_default.not-InvokeInterface)
