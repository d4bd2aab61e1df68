use Rattle.machine_state.proofs.method_selection.Selecting.{virtual_selected}
use Rattle.machine_state.proofs.method_selection.virtuals.select_virtual.Goals as goal

pub returns : goal.returns
returns c = virtual_selected c.args.program.now c.args.class c.args.place _ c.selection_at.ensures
