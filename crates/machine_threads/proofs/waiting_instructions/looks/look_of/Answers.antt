use Rattle.std.proofs.Common.{sym, ap, ◌∙◌}
use Rattle.linked_code.specs.Linked.{offset_in}
use Rattle.model.specs.ClassInitialisation.{look_at}
use Rattle.machine_threads.proofs.waiting_instructions.looks.look_of.Goals as goal

pub returns-in-Some : goal.returns-in-Some
returns-in-Some c = λ trees p bounds inflated stack state frame rest code site meaning is.
    let n = c.in-Some.ensures trees p (offset_in code.starts.items) code.instructions.items site is.shown.place meaning is.stands.linked is.stands.at.means in
    c.look.ensures trees p bounds state.world is.program is.lent.represents n.0 n.2 ∙ sym (ap (look_at c.args.thread state.world) n.1)

pub returns-in-None : goal.returns-in-None
returns-in-None c = λ trees p bounds inflated stack state frame rest code site meaning is.
    sym (c.in-None.ensures trees p (offset_in code.starts.items) code.instructions.items site is.shown.place meaning is.stands.linked is.stands.at.means c.args.thread state.world)
