use Rattle.std.proofs.Common.{inl, inr, sym, ap, subst, ◌∙◌}
use Rattle.machine_state.specs.class_initialisation.Statuses.{shown_look}
use Rattle.machine_threads.specs.waiting_instructions.Waits.{IsEnd}
use Rattle.machine_threads.proofs.waiting_instructions.Ends.{ready_stands, held_stands, new_stands, failed_stands}
use Rattle.machine_threads.proofs.waiting_instructions.instructions.standing_at.Goals as goal

pub returns-in-Ready : goal.returns-in-Ready
returns-in-Ready c = λ trees bounds inflated state frame rest code site meaning is.
    subst (IsEnd trees c.ready_standing.result)
    (sym (ready_stands trees c.args.frames c.args.thread state.world frame rest site meaning is.stands.at c.instructions_are_done.ensures.holds
    (sym (c.look_of.ensures trees c.args.program.now bounds inflated c.args.stack.now state frame rest code site meaning is) ∙ ap shown_look c.in-Ready.is)))
    (c.ready_standing.ensures trees bounds inflated state frame rest code site meaning is)

pub returns-in-Held : goal.returns-in-Held
returns-in-Held c = λ trees bounds inflated state frame rest code site meaning is.
    held_stands trees c.args.frames c.args.thread state.world frame rest site meaning is.stands.at
    (sym (c.look_of.ensures trees c.args.program.now bounds inflated c.args.stack.now state frame rest code site meaning is) ∙ ap shown_look c.in-Held.is)

pub returns-in-New : goal.returns-in-New
returns-in-New c = λ trees bounds inflated state frame rest code site meaning is.
    let looks = sym (c.look_of.ensures trees c.args.program.now bounds inflated c.args.stack.now state frame rest code site meaning is) in
    elim c.in-New.is [
      | inl e ↦ new_stands trees c.args.frames c.args.thread state.world frame rest site meaning is.stands.at (looks ∙ ap shown_look e)
      | inr e ↦ failed_stands trees c.args.frames c.args.thread state.world frame rest site meaning is.stands.at (looks ∙ ap shown_look e)
    ]
