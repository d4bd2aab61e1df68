use Rattle.std.proofs.Common.{Some, None, subst}
use Rattle.thread_stacks.specs.Stacks.{shown_frame}
use Rattle.next_accesses.specs.access_tables.Tables.{IsInstructionAt}
use Rattle.race_actions.proofs.looking.Parts.{frame_known, frame_unknown}
use Rattle.race_actions.proofs.looking.standing_in.Goals as goal

pub returns-in-Some : goal.returns-in-Some
returns-in-Some c =
    frame_known c.no_event_is_wrong.ensures.holds c.receivers_fit.ensures.holds c.operands_are_read.ensures.holds c.tops_are_shown.ensures.holds
    c.args.tables.now.linked.now c.args.program.now c.args.shared.now c.args.thread c.args.stack.now (shown_frame c.args.frame.now) c.offset_of-offset.result c.offset_of-offset.ensures
    c.in-Some.instruction
    (subst (λ files. IsInstructionAt files c.args.frame.now.method c.offset_of-offset.result (Some c.in-Some.instruction)) c.args.tables.now.calls_are c.in-Some.ensures)
    c.class_of-class.result c.class_of-class.ensures c.called_by.result c.called_by.ensures

pub returns-in-None : goal.returns-in-None
returns-in-None c =
    frame_unknown c.no_event_is_wrong.ensures.holds c.receivers_fit.ensures.holds c.operands_are_read.ensures.holds c.tops_are_shown.ensures.holds
    c.args.tables.now.linked.now c.args.program.now c.args.shared.now c.args.thread c.args.stack.now (shown_frame c.args.frame.now) c.offset_of-offset.result c.offset_of-offset.ensures
    (subst (λ files. IsInstructionAt files c.args.frame.now.method c.offset_of-offset.result None) c.args.tables.now.calls_are c.in-None.ensures)
    c.standing_nowhere.result
