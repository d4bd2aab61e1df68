use Rattle.std.proofs.Common.{None}
use Rattle.thread_stacks.specs.Stacks.{shown_frame}
use Rattle.next_accesses.proofs.next_access.Called.{called_told, no_place}
use Rattle.next_accesses.proofs.accessing_calls.accessing_called.Goals as goal

pub returns-in-Some : goal.returns-in-Some
returns-in-Some c =
    called_told c.no_event_is_wrong.ensures.holds c.receivers_fit.ensures.holds c.operands_are_read.ensures.holds c.tops_are_shown.ensures.holds
    c.args.tables.now.linked.now c.args.program.now c.args.shared.now c.args.thread (shown_frame c.args.frame.now) c.args.instruction c.called_in.result
    c.in-Some.place (c.in-Some.ensures.method c.args.tables.now.linked.now c.args.tables.now.numbered) c.called_in.ensures

pub returns-in-None : goal.returns-in-None
returns-in-None c =
    no_place c.no_event_is_wrong.ensures.holds c.receivers_fit.ensures.holds c.operands_are_read.ensures.holds c.tops_are_shown.ensures.holds
    c.args.tables.now.linked.now c.args.program.now c.args.shared.now c.args.thread (shown_frame c.args.frame.now) c.args.instruction None
    (c.in-None.ensures.method c.args.tables.now.linked.now c.args.tables.now.numbered)
