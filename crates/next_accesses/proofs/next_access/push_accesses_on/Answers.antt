use Rattle.std.proofs.Common.{List, refl}
use Rattle.std.specs.Option.{option_to_list}
use Rattle.std.proofs.lemmas.Result.{on_ok_weaker}
use Rattle.thread_stacks.specs.Stacks.{shown_frame}
use Rattle.next_accesses.specs.next_access.Called.{AccessesBy}
use Rattle.next_accesses.specs.next_access.Next.{TellsFrame}
use Rattle.next_accesses.proofs.next_access.Adding.{adds_as, adds_none, adds_told}
use Rattle.next_accesses.proofs.next_access.Meant.{no_instruction_told, called_told, goes_told, stays_told}
use Rattle.next_accesses.proofs.next_access.push_accesses_on.Goals as goal

pub returns-in_default : goal.returns-in_default
returns-in_default c =
    let trees = c.args.tables.now.linked.now in
    adds_none (TellsFrame trees c.args.program.now c.args.shared.now c.args.thread (shown_frame c.args.frame.now)) c.args.found.now.items
    (no_instruction_told c.no_event_is_wrong.ensures.holds c.receivers_fit.ensures.holds c.operands_are_read.ensures.holds c.tops_are_shown.ensures.holds
    trees c.args.program.now c.args.shared.now c.args.thread (shown_frame c.args.frame.now) c.offset_of-offset.result c.offset_of-offset.ensures c.in_default.ensures)

pub returns-in-Some-accessing_called : goal.returns-in-Some-accessing_called
returns-in-Some-accessing_called c =
    let trees = c.args.tables.now.linked.now in
    let frame = shown_frame c.args.frame.now in
    on_ok_weaker c.push_called.result
    (adds_as (AccessesBy trees c.args.program.now c.args.shared.now.heap.objects frame.operands c.in-Some-accessing_called.method)
    (TellsFrame trees c.args.program.now c.args.shared.now c.args.thread frame) c.args.found.now.items c.push_called.new.found.items
    (λ told h. called_told c.no_event_is_wrong.ensures.holds c.receivers_fit.ensures.holds c.operands_are_read.ensures.holds c.tops_are_shown.ensures.holds
    trees c.args.program.now c.args.shared.now c.args.thread frame c.offset_of-offset.result c.offset_of-offset.ensures
    c.in-Some.instruction c.in-Some.ensures c.in-Some-accessing_called.method c.in-Some-accessing_called.ensures told h))
    c.push_called.ensures

pub returns-then-goes_on : goal.returns-then-goes_on
returns-then-goes_on c =
    let trees = c.args.tables.now.linked.now in
    let frame = shown_frame c.args.frame.now in
    on_ok_weaker c.push.result
    (λ e. adds_told (TellsFrame trees c.args.program.now c.args.shared.now c.args.thread frame) c.args.found.now.items c.push.new.found.items
    (option_to_list c.access_of.result) e
    (goes_told c.no_event_is_wrong.ensures.holds c.receivers_fit.ensures.holds c.operands_are_read.ensures.holds c.tops_are_shown.ensures.holds
    trees c.args.program.now c.args.shared.now c.args.thread frame c.offset_of-offset.result c.offset_of-offset.ensures
    c.in-Some.instruction c.in-Some.ensures c.in-None.ensures c.field_named-field.result c.field_named-field.ensures c.goes_on.result c.goes_on.ensures
    c.access_of.result c.access_of.ensures c.if-goes_on.true))
    c.push.ensures

pub returns-else-goes_on : goal.returns-else-goes_on
returns-else-goes_on c =
    let trees = c.args.tables.now.linked.now in
    let frame = shown_frame c.args.frame.now in
    adds_none (TellsFrame trees c.args.program.now c.args.shared.now c.args.thread frame) c.args.found.now.items
    (stays_told c.no_event_is_wrong.ensures.holds c.receivers_fit.ensures.holds c.operands_are_read.ensures.holds c.tops_are_shown.ensures.holds
    trees c.args.program.now c.args.shared.now c.args.thread frame c.offset_of-offset.result c.offset_of-offset.ensures
    c.in-Some.instruction c.in-Some.ensures c.in-None.ensures c.field_named-field.result c.field_named-field.ensures c.goes_on.result c.goes_on.ensures c.if-goes_on.false)
