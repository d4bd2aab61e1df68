use Rattle.std.proofs.Common.{refl}
use Rattle.race_actions.proofs.looking.Events.{event_known}
use Rattle.race_actions.proofs.looking.looked_at.Goals as goal

pub returns : goal.returns
returns c =
    event_known c.rules_are_meant.ensures.holds c.args.tables.now.linked.now c.args.program.now c.args.shared.now c.args.thread c.args.stack.now c.next_rule-rule.result c.next_rule-rule.ensures
    c.standing_by-standing.result c.standing_by-standing.ensures c.class_needed_by-needed.result c.class_needed_by-needed.ensures _ c.found_class.ensures c.finds_of.ensures
    c.interrupt_of.ensures c.meant_before-object.ensures c.owns.ensures c.len.ensures c.len-2.ensures.length c.interrupted.ensures
    c.class_on_top-class.ensures c.was_finished.ensures refl
