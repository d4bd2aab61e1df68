use Rattle.thread_rules.proofs.next_rules.Shown.{rules_meant}
use Rattle.thread_rules.proofs.next_rules.rules_are_meant.Goals as goal

pub returns : goal.returns
returns c = record { holds = rules_meant c.stacks_are_lent.ensures.holds c.frames_stand.ensures.holds }
