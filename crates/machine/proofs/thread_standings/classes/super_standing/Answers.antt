use Rattle.std.proofs.Common.{Some, None, not, sym, ap, ◌∙◌}
use Rattle.model.specs.Report as report
use Rattle.model.specs.Step.{before}
use Rattle.machine_state.proofs.class_initialisation.Supers.{some_first, none_first}
use Rattle.machine.proofs.thread_standings.Enabled.{ends_on, ends_waiting, super_enabled}
use Rattle.machine.proofs.thread_standings.classes.super_standing.Goals as goal

pub returns-in-None : goal.returns-in-None
returns-in-None c = λ trees bounds world program r class rest at frames.
    ends_on trees _ _ (super_enabled trees frames c.args.thread class world rest None (none_first trees (before trees class) (c.in-None.ensures trees program class at)))

pub returns-then-is_held : goal.returns-then-is_held
returns-then-is_held c = λ trees bounds world program r class rest at frames.
    let first = some_first trees c.in-Some.first (before trees class) (c.in-Some.ensures trees program class at) in
    ends_waiting trees _ report.Initialising
    (super_enabled trees frames c.args.thread class world rest (Some first.0) first.1 ∙ ap not (sym (c.if-is_held.ensures trees c.args.program.now bounds world program r first.0 first.2)))

pub returns-else-is_held : goal.returns-else-is_held
returns-else-is_held c = λ trees bounds world program r class rest at frames.
    let first = some_first trees c.in-Some.first (before trees class) (c.in-Some.ensures trees program class at) in
    ends_on trees _ _
    (super_enabled trees frames c.args.thread class world rest (Some first.0) first.1 ∙ ap not (sym (c.if-is_held.ensures trees c.args.program.now bounds world program r first.0 first.2)))
