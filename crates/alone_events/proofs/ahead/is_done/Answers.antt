use Rattle.std.proofs.Common.{Ok, ap, subst, ◌∙◌}
use Rattle.machine.specs.Machines.{Steps}
use Rattle.machine_state.specs.linked_frames.Frames.{event_of}
use Rattle.alone_events.proofs.Told.{done_once, not_enabled, refused}
use Rattle.alone_events.proofs.ahead.is_done.Goals as goal

pub returns-in-Ok-Done : goal.returns-in-Ok-Done
returns-in-Ok-Done c =
    done_once c.runs_go_on.ensures.holds c.args.thread c.args.machine.now c.step.new.self
    (subst (λ r. Steps r (event_of c.args.thread) c.args.machine.now c.step.new.self) (c.in-Ok-Done.is ∙ ap Ok c.in-Ok-Done.field-0-is) c.step.ensures)

pub returns-in-Ok-NotEnabled : goal.returns-in-Ok-NotEnabled
returns-in-Ok-NotEnabled c =
    not_enabled c.runs_go_on.ensures.holds c.args.thread c.args.machine.now c.step.new.self
    (subst (λ r. Steps r (event_of c.args.thread) c.args.machine.now c.step.new.self) (c.in-Ok-NotEnabled.is ∙ ap Ok c.in-Ok-NotEnabled.field-0-is) c.step.ensures)

pub returns-in-Err : goal.returns-in-Err
returns-in-Err c =
    refused c.runs_go_on.ensures.holds c.args.thread c.args.machine.now c.step.new.self c.in-Err._refusal
    (subst (λ r. Steps r (event_of c.args.thread) c.args.machine.now c.step.new.self) c.in-Err.is c.step.ensures)
