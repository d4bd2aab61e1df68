use Rattle.std.proofs.Common.{subst}
use Rattle.std.proofs.lemmas.Result.{IfOk-weaker}
use Rattle.model.specs.Classes.{Program}
use Rattle.model.specs.Schedule.{events_of}
use Rattle.state_races.specs.reached_races.Reached.{TellsLine}
use Rattle.state_races.proofs.reached_races.Lines.{line_reached}
use Rattle.state_races.proofs.reached_races.race_line.Goals as goal

pub returns-in-Most : goal.returns-in-Most
returns-in-Most c =
    IfOk-weaker c.line_at.result _ _
    (λ line told. line_reached c.args.verified.now c.args.limits c.in_ok-machine.machine c.run_schedule-why.new.machine c.in_ok-machine.ensures
    (events_of c.args.schedule.now) c.run_schedule-why.result c.run_schedule-why.ensures c.in-Most.is c.requires line.items
    (subst (λ (trees : Program). TellsLine trees c.run_schedule-why.new.machine line.items) c.linked.ensures.same told))
    c.line_at.ensures
