use Rattle.std.proofs.Common.{refl, subst}
use Rattle.std.specs.Prelude.{IfOk}
use Rattle.model.specs.declared.limits.Limits.{Limits}
use Rattle.model.specs.Schedule.{events_of}
use Rattle.race_runs.specs.raced_runs.Raced.{IsRacedRun}
use Rattle.race_runs.proofs.raced_runs.races.Goals as goal

pub races_of-requires : goal.races_of-requires
races_of-requires c = let opened = c.in_ok-machine.ensures in record { files = opened.files; limits_are = refl; done = opened.done }

pub returns : goal.returns
returns c =
    subst (λ (limits : Limits). IfOk c.races_of.result (IsRacedRun c.args.verified.now (events_of c.args.schedule.now) limits)) c.in_ok-machine.ensures.limits_are c.races_of.ensures
