use Rattle.std.proofs.Common.{sym, subst, ◌∙◌}
use Rattle.std.specs.Prelude.{IfOk}
use Rattle.std.specs.Arc.{arc_value}
use Rattle.model.specs.Classes.{Program}
use Rattle.model.specs.Schedule.{events_of}
use Rattle.machine.specs.Machines.{IsProgramOf}
use Rattle.machine.specs.machine_replay.Replays.{IsReplay}
use Rattle.program_runs.proofs.verified_programs.program.replay.Goals as goal

pub replay-requires : goal.replay-requires
replay-requires c =
    subst (λ (t : Program). IsProgramOf t (arc_value c.in_ok-program.program)) (sym (c.set.ensures.same ∙ c.linked.ensures.same)) c.in_ok-program.ensures

pub returns : goal.returns
returns c =
    subst (λ (t : Program). IfOk c.replay.result (λ r. IsReplay t (events_of c.args.schedule.now) c.args.limits r.0 r.1)) (c.set.ensures.same ∙ c.linked.ensures.same) c.replay.ensures
