use Rattle.std.proofs.Common.{subst}
use Rattle.model.specs.Classes.{Program}
use Rattle.model.specs.Schedule.{events_of}
use Rattle.race_runs.specs.raced_runs.Raced.{IsRacedRun}
use Rattle.recorded_races.proofs.record_races.Whole.{races_told}
use Rattle.recorded_races.proofs.record_races.record_races.Goals as goal

pub returns : goal.returns
returns c =
    let recorded = c.args.recorded.now in
    let run = c.in_ok-run.run' in
    races_told c.records_replay.ensures.holds recorded c.requires run
    (subst (λ (t : Program). IsRacedRun t (events_of recorded.schedule) recorded.limits run) c.deref.ensures c.in_ok-run.ensures)
    (c.wants_memory.ensures.goes_on c.if-wants_memory.false)
