use Rattle.race_sweeps.proofs.race_sweeping.RunsRaced.{has_raced_run, was_recorded}
use Rattle.race_sweeps.proofs.race_sweeping.run_seed.Goals as goal

pub record_races-requires : goal.record_races-requires
record_races-requires g c = was_recorded c.args.runs.now c.args.seed c.in_ok-recorded.recorded c.requires.accepted c.in_ok-recorded.ensures.is

pub returns-clause-has_run : goal.returns-clause-has_run
returns-clause-has_run g c =
    has_raced_run c.args.runs.now c.args.seed c.args.tally.now c.add.new.self c.in_ok-recorded.recorded c.of.result c.in_ok-told.told c.in_ok-recorded.ensures.is c.of.ensures.shown c.of.ensures.events
    c.of.ensures.count c.in_ok-add.ensures c.in_ok-told.ensures
