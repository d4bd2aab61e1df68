use Rattle.sweeps.proofs.RunsSwept.{has_run}
use Rattle.sweeps.proofs.sweeping.run_seed.Goals as goal

pub returns-clause-has_run : goal.returns-clause-has_run
returns-clause-has_run g c =
    has_run _ c.args.wanted.now c.args.seed c.args.tally.now c.add.new.self c.in_ok-run.field-0 c.of-ran.result c.in_ok-run.ensures.is c.of-ran.ensures.shown c.of-ran.ensures.events c.of-ran.ensures.count
    c.in_ok-add.ensures c.in_ok-is_wanted.is_wanted c.in_ok-is_wanted.ensures
