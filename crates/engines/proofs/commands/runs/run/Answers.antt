use Rattle.engines.proofs.SweepLemmas.{sweep_done, sweep_undone}
use Rattle.engines.proofs.commands.runs.run.Goals as goal

pub returns-in-Some-clause-done : goal.returns-in-Some-clause-done
returns-in-Some-clause-done g c = sweep_done _ _ _ _ _ c.in-Some.sweep c.in-Some.is _ _ c.sweep_files.result c.sweep_files.ensures.done

pub returns-in-Some-clause-faulty : goal.returns-in-Some-clause-faulty
returns-in-Some-clause-faulty g c = sweep_undone _ _ _ _ _ c.in-Some.sweep c.in-Some.is _ _ c.sweep_files.result c.sweep_files.ensures.faulty
