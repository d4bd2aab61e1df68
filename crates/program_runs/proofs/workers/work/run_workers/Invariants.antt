use Rattle.program_runs.proofs.workers.work.run_workers.Given as goal

-- what the world was opened with, and whether the gate may stop it
abbrev pub ghosts-run_world : goal.ghosts-run_world
ghosts-run_world g a = record { trees = a.world.trees; limits = a.world.machine.limits; budget = a.world.budget; may_stop = g.G.Gate.may_stop a.gate.now }
