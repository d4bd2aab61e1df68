use Rattle.std.proofs.Common.{map, take, vec_items}
use Rattle.sweeps.specs.Tallies.{same_in}
use Rattle.engines.specs.OutcomeFiles.{AreFilesOf, outcomes_of}
use Rattle.engines.specs.RecordForms.{recorded_as}
use Rattle.engines.proofs.sweep_records.files_of.Given as goal

-- the outcomes so far have their files
abbrev pub invariant-loop-same : goal.invariant-loop-same
invariant-loop-same l =
    AreFilesOf (recorded_as l.limits l.form (map vec_items l.files)) (outcomes_of (map same_in (take l.same-index l.listed))) (map vec_items l.made.items)
