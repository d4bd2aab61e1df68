-- A run whose races are told before its report.
use Rattle.std.specs.Prelude.{◌≡◌, ◌++◌, ℕ, Bool, List}
use Rattle.std.specs.Arc.{arc_value}
use Rattle.model.specs.Schedule.{events_of}
use Rattle.program_runs.specs.declared.worlds.records.Recorded.{Recorded}
use Rattle.engines.specs.Runs.{IsToldBefore}
use Rattle.engines.specs.Theorem.{raced_status}
use Rattle.engines.specs.declared.running.Outcome.{Outcome}

-- the file is the same; the text and the status of another outcome are behind what is told of the races of the record, where that is asked for
pub record IsBehindRaces (asked : Bool) (r : Recorded) (old new : Outcome) : Type 0 where
  pub lines : List ℕ
  pub has_race : Bool
  pub raced : IsToldBefore asked (arc_value r.verified) r.limits.frames (events_of r.schedule) lines has_race
  pub text : new.text.items ≡ lines ++ old.text.items
  pub status : new.status ≡ raced_status old.status has_race
  pub file : new.file ≡ old.file
