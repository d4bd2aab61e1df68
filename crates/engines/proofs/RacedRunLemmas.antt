-- What is told of the races of a recorded run, before its report.
use Rattle.std.proofs.Common.{◌≡◌, ℕ, Bool, false, List, [], refl, subst, sym}
use Rattle.std.specs.Arc.{arc_value}
use Rattle.model.specs.declared.limits.Limits.{Limits}
use Rattle.model.specs.Accepted.{IsAccepted}
use Rattle.model.specs.Classes.{Program}
use Rattle.model.specs.Schedule.{events_of}
use Rattle.program_runs.specs.declared.worlds.records.Recorded.{Recorded}
use Rattle.program_runs.specs.worlds.Records.{IsRecorded, IsRecordWithin}
use Rattle.recorded_races.specs.record_races.Told.{WasRecorded}
use Rattle.engines.specs.RacedRuns.{IsBehindRaces}
use Rattle.engines.specs.Runs.{IsToldBefore}
use Rattle.engines.specs.Theorem.{raced_status}
use Rattle.engines.specs.declared.running.Outcome.{Outcome}
use Rattle.engines.specs.declared.status.Status.{Status}
use Rattle.engines.specs.declared.status.Status.TheVariants as statuses

-- without races the status is the report's
plain_status : (status : Status) → status ≡ raced_status status false
plain_status statuses.Stopped = refl
plain_status _ = refl

pub no_races : (asked : Bool) → asked ≡ false → (r : Recorded) (outcome : Outcome) → IsBehindRaces asked r outcome outcome
no_races asked none r outcome = record {
  lines = [];
  has_race = false;
  raced = subst (λ b. IsToldBefore b (arc_value r.verified) r.limits.frames (events_of r.schedule) [] false) (sym none) (refl, refl);
  text = refl;
  status = plain_status outcome.status;
  file = refl;
}

-- the record that was asked for is one of a run of the class files
pub was_recorded : (files : List (List ℕ)) (trees : Program) → IsAccepted files trees → (may_stop : Bool) (limits : Limits) (budget : ℕ) (r : Recorded)
    → IsRecordWithin may_stop trees limits budget r → WasRecorded r
was_recorded files trees accepted may_stop limits budget r within =
    let is = within.2 in
    record {
      files = files;
      accepted = subst (IsAccepted files) (sym is.0) accepted;
      budget = within.0;
      recorded = subst (λ (l : Limits). IsRecorded (arc_value r.verified) l within.0 (events_of r.schedule) r.report r.end) (sym is.1)
          (subst (λ (t : Program). IsRecorded t limits within.0 (events_of r.schedule) r.report r.end) (sym is.0) is.3);
    }

-- and the races are those of its events, over the class files that were asked for
pub told_before : (races : Bool) (trees : Program) (may_stop : Bool) (limits : Limits) (budget : ℕ) (r : Recorded) → IsRecordWithin may_stop trees limits budget r
    → (lines : List ℕ) (has_race : Bool) → IsToldBefore races (arc_value r.verified) r.limits.frames (events_of r.schedule) lines has_race
    → IsToldBefore races trees limits.frames (events_of r.schedule) lines has_race
told_before races trees may_stop limits budget r within lines has_race told =
    let is = within.2 in
    subst (λ (l : Limits). IsToldBefore races trees l.frames (events_of r.schedule) lines has_race) is.1
    (subst (λ (t : Program). IsToldBefore races t r.limits.frames (events_of r.schedule) lines has_race) is.0 told)
