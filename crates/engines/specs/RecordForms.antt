-- What a schedule file that is recorded tells of a run of class files (own).
use Rattle.std.specs.Prelude.{ℕ, List, Option, Some}
use Rattle.model.specs.declared.limits.Limits.{Limits}
use Rattle.schedule.specs.Files.{Recording}
use Rattle.engines.specs.Recordings.{recording_over}
use Rattle.engines.specs.Transcriptions.{told_as}
use Rattle.engines.specs.declared.recording.RecordForm.{RecordForm}

abbrev pub record_form : (given : ℕ) → (as_version : Option ℕ) → RecordForm
record_form given as_version = record { given = given; as_version = as_version }

-- with what the run is recorded, as far as a file of the version tells it
abbrev pub recorded_as : Limits → RecordForm → (files : List (List ℕ)) → Option Recording
recorded_as limits form files = told_as form.as_version (Some (recording_over limits form.given files))
