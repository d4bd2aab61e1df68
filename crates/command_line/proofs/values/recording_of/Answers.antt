use Rattle.command_line.proofs.ProgramLemmas.{handed_on}
use Rattle.command_line.proofs.values.recording_of.Goals as goal

pub returns-in_err-as_version-clause-none : goal.returns-in_err-as_version-clause-none
returns-in_err-as_version-clause-none c =
    handed_on c.from_residual.result c.in_err-as_version.field-0.0 _ _ c.from_residual.ensures.1 c.in_err-as_version.ensures.none
    (λ none. none)

pub returns-clause-recording : goal.returns-clause-recording
returns-clause-recording c = record { path = c.in_ok-record.ensures; version = c.in_ok-as_version.ensures.version }
