-- How far classes are, as rows of words (own).
use Rattle.std.specs.Prelude.{ℕ, ◌+◌, List, map}
use Rattle.machine_state.specs.declared.state.ClassStatus.{ClassStatus}
use Rattle.machine_state.specs.declared.state.ClassStatus.TheVariants as status

abbrev pub status_code : ClassStatus → ℕ
status_code status.NotInitialised = 0
status_code status.Initialised = 1
status_code status.Erroneous = 2
status_code (status.InProgress thread) = thread + 3

abbrev pub statuses_row : List ClassStatus → List ℕ
statuses_row statuses = map status_code statuses
