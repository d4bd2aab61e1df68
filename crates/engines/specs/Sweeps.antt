-- What the engine of sweeps answers and writes, by the bytes that its devices hold. Where a device says nothing of its bytes,
-- they are any that it may have handed over.
use Rattle.std.specs.Prelude.{◌≡◌, ◌⊎◌, ◌++◌, ℕ, Bool, true, false, List, [], ◌∷◌, Option, Some, None, codes, is_some, length, string_bytes, unwrap_or}
use Rattle.std.specs.List.{flat_map}
use Rattle.std.specs.declared.string.String.{String}
use Rattle.std.specs.Global.{Global}
use Rattle.model.specs.declared.limits.Limits.{Limits}
use Rattle.model.specs.Accepted.{IsAccepted}
use Rattle.model.specs.Classes.{Program}
use Rattle.model.specs.Devices.{AppendsFront}
use Rattle.model.specs.Report.{number}
use Rattle.command_line.specs.Choices.{AreChosen}
use Rattle.command_line.specs.declared.options.LimitOptions.{LimitOptions}
use Rattle.command_line.specs.declared.options.Run.{Run}
use Rattle.command_line.specs.declared.sweep_options.SweepOptions.{SweepOptions}
use Rattle.command_line.specs.declared.sweep_options.SweepPolicy.{SweepPolicy}
use Rattle.command_line.specs.declared.sweep_options.SweepPolicy.TheVariants as asked
use Rattle.search.specs.declared.run_outcomes.wanted.Wanted.{Wanted}
use Rattle.sweeps.specs.Policies.{IsRunWith, RunsBy}
use Rattle.sweeps.specs.Sweeps.{Sweeps}
use Rattle.sweeps.specs.Texts.{sweep_text}
use Rattle.sweeps.specs.declared.policy_runs.SeededPolicy.{SeededPolicy}
use Rattle.sweeps.specs.declared.policy_runs.SeededPolicy.TheVariants as seeded
use Rattle.sweeps.specs.declared.sweeping.SweepReport.{SweepReport}
use Rattle.race_sweeps.specs.declared.race_sweeping.RaceSweep.{RaceSweep}
use Rattle.race_sweeps.specs.race_sweeping.Swept.{SweepsForRace}
use Rattle.engines.specs.Engines.{ReadsEach}
use Rattle.engines.specs.OutcomeFiles.{AreOutcomeFiles}
use Rattle.engines.specs.RecordForms.{record_form, recorded_as}
use Rattle.engines.specs.Refusals.{IsRefused}
use Rattle.engines.specs.Statuses.{sweep_status}
use Rattle.engines.specs.Verifications.{IsUnread}
use Rattle.engines.specs.declared.fault.Fault.{Fault}
use Rattle.engines.specs.declared.fault.Fault.TheVariants as faults
use Rattle.engines.specs.declared.status.Status.{Status}

abbrev pub seeded_policy : SweepPolicy → SeededPolicy
seeded_policy asked.Mixed = seeded.Mixed
seeded_policy asked.Random = seeded.Random

-- ---- the words that repeat a run, behind its seed

abbrev pub policy_words : SweepPolicy → List ℕ
policy_words asked.Mixed = []
policy_words asked.Random = codes " --policy random"

-- an option with its number, where it is asked for
abbrev pub number_words : (name : List ℕ) → Option ℕ → List ℕ
number_words name None = []
number_words name (Some n) = name ++ number n

abbrev pub limit_words : LimitOptions → List ℕ
limit_words limits =
    number_words (codes " --objects ") limits.objects
    ++ (number_words (codes " --cells ") limits.cells
    ++ (number_words (codes " --monitors ") limits.monitors
    ++ (number_words (codes " --threads ") limits.threads ++ number_words (codes " --frames ") limits.frames)))

-- whether no class of the library is added
abbrev pub alone_words : Bool → List ℕ
alone_words true = codes " --files-alone"
alone_words false = []

abbrev pub main_words : Option (String Global) → List ℕ
main_words None = []
main_words (Some name) = codes " --main " ++ string_bytes name

abbrev pub file_words : List (String Global) → List ℕ
file_words files = flat_map (λ file. 32 ∷ string_bytes file) files

-- the flag that has the races of a run told
abbrev pub race_words : (for_race : Bool) → List ℕ
race_words true = codes " --races"
race_words false = []

-- whether it is for a race, the policy, the limits that are asked for, whether the files stand alone, the class whose main is run, and the files
abbrev pub repeat_words : Run → SweepOptions → List ℕ
repeat_words run sweep =
    race_words sweep.for_race
    ++ (policy_words sweep.policy ++ (limit_words run.limits ++ (alone_words run.files_alone ++ (main_words run.main ++ file_words run.files.items))))

-- ---- what is written

-- A sweep ends at a run that shows what is wanted, and has no lines of its own; or, for a race, at one that has a data race
-- (JLS 17.4.5), and its lines are those of the races of its last run.
abbrev pub SweepsBy : (for_race : Bool) → RunsBy → (may_stop : Bool) → Wanted → (first last : ℕ) → SweepReport → (lines : List ℕ) → Type 0
SweepsBy false by may_stop want first last swept lines = Sweeps (IsRunWith by) may_stop want first last swept × (lines ≡ [])
SweepsBy true by may_stop want first last swept lines = (s : RaceSweep) × (s.report ≡ swept) × (s.races.lines.items ≡ lines) × SweepsForRace by may_stop first last s

-- A sweep by the policy over the seeds, within the limits and with the budget for each run, comes to this; and this is its text, and
-- its status. Where they are asked for, the bytes of files spell the schedules of the first runs of the outcomes, as they are recorded.
pub record IsSwept (given : ℕ) (files : List (List ℕ)) (trees : Program) (run : Run) (sweep : SweepOptions) (may_stop : Bool) (want : Wanted) (text : List ℕ)
    (schedules : List (List ℕ)) (status : Status) : Type 0 where
  pub limits : Limits
  pub chosen : AreChosen run.limits limits
  pub swept : SweepReport
  pub lines : List ℕ
  pub sweeps : SweepsBy sweep.for_race (record { policy = seeded_policy sweep.policy; trees = trees; limits = limits; budget = unwrap_or run.options.budget 10000000 }) may_stop want sweep.seeds.first sweep.seeds.last
      swept lines
  pub told : text ≡ lines ++ sweep_text (seeded_policy sweep.policy) swept.first (repeat_words run sweep) swept.tally swept.end
  pub spelled : AreOutcomeFiles (is_some run.record) (recorded_as limits (record_form given run.as_version) files) swept.tally.same schedules
  pub ended : status ≡ sweep_status swept.end

-- the same of what these sources hold, which are class files that are accepted
pub record SweepsOver (given : ℕ) (lefts : List (Option (List ℕ))) (run : Run) (sweep : SweepOptions) (may_stop : Bool) (want : Wanted) (text : List ℕ)
    (schedules : List (List ℕ)) (status : Status) : Type 0 where
  pub files : List (List ℕ)
  pub read : ReadsEach lefts files
  pub trees : Program
  pub accepted : IsAccepted files trees
  pub swept : IsSwept given files trees run sweep may_stop want text schedules status

-- ---- what is written where there is a fault

-- nothing; or a front of the text
abbrev pub SweepsPart : (given : ℕ) → List (Option (List ℕ)) → Run → SweepOptions → (may_stop : Bool) → Wanted → (old new : Option (List ℕ)) → Type 0
SweepsPart given lefts run sweep may_stop want old new = (new ≡ old)
    ⊎ ((text : List ℕ) × (schedules : List (List ℕ)) × (status : Status) × SweepsOver given lefts run sweep may_stop want text schedules status × AppendsFront old new text)

-- When a fault is answered, and what is written then.
abbrev pub IsUnswept : (given : ℕ) → List (Option (List ℕ)) → Run → SweepOptions → (may_stop : Bool) → Wanted → (old new : Option (List ℕ)) → Fault → Type 0
IsUnswept given lefts run sweep may_stop want old new faults.Device = SweepsPart given lefts run sweep may_stop want old new
IsUnswept given lefts run sweep may_stop want old new faults.Memory = SweepsPart given lefts run sweep may_stop want old new
-- memory for the reading aside, the class files are refused
IsUnswept given lefts run sweep may_stop want old new (faults.Refusal refusal) = (new ≡ old) × (IsUnread (length lefts) refusal
    ⊎ ((files : List (List ℕ)) × ReadsEach lefts files × IsRefused files refusal))
IsUnswept given lefts run sweep may_stop want old new (faults.Schedule fault) = ⊥
IsUnswept given lefts run sweep may_stop want old new (faults.Text fault) = ⊥
IsUnswept given lefts run sweep may_stop want old new (faults.Place missing) = ⊥
