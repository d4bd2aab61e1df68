-- What a command does, by what the files hold that its words stand for: the text that it writes to the output, the files that it writes, and
-- its status (own). Each does what its engine does, with these files in their order.
use Rattle.std.specs.Prelude.{◌≡◌, ◌⊎◌, ◌<◌, ℕ, ◌-◌, ◌^◌, Bool, true, false, List, [], ◌∷◌, length, map, Option, Some, None, IsTrue, is_some, string_bytes, take, unwrap_or, vec_items, Result, Ok, Err}
use Rattle.std.specs.Option.{option_and_then, option_map}
use Rattle.std.specs.declared.string.String.{String}
use Rattle.std.specs.Global.{Global}
use Rattle.std.specs.Io.KnownBytes.{Appends}
use Rattle.model.specs.Devices.{AppendsFront}
use Rattle.program_runs.specs.declared.traced_runs.window.Window.{Window}
use Rattle.search.specs.declared.kinds.Goal.{Goal as SearchesFor}
use Rattle.search.specs.declared.run_outcomes.wanted.Wanted.{Wanted}
use Rattle.traces.specs.declared.form.Form.{Form}
use Rattle.traces.specs.declared.form.Form.TheVariants as lines
use Rattle.command_line.specs.CommandLine.{Asks, Fails, Refuses, Spells}
use Rattle.command_line.specs.declared.options.Command.{Command}
use Rattle.command_line.specs.declared.options.Command.TheVariants as commands
use Rattle.command_line.specs.declared.options.Goal.{Goal}
use Rattle.command_line.specs.declared.options.Goal.TheVariants as goals
use Rattle.command_line.specs.declared.options.Races.{Races}
use Rattle.command_line.specs.declared.options.Replay.{Replay}
use Rattle.command_line.specs.declared.options.Run.{Run}
use Rattle.command_line.specs.declared.options.Schedule.{Schedule}
use Rattle.command_line.specs.declared.options.Search.{Search}
use Rattle.command_line.specs.declared.options.ThenRun.{ThenRun}
use Rattle.command_line.specs.declared.options.Trace.{Trace}
use Rattle.command_line.specs.declared.options.TraceForm.{TraceForm}
use Rattle.command_line.specs.declared.options.TraceForm.TheVariants as forms
use Rattle.command_line.specs.declared.sweep_options.SweepOptions.{SweepOptions}
use Rattle.command_line.specs.declared.usage.Usage.{Usage}
use Rattle.engines.specs.Continuations.{Continues, IsUncontinued}
use Rattle.engines.specs.Devices.{IsUnable}
use Rattle.engines.specs.Files.{Held, IsWith, Listed, OfSchedule, Path, Written, held_at, known, written_at}
use Rattle.library_files.specs.Adding.{LibraryFile}
use Rattle.engines.specs.Handed.{AreHanded, IsUnread as IsUnreadFile, refused_name}
use Rattle.program_files.specs.Given.{AreGiven, IsUnable as IsUnableFor, IsUngiven, is_given}
use Rattle.program_files.specs.Handed.{AreHandedOn, IsUnhanded}
use Rattle.program_files.specs.declared.files_fault.FilesFault.{FilesFault}
use Rattle.engines.specs.Goals.{IsAskedFor, IsSearchedFor}
use Rattle.engines.specs.Libraries.{IsUnacceptedLibrary, VerifiesLibrary}
use Rattle.engines.specs.Listings.{AreClassFiles, IsUnlisted, IsUnnamed, Lists}
use Rattle.engines.specs.Opening.{IsKeptBy}
use Rattle.engines.specs.OutcomeFiles.{has_outcome, outcome_path, written_in}
use Rattle.engines.specs.RecordForms.{record_form}
use Rattle.engines.specs.Recordings.{conditions_of}
use Rattle.engines.specs.Replays.{IsFaulty}
use Rattle.engines.specs.Runs.{IsUnrun, Runs}
use Rattle.engines.specs.Searches.{IsUnsearched, Searches, most_states}
use Rattle.engines.specs.PagedRuns.{IsUnpaged, Pages}
use Rattle.engines.specs.Placings.{IsPlacesDone, IsPlacesUndone}
use Rattle.engines.specs.Shrinks.{IsShrinkDone, IsShrinkUndone}
use Rattle.engines.specs.Sweeps.{IsUnswept, SweepsOver}
use Rattle.engines.specs.Theorem.{Replays, TellsRaces}
use Rattle.engines.specs.Traces.{IsUntraced, Traces}
use Rattle.engines.specs.Races.{IsUnraced}
use Rattle.engines.specs.Transcriptions.{IsUnprinted, IsUntranscribed, Prints, Transcribes}
use Rattle.engines.specs.Verifications.{IsUnaccepted, Verifies}
use Rattle.engines.specs.declared.complaint.Complaint.{Complaint}
use Rattle.engines.specs.declared.complaint.Complaint.TheVariants as complaints
use Rattle.engines.specs.declared.fault.Fault.{Fault}
use Rattle.engines.specs.declared.recording.Conditions.{Conditions}
use Rattle.engines.specs.declared.status.Status.{Status}
use Rattle.engines.specs.declared.status.Status.TheVariants.{Returned}

-- ---- the files of a command

-- of a library no class has to come first
abbrev pub AreVerified : Held → Listed → (library : Bool) → (main : Option (List ℕ)) → (words files : List Path) → Type 0
AreVerified held listed true None words files = AreGiven listed words files
AreVerified held listed library main words files = AreHandedOn held listed main words files

-- why there are none
abbrev pub IsUnverified : Held → Listed → (library : Bool) → (main : Option (List ℕ)) → (words : List Path) → FilesFault → Type 0
IsUnverified held listed true None words fault = IsUngiven listed words fault
IsUnverified held listed library main words fault = IsUnhanded held listed main words fault

-- the class files that the words of a command stand for, in the order in which they are handed on
abbrev pub AreFiles : Held → Listed → Command → List Path → Type 0
AreFiles held listed (commands.Run run) files = AreHandedOn held listed (option_map string_bytes run.main) (map string_bytes run.files.items) files
AreFiles held listed (commands.Replay replay) files = AreHandedOn held listed (option_map string_bytes replay.main) (map string_bytes replay.files.items) files
AreFiles held listed (commands.Trace trace) files = AreHandedOn held listed (option_map string_bytes trace.main) (map string_bytes trace.files.items) files
AreFiles held listed (commands.Races races) files = AreHandedOn held listed (option_map string_bytes races.main) (map string_bytes races.files.items) files
AreFiles held listed (commands.Search search) files = AreHandedOn held listed (option_map string_bytes search.main) (map string_bytes search.files.items) files
AreFiles held listed (commands.Shrink shrink) files = AreHandedOn held listed (option_map string_bytes shrink.main) (map string_bytes shrink.files.items) files
AreFiles held listed (commands.Verify verify) files = AreVerified held listed verify.library (option_map string_bytes verify.main) (map string_bytes verify.files.items) files
AreFiles held listed (commands.Disasm disasm) files = AreGiven listed (map string_bytes disasm.files.items) files
AreFiles held listed (commands.Schedule schedule) files = files ≡ []
AreFiles held listed (commands.Places places) files = AreHandedOn held listed (option_map string_bytes places.main) (map string_bytes places.files.items) files

-- why there are none
abbrev pub HasNoFiles : Held → Listed → Command → FilesFault → Type 0
HasNoFiles held listed (commands.Run run) fault = IsUnhanded held listed (option_map string_bytes run.main) (map string_bytes run.files.items) fault
HasNoFiles held listed (commands.Replay replay) fault = IsUnhanded held listed (option_map string_bytes replay.main) (map string_bytes replay.files.items) fault
HasNoFiles held listed (commands.Trace trace) fault = IsUnhanded held listed (option_map string_bytes trace.main) (map string_bytes trace.files.items) fault
HasNoFiles held listed (commands.Races races) fault = IsUnhanded held listed (option_map string_bytes races.main) (map string_bytes races.files.items) fault
HasNoFiles held listed (commands.Search search) fault = IsUnhanded held listed (option_map string_bytes search.main) (map string_bytes search.files.items) fault
HasNoFiles held listed (commands.Shrink shrink) fault = IsUnhanded held listed (option_map string_bytes shrink.main) (map string_bytes shrink.files.items) fault
HasNoFiles held listed (commands.Verify verify) fault = IsUnverified held listed verify.library (option_map string_bytes verify.main) (map string_bytes verify.files.items) fault
HasNoFiles held listed (commands.Disasm disasm) fault = IsUngiven listed (map string_bytes disasm.files.items) fault
HasNoFiles held listed (commands.Schedule schedule) fault = IsUnableFor fault
HasNoFiles held listed (commands.Places places) fault = IsUnhanded held listed (option_map string_bytes places.main) (map string_bytes places.files.items) fault

-- where the schedule of a run is written, or its page
abbrev pub record_path : Command → Option Path
record_path (commands.Run run) = option_map string_bytes run.record
record_path (commands.Replay replay) = option_and_then (λ (then_run : ThenRun). option_map string_bytes then_run.record) replay.then_run
record_path (commands.Trace trace) = option_map string_bytes trace.html
record_path (commands.Races races) = None
record_path (commands.Search search) = option_map string_bytes search.record
record_path (commands.Shrink shrink) = option_map string_bytes shrink.record
record_path (commands.Verify verify) = None
record_path (commands.Disasm disasm) = None
record_path (commands.Schedule schedule) = None
record_path (commands.Places places) = None

-- it is none of these files
abbrev pub IsUnreadAt : (written : Option Path) → (files : List Path) → Type 0
IsUnreadAt None files = Unit {0}
IsUnreadAt (Some path) files = is_given files path ≡ false

-- it is one of them
abbrev pub IsReadAt : (written : Option Path) → (files : List Path) → Type 0
IsReadAt None files = ⊥
IsReadAt (Some path) files = is_given files path ≡ true

-- the folder in which the schedules of the outcomes of a sweep are written
abbrev pub outcome_folder : Command → Option Path
outcome_folder (commands.Run run) = option_and_then (λ (sweep : SweepOptions). option_map string_bytes run.record) run.sweep
outcome_folder (commands.Replay replay) = None
outcome_folder (commands.Trace trace) = None
outcome_folder (commands.Races races) = None
outcome_folder (commands.Search search) = None
outcome_folder (commands.Shrink shrink) = None
outcome_folder (commands.Verify verify) = None
outcome_folder (commands.Disasm disasm) = None
outcome_folder (commands.Schedule schedule) = None
outcome_folder (commands.Places places) = None

-- none of these files is such a schedule
abbrev pub IsUnreadIn : (folder : Option Path) → (files : List Path) → Type 0
IsUnreadIn None files = Unit {0}
IsUnreadIn (Some folder) files = (n : ℕ) → n < 2 ^ 64 → is_given files (outcome_path folder n) ≡ false

-- one of them may be, by its name
abbrev pub IsReadIn : (folder : Option Path) → (files : List Path) → Type 0
IsReadIn None files = ⊥
IsReadIn (Some folder) files = has_outcome folder files ≡ true

-- the path of the text behind `differs=`, if there is one
abbrev pub goal_texts : Option Goal → List Path
goal_texts (Some (goals.Differs path)) = string_bytes path ∷ []
goal_texts goal = []

-- that of a sweep
abbrev pub sweep_texts : Command → List Path
sweep_texts (commands.Run run) = unwrap_or (option_map (λ (sweep : SweepOptions). goal_texts sweep.goal) run.sweep) []
sweep_texts (commands.Replay replay) = []
sweep_texts (commands.Trace trace) = []
sweep_texts (commands.Races races) = []
sweep_texts (commands.Search search) = []
sweep_texts (commands.Shrink shrink) = []
sweep_texts (commands.Verify verify) = []
sweep_texts (commands.Disasm disasm) = []
sweep_texts (commands.Schedule schedule) = []
sweep_texts (commands.Places places) = []

-- what a command writes is none of these files, nor the text of a sweep; or it may be one
abbrev pub IsUnread : Command → (files : List Path) → Type 0
IsUnread command files =
    IsUnreadAt (record_path command) files × IsUnreadIn (outcome_folder command) files × IsUnreadIn (outcome_folder command) (sweep_texts command)

abbrev pub IsReadToo : Command → (files : List Path) → Type 0
IsReadToo command files =
    IsReadAt (record_path command) files ⊎ IsReadIn (outcome_folder command) files ⊎ IsReadIn (outcome_folder command) (sweep_texts command)

-- this is so of the files that a command hands on
abbrev pub OfFiles : List LibraryFile → Held → Listed → Command → (List (Option (List ℕ)) → Type 0) → Type 0
OfFiles library held listed command P = (paths : List Path) × AreFiles held listed command paths
    × (files : List (List ℕ)) × (added own : List LibraryFile) × AreHanded library command (held_at held paths) files added own × P (known files)

-- ---- what is recorded

-- there is a fault before the file is written, or behind that; or there is none but that it can't be written
abbrev pub IsUnrecorded : Result Status Fault → (held holds : Held) → Written → Fault → Type 0
IsUnrecorded outcome held holds written fault = ((outcome ≡ Err fault) × (IsWith held holds None ⊎ IsWith held holds written))
    ⊎ (((status : Status) × (outcome ≡ Ok status)) × IsUnable fault × IsWith held holds None)

-- ---- run

pub record IsRunDone (given : ℕ) (lefts : List (Option (List ℕ))) (run : Run) (text : List ℕ) (written : Written) (status : Status) : Type 0 where
  pub file : Option (List ℕ)
  pub runs : Runs (record_form given run.as_version) lefts run.limits run.options (is_some run.seconds) run.races text file status
  pub made : IsTrue (is_some run.record) → IsTrue (is_some file)
  pub recorded : written ≡ written_at run.record file

-- what was made may be recorded though the output failed
pub record IsRunUndone (given : ℕ) (lefts : List (Option (List ℕ))) (run : Run) (old new : Option (List ℕ)) (fault : Fault) (written : Written) : Type 0 where
  pub file : Option (List ℕ)
  pub unrun : IsUnrun (record_form given run.as_version) lefts run.limits run.options (is_some run.seconds) run.races old new None file fault
  pub recorded : (written ≡ None) ⊎ (written ≡ written_at run.record file)

-- ---- run over seeds

-- a file for each outcome, in the folder that is asked for
pub record IsSweepDone (held : Held) (given : ℕ) (lefts : List (Option (List ℕ))) (run : Run) (sweep : SweepOptions) (text : List ℕ) (written : Written) (status : Status) : Type 0 where
  pub want : Wanted
  pub asked : IsAskedFor held sweep.goal want
  pub schedules : List (List ℕ)
  pub sweeps : SweepsOver given lefts run sweep (is_some run.seconds) want text schedules status
  pub recorded : written ≡ written_in run.record schedules

pub record IsSweepUndone (held : Held) (given : ℕ) (lefts : List (Option (List ℕ))) (run : Run) (sweep : SweepOptions) (old new : Option (List ℕ)) (fault : Fault) (written : Written) : Type 0 where
  pub want : Wanted
  pub asked : IsAskedFor held sweep.goal want
  pub unswept : IsUnswept given lefts run sweep (is_some run.seconds) want old new fault
  pub recorded : written ≡ None

-- all is on the output, and one of the files can't be written: those before it are
pub record IsSweepUnrecorded (held : Held) (given : ℕ) (lefts : List (Option (List ℕ))) (run : Run) (sweep : SweepOptions) (old new : Option (List ℕ)) (fault : Fault) (written : Written) : Type 0 where
  pub want : Wanted
  pub asked : IsAskedFor held sweep.goal want
  pub text : List ℕ
  pub schedules : List (List ℕ)
  pub status : Status
  pub sweeps : SweepsOver given lefts run sweep (is_some run.seconds) want text schedules status
  pub appends : Appends old new text
  pub unable : IsUnable fault
  pub count : ℕ
  pub recorded : written ≡ written_in run.record (take count schedules)

-- one run, or one for each of the seeds that are asked for
abbrev pub IsRunDoneBy : Held → (given : ℕ) → (lefts : List (Option (List ℕ))) → Run → Option SweepOptions → List ℕ → Written → Status → Type 0
IsRunDoneBy held given lefts run None text written status = IsRunDone given lefts run text written status
IsRunDoneBy held given lefts run (Some sweep) text written status = IsSweepDone held given lefts run sweep text written status

abbrev pub IsRunUndoneBy : Held → (given : ℕ) → (lefts : List (Option (List ℕ))) → Run → Option SweepOptions → (old new : Option (List ℕ)) → Fault → Written → Type 0
IsRunUndoneBy held given lefts run None old new fault written = IsRunUndone given lefts run old new fault written
IsRunUndoneBy held given lefts run (Some sweep) old new fault written =
    (IsUnable fault × (new ≡ old) × (written ≡ None)) ⊎ (IsSweepUndone held given lefts run sweep old new fault written ⊎ IsSweepUnrecorded held given lefts run sweep old new fault written)

-- ---- replay

pub record IsContinuationDone (held : Held) (given : ℕ) (lefts : List (Option (List ℕ))) (replay : Replay) (then_run : ThenRun) (text : List ℕ) (written : Written) (status : Status) : Type 0 where
  pub file : Option (List ℕ)
  pub continues : OfSchedule held (string_bytes replay.schedule) (λ left. Continues left lefts (conditions_of replay.limits replay.any_files given (unwrap_or replay.budget 10000000))
      then_run text file status)
  pub made : IsTrue (is_some then_run.record) → IsTrue (is_some file)
  pub recorded : written ≡ written_at then_run.record file

pub record IsContinuationUndone (held : Held) (given : ℕ) (lefts : List (Option (List ℕ))) (replay : Replay) (then_run : ThenRun) (old new : Option (List ℕ)) (fault : Fault) (written : Written) : Type 0 where
  pub file : Option (List ℕ)
  pub uncontinued : OfSchedule held (string_bytes replay.schedule) (λ left. IsUncontinued left lefts (conditions_of replay.limits replay.any_files given (unwrap_or replay.budget 10000000))
      then_run old new None file fault)
  pub recorded : (written ≡ None) ⊎ (written ≡ written_at then_run.record file)

abbrev pub IsReplayDone : Held → (given : ℕ) → (lefts : List (Option (List ℕ))) → Replay → Option ThenRun → List ℕ → Written → Status → Type 0
IsReplayDone held given lefts replay None text written status =
    OfSchedule held (string_bytes replay.schedule) (λ left. Replays left lefts (conditions_of replay.limits replay.any_files given (unwrap_or replay.budget 10000000)) text status) × (written ≡ None)
IsReplayDone held given lefts replay (Some then_run) text written status = IsContinuationDone held given lefts replay then_run text written status

abbrev pub IsReplayUndone : Held → (given : ℕ) → (lefts : List (Option (List ℕ))) → Replay → Option ThenRun → (old new : Option (List ℕ)) → Fault → Written → Type 0
IsReplayUndone held given lefts replay None old new fault written =
    OfSchedule held (string_bytes replay.schedule) (λ left. IsFaulty left lefts (conditions_of replay.limits replay.any_files given (unwrap_or replay.budget 10000000)) old new fault) × (written ≡ None)
IsReplayUndone held given lefts replay (Some then_run) old new fault written =
    (IsUnable fault × (new ≡ old) × (written ≡ None)) ⊎ IsContinuationUndone held given lefts replay then_run old new fault written

-- ---- trace

abbrev pub form_of : TraceForm → Form
form_of forms.Plain = lines.Plain
form_of forms.Columns = lines.Columns
form_of forms.Json = lines.Json

-- the window has the numbers, the threads and the form that are asked for: from the first event on, to the last one, and all threads,
-- where none are
pub record IsWindow (trace : Trace) (window : Window) : Type 0 where
  pub from : window.from ≡ unwrap_or trace.from 0
  pub to : window.to ≡ unwrap_or trace.to (2 ^ 64 - 1)
  pub only : option_map (λ threads. threads.now) window.only ≡ option_map vec_items trace.only
  pub form : window.form ≡ form_of trace.form
  pub summary : window.summary ≡ trace.summary

-- the lines of a page are objects of JSON
pub record IsPageWindow (trace : Trace) (window : Window) : Type 0 where
  pub from : window.from ≡ unwrap_or trace.from 0
  pub to : window.to ≡ unwrap_or trace.to (2 ^ 64 - 1)
  pub only : option_map (λ threads. threads.now) window.only ≡ option_map vec_items trace.only
  pub form : window.form ≡ lines.Json
  pub summary : window.summary ≡ trace.summary

-- the report is written, and the page is made
abbrev pub IsRunPaged : Held → (given : ℕ) → (lefts : List (Option (List ℕ))) → Trace → (text page : List ℕ) → Status → Type 0
IsRunPaged held given lefts trace text page status = (window : Window) × IsPageWindow trace window
    × OfSchedule held (string_bytes trace.schedule) (λ left. Pages left lefts (conditions_of trace.limits trace.any_files given 10000000) window text page status)

abbrev pub IsRunUnpaged : Held → (given : ℕ) → (lefts : List (Option (List ℕ))) → Trace → (old new : Option (List ℕ)) → Fault → Type 0
IsRunUnpaged held given lefts trace old new fault = (window : Window) × IsPageWindow trace window
    × OfSchedule held (string_bytes trace.schedule) (λ left. IsUnpaged left lefts (conditions_of trace.limits trace.any_files given 10000000) window old new fault)

pub record IsPageDone (held : Held) (given : ℕ) (lefts : List (Option (List ℕ))) (trace : Trace) (text : List ℕ) (written : Written) (status : Status) : Type 0 where
  pub page : List ℕ
  pub paged : IsRunPaged held given lefts trace text page status
  pub recorded : written ≡ written_at trace.html (Some page)

-- there is no page, or all is on the output, and the page can't be written
abbrev pub IsPageUndone : Held → (given : ℕ) → (lefts : List (Option (List ℕ))) → Trace → (old new : Option (List ℕ)) → Fault → Written → Type 0
IsPageUndone held given lefts trace old new fault written = (written ≡ None)
    × (IsRunUnpaged held given lefts trace old new fault
    ⊎ ((text page : List ℕ) × (status : Status) × IsRunPaged held given lefts trace text page status × Appends old new text × IsUnable fault))

-- by lines, or by a page in a file
abbrev pub IsTraceDone : Held → (given : ℕ) → (lefts : List (Option (List ℕ))) → Trace → (html : Option (String Global)) → List ℕ → Written → Status → Type 0
IsTraceDone held given lefts trace None text written status = (window : Window) × IsWindow trace window
    × OfSchedule held (string_bytes trace.schedule) (λ left. Traces left lefts (conditions_of trace.limits trace.any_files given 10000000) window text status) × (written ≡ None)
IsTraceDone held given lefts trace (Some html) text written status = IsPageDone held given lefts trace text written status

abbrev pub IsTraceUndone : Held → (given : ℕ) → (lefts : List (Option (List ℕ))) → Trace → (html : Option (String Global)) → (old new : Option (List ℕ)) → Fault → Written → Type 0
IsTraceUndone held given lefts trace None old new fault written = (window : Window) × IsWindow trace window
    × OfSchedule held (string_bytes trace.schedule) (λ left. IsUntraced left lefts (conditions_of trace.limits trace.any_files given 10000000) window old new fault) × (written ≡ None)
IsTraceUndone held given lefts trace (Some html) old new fault written =
    (IsUnable fault × (new ≡ old) × (written ≡ None)) ⊎ IsPageUndone held given lefts trace old new fault written

-- ---- races

abbrev pub IsRacesDone : Held → (given : ℕ) → (lefts : List (Option (List ℕ))) → Races → List ℕ → Written → Status → Type 0
IsRacesDone held given lefts races text written status =
    OfSchedule held (string_bytes races.schedule) (λ left. TellsRaces left lefts (conditions_of races.limits races.any_files given 10000000) text status) × (written ≡ None)

abbrev pub IsRacesUndone : Held → (given : ℕ) → (lefts : List (Option (List ℕ))) → Races → (old new : Option (List ℕ)) → Fault → Written → Type 0
IsRacesUndone held given lefts races old new fault written =
    OfSchedule held (string_bytes races.schedule) (λ left. IsUnraced left lefts (conditions_of races.limits races.any_files given 10000000) old new fault) × (written ≡ None)

-- ---- search

pub record IsSearchDone (held : Held) (given : ℕ) (lefts : List (Option (List ℕ))) (search : Search) (text : List ℕ) (written : Written) (status : Status) : Type 0 where
  pub goal : SearchesFor
  pub asked : IsSearchedFor held search.goal goal
  pub file : Option (List ℕ)
  pub searches : Searches (record_form given search.as_version) lefts search.limits goal (is_some search.seconds) (most_states search) (is_some search.record) text file status
  pub recorded : written ≡ written_at search.record file

pub record IsSearchUndone (held : Held) (given : ℕ) (lefts : List (Option (List ℕ))) (search : Search) (old new : Option (List ℕ)) (fault : Fault) (written : Written) : Type 0 where
  pub goal : SearchesFor
  pub asked : IsSearchedFor held search.goal goal
  pub file : Option (List ℕ)
  pub unsearched : IsUnsearched (record_form given search.as_version) lefts search.limits goal (is_some search.seconds) (most_states search) (is_some search.record) old new None file fault
  pub recorded : (written ≡ None) ⊎ (written ≡ written_at search.record file)

-- ---- verify and disasm

abbrev pub VerifiesAs : (library : Bool) → (given : ℕ) → (own : List LibraryFile) → List (Option (List ℕ)) → List ℕ → Type 0
VerifiesAs true given own lefts text = VerifiesLibrary given own lefts text
VerifiesAs false given own lefts text = Verifies given own lefts text

abbrev pub IsUnacceptedAs : (library : Bool) → (given : ℕ) → (own : List LibraryFile) → List (Option (List ℕ)) → (old new : Option (List ℕ)) → Fault → Type 0
IsUnacceptedAs true given own lefts old new fault = IsUnacceptedLibrary given own lefts old new fault
IsUnacceptedAs false given own lefts old new fault = IsUnaccepted given own lefts old new fault

-- of the text with names and line numbers nothing is said
abbrev pub ListsAs : (names : Bool) → List (Option (List ℕ)) → List ℕ → Type 0
ListsAs true lefts text = AreClassFiles lefts
ListsAs false lefts text = Lists lefts text

abbrev pub IsUnlistedAs : (names : Bool) → List (Option (List ℕ)) → (old new : Option (List ℕ)) → Fault → Type 0
IsUnlistedAs true lefts old new fault = IsUnnamed lefts old new fault
IsUnlistedAs false lefts old new fault = IsUnlisted lefts old new fault

-- ---- schedule

abbrev pub IsScheduleDone : Held → (input : Option (List ℕ)) → Schedule → (write : Bool) → List ℕ → Written → Status → Type 0
IsScheduleDone held input schedule true text written status = (bytes : List ℕ) × Transcribes schedule.as_version input bytes
    × (text ≡ []) × (written ≡ Some ((string_bytes schedule.file, bytes) ∷ [])) × (status ≡ Returned)
IsScheduleDone held input schedule false text written status = Prints (held (string_bytes schedule.file)) text
    × (written ≡ None) × (status ≡ Returned)

abbrev pub IsScheduleUndone : Held → (input : Option (List ℕ)) → Schedule → (write : Bool) → (old new : Option (List ℕ)) → Fault → Written → Type 0
IsScheduleUndone held input schedule true old new fault written = (new ≡ old) × (written ≡ None)
    × ((kept made : Option (List ℕ)) × IsUntranscribed schedule.as_version input kept made fault)
IsScheduleUndone held input schedule false old new fault written = IsUnprinted (held (string_bytes schedule.file)) old new fault × (written ≡ None)

-- ---- any command

-- What a command does where it has a status, by what its class files hold. The first so many of them are given, and a library adds the
-- others, but for its classes in whose place the files have their own.
abbrev pub IsDoneOver : Held → (given : ℕ) → (own : List LibraryFile) → (lefts : List (Option (List ℕ))) → (input : Option (List ℕ)) → Command → List ℕ → Written → Status → Type 0
IsDoneOver held given own lefts input (commands.Run run) text written status = IsRunDoneBy held given lefts run run.sweep text written status
IsDoneOver held given own lefts input (commands.Replay replay) text written status = IsReplayDone held given lefts replay replay.then_run text written status
IsDoneOver held given own lefts input (commands.Trace trace) text written status = IsTraceDone held given lefts trace trace.html text written status
IsDoneOver held given own lefts input (commands.Races races) text written status = IsRacesDone held given lefts races text written status
IsDoneOver held given own lefts input (commands.Search search) text written status = IsSearchDone held given lefts search text written status
IsDoneOver held given own lefts input (commands.Shrink shrink) text written status = IsShrinkDone held given lefts shrink text written status
IsDoneOver held given own lefts input (commands.Verify verify) text written status =
    VerifiesAs verify.library given own lefts text × (written ≡ None) × (status ≡ Returned)
IsDoneOver held given own lefts input (commands.Disasm disasm) text written status =
    ListsAs disasm.names lefts text × (written ≡ None) × (status ≡ Returned)
IsDoneOver held given own lefts input (commands.Schedule schedule) text written status = IsScheduleDone held input schedule schedule.write text written status
IsDoneOver held given own lefts input (commands.Places places) text written status =
    IsPlacesDone held given lefts places text × (written ≡ None) × (status ≡ Returned)

-- What keeps a command from a status, what is on the output then, and what is written.
abbrev pub IsUndoneOver : Held → (given : ℕ) → (own : List LibraryFile) → (lefts : List (Option (List ℕ))) → (input : Option (List ℕ)) → Command → (old new : Option (List ℕ)) → Fault → Written → Type 0
IsUndoneOver held given own lefts input (commands.Run run) old new fault written = IsRunUndoneBy held given lefts run run.sweep old new fault written
IsUndoneOver held given own lefts input (commands.Replay replay) old new fault written = IsReplayUndone held given lefts replay replay.then_run old new fault written
IsUndoneOver held given own lefts input (commands.Trace trace) old new fault written = IsTraceUndone held given lefts trace trace.html old new fault written
IsUndoneOver held given own lefts input (commands.Races races) old new fault written = IsRacesUndone held given lefts races old new fault written
IsUndoneOver held given own lefts input (commands.Search search) old new fault written =
    (IsUnable fault × (new ≡ old) × (written ≡ None)) ⊎ IsSearchUndone held given lefts search old new fault written
IsUndoneOver held given own lefts input (commands.Shrink shrink) old new fault written =
    (IsUnable fault × (new ≡ old) × (written ≡ None)) ⊎ IsShrinkUndone held given lefts shrink old new fault written
IsUndoneOver held given own lefts input (commands.Verify verify) old new fault written =
    ((IsUnable fault × (new ≡ old)) ⊎ IsUnacceptedAs verify.library given own lefts old new fault) × (written ≡ None)
IsUndoneOver held given own lefts input (commands.Disasm disasm) old new fault written =
    ((IsUnable fault × (new ≡ old)) ⊎ IsUnlistedAs disasm.names lefts old new fault) × (written ≡ None)
IsUndoneOver held given own lefts input (commands.Schedule schedule) old new fault written = IsScheduleUndone held input schedule schedule.write old new fault written
IsUndoneOver held given own lefts input (commands.Places places) old new fault written = IsPlacesUndone held given lefts places old new fault × (written ≡ None)

-- the same over the files that it hands on, none of which is written
abbrev pub IsDone : List LibraryFile → Held → Listed → (input : Option (List ℕ)) → Command → List ℕ → Written → Status → Type 0
IsDone library held listed input command text written status = (paths : List Path) × AreFiles held listed command paths
    × IsUnread command paths × (files : List (List ℕ)) × (added own : List LibraryFile) × AreHanded library command (held_at held paths) files added own
    × IsDoneOver held (length paths) own (known files) input command text written status

-- the same of what keeps it from a status; the class of the library that is refused has this name, if it is one
abbrev pub IsUndoneAs : List LibraryFile → Held → Listed → (input : Option (List ℕ)) → Command → (old new : Option (List ℕ)) → Fault → (refused : Option (List ℕ)) → Written → Type 0
IsUndoneAs library held listed input command old new fault refused written = (paths : List Path) × AreFiles held listed command paths
    × IsUnread command paths × (files : List (List ℕ)) × (added own : List LibraryFile)
    × AreHanded library command (held_at held paths) files added own × (refused ≡ refused_name (length paths) added fault)
    × IsUndoneOver held (length paths) own (known files) input command old new fault written

-- the schedule that a word is, or whose path it is, keeps from a run of any class files
abbrev pub KeepsSchedule : Held → (word : List ℕ) → Fault → Type 0
KeepsSchedule held word fault = OfSchedule held word (λ left. (lefts : List (Option (List ℕ))) (options : Conditions) → IsKeptBy left lefts options fault)

-- the schedule of a command does
abbrev pub IsKeptFirst : Held → Command → Fault → Type 0
IsKeptFirst held (commands.Replay replay) fault = KeepsSchedule held (string_bytes replay.schedule) fault
IsKeptFirst held (commands.Trace trace) fault = KeepsSchedule held (string_bytes trace.schedule) fault
IsKeptFirst held (commands.Races races) fault = KeepsSchedule held (string_bytes races.schedule) fault
IsKeptFirst held (commands.Places places) fault = KeepsSchedule held (string_bytes places.schedule) fault
IsKeptFirst held (commands.Shrink shrink) fault = KeepsSchedule held (string_bytes shrink.schedule) fault
IsKeptFirst held command fault = ⊥

-- What keeps a command from a status: one of its files is to be written, or its words stand for none, and nothing is done; or there is a
-- fault, of a class file that can't be read, or of the schedule where one can't be.
abbrev pub IsUndone : List LibraryFile → Held → Listed → (input : Option (List ℕ)) → Command → (old new : Option (List ℕ)) → Complaint → Written → Type 0
IsUndone library held listed input command old new (complaints.Usage usage) written =
    Refuses usage ((files : List Path) × AreFiles held listed command files × IsReadToo command files)
    × (new ≡ old) × (written ≡ None)
IsUndone library held listed input command old new (complaints.Files fault) written = HasNoFiles held listed command fault × (new ≡ old) × (written ≡ None)
IsUndone library held listed input command old new (complaints.Fault fault) written =
    ((IsUnable fault ⊎ (IsUnreadFile fault ⊎ IsKeptFirst held command fault)) × (new ≡ old) × (written ≡ None))
    ⊎ IsUndoneAs library held listed input command old new fault None written
IsUndone library held listed input command old new (complaints.Library fault name) written =
    IsUndoneAs library held listed input command old new fault (Some name.now) written

-- ---- the words of a command line

-- the words ask for help or the version
abbrev pub AskForHelp : (words : List (List ℕ)) → Type 0
AskForHelp words = (usage : Usage) × Fails words usage × Asks usage

-- They do, and it is written, of which nothing more is said; or they spell a command, and it is done.
abbrev pub Does : List LibraryFile → Held → Listed → (input : Option (List ℕ)) → (words : List (List ℕ)) → List ℕ → Written → Status → Type 0
Does library held listed input words text written status = (AskForHelp words × (written ≡ None) × (status ≡ Returned))
    ⊎ ((command : Command) × Spells words command × IsDone library held listed input command text written status)

-- The words are no command, and nothing is written; or help can't be written; or they spell a command, and it isn't done.
abbrev pub Stops : List LibraryFile → Held → Listed → (input : Option (List ℕ)) → (words : List (List ℕ)) → (old new : Option (List ℕ)) → Complaint → Written → Type 0
Stops library held listed input words old new (complaints.Usage usage) written =
    (Fails words usage × (Asks usage → ⊥) × (new ≡ old) × (written ≡ None))
    ⊎ ((command : Command) × Spells words command × IsUndone library held listed input command old new (complaints.Usage usage) written)
Stops library held listed input words old new (complaints.Files fault) written =
    (command : Command) × Spells words command × IsUndone library held listed input command old new (complaints.Files fault) written
Stops library held listed input words old new (complaints.Library fault name) written =
    (command : Command) × Spells words command × IsUndone library held listed input command old new (complaints.Library fault name) written
Stops library held listed input words old new (complaints.Fault fault) written =
    (AskForHelp words × IsUnable fault × ((text : List ℕ) × AppendsFront old new text) × (written ≡ None))
    ⊎ ((command : Command) × Spells words command × IsUndone library held listed input command old new (complaints.Fault fault) written)

-- what comes of words that are no command, where it is no help
abbrev pub IsUntold : Usage → (old new : Option (List ℕ)) → Complaint → Type 0
IsUntold usage old new (complaints.Usage told) = (told ≡ usage) × (Asks usage → ⊥) × (new ≡ old)
IsUntold usage old new (complaints.Files fault) = ⊥
IsUntold usage old new (complaints.Library fault name) = ⊥
IsUntold usage old new (complaints.Fault fault) = Asks usage × IsUnable fault × ((text : List ℕ) × AppendsFront old new text)

-- ---- what a call leaves

-- with a status: a text is on the output behind what was, and files are written
abbrev pub Leaves : (List ℕ → Written → Status → Type 0) → (old new : Option (List ℕ)) → (held holds : Held) → Status → Type 0
Leaves Is old new held holds status = (text : List ℕ) × (written : Written) × Is text written status × Appends old new text × IsWith held holds written

-- with a fault
abbrev pub LeavesAt : {A : Type 0} → (A → Written → Type 0) → (held holds : Held) → A → Type 0
LeavesAt Is held holds fault = (written : Written) × Is fault written × IsWith held holds written
