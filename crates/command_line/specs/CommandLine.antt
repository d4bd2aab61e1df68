-- The command line (own), in the words of the crate `clap`: which command the words spell, with which values.
use Rattle.std.specs.Prelude.{◌≡◌, ◌≤◌, ◌⊎◌, ℕ, ◌==◌, Bool, List, [], ◌∷◌, map, true, false, codes, Option, Some, None, string_bytes, vec_items}
use Rattle.std.specs.List.{All, slice_split}
use Rattle.std.specs.Option.{option_map, option_map_or}
use Rattle.std.specs.Str.{bytes_eq}
use Rattle.std.specs.Str.Parse.{IsNumeral, digits_value}
use Rattle.model.specs.BuiltInNumbers.{most_threads}
use Rattle.clap.specs.Words.{IsAmong, Row, Text, all_of, fault_of, first_of, kind_of, subcommand_of, takes}
use Rattle.clap.specs.declared.error.Error.{Error}
use Rattle.clap.specs.declared.error.kind.ErrorKind.{ErrorKind}
use Rattle.clap.specs.declared.error.kind.ErrorKind.TheVariants as errors
use Rattle.command_line.specs.Goals.{IsGoal, IsSearchGoal}
use Rattle.command_line.specs.Numerals.{IsNumeralWithin}
use Rattle.command_line.specs.Parsers.{jvm}
use Rattle.command_line.specs.Paths.{IsApart, IsGoalApart, IsSearchGoalApart}
use Rattle.command_line.specs.Policies.{GoTogether, IsPolicy}
use Rattle.command_line.specs.Sweeps.{IsSweep}
use Rattle.command_line.specs.declared.usage.Usage.{Usage}
use Rattle.command_line.specs.declared.usage.Usage.TheVariants.{Parser, Number, Asked, OutOfMemory}
use Rattle.command_line.specs.declared.options.Command.{Command}
use Rattle.command_line.specs.declared.options.Command.TheVariants as commands
use Rattle.command_line.specs.declared.options.Disasm.{Disasm}
use Rattle.command_line.specs.declared.options.Goal.{Goal}
use Rattle.command_line.specs.declared.options.LimitOptions.{LimitOptions}
use Rattle.command_line.specs.declared.options.Places.{Places}
use Rattle.command_line.specs.declared.options.Races.{Races}
use Rattle.command_line.specs.declared.options.Replay.{Replay}
use Rattle.command_line.specs.declared.options.Run.{Run}
use Rattle.command_line.specs.declared.options.Schedule.{Schedule}
use Rattle.command_line.specs.declared.options.Search.{Search}
use Rattle.command_line.specs.declared.options.Shrink.{Shrink}
use Rattle.command_line.specs.declared.options.ThenRun.{ThenRun}
use Rattle.command_line.specs.declared.options.Trace.{Trace}
use Rattle.command_line.specs.declared.options.TraceForm.{TraceForm}
use Rattle.command_line.specs.declared.options.TraceForm.TheVariants as forms
use Rattle.command_line.specs.declared.options.Verify.{Verify}
use Rattle.command_line.specs.declared.run_options.RunOptions.{RunOptions}

-- the number of an option, where it is there: digits alone spell it
abbrev pub IsNumber : ℕ → ℕ → Option Text → Option ℕ → Type 0
IsNumber least most None None = Unit {0}
IsNumber least most (Some text) (Some number) = IsNumeral 10 text × (digits_value 10 text ≡ number) × (least ≤ number) × (number ≤ most)
IsNumber least most None (Some number) = ⊥
IsNumber least most (Some text) None = ⊥

-- the texts between the commas of a text
abbrev pub parts_of : Text → List Text
parts_of text = slice_split (λ b. b == 0x2c) text

-- the texts spell these numbers, each one of them
pub record AreNumerals (least most : ℕ) (texts : List Text) (numbers : List ℕ) : Type 0 where
  pub each : All (IsNumeralWithin least most) texts
  pub values : numbers ≡ map (digits_value 10) texts

-- the numbers of an option, with commas between them, where it is there
abbrev pub AreNumbers : ℕ → ℕ → Option Text → Option (List ℕ) → Type 0
AreNumbers least most None None = Unit {0}
AreNumbers least most (Some text) (Some numbers) = AreNumerals least most (parts_of text) numbers
AreNumbers least most None (Some numbers) = ⊥
AreNumbers least most (Some text) None = ⊥

pub record AreLimitNumbers (rows : List Row) (limits : LimitOptions) : Type 0 where
  pub objects : IsNumber 0 4000000000 (first_of (codes "objects") rows) limits.objects
  pub cells : IsNumber 0 4294967295 (first_of (codes "cells") rows) limits.cells
  pub monitors : IsNumber 0 8388608 (first_of (codes "monitors") rows) limits.monitors
  pub threads : IsNumber 1 most_threads (first_of (codes "threads") rows) limits.threads
  pub frames : IsNumber 1 65535 (first_of (codes "frames") rows) limits.frames

-- a flag is there
abbrev pub is_set : Option Text → Bool
is_set text = option_map_or (λ text. bytes_eq text (codes "true")) text false

-- this is so, unless the words name seeds: of a sweep the workers are cores, and go with any policy
abbrev pub UnlessSweep : (seeds : Option Text) → Type 0 → Type 0
UnlessSweep (Some word) P = Unit {0}
UnlessSweep None P = P

-- the version that a recorded schedule is of at most, where one is recorded
pub record IsRecordedVersion (rows : List Row) (version : Option ℕ) : Type 0 where
  pub number : IsNumber 1 3 (first_of (codes "as-version") rows) version
  pub recording : first_of (codes "record") rows ≡ None → version ≡ None

-- whether each line of a run is printed as soon as it can be, which it never is of a sweep
pub record IsFollow (rows : List Row) (follow : Bool) : Type 0 where
  pub flag : follow ≡ is_set (first_of (codes "follow") rows)
  pub alone : follow ≡ true → first_of (codes "seeds") rows ≡ None

-- whether the data races of a run are told, which they never are of a sweep, nor where its lines are printed before its end
pub record IsRaceFlag (rows : List Row) (races : Bool) : Type 0 where
  pub flag : races ≡ is_set (first_of (codes "races") rows)
  pub one : races ≡ true → first_of (codes "seeds") rows ≡ None
  pub behind : races ≡ true → is_set (first_of (codes "follow") rows) ≡ false

-- who gives the threads turns, and up to how many events, by the words of a run
pub record AreRunNumbers (rows : List Row) (options : RunOptions) : Type 0 where
  pub workers : IsNumber 1 64 (first_of (codes "workers") rows) options.workers
  pub budget : IsNumber 0 4294967295 (first_of (codes "budget") rows) options.budget
  pub quantum : IsNumber 1 4294967295 (first_of (codes "quantum") rows) options.quantum
  pub seed : IsNumber 0 18446744073709551615 (first_of (codes "seed") rows) options.seed
  pub policy : IsPolicy (first_of (codes "policy") rows) options.policy
  pub together : UnlessSweep (first_of (codes "seeds") rows) (GoTogether options.workers options.quantum options.seed options.policy)

-- the values that the words give to `jvm run`
pub record AreRunValues (rows : List Row) (run : Run) : Type 0 where
  pub options : AreRunNumbers rows run.options
  pub seconds : IsNumber 1 4294967295 (first_of (codes "seconds") rows) run.seconds
  pub sweep : IsSweep rows run.sweep
  pub recording : first_of (codes "record") rows ≡ option_map string_bytes run.record
  pub version : IsRecordedVersion rows run.as_version
  pub limits : AreLimitNumbers rows run.limits
  pub main : first_of (codes "main") rows ≡ option_map string_bytes run.main
  pub files : all_of (codes "files") rows ≡ Some (map string_bytes run.files.items)
  pub other_files : All (IsApart (first_of (codes "record") rows)) (map string_bytes run.files.items)
  pub explain : run.explain ≡ is_set (first_of (codes "explain") rows)
  pub quiet : run.quiet ≡ is_set (first_of (codes "quiet") rows)
  pub files_alone : run.files_alone ≡ is_set (first_of (codes "files-alone") rows)
  pub follow : IsFollow rows run.follow
  pub races : IsRaceFlag rows run.races

-- the values that the words give to a run behind a schedule
pub record AreThenRunValues (rows : List Row) (then_run : ThenRun) : Type 0 where
  pub budget : IsNumber 0 4294967295 (first_of (codes "budget") rows) then_run.budget
  pub recording : first_of (codes "record") rows ≡ option_map string_bytes then_run.record
  pub version : IsRecordedVersion rows then_run.as_version

-- the words ask for a run behind the schedule, or for none of it
abbrev pub IsThenRun : List Row → Option ThenRun → Type 0
IsThenRun rows (Some then_run) = (is_set (first_of (codes "then-run") rows) ≡ true) × AreThenRunValues rows then_run
IsThenRun rows None = (is_set (first_of (codes "then-run") rows) ≡ false) × (first_of (codes "record") rows ≡ None) × (first_of (codes "as-version") rows ≡ None)

-- the values that the words give to `jvm replay`
pub record AreValues (rows : List Row) (replay : Replay) : Type 0 where
  pub schedule : first_of (codes "schedule") rows ≡ Some (string_bytes replay.schedule)
  pub any_files : replay.any_files ≡ is_set (first_of (codes "any-files") rows)
  pub then_run : IsThenRun rows replay.then_run
  pub budget : IsNumber 0 4294967295 (first_of (codes "budget") rows) replay.budget
  pub limits : AreLimitNumbers rows replay.limits
  pub main : first_of (codes "main") rows ≡ option_map string_bytes replay.main
  pub files : all_of (codes "files") rows ≡ Some (map string_bytes replay.files.items)
  pub other_schedule : IsApart (first_of (codes "record") rows) (string_bytes replay.schedule)
  pub other_files : All (IsApart (first_of (codes "record") rows)) (map string_bytes replay.files.items)
  pub explain : replay.explain ≡ is_set (first_of (codes "explain") rows)
  pub quiet : replay.quiet ≡ is_set (first_of (codes "quiet") rows)
  pub files_alone : replay.files_alone ≡ is_set (first_of (codes "files-alone") rows)
  pub follow : replay.follow ≡ is_set (first_of (codes "follow") rows)

-- the words ask for this form of a trace, and for no other; those for columns or JSON ask for no page
abbrev pub IsTraceForm : List Row → TraceForm → Type 0
IsTraceForm rows forms.Plain = (is_set (first_of (codes "columns") rows) ≡ false) × (is_set (first_of (codes "json") rows) ≡ false)
IsTraceForm rows forms.Columns =
    (is_set (first_of (codes "columns") rows) ≡ true) × (is_set (first_of (codes "json") rows) ≡ false) × (first_of (codes "html") rows ≡ None)
IsTraceForm rows forms.Json =
    (is_set (first_of (codes "columns") rows) ≡ false) × (is_set (first_of (codes "json") rows) ≡ true) × (first_of (codes "html") rows ≡ None)

-- the file that a page is written to, if one is: another one than the schedule and the class files
pub record IsPageFile (rows : List Row) (schedule : Text) (files : List Text) (html : Option Text) : Type 0 where
  pub path : first_of (codes "html") rows ≡ html
  pub other_schedule : IsApart (first_of (codes "html") rows) schedule
  pub other_files : All (IsApart (first_of (codes "html") rows)) files

-- the values that the words give to `jvm trace`
pub record AreTraceValues (rows : List Row) (trace : Trace) : Type 0 where
  pub schedule : first_of (codes "schedule") rows ≡ Some (string_bytes trace.schedule)
  pub any_files : trace.any_files ≡ is_set (first_of (codes "any-files") rows)
  pub from : IsNumber 0 4294967295 (first_of (codes "from") rows) trace.from
  pub to : IsNumber 0 4294967295 (first_of (codes "to") rows) trace.to
  pub only : AreNumbers 0 65535 (first_of (codes "only") rows) (option_map vec_items trace.only)
  pub form : IsTraceForm rows trace.form
  pub page : IsPageFile rows (string_bytes trace.schedule) (map string_bytes trace.files.items) (option_map string_bytes trace.html)
  pub summary : trace.summary ≡ is_set (first_of (codes "summary") rows)
  pub limits : AreLimitNumbers rows trace.limits
  pub main : first_of (codes "main") rows ≡ option_map string_bytes trace.main
  pub files : all_of (codes "files") rows ≡ Some (map string_bytes trace.files.items)
  pub explain : trace.explain ≡ is_set (first_of (codes "explain") rows)
  pub quiet : trace.quiet ≡ is_set (first_of (codes "quiet") rows)
  pub files_alone : trace.files_alone ≡ is_set (first_of (codes "files-alone") rows)

-- the values that the words give to `jvm races`
pub record AreRacesValues (rows : List Row) (races : Races) : Type 0 where
  pub schedule : first_of (codes "schedule") rows ≡ Some (string_bytes races.schedule)
  pub any_files : races.any_files ≡ is_set (first_of (codes "any-files") rows)
  pub limits : AreLimitNumbers rows races.limits
  pub main : first_of (codes "main") rows ≡ option_map string_bytes races.main
  pub files : all_of (codes "files") rows ≡ Some (map string_bytes races.files.items)
  pub explain : races.explain ≡ is_set (first_of (codes "explain") rows)
  pub quiet : races.quiet ≡ is_set (first_of (codes "quiet") rows)
  pub files_alone : races.files_alone ≡ is_set (first_of (codes "files-alone") rows)

-- the values that the words give to `jvm search`
pub record AreSearchValues (rows : List Row) (search : Search) : Type 0 where
  pub goal : IsSearchGoal (first_of (codes "for") rows) search.goal
  pub states : IsNumber 0 4294967295 (first_of (codes "states") rows) search.states
  pub memory : IsNumber 0 4294967295 (first_of (codes "memory") rows) search.memory
  pub seconds : IsNumber 1 4294967295 (first_of (codes "seconds") rows) search.seconds
  pub recording : first_of (codes "record") rows ≡ option_map string_bytes search.record
  pub version : IsRecordedVersion rows search.as_version
  pub limits : AreLimitNumbers rows search.limits
  pub main : first_of (codes "main") rows ≡ option_map string_bytes search.main
  pub files : all_of (codes "files") rows ≡ Some (map string_bytes search.files.items)
  pub other_text : IsSearchGoalApart (first_of (codes "record") rows) search.goal
  pub other_files : All (IsApart (first_of (codes "record") rows)) (map string_bytes search.files.items)
  pub explain : search.explain ≡ is_set (first_of (codes "explain") rows)
  pub quiet : search.quiet ≡ is_set (first_of (codes "quiet") rows)
  pub files_alone : search.files_alone ≡ is_set (first_of (codes "files-alone") rows)

-- the outcome that has to be there; and the file that it is read from is none that is written
abbrev pub IsRequiredGoal : List Row → Goal → Type 0
IsRequiredGoal rows goal = IsGoal (first_of (codes "for") rows) (Some goal) × IsGoalApart (first_of (codes "record") rows) (Some goal)

-- the values that the words give to `jvm shrink`
pub record AreShrinkValues (rows : List Row) (shrink : Shrink) : Type 0 where
  pub goal : IsRequiredGoal rows shrink.goal
  pub schedule : first_of (codes "schedule") rows ≡ Some (string_bytes shrink.schedule)
  pub any_files : shrink.any_files ≡ is_set (first_of (codes "any-files") rows)
  pub budget : IsNumber 0 4294967295 (first_of (codes "budget") rows) shrink.budget
  pub recording : first_of (codes "record") rows ≡ option_map string_bytes shrink.record
  pub version : IsRecordedVersion rows shrink.as_version
  pub limits : AreLimitNumbers rows shrink.limits
  pub main : first_of (codes "main") rows ≡ option_map string_bytes shrink.main
  pub files : all_of (codes "files") rows ≡ Some (map string_bytes shrink.files.items)
  pub other_schedule : IsApart (first_of (codes "record") rows) (string_bytes shrink.schedule)
  pub other_files : All (IsApart (first_of (codes "record") rows)) (map string_bytes shrink.files.items)
  pub explain : shrink.explain ≡ is_set (first_of (codes "explain") rows)
  pub quiet : shrink.quiet ≡ is_set (first_of (codes "quiet") rows)
  pub files_alone : shrink.files_alone ≡ is_set (first_of (codes "files-alone") rows)

-- the values that the words give to `jvm verify`
pub record AreVerifyValues (rows : List Row) (verify : Verify) : Type 0 where
  pub main : first_of (codes "main") rows ≡ option_map string_bytes verify.main
  pub files : all_of (codes "files") rows ≡ Some (map string_bytes verify.files.items)
  pub library : verify.library ≡ is_set (first_of (codes "library") rows)
  pub explain : verify.explain ≡ is_set (first_of (codes "explain") rows)
  pub quiet : verify.quiet ≡ is_set (first_of (codes "quiet") rows)
  pub files_alone : verify.files_alone ≡ is_set (first_of (codes "files-alone") rows)

-- the values that the words give to `jvm disasm`
pub record AreDisasmValues (rows : List Row) (disasm : Disasm) : Type 0 where
  pub files : all_of (codes "files") rows ≡ Some (map string_bytes disasm.files.items)
  pub names : disasm.names ≡ is_set (first_of (codes "names") rows)
  pub explain : disasm.explain ≡ is_set (first_of (codes "explain") rows)
  pub quiet : disasm.quiet ≡ is_set (first_of (codes "quiet") rows)

-- the version that a schedule file is of at most, where one is made
pub record IsMadeVersion (rows : List Row) (version : Option ℕ) : Type 0 where
  pub number : IsNumber 1 3 (first_of (codes "as-version") rows) version
  pub writing : is_set (first_of (codes "write") rows) ≡ false → version ≡ None

-- the values that the words give to `jvm schedule` without `--places`: one file, and nothing of class files
pub record AreScheduleValues (rows : List Row) (schedule : Schedule) : Type 0 where
  pub no_places : is_set (first_of (codes "places") rows) ≡ false
  pub no_schedule : first_of (codes "schedule") rows ≡ None
  pub no_main : first_of (codes "main") rows ≡ None
  pub no_any_files : is_set (first_of (codes "any-files") rows) ≡ false
  pub no_files_alone : is_set (first_of (codes "files-alone") rows) ≡ false
  pub file : all_of (codes "files") rows ≡ Some (string_bytes schedule.file ∷ [])
  pub write : schedule.write ≡ is_set (first_of (codes "write") rows)
  pub version : IsMadeVersion rows schedule.as_version
  pub explain : schedule.explain ≡ is_set (first_of (codes "explain") rows)
  pub quiet : schedule.quiet ≡ is_set (first_of (codes "quiet") rows)

-- those with `--places`: no file is made
pub record ArePlacesValues (rows : List Row) (places : Places) : Type 0 where
  pub with_places : is_set (first_of (codes "places") rows) ≡ true
  pub no_write : is_set (first_of (codes "write") rows) ≡ false
  pub no_version : first_of (codes "as-version") rows ≡ None
  pub schedule : first_of (codes "schedule") rows ≡ Some (string_bytes places.schedule)
  pub any_files : places.any_files ≡ is_set (first_of (codes "any-files") rows)
  pub main : first_of (codes "main") rows ≡ option_map string_bytes places.main
  pub files : all_of (codes "files") rows ≡ Some (map string_bytes places.files.items)
  pub explain : places.explain ≡ is_set (first_of (codes "explain") rows)
  pub quiet : places.quiet ≡ is_set (first_of (codes "quiet") rows)
  pub files_alone : places.files_alone ≡ is_set (first_of (codes "files-alone") rows)

-- the subcommand by which a command is spelled
abbrev pub name_of : Command → Text
name_of (commands.Run run) = codes "run"
name_of (commands.Replay replay) = codes "replay"
name_of (commands.Trace trace) = codes "trace"
name_of (commands.Races races) = codes "races"
name_of (commands.Search search) = codes "search"
name_of (commands.Shrink shrink) = codes "shrink"
name_of (commands.Verify verify) = codes "verify"
name_of (commands.Disasm disasm) = codes "disasm"
name_of (commands.Schedule schedule) = codes "schedule"
name_of (commands.Places places) = codes "schedule"

-- the values that the words behind it give to the command
abbrev pub AreValuesOf : List Row → Command → Type 0
AreValuesOf rows (commands.Run run) = AreRunValues rows run
AreValuesOf rows (commands.Replay replay) = AreValues rows replay
AreValuesOf rows (commands.Trace trace) = AreTraceValues rows trace
AreValuesOf rows (commands.Races races) = AreRacesValues rows races
AreValuesOf rows (commands.Search search) = AreSearchValues rows search
AreValuesOf rows (commands.Shrink shrink) = AreShrinkValues rows shrink
AreValuesOf rows (commands.Verify verify) = AreVerifyValues rows verify
AreValuesOf rows (commands.Disasm disasm) = AreDisasmValues rows disasm
AreValuesOf rows (commands.Schedule schedule) = AreScheduleValues rows schedule
AreValuesOf rows (commands.Places places) = ArePlacesValues rows places

-- the words, the program's name first, spell the command
abbrev pub Spells : List Text → Command → Type 0
Spells words command = (rows : List Row) × (subcommand_of jvm words ≡ Some (name_of command, rows)) × AreValuesOf rows command

-- what an error of the parser comes to
abbrev pub usage_by : ErrorKind → Error → Usage
usage_by errors.OutOfMemory error = OutOfMemory
usage_by errors.DisplayHelp error = Asked error
usage_by errors.DisplayVersion error = Asked error
usage_by kind error = Parser error

abbrev pub usage_of : Error → Usage
usage_of error = usage_by (kind_of error) error

-- it is what the words ask for
abbrev pub Asks : Usage → Type 0
Asks OutOfMemory = ⊥
Asks (Parser error) = ⊥
Asks (Number text) = ⊥
Asks (Asked error) = Unit {0}

-- memory apart, there is no command because this holds
abbrev pub Refuses : Usage → Type 0 → Type 0
Refuses OutOfMemory reason = Unit {0}
Refuses (Parser error) reason = reason
Refuses (Number text) reason = reason
Refuses (Asked error) reason = ⊥

-- the parser doesn't take the words, or they spell no command
abbrev pub SpellsNothing : List Text → Type 0
SpellsNothing words = (takes jvm words ≡ true → ⊥) ⊎ ((command : Command) → Spells words command → ⊥)

-- the error is help or the version, and may be what the parser says of the words
abbrev pub IsAskedFor : List Text → Error → Type 0
IsAskedFor words error = ((kind_of error ≡ errors.DisplayHelp) ⊎ (kind_of error ≡ errors.DisplayVersion)) × IsAmong (kind_of error) (fault_of jvm words)

-- why there is no command: memory apart, the words spell none; and what is told as asked for is asked for
abbrev pub Fails : List Text → Usage → Type 0
Fails words OutOfMemory = Unit {0}
Fails words (Parser error) = SpellsNothing words
Fails words (Number text) = SpellsNothing words
Fails words (Asked error) = SpellsNothing words × IsAskedFor words error
