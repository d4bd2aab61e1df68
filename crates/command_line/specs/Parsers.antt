-- Which options and subcommands the parser of `jvm` knows (own), in the words of the crate `clap`.
use Rattle.std.specs.Prelude.{◌≡◌, ℕ, ◌-◌, ◌^◌, true, false, codes, Some}
use Rattle.model.specs.BuiltInNumbers.{most_threads}
use Rattle.clap.specs.Words.{App, Rule, Shape, Text, app_of, new_app, new_rule, with_rule, with_subcommand}
use Rattle.clap.specs.declared.builder.command.Command as parser
use Rattle.clap.specs.declared.builder.command.Command.TheViews.{out-Command}
use Rattle.clap.specs.declared.builder.ArgAction.TheVariants.{Set, SetTrue, Append}
use Rattle.clap.specs.declared.builder.value_parser.ValueParser.TheVariants.{Unsigned}

-- `--NAME NUMBER`, a number from least to most
abbrev pub number_option : Text → ℕ → ℕ → Rule
number_option name least most = record (new_rule name) {
  long = Some name;
  value_names = 1;
  action = Some Set;
  parser = Some (Unsigned least most);
}

-- `--NAME FILE`
abbrev pub path_option : Text → Rule
path_option name = record (new_rule name) {
  long = Some name;
  value_names = 1;
  action = Some Set;
}

abbrev pub record_option : Rule
record_option = path_option (codes "record")

-- `--for OUTCOME`
abbrev pub goal_option : Rule
goal_option = path_option (codes "for")

-- the same, which has to be there
abbrev pub required_goal_option : Rule
required_goal_option = record goal_option { required = true }

-- the version that a schedule file is of at most
abbrev pub version_option : Rule
version_option = number_option (codes "as-version") 1 3

-- `--schedule FILE`, which has to be there
abbrev pub schedule_option : Rule
schedule_option = record (path_option (codes "schedule")) { required = true }

-- `--NAME`
abbrev pub flag : Text → Rule
flag name = record (new_rule name) {
  long = Some name;
  action = Some SetTrue;
}

-- `FILE..`, at least one
abbrev pub class_files : Rule
class_files = record (new_rule (codes "files")) {
  value_names = 1;
  required = true;
  range = Some (record { start_inclusive = 1; end_inclusive = 2 ^ 64 - 1 });
  action = Some Append;
}

abbrev pub with_limits : App → App
with_limits app = with_rule (with_rule (with_rule (with_rule (with_rule app
    (number_option (codes "objects") 0 4000000000))
    (number_option (codes "cells") 0 4294967295))
    (number_option (codes "monitors") 0 8388608))
    (number_option (codes "threads") 1 most_threads))
    (number_option (codes "frames") 1 65535)

-- `--main NAME`, the class whose main is run
abbrev pub main_option : Rule
main_option = path_option (codes "main")

-- that no class is added from the library
abbrev pub alone_flag : Rule
alone_flag = flag (codes "files-alone")

-- within which limits a program is run, and from which class on
abbrev pub with_main : App → App
with_main app = with_rule (with_limits app) main_option

-- the same, and whether with the library
abbrev pub with_program : App → App
with_program app = with_rule (with_main app) alone_flag

-- how many workers, how many events in all and in a row, by which seed and policy, and in how many seconds
abbrev pub with_run_options : App → App
with_run_options app = with_rule (with_rule (with_rule (with_rule (with_rule (with_rule app
    (number_option (codes "workers") 1 64))
    (number_option (codes "budget") 0 4294967295))
    (number_option (codes "quantum") 1 4294967295))
    (number_option (codes "seed") 0 18446744073709551615))
    (path_option (codes "policy")))
    (number_option (codes "seconds") 1 4294967295)

-- over which seeds, and which outcome is to be found
abbrev pub with_sweep_options : App → App
with_sweep_options app = with_rule (with_rule app (path_option (codes "seeds"))) goal_option

-- where schedules are recorded, and in which version at most
abbrev pub with_record : App → App
with_record app = with_rule (with_rule app record_option) version_option

-- where a run goes on behind its schedule, up to how many events in all, and where it is recorded
abbrev pub with_then_run : App → App
with_then_run app = with_record (with_rule (with_rule app (flag (codes "then-run"))) (number_option (codes "budget") 0 4294967295))

-- `--explain`, `--quiet`, and files behind all options
abbrev pub with_files : App → Rule → App
with_files app files = with_rule (with_rule (with_rule app (flag (codes "explain"))) (flag (codes "quiet"))) files

-- the same, and whether each line is printed as soon as the run prints it
abbrev pub with_follow : App → App
with_follow app = with_rule (with_program app) (flag (codes "follow"))

-- whether the data races of a run are told
abbrev pub with_races : App → App
with_races app = with_rule app (flag (codes "races"))

abbrev pub jvm_run : App
jvm_run = with_files (with_races (with_follow (with_record (with_sweep_options (with_run_options (new_app (codes "run"))))))) class_files

-- under which schedule they run, and whether over any class files
abbrev pub with_schedule : App → App
with_schedule app = with_rule (with_rule app schedule_option) (flag (codes "any-files"))

abbrev pub jvm_replay : App
jvm_replay = with_files (with_follow (with_then_run (with_schedule (new_app (codes "replay"))))) class_files

-- which events are told: from one number up to another, of some threads
abbrev pub with_window : App → App
with_window app = with_rule (with_rule (with_rule app
    (number_option (codes "from") 0 4294967295))
    (number_option (codes "to") 0 4294967295))
    (path_option (codes "only"))

-- in which form they are told
abbrev pub with_form : App → App
with_form app = with_rule (with_rule (with_rule (with_rule app
    (flag (codes "columns")))
    (flag (codes "json")))
    (flag (codes "summary")))
    (path_option (codes "html"))

abbrev pub jvm_trace : App
jvm_trace = with_files (with_program (with_form (with_window (with_schedule (new_app (codes "trace")))))) class_files

-- under which schedule, and over which class files
abbrev pub jvm_races : App
jvm_races = with_files (with_program (with_schedule (new_app (codes "races")))) class_files

-- which outcome is to be found, among how many states, in how much memory and how many seconds, and where its schedule is recorded
abbrev pub with_search_options : App → App
with_search_options app = with_record (with_rule (with_rule (with_rule (with_rule app
    goal_option)
    (number_option (codes "states") 0 4294967295))
    (number_option (codes "memory") 0 4294967295))
    (number_option (codes "seconds") 1 4294967295))

abbrev pub jvm_search : App
jvm_search = with_files (with_program (with_search_options (new_app (codes "search")))) class_files

-- which outcome is to be kept, under which schedule, with how many events a try, and where the schedule is recorded
abbrev pub with_shrink_options : App → App
with_shrink_options app = with_record (with_rule (with_schedule (with_rule app required_goal_option)) (number_option (codes "budget") 0 4294967295))

abbrev pub jvm_shrink : App
jvm_shrink = with_files (with_program (with_shrink_options (new_app (codes "shrink")))) class_files

abbrev pub jvm_verify : App
jvm_verify = with_files (with_rule (with_rule (with_rule (new_app (codes "verify")) (flag (codes "library"))) main_option) alone_flag) class_files

abbrev pub jvm_disasm : App
jvm_disasm = with_files (with_rule (new_app (codes "disasm")) (flag (codes "names"))) class_files

-- a schedule as text; with `--write` a file of a text
abbrev pub with_made_file : App → App
with_made_file app = with_rule (with_rule app (flag (codes "write"))) version_option

-- with `--places` a text with places, of a schedule of class files
abbrev pub with_places : App → App
with_places app = with_rule (with_rule (with_rule (with_rule (with_rule app
    (flag (codes "places")))
    (path_option (codes "schedule")))
    (flag (codes "any-files")))
    main_option)
    alone_flag

-- the options of `schedule`
abbrev pub with_schedule_options : App → App
with_schedule_options app = with_places (with_made_file app)

abbrev pub jvm_schedule : App
jvm_schedule = with_files (with_schedule_options (new_app (codes "schedule"))) class_files

-- it has `--version`, and a command has to be there
abbrev pub with_version : Shape → Shape
with_version shape = record shape { has_version = true; subcommand_required = true }

-- all subcommands
abbrev pub with_subcommands : App → App
with_subcommands app = with_subcommand (with_subcommand (with_subcommand (with_subcommand (with_subcommand (with_subcommand (with_subcommand (with_subcommand (with_subcommand app
    jvm_run.top)
    jvm_replay.top)
    jvm_trace.top)
    jvm_races.top)
    jvm_search.top)
    jvm_shrink.top)
    jvm_verify.top)
    jvm_disasm.top)
    jvm_schedule.top

abbrev pub jvm : App
jvm = with_subcommands (record (new_app (codes "jvm")) { top = with_version (new_app (codes "jvm")).top })

-- no argument of the parser is one of its subcommands' too
abbrev pub IsLocal : parser.Command → Type 0
IsLocal command = (out-Command command).has_globals ≡ false

-- the parser is of this command, and none of its arguments is its subcommands' too
abbrev pub IsParser : parser.Command → App → Type 0
IsParser command app = (app_of command ≡ app) × IsLocal command
