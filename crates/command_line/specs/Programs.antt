-- What the words say of the program that a command runs (own), and where its schedule is recorded.
use Rattle.std.specs.Prelude.{◌≡◌, List, Some, codes, map, string_bytes}
use Rattle.std.specs.List.{All}
use Rattle.std.specs.Option.{option_map}
use Rattle.clap.specs.Words.{Row, all_of, first_of}
use Rattle.command_line.specs.CommandLine.{AreLimitNumbers, IsRecordedVersion, is_set}
use Rattle.command_line.specs.Paths.{IsApart}
use Rattle.command_line.specs.declared.program_options.ProgramOptions.{ProgramOptions}
use Rattle.command_line.specs.declared.values.Recording.{Recording}

-- within which limits it runs, from which class on, and of which files
pub record AreProgramValues (rows : List Row) (program : ProgramOptions) : Type 0 where
  pub limits : AreLimitNumbers rows program.limits
  pub main : first_of (codes "main") rows ≡ option_map string_bytes program.main
  pub files : all_of (codes "files") rows ≡ Some (map string_bytes program.files.items)
  pub explain : program.explain ≡ is_set (first_of (codes "explain") rows)
  pub quiet : program.quiet ≡ is_set (first_of (codes "quiet") rows)
  pub files_alone : program.files_alone ≡ is_set (first_of (codes "files-alone") rows)

-- the file that is written is none of its files
pub record AreApartValues (rows : List Row) (program : ProgramOptions) : Type 0 where
  pub values : AreProgramValues rows program
  pub other_files : All (IsApart (first_of (codes "record") rows)) (map string_bytes program.files.items)

-- where the schedule of a run is recorded, and in which version at most
pub record IsRecording (rows : List Row) (recording : Recording) : Type 0 where
  pub path : first_of (codes "record") rows ≡ option_map string_bytes recording.record
  pub version : IsRecordedVersion rows recording.as_version
