-- What is refused of the program of a command.
use Rattle.std.proofs.Common.{◌≡◌, List, Result}
use Rattle.std.specs.Prelude.{IfErr, IsErrAnd}
use Rattle.std.proofs.lemmas.Result.{err_from_is_err_and}
use Rattle.clap.specs.Words.{Row}
use Rattle.command_line.proofs.CommandLineLemmas.{refuses_more}
use Rattle.command_line.specs.CommandLine.{AreRunValues, AreSearchValues, AreShrinkValues, AreRacesValues, AreTraceValues, AreValues, Refuses}
use Rattle.command_line.specs.Programs.{AreApartValues, AreProgramValues}
use Rattle.command_line.specs.declared.options.Races.{Races}
use Rattle.command_line.specs.declared.options.Replay.{Replay}
use Rattle.command_line.specs.declared.options.Run.{Run}
use Rattle.command_line.specs.declared.options.Search.{Search}
use Rattle.command_line.specs.declared.options.Shrink.{Shrink}
use Rattle.command_line.specs.declared.options.Trace.{Trace}
use Rattle.command_line.specs.declared.program_options.ProgramOptions.{ProgramOptions}
use Rattle.command_line.specs.declared.usage.Usage.{Usage}

-- a fault that is handed on refuses what needs more
pub handed_on : {A : Type 0} (result : Result A Usage) (usage : Usage) (reason other : Type 0) → IsErrAnd result (λ same. same ≡ usage) → Refuses usage reason
    → (reason → other) → IfErr result (λ same. Refuses same other)
handed_on result usage reason other handed known on =
    let p = err_from_is_err_and result handed in
    rw (p.1, p.2) (refuses_more usage reason other on known)

-- where no program has the values of the words, no command of it has
module _ (rows : List Row) where
  pub no_run : ((program : ProgramOptions) → AreApartValues rows program → ⊥) → (run : Run) → AreRunValues rows run → ⊥
  no_run none run are =
      none (record { limits = run.limits; main = run.main; files = run.files; explain = run.explain; quiet = run.quiet; files_alone = run.files_alone })
      (record {
        values = record { limits = are.limits; main = are.main; files = are.files; explain = are.explain; quiet = are.quiet; files_alone = are.files_alone };
        other_files = are.other_files;
      })

  pub no_replay : ((program : ProgramOptions) → AreApartValues rows program → ⊥) → (replay : Replay) → AreValues rows replay → ⊥
  no_replay none replay are =
      none (record { limits = replay.limits; main = replay.main; files = replay.files; explain = replay.explain; quiet = replay.quiet; files_alone = replay.files_alone })
      (record {
        values = record { limits = are.limits; main = are.main; files = are.files; explain = are.explain; quiet = are.quiet; files_alone = are.files_alone };
        other_files = are.other_files;
      })

  pub no_trace : ((program : ProgramOptions) → AreProgramValues rows program → ⊥) → (trace : Trace) → AreTraceValues rows trace → ⊥
  no_trace none trace are =
      none (record { limits = trace.limits; main = trace.main; files = trace.files; explain = trace.explain; quiet = trace.quiet; files_alone = trace.files_alone })
      (record { limits = are.limits; main = are.main; files = are.files; explain = are.explain; quiet = are.quiet; files_alone = are.files_alone })

  pub no_races : ((program : ProgramOptions) → AreProgramValues rows program → ⊥) → (races : Races) → AreRacesValues rows races → ⊥
  no_races none races are =
      none (record { limits = races.limits; main = races.main; files = races.files; explain = races.explain; quiet = races.quiet; files_alone = races.files_alone })
      (record { limits = are.limits; main = are.main; files = are.files; explain = are.explain; quiet = are.quiet; files_alone = are.files_alone })

  pub no_search : ((program : ProgramOptions) → AreApartValues rows program → ⊥) → (search : Search) → AreSearchValues rows search → ⊥
  no_search none search are =
      none (record { limits = search.limits; main = search.main; files = search.files; explain = search.explain; quiet = search.quiet; files_alone = search.files_alone })
      (record {
        values = record { limits = are.limits; main = are.main; files = are.files; explain = are.explain; quiet = are.quiet; files_alone = are.files_alone };
        other_files = are.other_files;
      })

  pub no_shrink : ((program : ProgramOptions) → AreApartValues rows program → ⊥) → (shrink : Shrink) → AreShrinkValues rows shrink → ⊥
  no_shrink none shrink are =
      none (record { limits = shrink.limits; main = shrink.main; files = shrink.files; explain = shrink.explain; quiet = shrink.quiet; files_alone = shrink.files_alone })
      (record {
        values = record { limits = are.limits; main = are.main; files = are.files; explain = are.explain; quiet = are.quiet; files_alone = are.files_alone };
        other_files = are.other_files;
      })
