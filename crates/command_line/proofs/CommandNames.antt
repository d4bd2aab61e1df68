-- Which commands a subcommand spells, by its name.
use Rattle.std.proofs.Common.{◌≡◌, ◌∙◌, List, None, Some, ap, codes, false, refl, sym, true}
use Rattle.std.proofs.lemmas.Bool.{true≢false}
use Rattle.std.specs.Str.{bytes_eq}
use Rattle.clap.specs.Words.{HasMatchesOf, Row, Text, subcommand_name_of}
use Rattle.clap.specs.declared.parser.matches.ArgMatches.{ArgMatches}
use Rattle.command_line.specs.CommandLine.{AreDisasmValues, ArePlacesValues, AreRacesValues, AreRunValues, AreScheduleValues, AreSearchValues, AreShrinkValues, AreTraceValues, AreValues, AreValuesOf, AreVerifyValues, Spells, name_of}
use Rattle.command_line.specs.Parsers.{jvm}
use Rattle.command_line.specs.declared.options.Command.{Command}
use Rattle.command_line.specs.declared.options.Command.TheVariants as commands
use Rattle.command_line.specs.declared.options.Disasm.{Disasm}
use Rattle.command_line.specs.declared.options.Places.{Places}
use Rattle.command_line.specs.declared.options.Races.{Races}
use Rattle.command_line.specs.declared.options.Replay.{Replay}
use Rattle.command_line.specs.declared.options.Run.{Run}
use Rattle.command_line.specs.declared.options.Schedule.{Schedule}
use Rattle.command_line.specs.declared.options.Search.{Search}
use Rattle.command_line.specs.declared.options.Shrink.{Shrink}
use Rattle.command_line.specs.declared.options.Trace.{Trace}
use Rattle.command_line.specs.declared.options.Verify.{Verify}
use Rattle.command_line.proofs.CommandLineLemmas.{name_met}

-- texts that differ are not the same
other_name : (one other : Text) → one ≡ other → bytes_eq one other ≡ false → bytes_eq other other ≡ true → ⊥
other_name one other same differs selfsame = true≢false (sym selfsame ∙ ap (λ text. bytes_eq text other) (sym same) ∙ differs)

-- a command of this name is a run, and so on
pub only_run : (rows : List Row) → ((run : Run) → AreRunValues rows run → ⊥) → (command : Command) → name_of command ≡ codes "run" → AreValuesOf rows command → ⊥
only_run rows none (commands.Run run) named are = none run are
only_run rows none (commands.Replay _) named are = elim (other_name (codes "replay") (codes "run") named refl refl) [ ]
only_run rows none (commands.Trace _) named are = elim (other_name (codes "trace") (codes "run") named refl refl) [ ]
only_run rows none (commands.Search _) named are = elim (other_name (codes "search") (codes "run") named refl refl) [ ]
only_run rows none (commands.Shrink _) named are = elim (other_name (codes "shrink") (codes "run") named refl refl) [ ]
only_run rows none (commands.Verify _) named are = elim (other_name (codes "verify") (codes "run") named refl refl) [ ]
only_run rows none (commands.Disasm _) named are = elim (other_name (codes "disasm") (codes "run") named refl refl) [ ]
only_run rows none (commands.Schedule _) named are = elim (other_name (codes "schedule") (codes "run") named refl refl) [ ]
only_run rows none (commands.Places _) named are = elim (other_name (codes "schedule") (codes "run") named refl refl) [ ]
only_run rows none (commands.Races _) named are = elim (other_name (codes "races") (codes "run") named refl refl) [ ]

pub only_replay : (rows : List Row) → ((replay : Replay) → AreValues rows replay → ⊥) → (command : Command) → name_of command ≡ codes "replay" → AreValuesOf rows command → ⊥
only_replay rows none (commands.Run _) named are = elim (other_name (codes "run") (codes "replay") named refl refl) [ ]
only_replay rows none (commands.Replay replay) named are = none replay are
only_replay rows none (commands.Trace _) named are = elim (other_name (codes "trace") (codes "replay") named refl refl) [ ]
only_replay rows none (commands.Search _) named are = elim (other_name (codes "search") (codes "replay") named refl refl) [ ]
only_replay rows none (commands.Shrink _) named are = elim (other_name (codes "shrink") (codes "replay") named refl refl) [ ]
only_replay rows none (commands.Verify _) named are = elim (other_name (codes "verify") (codes "replay") named refl refl) [ ]
only_replay rows none (commands.Disasm _) named are = elim (other_name (codes "disasm") (codes "replay") named refl refl) [ ]
only_replay rows none (commands.Schedule _) named are = elim (other_name (codes "schedule") (codes "replay") named refl refl) [ ]
only_replay rows none (commands.Places _) named are = elim (other_name (codes "schedule") (codes "replay") named refl refl) [ ]
only_replay rows none (commands.Races _) named are = elim (other_name (codes "races") (codes "replay") named refl refl) [ ]

pub only_trace : (rows : List Row) → ((trace : Trace) → AreTraceValues rows trace → ⊥) → (command : Command) → name_of command ≡ codes "trace" → AreValuesOf rows command → ⊥
only_trace rows none (commands.Run _) named are = elim (other_name (codes "run") (codes "trace") named refl refl) [ ]
only_trace rows none (commands.Replay _) named are = elim (other_name (codes "replay") (codes "trace") named refl refl) [ ]
only_trace rows none (commands.Trace trace) named are = none trace are
only_trace rows none (commands.Search _) named are = elim (other_name (codes "search") (codes "trace") named refl refl) [ ]
only_trace rows none (commands.Shrink _) named are = elim (other_name (codes "shrink") (codes "trace") named refl refl) [ ]
only_trace rows none (commands.Verify _) named are = elim (other_name (codes "verify") (codes "trace") named refl refl) [ ]
only_trace rows none (commands.Disasm _) named are = elim (other_name (codes "disasm") (codes "trace") named refl refl) [ ]
only_trace rows none (commands.Schedule _) named are = elim (other_name (codes "schedule") (codes "trace") named refl refl) [ ]
only_trace rows none (commands.Places _) named are = elim (other_name (codes "schedule") (codes "trace") named refl refl) [ ]
only_trace rows none (commands.Races _) named are = elim (other_name (codes "races") (codes "trace") named refl refl) [ ]

pub only_races : (rows : List Row) → ((races : Races) → AreRacesValues rows races → ⊥) → (command : Command) → name_of command ≡ codes "races" → AreValuesOf rows command → ⊥
only_races rows none (commands.Run _) named are = elim (other_name (codes "run") (codes "races") named refl refl) [ ]
only_races rows none (commands.Replay _) named are = elim (other_name (codes "replay") (codes "races") named refl refl) [ ]
only_races rows none (commands.Trace _) named are = elim (other_name (codes "trace") (codes "races") named refl refl) [ ]
only_races rows none (commands.Search _) named are = elim (other_name (codes "search") (codes "races") named refl refl) [ ]
only_races rows none (commands.Shrink _) named are = elim (other_name (codes "shrink") (codes "races") named refl refl) [ ]
only_races rows none (commands.Verify _) named are = elim (other_name (codes "verify") (codes "races") named refl refl) [ ]
only_races rows none (commands.Disasm _) named are = elim (other_name (codes "disasm") (codes "races") named refl refl) [ ]
only_races rows none (commands.Schedule _) named are = elim (other_name (codes "schedule") (codes "races") named refl refl) [ ]
only_races rows none (commands.Places _) named are = elim (other_name (codes "schedule") (codes "races") named refl refl) [ ]
only_races rows none (commands.Races races) named are = none races are

pub only_search : (rows : List Row) → ((search : Search) → AreSearchValues rows search → ⊥) → (command : Command) → name_of command ≡ codes "search" → AreValuesOf rows command → ⊥
only_search rows none (commands.Run _) named are = elim (other_name (codes "run") (codes "search") named refl refl) [ ]
only_search rows none (commands.Replay _) named are = elim (other_name (codes "replay") (codes "search") named refl refl) [ ]
only_search rows none (commands.Trace _) named are = elim (other_name (codes "trace") (codes "search") named refl refl) [ ]
only_search rows none (commands.Search search) named are = none search are
only_search rows none (commands.Shrink _) named are = elim (other_name (codes "shrink") (codes "search") named refl refl) [ ]
only_search rows none (commands.Verify _) named are = elim (other_name (codes "verify") (codes "search") named refl refl) [ ]
only_search rows none (commands.Disasm _) named are = elim (other_name (codes "disasm") (codes "search") named refl refl) [ ]
only_search rows none (commands.Schedule _) named are = elim (other_name (codes "schedule") (codes "search") named refl refl) [ ]
only_search rows none (commands.Places _) named are = elim (other_name (codes "schedule") (codes "search") named refl refl) [ ]
only_search rows none (commands.Races _) named are = elim (other_name (codes "races") (codes "search") named refl refl) [ ]

pub only_shrink : (rows : List Row) → ((shrink : Shrink) → AreShrinkValues rows shrink → ⊥) → (command : Command) → name_of command ≡ codes "shrink" → AreValuesOf rows command → ⊥
only_shrink rows none (commands.Run _) named are = elim (other_name (codes "run") (codes "shrink") named refl refl) [ ]
only_shrink rows none (commands.Replay _) named are = elim (other_name (codes "replay") (codes "shrink") named refl refl) [ ]
only_shrink rows none (commands.Trace _) named are = elim (other_name (codes "trace") (codes "shrink") named refl refl) [ ]
only_shrink rows none (commands.Search _) named are = elim (other_name (codes "search") (codes "shrink") named refl refl) [ ]
only_shrink rows none (commands.Shrink shrink) named are = none shrink are
only_shrink rows none (commands.Verify _) named are = elim (other_name (codes "verify") (codes "shrink") named refl refl) [ ]
only_shrink rows none (commands.Disasm _) named are = elim (other_name (codes "disasm") (codes "shrink") named refl refl) [ ]
only_shrink rows none (commands.Schedule _) named are = elim (other_name (codes "schedule") (codes "shrink") named refl refl) [ ]
only_shrink rows none (commands.Places _) named are = elim (other_name (codes "schedule") (codes "shrink") named refl refl) [ ]
only_shrink rows none (commands.Races _) named are = elim (other_name (codes "races") (codes "shrink") named refl refl) [ ]

pub only_verify : (rows : List Row) → ((verify : Verify) → AreVerifyValues rows verify → ⊥) → (command : Command) → name_of command ≡ codes "verify" → AreValuesOf rows command → ⊥
only_verify rows none (commands.Run _) named are = elim (other_name (codes "run") (codes "verify") named refl refl) [ ]
only_verify rows none (commands.Replay _) named are = elim (other_name (codes "replay") (codes "verify") named refl refl) [ ]
only_verify rows none (commands.Trace _) named are = elim (other_name (codes "trace") (codes "verify") named refl refl) [ ]
only_verify rows none (commands.Search _) named are = elim (other_name (codes "search") (codes "verify") named refl refl) [ ]
only_verify rows none (commands.Shrink _) named are = elim (other_name (codes "shrink") (codes "verify") named refl refl) [ ]
only_verify rows none (commands.Verify verify) named are = none verify are
only_verify rows none (commands.Disasm _) named are = elim (other_name (codes "disasm") (codes "verify") named refl refl) [ ]
only_verify rows none (commands.Schedule _) named are = elim (other_name (codes "schedule") (codes "verify") named refl refl) [ ]
only_verify rows none (commands.Places _) named are = elim (other_name (codes "schedule") (codes "verify") named refl refl) [ ]
only_verify rows none (commands.Races _) named are = elim (other_name (codes "races") (codes "verify") named refl refl) [ ]

pub only_disasm : (rows : List Row) → ((disasm : Disasm) → AreDisasmValues rows disasm → ⊥) → (command : Command) → name_of command ≡ codes "disasm" → AreValuesOf rows command → ⊥
only_disasm rows none (commands.Run _) named are = elim (other_name (codes "run") (codes "disasm") named refl refl) [ ]
only_disasm rows none (commands.Replay _) named are = elim (other_name (codes "replay") (codes "disasm") named refl refl) [ ]
only_disasm rows none (commands.Trace _) named are = elim (other_name (codes "trace") (codes "disasm") named refl refl) [ ]
only_disasm rows none (commands.Search _) named are = elim (other_name (codes "search") (codes "disasm") named refl refl) [ ]
only_disasm rows none (commands.Shrink _) named are = elim (other_name (codes "shrink") (codes "disasm") named refl refl) [ ]
only_disasm rows none (commands.Verify _) named are = elim (other_name (codes "verify") (codes "disasm") named refl refl) [ ]
only_disasm rows none (commands.Disasm disasm) named are = none disasm are
only_disasm rows none (commands.Schedule _) named are = elim (other_name (codes "schedule") (codes "disasm") named refl refl) [ ]
only_disasm rows none (commands.Places _) named are = elim (other_name (codes "schedule") (codes "disasm") named refl refl) [ ]
only_disasm rows none (commands.Races _) named are = elim (other_name (codes "races") (codes "disasm") named refl refl) [ ]

-- with `--places` or without
pub only_schedule : (rows : List Row) → ((schedule : Schedule) → AreScheduleValues rows schedule → ⊥) → ((places : Places) → ArePlacesValues rows places → ⊥)
    → (command : Command) → name_of command ≡ codes "schedule" → AreValuesOf rows command → ⊥
only_schedule rows none no_places (commands.Run _) named are = elim (other_name (codes "run") (codes "schedule") named refl refl) [ ]
only_schedule rows none no_places (commands.Replay _) named are = elim (other_name (codes "replay") (codes "schedule") named refl refl) [ ]
only_schedule rows none no_places (commands.Trace _) named are = elim (other_name (codes "trace") (codes "schedule") named refl refl) [ ]
only_schedule rows none no_places (commands.Search _) named are = elim (other_name (codes "search") (codes "schedule") named refl refl) [ ]
only_schedule rows none no_places (commands.Shrink _) named are = elim (other_name (codes "shrink") (codes "schedule") named refl refl) [ ]
only_schedule rows none no_places (commands.Verify _) named are = elim (other_name (codes "verify") (codes "schedule") named refl refl) [ ]
only_schedule rows none no_places (commands.Disasm _) named are = elim (other_name (codes "disasm") (codes "schedule") named refl refl) [ ]
only_schedule rows none no_places (commands.Schedule schedule) named are = none schedule are
only_schedule rows none no_places (commands.Places places) named are = no_places places are
only_schedule rows none no_places (commands.Races _) named are = elim (other_name (codes "races") (codes "schedule") named refl refl) [ ]

-- no command has another name
pub none_named : (rows : List Row) (name : Text) → (name ≡ codes "run" → ⊥) → (name ≡ codes "replay" → ⊥) → (name ≡ codes "trace" → ⊥) → (name ≡ codes "races" → ⊥) → (name ≡ codes "search" → ⊥)
    → (name ≡ codes "shrink" → ⊥) → (name ≡ codes "verify" → ⊥) → (name ≡ codes "disasm" → ⊥) → (name ≡ codes "schedule" → ⊥)
    → (command : Command) → name_of command ≡ name → AreValuesOf rows command → ⊥
none_named rows name no_run no_replay no_trace no_races no_search no_shrink no_verify no_disasm no_schedule (commands.Run run) named are = no_run (sym named)
none_named rows name no_run no_replay no_trace no_races no_search no_shrink no_verify no_disasm no_schedule (commands.Replay replay) named are = no_replay (sym named)
none_named rows name no_run no_replay no_trace no_races no_search no_shrink no_verify no_disasm no_schedule (commands.Trace trace) named are = no_trace (sym named)
none_named rows name no_run no_replay no_trace no_races no_search no_shrink no_verify no_disasm no_schedule (commands.Search search) named are = no_search (sym named)
none_named rows name no_run no_replay no_trace no_races no_search no_shrink no_verify no_disasm no_schedule (commands.Shrink shrink) named are = no_shrink (sym named)
none_named rows name no_run no_replay no_trace no_races no_search no_shrink no_verify no_disasm no_schedule (commands.Verify verify) named are = no_verify (sym named)
none_named rows name no_run no_replay no_trace no_races no_search no_shrink no_verify no_disasm no_schedule (commands.Disasm disasm) named are = no_disasm (sym named)
none_named rows name no_run no_replay no_trace no_races no_search no_shrink no_verify no_disasm no_schedule (commands.Schedule schedule) named are = no_schedule (sym named)
none_named rows name no_run no_replay no_trace no_races no_search no_shrink no_verify no_disasm no_schedule (commands.Places places) named are = no_schedule (sym named)
none_named rows name no_run no_replay no_trace no_races no_search no_shrink no_verify no_disasm no_schedule (commands.Races races) named are = no_races (sym named)

-- where no subcommand is met, the words spell no command
pub spells_none : (matches : ArgMatches) (words : List Text) → HasMatchesOf jvm words matches → subcommand_name_of matches ≡ None
    → (command : Command) → Spells words command → ⊥
spells_none matches words has none command spelled =
    let bad : None ≡ Some (name_of command) = sym none ∙ name_met matches words (name_of command) spelled.0 has spelled.1 in cc
