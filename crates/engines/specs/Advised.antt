-- What is told behind a complaint, on standard error (own).
use Rattle.std.specs.Prelude.{◌≡◌, ◌⊎◌, ℕ, List, [], ◌++◌, Option, Some, None, Bool, false}
use Rattle.advice.specs.Advice.{IsAdvice}
use Rattle.command_line.specs.CommandLine.{Asks, Fails, Spells}
use Rattle.command_line.specs.declared.options.Command.{Command}
use Rattle.command_line.specs.declared.options.Command.TheVariants as commands
use Rattle.command_line.specs.declared.usage.Usage.{Usage}
use Rattle.library_files.specs.Adding.{LibraryFile}
use Rattle.engines.specs.Commands.{OfFiles}
use Rattle.engines.specs.Engines.{ReadsEach}
use Rattle.engines.specs.Files.{Held, Listed}
use Rattle.engines.specs.declared.complaint.Complaint.{Complaint}
use Rattle.engines.specs.declared.complaint.Complaint.TheVariants as complaints
use Rattle.engines.specs.declared.fault.Fault.{Fault}
use Rattle.engines.specs.declared.fault.Fault.TheVariants as faults

-- advice on the bytes of files
abbrev pub IsAdviceOn : (text : List ℕ) → List (Option (List ℕ)) → Type 0
IsAdviceOn text lefts = (files : List (List ℕ)) × ReadsEach lefts files × IsAdvice files text

-- advice on the files that a command refuses: `verify` alone has it
abbrev pub IsAdvised : List LibraryFile → Held → Listed → Command → Fault → (text : List ℕ) → Type 0
IsAdvised library held listed (commands.Verify verify) (faults.Refusal refusal) text = OfFiles library held listed (commands.Verify verify) (IsAdviceOn text)
IsAdvised library held listed command fault text = ⊥

-- whether standard error is to tell no more than the complaint
abbrev pub is_quiet : Command → Bool
is_quiet (commands.Run run) = run.quiet
is_quiet (commands.Replay replay) = replay.quiet
is_quiet (commands.Trace trace) = trace.quiet
is_quiet (commands.Races races) = races.quiet
is_quiet (commands.Search search) = search.quiet
is_quiet (commands.Shrink shrink) = shrink.quiet
is_quiet (commands.Verify verify) = verify.quiet
is_quiet (commands.Disasm disasm) = disasm.quiet
is_quiet (commands.Schedule schedule) = schedule.quiet
is_quiet (commands.Places places) = places.quiet

-- What is told of a fault of a command, which isn't to be quiet: a text of which nothing is said, with no more behind it than advice.
abbrev pub IsToldOf : List LibraryFile → Held → Listed → Command → Fault → (new : List ℕ) → Type 0
IsToldOf library held listed command fault new = (is_quiet command ≡ false)
    × ((front text : List ℕ) × (new ≡ front ++ text) × ((text ≡ []) ⊎ IsAdvised library held listed command fault text))

-- what keeps a command from its end, where the words are one that stands for files
abbrev pub complaint_fault : Complaint → Option Fault
complaint_fault (complaints.Usage usage) = None
complaint_fault (complaints.Files fault) = None
complaint_fault (complaints.Fault fault) = Some fault
complaint_fault (complaints.Library fault name) = Some fault

-- the text that was told stands; or another one is told, of the fault of the command of the words; or of help that can't be written, of
-- which nothing is said
abbrev pub IsExplainedFault : List LibraryFile → Held → Listed → (words : List (List ℕ)) → Fault → (old new : List ℕ) → Type 0
IsExplainedFault library held listed words fault old new = (new ≡ old)
    ⊎ (((command : Command) × Spells words command × IsToldOf library held listed command fault new)
    ⊎ ((usage : Usage) × Fails words usage × Asks usage))

-- behind words that are no command, or stand for no files, nothing is told
abbrev pub IsExplainedBy : List LibraryFile → Held → Listed → (words : List (List ℕ)) → Option Fault → (old new : List ℕ) → Type 0
IsExplainedBy library held listed words None old new = new ≡ old
IsExplainedBy library held listed words (Some fault) old new = IsExplainedFault library held listed words fault old new

abbrev pub IsExplained : List LibraryFile → Held → Listed → (words : List (List ℕ)) → Complaint → (old new : List ℕ) → Type 0
IsExplained library held listed words complaint old new = IsExplainedBy library held listed words (complaint_fault complaint) old new
