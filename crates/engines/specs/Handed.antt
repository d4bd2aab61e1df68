-- Which class files a command hands on (own): those for which its words stand, as they are read, and behind them those of the library
-- that are added to them.
use Rattle.std.specs.Prelude.{◌≡◌, ◌⊎◌, ◌++◌, ◌-◌, ℕ, Bool, List, [], Option, Some, None, if◌then◌else◌, ltb, slice_get}
use Rattle.std.specs.Option.{option_and_then, option_map}
use Rattle.model.specs.Names.{Name}
use Rattle.library_files.specs.Adding.{LibraryFile}
use Rattle.library_files.specs.Completing.{AreAddedTo, AreOwnOf, bytes_of_added}
use Rattle.command_line.specs.declared.options.Command.{Command}
use Rattle.command_line.specs.declared.options.Command.TheVariants as commands
use Rattle.engines.specs.Engines.{IsOfFile, ReadsEach}
use Rattle.engines.specs.declared.complaint.Complaint.{Complaint}
use Rattle.engines.specs.declared.complaint.Complaint.TheVariants as complaints
use Rattle.engines.specs.declared.fault.Fault.{Fault}
use Rattle.engines.specs.declared.fault.Fault.TheVariants as faults

-- the library, unless the files are to stand alone
abbrev pub unless_alone : Bool → List LibraryFile → List LibraryFile
unless_alone alone library = if alone then [] else library

-- the classes that may be added to the files of a command
abbrev pub library_of : Command → List LibraryFile → List LibraryFile
library_of (commands.Run run) library = unless_alone run.files_alone library
library_of (commands.Replay replay) library = unless_alone replay.files_alone library
library_of (commands.Trace trace) library = unless_alone trace.files_alone library
library_of (commands.Races races) library = unless_alone races.files_alone library
library_of (commands.Search search) library = unless_alone search.files_alone library
library_of (commands.Shrink shrink) library = unless_alone shrink.files_alone library
library_of (commands.Verify verify) library = unless_alone verify.files_alone library
library_of (commands.Disasm disasm) library = []
library_of (commands.Schedule schedule) library = []
library_of (commands.Places places) library = unless_alone places.files_alone library

-- these are the files that are read, and behind them those of the classes that the library adds to them; and these are its classes in
-- whose place they have their own
abbrev pub AreHanded : List LibraryFile → Command → (lefts : List (Option (List ℕ))) → List (List ℕ) → (added own : List LibraryFile) → Type 0
AreHanded library command lefts files added own = (given : List (List ℕ)) × ReadsEach lefts given
    × AreAddedTo (library_of command library) given added × (files ≡ given ++ bytes_of_added added) × AreOwnOf (library_of command library) given own

-- the name of the class of the library that has this number among the files, if one has
abbrev pub added_name : (given : ℕ) → (added : List LibraryFile) → (number : ℕ) → Option Name
added_name given added number = if ltb number given then None else option_map (λ (c : LibraryFile). c.name) (slice_get added (number - given))

-- the name of the class of the library that is refused, if it is one
abbrev pub refused_name : (given : ℕ) → (added : List LibraryFile) → Fault → Option Name
refused_name given added faults.Device = None
refused_name given added faults.Memory = None
refused_name given added (faults.Schedule fault) = None
refused_name given added (faults.Text fault) = None
refused_name given added (faults.Place missing) = None
refused_name given added (faults.Refusal refusal) = option_and_then (added_name given added) refusal.file

-- the complaint is of this fault: it has the name of the class of the library that is refused, if it is one
abbrev pub IsComplaint : (given : ℕ) → (added : List LibraryFile) → Fault → Complaint → Type 0
IsComplaint given added fault (complaints.Usage usage) = ⊥
IsComplaint given added fault (complaints.Files other) = ⊥
IsComplaint given added fault (complaints.Fault told) = (told ≡ fault) × (refused_name given added fault ≡ None)
IsComplaint given added fault (complaints.Library told name) = (told ≡ fault) × (refused_name given added fault ≡ Some name.now)

-- a class file can't be read, or memory is wanted
abbrev pub IsUnread : Fault → Type 0
IsUnread fault = (fault ≡ faults.Memory) ⊎ ((file : ℕ) × IsOfFile file fault)
