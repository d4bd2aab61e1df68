-- Files that are read for advice.
use Rattle.std.proofs.Common.{inl, inr, ◌⊎◌, ◌≡◌, ℕ, List, [], ◌∷◌, Option, Some, refl, sym, subst}
use Rattle.std.specs.Prelude.{IfOk, Result, Ok, Err}
use Rattle.std.specs.Result.{result_unwrap_or}
use Rattle.std.specs.declared.vec.Vec.{Vec}
use Rattle.std.specs.Global.{Global}
use Rattle.advice.specs.Advice.{IsAdvice}
use Rattle.library_files.specs.Adding.{LibraryFile}
use Rattle.command_line.specs.CommandLine.{Spells}
use Rattle.command_line.specs.declared.options.Command.{Command}
use Rattle.engines.specs.declared.complaint.Complaint.{Complaint}
use Rattle.engines.specs.declared.fault.Fault.{Fault}
use Rattle.engines.specs.Advised.{IsAdviceOn, IsExplained, IsExplainedBy, IsToldOf, complaint_fault}
use Rattle.engines.specs.Commands.{AreFiles, OfFiles}
use Rattle.engines.specs.Engines.{ReadsEach}
use Rattle.engines.specs.Files.{Held, Listed, held_at, known}
use Rattle.engines.specs.Handed.{AreHanded}

-- files of these bytes are read as they are
pub reads_known : (files : List (List ℕ)) → ReadsEach (known files) files
reads_known [] = tt
reads_known (bytes ∷ files) = (refl, reads_known files)

-- advice on the files that are handed on, or nothing
pub advice_told : {E : Type 0} (library : List LibraryFile) (held : Held) (listed : Listed) (command : Command) (result : Result (Vec ℕ Global) E) (default : Vec ℕ Global)
    (paths : List (List ℕ)) → AreFiles held listed command paths → (files : List (List ℕ)) (added own : List LibraryFile)
    → AreHanded library command (held_at held paths) files added own → IfOk result (λ text. IsAdvice files text.items) → default.items ≡ []
    → ((result_unwrap_or result default).items ≡ []) ⊎ OfFiles library held listed command (IsAdviceOn (result_unwrap_or result default).items)
advice_told library held listed command (Ok text) default paths are files added own handed advice none =
    inr (paths, are, files, added, own, handed, (files, reads_known files, advice))
advice_told library held listed command (Err fault) default paths are files added own handed advice none = inl none

-- ---- what is told

-- it is told of a fault of the command of the words
pub explained : (library : List LibraryFile) (held : Held) (listed : Listed) (words : List (List ℕ)) (complaint : Complaint) (command : Command) (fault : Fault) (old new : List ℕ)
    → complaint_fault complaint ≡ Some fault → Spells words command → (new ≡ old) ⊎ IsToldOf library held listed command fault new
    → IsExplained library held listed words complaint old new
explained library held listed words complaint command fault old new is spelled (inl same) =
    subst (λ (f : Option Fault). IsExplainedBy library held listed words f old new) (sym is) (inl same)
explained library held listed words complaint command fault old new is spelled (inr more) =
    subst (λ (f : Option Fault). IsExplainedBy library held listed words f old new) (sym is) (inr (inl (command, spelled, more)))
