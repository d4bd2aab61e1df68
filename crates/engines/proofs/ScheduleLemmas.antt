-- What the writing of a schedule file leaves.
use Rattle.std.proofs.Common.{◌≡◌, ℕ, List, [], ◌∷◌, Option, None, Some, refl, subst, sym, true}
use Rattle.std.specs.Prelude.{IfOk, Result, Ok, Err, string_bytes}
use Rattle.std.specs.Io.KnownBytes.{Appends}
use Rattle.std.proofs.lemmas.List.{append-nil}
use Rattle.command_line.specs.declared.options.Schedule.{Schedule}
use Rattle.program_files.specs.Folders.{Held}
use Rattle.engines.specs.Commands.{IsScheduleDone, Leaves}
use Rattle.engines.specs.Files.{IsWith}
use Rattle.engines.specs.Transcriptions.{Transcribes}
use Rattle.engines.specs.declared.fault.Fault.{Fault}
use Rattle.engines.specs.declared.status.Status.{Status}
use Rattle.engines.specs.declared.status.Status.TheVariants.{Returned}

-- nothing is on the output behind what was
pub appends_nothing : (old : Option (List ℕ)) → Appends old old []
appends_nothing None = tt
appends_nothing (Some bytes) = sym (append-nil bytes)

pub write_leaves : (held holds : Held) (input : Option (List ℕ)) (schedule : Schedule) (old : Option (List ℕ)) (result : Result Status Fault)
    → schedule.write ≡ true
    → IfOk result (λ status. (bytes : List ℕ) × Transcribes schedule.as_version input bytes × (status ≡ Returned) × IsWith held holds (Some ((string_bytes schedule.file, bytes) ∷ [])))
    → IfOk result (Leaves (IsScheduleDone held input schedule schedule.write) old old held holds)
write_leaves held holds input schedule old (Ok status) write (bytes, transcribes, returned, with) =
    subst (λ w. Leaves (IsScheduleDone held input schedule w) old old held holds status) (sym write)
    ([], Some ((string_bytes schedule.file, bytes) ∷ []), (bytes, transcribes, refl, refl, returned), appends_nothing old, with)
write_leaves held holds input schedule old (Err fault) write done = tt
