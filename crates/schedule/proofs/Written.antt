-- What the bytes of a schedule that are written spell.
use Rattle.std.proofs.Common.{◌≡◌, ℕ, List, Option, Result, Ok, Err, ap, ◌∙◌, refl, subst}
use Rattle.std.specs.Prelude.{IfOk}
use Rattle.model.specs.declared.event.ScheduleEntry.{ScheduleEntry}
use Rattle.model.specs.Schedule.{AreEntries, events_of}
use Rattle.schedule.specs.Files.{Recording, RecordedFits, ScheduleFile, schedule}
use Rattle.schedule.specs.Joined.{AreJoined, RecordedFile}

abbrev file_of : (bytes : List ℕ) (recorded : Option Recording) (entries whole : List ScheduleEntry) → entries ≡ whole → AreEntries entries
    → bytes ≡ schedule recorded entries → RecordedFits recorded → ScheduleFile bytes recorded (events_of whole)
file_of bytes recorded entries whole are fit is fits = record {
  entries = whole;
  fits = subst AreEntries are fit;
  recording_fits = fits;
  spelled = is ∙ ap (schedule recorded) are;
  stands_for = refl;
}

pub spells_so : {F E : Type 0} (result : Result F E) (bytes : F → List ℕ) (recorded : Option Recording) (entries whole : List ScheduleEntry)
    → entries ≡ whole → AreEntries entries → IfOk result (λ v. bytes v ≡ schedule recorded entries) → IfOk result (λ _. RecordedFits recorded)
    → IfOk result (λ v. ScheduleFile (bytes v) recorded (events_of whole))
spells_so (Ok v) bytes recorded entries whole are fit is fits = file_of (bytes v) recorded entries whole are fit is fits
spells_so (Err e) bytes recorded entries whole are fit is fits = tt

pub is_joined : {F E : Type 0} (result : Result F E) (bytes : F → List ℕ) (recorded : Option Recording) (entries whole : List ScheduleEntry)
    → entries ≡ whole → AreEntries entries → IfOk result (λ v. bytes v ≡ schedule recorded entries) → IfOk result (λ _. RecordedFits recorded)
    → AreJoined whole → IfOk result (λ v. RecordedFile (bytes v) recorded (events_of whole))
is_joined (Ok v) bytes recorded entries whole are fit is fits joined = record { file = file_of (bytes v) recorded entries whole are fit is fits; joined = joined }
is_joined (Err e) bytes recorded entries whole are fit is fits joined = tt
