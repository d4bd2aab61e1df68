-- What keeps a replay from its beginning.
use Rattle.std.proofs.Common.{◌≡◌, ◌∙◌, ℕ, List, Option, ◌⊎◌, ap, false, inl, inr, refl, subst, sym, true}
use Rattle.model.specs.declared.event.Event.{Event}
use Rattle.model.specs.declared.device.DeviceFault.{DeviceFault}
use Rattle.model.specs.declared.device.DeviceFault.TheVariants as devices
use Rattle.schedule.specs.Files.{Recording, ScheduleFile}
use Rattle.schedule.specs.Outcomes.{StandsIn}
use Rattle.schedule.specs.declared.schedule_text.either.EitherFault.{EitherFault}
use Rattle.schedule.specs.declared.schedule_text.either.EitherFault.TheVariants.{File, Text}
use Rattle.schedule.specs.schedule_text.Either.{GivesEvents, IsFaultOf, IsMemory, begins_text}
use Rattle.command_line.specs.declared.options.ThenRun.{ThenRun}
use Rattle.engines.specs.Continuations.{ContinuesPart, IsUncontinued}
use Rattle.engines.specs.Devices.{either_fault, fault_of}
use Rattle.engines.specs.Engines.{Reads}
use Rattle.engines.specs.Opening.{IsKeptBy, IsOfSchedule, IsUnspelled}
use Rattle.engines.specs.Replays.{IsFaulty, WritesPart}
use Rattle.engines.specs.Transcriptions.{IsUnprinted, IsUntranscribed, PrintsPart, TranscribesPart}
use Rattle.engines.specs.declared.fault.Fault.{Fault}
use Rattle.engines.specs.declared.fault.Fault.TheVariants as faults
use Rattle.engines.specs.declared.recording.Conditions.{Conditions}

-- nothing is written where nothing is run
pub kept_is_faulty : (fault : Fault) (left : Option (List ℕ)) (lefts : List (Option (List ℕ))) (options : Conditions)
    (held : Option (List ℕ)) → IsKeptBy left lefts options fault → IsFaulty left lefts options held held fault
kept_is_faulty faults.Device left lefts options held kept = inl refl
kept_is_faulty faults.Memory left lefts options held kept = inl refl
kept_is_faulty (faults.Schedule fault) left lefts options held kept = (refl, kept)
kept_is_faulty (faults.Text fault) left lefts options held kept = (refl, kept)
kept_is_faulty (faults.Place missing) left lefts options held kept = (refl, kept)
kept_is_faulty (faults.Refusal refusal) left lefts options held kept = (refl, kept)

pub kept_is_uncontinued : (fault : Fault) (left : Option (List ℕ)) (lefts : List (Option (List ℕ))) (options : Conditions) (then_run : ThenRun)
    (held : Option (List ℕ)) (made : Option (List ℕ))
    → IsKeptBy left lefts options fault → IsUncontinued left lefts options then_run held held made made fault
kept_is_uncontinued faults.Device left lefts options then_run held made kept = inl (refl, refl)
kept_is_uncontinued faults.Memory left lefts options then_run held made kept = inl (refl, refl)
kept_is_uncontinued (faults.Schedule fault) left lefts options then_run held made kept = (refl, refl, kept)
kept_is_uncontinued (faults.Text fault) left lefts options then_run held made kept = (refl, refl, kept)
kept_is_uncontinued (faults.Place missing) left lefts options then_run held made kept = (refl, refl, kept)
kept_is_uncontinued (faults.Refusal refusal) left lefts options then_run held made kept = (refl, refl, kept)

-- where a device fails, or there is no memory for what it does, a part may be written
pub part_is_faulty : (fault : DeviceFault) (left : Option (List ℕ)) (lefts : List (Option (List ℕ))) (options : Conditions)
    (old new : Option (List ℕ)) → WritesPart left lefts options old new → IsFaulty left lefts options old new (fault_of fault)
part_is_faulty devices.Device left lefts options old new part = part
part_is_faulty devices.Memory left lefts options old new part = part

pub part_is_uncontinued : (fault : DeviceFault) (left : Option (List ℕ)) (lefts : List (Option (List ℕ))) (options : Conditions)
    (then_run : ThenRun) (old new : Option (List ℕ)) (kept made : Option (List ℕ))
    → ContinuesPart left lefts options then_run old new kept made → IsUncontinued left lefts options then_run old new kept made (fault_of fault)
part_is_uncontinued devices.Device left lefts options then_run old new kept made part = part
part_is_uncontinued devices.Memory left lefts options then_run old new kept made part = part

pub part_is_untranscribed : (fault : DeviceFault) (as_version : Option ℕ) (left old new : Option (List ℕ)) → TranscribesPart as_version left old new
    → IsUntranscribed as_version left old new (fault_of fault)
part_is_untranscribed devices.Device as_version left old new part = part
part_is_untranscribed devices.Memory as_version left old new part = part

pub part_is_unprinted : (fault : DeviceFault) (left old new : Option (List ℕ)) → PrintsPart left old new
    → IsUnprinted left old new (fault_of fault)
part_is_unprinted devices.Device left old new part = part
part_is_unprinted devices.Memory left old new part = part

-- it is no fault of a schedule
pub of_no_schedule : (fault : DeviceFault) → IsOfSchedule (fault_of fault) → ⊥
of_no_schedule devices.Device of_schedule = of_schedule
of_no_schedule devices.Memory of_schedule = of_schedule

-- ---- a schedule that is none

-- a schedule file does not begin as a text does
file_is_no_text : (bytes : List ℕ) (recorded : Option Recording) (events : List Event) → begins_text bytes ≡ true
    → ScheduleFile bytes recorded events → ⊥
file_is_no_text bytes recorded events text file = let bad : false ≡ true = sym (ap begins_text file.spelled) ∙ text in cc

-- memory apart, its bytes give none
pub unspelled : (fault : EitherFault) (left : Option (List ℕ)) (bytes : List ℕ) → Reads left bytes
    → ((recorded : Option Recording) (events : List Event) → GivesEvents bytes recorded events → IsMemory fault) → IsFaultOf bytes fault
    → IsMemory fault ⊎ IsUnspelled left fault
unspelled fault left bytes read only (inl memory) = inl memory
unspelled (File fault) left bytes read only (inr stands) = inr (bytes, read, (λ recorded events given. subst (StandsIn bytes) (only recorded events given) stands.1), stands)
unspelled (Text fault) left bytes read only (inr stands) = inr (bytes, read, none, stands)
  where
    none : (recorded : Option Recording) (events : List Event) → GivesEvents bytes recorded events → ⊥
    none recorded events (inl file) = file_is_no_text bytes recorded events stands.0 file
    none recorded events (inr (entries, text, same)) = stands.1 recorded entries text.1

-- what is answered then
kept_by : (fault : EitherFault) (left : Option (List ℕ)) (lefts : List (Option (List ℕ))) (options : Conditions)
    → IsMemory fault ⊎ IsUnspelled left fault → IsKeptBy left lefts options (either_fault fault)
kept_by (File fault) left lefts options (inl memory) = inl memory
kept_by (File fault) left lefts options (inr none) = inr (inl none)
kept_by (Text fault) left lefts options why = why

unprinted_by : (fault : EitherFault) (left held : Option (List ℕ)) → IsMemory fault ⊎ IsUnspelled left fault
    → IsUnprinted left held held (either_fault fault)
unprinted_by (File fault) left held why = (refl, why)
unprinted_by (Text fault) left held why = (refl, why)

module _ (fault : EitherFault) (left : Option (List ℕ)) (bytes : List ℕ) (read : Reads left bytes)
    (only : (recorded : Option Recording) (events : List Event) → GivesEvents bytes recorded events → IsMemory fault)
    (stands : IsFaultOf bytes fault) where
  pub either_is_kept : (lefts : List (Option (List ℕ))) (options : Conditions) → IsKeptBy left lefts options (either_fault fault)
  either_is_kept lefts options = kept_by fault left lefts options (unspelled fault left bytes read only stands)

  pub either_is_unprinted : (held : Option (List ℕ)) → IsUnprinted left held held (either_fault fault)
  either_is_unprinted held = unprinted_by fault left held (unspelled fault left bytes read only stands)
