-- What the engine of shrinking answers and writes, where it comes to a fault.
use Rattle.std.proofs.Common.{ℕ, List, [], Option, None, Some, inl, inr, refl, subst, sym}
use Rattle.std.specs.Prelude.{IfErr, IfOk, Result, string_bytes, unwrap_or}
use Rattle.std.specs.Io.KnownBytes.{Appends}
use Rattle.std.proofs.lemmas.List.{append-nil}
use Rattle.model.specs.Devices.{AppendsFront}
use Rattle.model.specs.declared.device.DeviceFault.{DeviceFault}
use Rattle.model.specs.declared.device.DeviceFault.TheVariants as devices
use Rattle.command_line.specs.declared.options.Shrink.{Shrink}
use Rattle.search.specs.declared.run_outcomes.wanted.Wanted.{Wanted}
use Rattle.program_files.specs.Folders.{Held}
use Rattle.engines.specs.Commands.{IsUnrecorded, LeavesAt}
use Rattle.engines.specs.Devices.{IsUnable, fault_of}
use Rattle.engines.specs.Files.{OfSchedule, written_at}
use Rattle.engines.specs.Goals.{IsAskedFor}
use Rattle.engines.specs.Opening.{IsKeptBy}
use Rattle.engines.specs.Recordings.{conditions_of}
use Rattle.engines.specs.Shrinks.{IsShrinkUndone, IsUnshrunk, Shrinks, ShrinksPart}
use Rattle.engines.specs.declared.fault.Fault.{Fault}
use Rattle.engines.specs.declared.fault.Fault.TheVariants as faults
use Rattle.engines.specs.declared.status.Status.{Status}

pub kept_is_unshrunk : (fault : Fault) (left : Option (List ℕ)) (given : ℕ) (lefts : List (Option (List ℕ))) (options : Shrink) (want : Wanted)
    (held : Option (List ℕ)) (made : Option (List ℕ))
    → IsKeptBy left lefts (conditions_of options.limits options.any_files given (unwrap_or options.budget 10000000)) fault → IsUnshrunk left given lefts options want held held made made fault
kept_is_unshrunk faults.Device left given lefts options want held made kept = inl (refl, refl)
kept_is_unshrunk faults.Memory left given lefts options want held made kept = inl (refl, refl)
kept_is_unshrunk (faults.Schedule fault) left given lefts options want held made kept = (refl, refl, kept)
kept_is_unshrunk (faults.Text fault) left given lefts options want held made kept = (refl, refl, kept)
kept_is_unshrunk (faults.Place missing) left given lefts options want held made kept = (refl, refl, kept)
kept_is_unshrunk (faults.Refusal refusal) left given lefts options want held made kept = (refl, refl, kept)

pub part_is_unshrunk : (fault : DeviceFault) (left : Option (List ℕ)) (given : ℕ) (lefts : List (Option (List ℕ))) (options : Shrink) (want : Wanted)
    (old new : Option (List ℕ)) (kept made : Option (List ℕ))
    → ShrinksPart left given lefts options want old new kept made → IsUnshrunk left given lefts options want old new kept made (fault_of fault)
part_is_unshrunk devices.Device left given lefts options want old new kept made part = part
part_is_unshrunk devices.Memory left given lefts options want old new kept made part = part

-- all of a text is a front of it
all_front : (old new : Option (List ℕ)) (text : List ℕ) → Appends old new text → AppendsFront old new text
all_front old new text all = (text, [], sym (append-nil text), all)

-- ---- the command is done, but for the record

whole_is_unshrunk : (left : Option (List ℕ)) (given : ℕ) (lefts : List (Option (List ℕ))) (options : Shrink) (want : Wanted) (old new made : Option (List ℕ))
    (fault : Fault) → IsUnable fault → (text : List ℕ) × (status : Status) × Shrinks left given lefts options want text made status × Appends old new text
    → IsUnshrunk left given lefts options want old new None made fault
whole_is_unshrunk left given lefts options want old new made faults.Device unable (text, status, shrinks, all) = inr (text, status, shrinks, all_front old new text all)
whole_is_unshrunk left given lefts options want old new made faults.Memory unable (text, status, shrinks, all) = inr (text, status, shrinks, all_front old new text all)
whole_is_unshrunk left given lefts options want old new made (faults.Refusal refusal) unable whole = absurd unable
whole_is_unshrunk left given lefts options want old new made (faults.Schedule fault) unable whole = absurd unable
whole_is_unshrunk left given lefts options want old new made (faults.Text fault) unable whole = absurd unable
whole_is_unshrunk left given lefts options want old new made (faults.Place missing) unable whole = absurd unable

module _ (held holds : Held) (given : ℕ) (lefts : List (Option (List ℕ))) (old new made : Option (List ℕ)) (outcome : Result Status Fault) (fault : Fault)
    (shrink : Shrink) (want : Wanted) (asked : IsAskedFor held (Some shrink.goal) want) where
  abbrev Done : Status → Type 0
  Done status = (text : List ℕ) × OfSchedule held (string_bytes shrink.schedule) (λ left. Shrinks left given lefts shrink want text made status) × Appends old new text

  abbrev Undone : Fault → Type 0
  Undone told = OfSchedule held (string_bytes shrink.schedule) (λ left. IsUnshrunk left given lefts shrink want old new None made told)

  whole : (status : Status) → IsUnable fault → Done status → Undone fault
  whole status unable (text, (left, at, shrinks), all) = (left, at, whole_is_unshrunk _ _ _ _ _ old new made fault unable (text, status, shrinks, all))

  pub shrink_undone : IsUnrecorded outcome held holds (written_at shrink.record made) fault → IfOk outcome Done → IfErr outcome Undone
      → LeavesAt (IsShrinkUndone held given lefts shrink old new) held holds fault
  shrink_undone (inl (is, inl with)) done undone =
      (None, record { want = want; asked = asked; file = made; unshrunk = subst (λ (o : Result Status Fault). IfErr o Undone) is undone; recorded = inl refl }, with)
  shrink_undone (inl (is, inr with)) done undone =
      (written_at shrink.record made, record { want = want; asked = asked; file = made; unshrunk = subst (λ (o : Result Status Fault). IfErr o Undone) is undone; recorded = inr refl }, with)
  shrink_undone (inr ((status, is), unable, with)) done undone =
      let all = subst (λ (o : Result Status Fault). IfOk o Done) is done in
      (None, record { want = want; asked = asked; file = made; unshrunk = whole status unable all; recorded = inl refl }, with)
