-- Why nothing is traced, and how far a trace is written.
use Rattle.std.proofs.Common.{ℕ, List, ◌++◌, Bool, Option, inl, inr, refl}
use Rattle.std.specs.Io.KnownBytes.{Appends}
use Rattle.model.specs.declared.device.DeviceFault.{DeviceFault}
use Rattle.model.specs.declared.device.DeviceFault.TheVariants as devices
use Rattle.model.specs.declared.end.End.{End}
use Rattle.model.specs.declared.event.Event.{Event}
use Rattle.model.specs.declared.limits.Limits.{Limits}
use Rattle.model.specs.declared.report.Report.{Report}
use Rattle.model.specs.Classes.{Program}
use Rattle.model.specs.Devices.{AppendsFront}
use Rattle.listings.proofs.disasm.Writing.{appends_on, then_fails}
use Rattle.program_runs.specs.traced_runs.Traces.{IsTrace}
use Rattle.program_runs.specs.declared.traced_runs.window.Window.{Window}
use Rattle.engines.specs.Devices.{fault_of}
use Rattle.engines.specs.Opening.{IsKeptBy, IsOpened}
use Rattle.engines.specs.GivenPlaces.{told_status, told_text}
use Rattle.engines.specs.Traces.{IsTraced, IsUntraced, TracesFront, TracesPart}
use Rattle.engines.specs.declared.fault.Fault.{Fault}
use Rattle.engines.specs.declared.fault.Fault.TheVariants as faults
use Rattle.engines.specs.declared.recording.Conditions.{Conditions}

-- nothing is written where nothing is run
pub kept_is_untraced : (fault : Fault) (left : Option (List ℕ)) (lefts : List (Option (List ℕ))) (options : Conditions) (window : Window)
    (held : Option (List ℕ)) → IsKeptBy left lefts options fault
    → IsUntraced left lefts options window held held fault
kept_is_untraced faults.Device left lefts options window held kept = inl refl
kept_is_untraced faults.Memory left lefts options window held kept = inl refl
kept_is_untraced (faults.Schedule fault) left lefts options window held kept = (refl, kept)
kept_is_untraced (faults.Text fault) left lefts options window held kept = (refl, kept)
kept_is_untraced (faults.Place missing) left lefts options window held kept = (refl, kept)
kept_is_untraced (faults.Refusal refusal) left lefts options window held kept = (refl, kept)

-- where a device fails, or memory is wanted, a part may be written
pub part_is_untraced : (fault : DeviceFault) (left : Option (List ℕ)) (lefts : List (Option (List ℕ))) (options : Conditions)
    (window : Window) (old new : Option (List ℕ)) → TracesPart left lefts options window old new
    → IsUntraced left lefts options window old new (fault_of fault)
part_is_untraced devices.Device left lefts options window old new part = part
part_is_untraced devices.Memory left lefts options window old new part = part

-- ---- the lines, and then the report

module _ (schedule : List ℕ) (files : List (List ℕ)) (options : Conditions) (window : Window) (trees : Program) (events : List Event)
    (limits : Limits) (gives_up : Bool) (report : Report) (end : End) (old mid : Option (List ℕ))
    (traced : (lines : List ℕ) × IsTrace trees events limits window report end lines × Appends old mid lines) (opened : IsOpened schedule files options trees events limits gives_up) where
  is_traced : IsTraced schedule files options window (traced.0 ++ told_text gives_up report end) (told_status gives_up report end)
  is_traced = record { trees = trees; events = events; limits = limits; gives_up = gives_up; opened = opened; lines = traced.0; report = report; end = end; traced = traced.1; told = refl; ended = refl }

  -- the lines alone are written
  pub lines_alone : TracesFront schedule files options window old mid
  lines_alone = inr (traced.0 ++ told_text gives_up report end, told_status gives_up report end, is_traced, (traced.0, told_text gives_up report end, refl, traced.2))

  -- and a front of the report
  pub report_fails : (new : Option (List ℕ)) → AppendsFront mid new (told_text gives_up report end) → TracesFront schedule files options window old new
  report_fails new front = inr (traced.0 ++ told_text gives_up report end, told_status gives_up report end, is_traced, then_fails old mid new traced.0 (told_text gives_up report end) traced.2 front)

  -- and all of it
  pub all_written : (new : Option (List ℕ)) → Appends mid new (told_text gives_up report end)
      → (text : List ℕ) × IsTraced schedule files options window text (told_status gives_up report end) × Appends old new text
  all_written new written = (traced.0 ++ told_text gives_up report end, is_traced, appends_on old mid new traced.0 (told_text gives_up report end) traced.2 written)
