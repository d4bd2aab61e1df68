-- Why no page is made, and how far its report is written.
use Rattle.std.proofs.Common.{◌≡◌, ◌⊎◌, ◌++◌, ◌∙◌, ap, arith, ℕ, List, [], Option, Some, None, Result, Ok, Err, inl, inr, refl, subst, sym, Bool}
use Rattle.std.specs.Prelude.{IfErr, IfOk}
use Rattle.std.specs.declared.string.String.{String}
use Rattle.std.specs.Global.{Global}
use Rattle.std.specs.Io.KnownBytes.{Appends}
use Rattle.model.specs.declared.device.DeviceFault.{DeviceFault}
use Rattle.model.specs.declared.device.DeviceFault.TheVariants as devices
use Rattle.model.specs.declared.end.End.{End}
use Rattle.model.specs.declared.event.Event.{Event}
use Rattle.model.specs.declared.limits.Limits.{Limits}
use Rattle.model.specs.declared.report.Report.{Report}
use Rattle.model.specs.Classes.{Program}
use Rattle.model.specs.Devices.{AppendsFront, CountsFault}
use Rattle.pages.specs.Pages.{IsPage}
use Rattle.program_runs.specs.traced_runs.Traces.{IsTrace}
use Rattle.program_runs.specs.declared.traced_runs.window.Window.{Window}
use Rattle.command_line.specs.declared.options.Trace.{Trace}
use Rattle.engines.specs.Commands.{IsPageDone, IsPageUndone, IsRunPaged, IsRunUnpaged, IsUnrecorded, Leaves, LeavesAt}
use Rattle.engines.specs.Devices.{IsUnable, fault_of}
use Rattle.engines.specs.Files.{Held, IsWith, written_at}
use Rattle.engines.specs.GivenPlaces.{told_status, told_text}
use Rattle.engines.specs.Opening.{IsKeptBy, IsOpened}
use Rattle.engines.specs.PagedRuns.{IsPaged, IsUnpaged, PagesFront, PagesPart, TracesAs}
use Rattle.engines.specs.declared.fault.Fault.{Fault}
use Rattle.engines.specs.declared.fault.Fault.TheVariants as faults
use Rattle.engines.specs.declared.recording.Conditions.{Conditions}
use Rattle.engines.specs.declared.status.Status.{Status}

-- nothing is written where nothing is run
pub kept_is_unpaged : (fault : Fault) (left : Option (List ℕ)) (lefts : List (Option (List ℕ))) (options : Conditions) (window : Window)
    (held : Option (List ℕ)) → IsKeptBy left lefts options fault
    → IsUnpaged left lefts options window held held fault
kept_is_unpaged faults.Device left lefts options window held kept = inl refl
kept_is_unpaged faults.Memory left lefts options window held kept = inl refl
kept_is_unpaged (faults.Schedule fault) left lefts options window held kept = (refl, kept)
kept_is_unpaged (faults.Text fault) left lefts options window held kept = (refl, kept)
kept_is_unpaged (faults.Place missing) left lefts options window held kept = (refl, kept)
kept_is_unpaged (faults.Refusal refusal) left lefts options window held kept = (refl, kept)

-- where a device fails, or memory is wanted, a part may be written
pub part_is_unpaged : (fault : DeviceFault) (left : Option (List ℕ)) (lefts : List (Option (List ℕ))) (options : Conditions)
    (window : Window) (old new : Option (List ℕ)) → PagesPart left lefts options window old new
    → IsUnpaged left lefts options window old new (fault_of fault)
part_is_unpaged devices.Device left lefts options window old new part = part
part_is_unpaged devices.Memory left lefts options window old new part = part

-- ---- the lines

-- those that a file has that had none
pub made_lines : (trees : Program) (events : List Event) (limits : Limits) (window : Window) (report : Report) (end : End) (old new : List ℕ)
    → old ≡ [] → (lines : List ℕ) × IsTrace trees events limits window report end lines × Appends (Some old) (Some new) lines
    → IsTrace trees events limits window report end new
made_lines trees events limits window report end old new none (lines, traced, appended) =
    subst (IsTrace trees events limits window report end) (sym (appended ∙ ap (λ l. l ++ lines) none)) traced

-- a file in memory never fails
pub is_memory : (fault : DeviceFault) → CountsFault fault 0 0 → fault ≡ devices.Memory
is_memory devices.Device counted = absurd (omega (arith, counted))
is_memory devices.Memory counted = refl

-- ---- the report, behind the page

module _ (schedule : List ℕ) (files : List (List ℕ)) (options : Conditions) (window : Window) (trees : Program) (events : List Event)
    (limits : Limits) (gives_up : Bool) (report : Report) (end : End) (lines page : List ℕ)
    (traced : TracesAs trees events limits window report end lines) (page_is : IsPage lines (told_text gives_up report end) page)
    (opened : IsOpened schedule files options trees events limits gives_up) (old new : Option (List ℕ)) where
  is_paged : IsPaged schedule files options window (told_text gives_up report end) page (told_status gives_up report end)
  is_paged = record {
    trees = trees;
    events = events;
    limits = limits;
    gives_up = gives_up;
    opened = opened;
    report = report;
    end = end;
    lines = lines;
    traced = traced;
    told = refl;
    page_is = page_is;
    ended = refl;
  }

  -- a front of it is written
  pub front_written : AppendsFront old new (told_text gives_up report end) → PagesFront schedule files options window old new
  front_written front = inr (told_text gives_up report end, page, told_status gives_up report end, is_paged, front)

  -- all of it is
  pub all_paged : (status : Status) → status ≡ told_status gives_up report end → Appends old new (told_text gives_up report end)
      → (text : List ℕ) × IsPaged schedule files options window text page status × Appends old new text
  all_paged status ended written =
      (told_text gives_up report end, subst (IsPaged schedule files options window (told_text gives_up report end) page) (sym ended) is_paged, written)

-- ---- a fault of the run, or of the file of its page

module _ (held holds : Held) (given : ℕ) (lefts : List (Option (List ℕ))) (old new made : Option (List ℕ)) (trace : Trace) where
  abbrev PageMade : Status → Type 0
  PageMade status = (text page : List ℕ) × (made ≡ Some page) × IsRunPaged held given lefts trace text page status × Appends old new text

  -- with a status, whatever is answered
  pub page_done_of : (outcome result : Result Status Fault)
      → IfOk result (λ status. (outcome ≡ Ok status) × IsWith held holds (written_at trace.html made)) → IfOk outcome PageMade
      → IfOk result (Leaves (IsPageDone held given lefts trace) old new held holds)
  page_done_of outcome (Ok status) (is, with) done =
      let whole = subst (λ (o : Result Status Fault). IfOk o PageMade) is done in
      (whole.0, written_at trace.html made, record { page = whole.1; paged = whole.3; recorded = ap (written_at trace.html) whole.2 }, whole.4, with)
  page_done_of outcome (Err fault) recorded done = tt

  none_at : (html : Option (String Global)) → IsWith held holds (written_at html None) → IsWith held holds None
  none_at None with = with
  none_at (Some html) with = with

  pub page_undone : (outcome : Result Status Fault) (fault : Fault) → IsUnrecorded outcome held holds (written_at trace.html made) fault
      → IfOk outcome PageMade → IfErr outcome (IsRunUnpaged held given lefts trace old new) → IfErr outcome (λ _. made ≡ None)
      → LeavesAt (IsPageUndone held given lefts trace old new) held holds fault
  page_undone outcome fault (inl (is, inl with)) done undone none =
      (None, (refl, inl (subst (λ (o : Result Status Fault). IfErr o (IsRunUnpaged held given lefts trace old new)) is undone)), with)
  page_undone outcome fault (inl (is, inr with)) done undone none =
      let no_page : made ≡ None = subst (λ (o : Result Status Fault). IfErr o (λ (_ : Fault). made ≡ None)) is none in (
        None,
        (refl, inl (subst (λ (o : Result Status Fault). IfErr o (IsRunUnpaged held given lefts trace old new)) is undone)),
        none_at trace.html (subst (λ m. IsWith held holds (written_at trace.html m)) no_page with),
      )
  page_undone outcome fault (inr ((status, is), unable, with)) done undone none =
      let whole = subst (λ (o : Result Status Fault). IfOk o PageMade) is done in
      (None, (refl, inr (whole.0, whole.1, status, whole.3, whole.4, unable)), with)

  -- the same of what is answered, whatever that is
  pub page_undone_of : (outcome result : Result Status Fault) → IfErr result (IsUnrecorded outcome held holds (written_at trace.html made))
      → IfOk outcome PageMade → IfErr outcome (IsRunUnpaged held given lefts trace old new) → IfErr outcome (λ _. made ≡ None)
      → IfErr result (LeavesAt (λ fault written. (IsUnable fault × (new ≡ old) × (written ≡ None)) ⊎ IsPageUndone held given lefts trace old new fault written) held holds)
  page_undone_of outcome (Ok status) unrecorded done undone none = tt
  page_undone_of outcome (Err fault) unrecorded done undone none =
      let left = page_undone outcome fault unrecorded done undone none in
      (left.0, inr left.1, left.2)
