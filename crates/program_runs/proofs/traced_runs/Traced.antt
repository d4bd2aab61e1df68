-- A whole run that is told.
use Rattle.std.proofs.Common.{◌≡◌, ℕ, List, [], length, take, Some, refl, sym, ap, subst, ◌∙◌}
use Rattle.std.specs.Io.KnownBytes.{Appends}
use Rattle.std.proofs.Math.Seq.{take-append_seam}
use Rattle.std.proofs.lemmas.List.{append-nil}
use Rattle.model.specs.declared.end.End.{End}
use Rattle.model.specs.declared.event.Event.{Event}
use Rattle.model.specs.declared.limits.Limits.{Limits}
use Rattle.model.specs.declared.report.Report.{Report}
use Rattle.model.specs.Classes.{Program}
use Rattle.model.specs.LimitStands.{bounds_of}
use Rattle.model.specs.Opening.{opening}
use Rattle.model.specs.Operands.{values}
use Rattle.model.specs.Run.{run}
use Rattle.run_laws.specs.soundness.Runs.{IsNoEventWrong}
use Rattle.run_laws.specs.word_reports.Reports.{AreReportsOfWords}
use Rattle.machine.specs.declared.machine.Stopped.{Stopped}
use Rattle.machine.specs.Machines.{MachineOf}
use Rattle.machine.specs.machine_replay.Shown.{IsOpened}
use Rattle.machine.specs.machine_replay.Shown as shown
use Rattle.machine.proofs.machine_replay.Replayed.{is_replay}
use Rattle.listings.proofs.disasm.Writing.{none_written}
use Rattle.program_runs.specs.traced_runs.Telling.{HasTold, StopsShort}
use Rattle.program_runs.specs.traced_runs.Traces.{IsTrace, Tells, WritesFront}
use Rattle.program_runs.specs.declared.traced_runs.window.Window.{Window}
use Rattle.program_runs.proofs.traced_runs.Gathering.{Held, nothing_told}

module _ (trees : Program) (window : Window) (limits : Limits) (events : List Event) where
  -- nothing is written where nothing is done
  pub unwritten : (held : Held) → WritesFront trees events limits window held held
  unwritten held =
      record { front = []; left = events; events_are = refl; state = opening values trees; reached = refl; text = []; told = nothing_told trees limits.frames window []; written = none_written held [] }

  module _ (old : MachineOf) (opened : IsOpened trees limits old) where
    frames_are : old.limits.frames ≡ limits.frames
    frames_are = ap (λ (l : Limits). l.frames) opened.limits_are

    pub front_written : (held now : Held) → StopsShort trees window old 0 events held now []
        → WritesFront trees events limits window held now
    front_written held now stops =
        let cut = stops opened.files [] opened.done refl in
        record {
          front = cut.front;
          left = cut.left;
          events_are = cut.events_are;
          state = cut.state;
          reached = subst (λ frames. run trees frames cut.front ≡ Some cut.state) frames_are cut.reached;
          text = cut.text;
          told = subst (λ frames. Tells trees frames window [] cut.front cut.text) frames_are cut.told;
          written = cut.written;
        }

    module _ (new : MachineOf) (n : ℕ) (why : Stopped) (held now : Held) (has : HasTold trees window old 0 events n why new held now [] []) where
      -- the report is that of the events that were told
      pub is_trace : AreReportsOfWords → IsNoEventWrong → (r : Report) (end : End) → shown.Tells trees new n why r end
          → (text : List ℕ) × IsTrace trees events limits window r end text × Appends held now text
      is_trace reported sound r end tells =
          let replay = is_replay reported sound trees limits old new events (n, why) r end opened has.goes tells in
          let told = has.told opened.files [] opened.done refl in
          let run_of = (has.goes.1 opened.files trees [] opened.done).done in
          let on = tells.reports (bounds_of new.limits) _ run_of.run.at run_of.program run_of.run.shown in
          let many : n ≡ length replay.front = sym on.count ∙ replay.count in
          let those : take n events ≡ replay.front = ap (λ k. take k events) many ∙ ap (take (length replay.front)) replay.events_are ∙ take-append_seam replay.front replay.left in
          let by_frames : Tells trees limits.frames window [] (take n events) told.0 = subst (λ frames. Tells trees frames window [] (take n events) told.0) frames_are told.1 in
          let all : told.2.0 ≡ told.0 = sym (append-nil told.2.0) ∙ sym told.2.2 in (
            told.0,
            record { replay = replay; told = subst (λ es. Tells trees limits.frames window [] es told.0) those by_frames },
            subst (Appends held now) all told.2.1,
          )
