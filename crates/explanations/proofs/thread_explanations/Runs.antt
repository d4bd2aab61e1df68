-- What is told of a machine that has gone through a schedule.
use Rattle.std.proofs.Common.{◌≡◌, ◌++◌, ℕ, List, [], Vec, Global, Result, Ok, Err, map, vec_items, ap, subst, ◌∙◌}
use Rattle.std.specs.Prelude.{IfOk}
use Rattle.std.specs.List.{flat_map}
use Rattle.model.specs.declared.end.End.{End}
use Rattle.model.specs.declared.event.Event.{Event}
use Rattle.model.specs.declared.limits.Limits.{Limits}
use Rattle.model.specs.declared.report.EndState.{EndState}
use Rattle.model.specs.declared.report.Report.{Report}
use Rattle.model.specs.Classes.{Program}
use Rattle.model.specs.LimitStands.{bounds_of}
use Rattle.model.specs.Report.{end_state_of, line}
use Rattle.run_laws.specs.soundness.Runs.{IsNoEventWrong}
use Rattle.run_laws.specs.word_reports.Reports.{AreReportsOfWords}
use Rattle.linked_code.specs.declared.program.LinkedProgram.{LinkedProgram}
use Rattle.machine_state.specs.declared.state.Shared.{Shared}
use Rattle.machine.specs.declared.machine.Stopped.{Stopped}
use Rattle.machine.specs.Machines.{MachineOf}
use Rattle.machine.specs.schedule_runs.Done.{GoesThrough, HasGone}
use Rattle.machine.specs.machine_replay.Shown.{IsOpened, Tells}
use Rattle.machine.proofs.machine_replay.Replayed.{is_replay}
use Rattle.explanations.specs.declared.thread_explanations.details.Details.{Details}
use Rattle.explanations.specs.declared.thread_explanations.waits.Wait.{Wait}
use Rattle.explanations.specs.thread_explanations.Cycles.{AreCycles}
use Rattle.explanations.specs.thread_explanations.Deadlocks.{deadlock_words}
use Rattle.explanations.specs.thread_explanations.Details.{HasWaits, lines_at}
use Rattle.explanations.specs.thread_explanations.Explained.{Explains, ExplainsRun, IsAfter, told_of_all}

-- what is written of threads of which this is known
abbrev pub written : List EndState → Details → List ℕ
written ends details =
    told_of_all 0 (map end_state_of ends) (lines_at details)
    ++ flat_map (λ (cycle : List ℕ). line (deadlock_words details.waits.items ends cycle)) (map vec_items details.cycles.items)

module _ (reported : AreReportsOfWords) (sound : IsNoEventWrong) (trees : Program) (limits : Limits) (old new : MachineOf) (schedule : List Event)
    (gone : ℕ × Stopped) (r : Report) (end : End) (opened : IsOpened trees limits old) (goes : GoesThrough gone schedule old new)
    (tells : Tells trees new gone.0 gone.1 r end) where
  after : IsAfter trees schedule limits r new
  after =
      let through : HasGone new opened.files trees [] schedule gone.0 gone.1 = goes.1 opened.files trees [] opened.done in
      let has = through.done.run in
      let on = tells.reports (bounds_of new.limits) _ has.at through.done.program has.shown in
      record {
        files = opened.files;
        limits_are = ap (λ (x : MachineOf). x.limits) goes.0 ∙ opened.limits_are;
        front = through.front;
        left = through.left;
        events_are = through.schedule_is;
        count = on.count ∙ through.count;
        done = through.done;
      }

  explains : (details : Details) → HasWaits new.program new.shared r.threads.items details → (text : List ℕ) → text ≡ written r.threads.items details
      → Explains new.program new.shared r.threads.items text
  explains details has text is = (
    lines_at details,
    map vec_items details.cycles.items,
    subst (λ (w : List Wait). AreCycles w (map vec_items details.cycles.items)) has.0 has.1,
    is ∙ ap (λ (w : List Wait). told_of_all 0 (map end_state_of r.threads.items) (lines_at details) ++ flat_map (λ (cycle : List ℕ). line (deadlock_words w r.threads.items cycle)) (map vec_items details.cycles.items)) has.0,
  )

  -- where there is a text
  pub explained_if : (p : LinkedProgram) (shared : Shared) (ends others : List EndState) → p ≡ new.program → shared ≡ new.shared → ends ≡ r.threads.items
      → others ≡ r.threads.items → (details : Details) → HasWaits p shared ends details
      → {E : Type 0} (result : Result (Vec ℕ Global) E) → IfOk result (λ text. text.items ≡ written others details)
      → IfOk result (λ text. ExplainsRun trees schedule limits text.items)
  explained_if p shared ends others program_is shared_is ends_are others_are details has (Err fault) is = tt
  explained_if p shared ends others program_is shared_is ends_are others_are details has (Ok text) is =
      let by_program : HasWaits new.program shared ends details = subst (λ (q : LinkedProgram). HasWaits q shared ends details) program_is has in
      let by_shared : HasWaits new.program new.shared ends details = subst (λ (s : Shared). HasWaits new.program s ends details) shared_is by_program in
      let own : HasWaits new.program new.shared r.threads.items details = subst (λ (e : List EndState). HasWaits new.program new.shared e details) ends_are by_shared in
      let its : text.items ≡ written r.threads.items details = is ∙ ap (λ (e : List EndState). written e details) others_are in
      (r, end, is_replay reported sound trees limits old new schedule gone r end opened goes tells, new, after, explains details own text.items its)
