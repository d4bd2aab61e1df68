-- Machines that show where schedules led.
use Rattle.std.proofs.Common.{◌≡◌, ℕ, List, [], ◌∷◌, ◌++◌, map, replicate, Some, None, Result, Ok, Err, Bool, true, false, refl, sym, ap, subst, ◌∙◌}
use Rattle.std.specs.Prelude.{IfOk}
use Rattle.std.proofs.lemmas.List.{append-nil}
use Rattle.std.proofs.lemmas.Option.{same_Some}
use Rattle.model.specs.declared.end.RunCause.TheVariants as cause
use Rattle.model.specs.declared.event.Event.{Event}
use Rattle.model.specs.declared.limits.Limits.{Limits}
use Rattle.model.specs.declared.report.Report.{Report}
use Rattle.model.specs.Accepted.{IsAccepted}
use Rattle.model.specs.Classes.{Program}
use Rattle.model.specs.LimitStands.{bounds_of, inflated}
use Rattle.model.specs.Meaning.{thread_ends}
use Rattle.model.specs.Report.{end_state_of}
use Rattle.model.specs.Run.{run, is_quiet}
use Rattle.model.specs.State.{State, StateOf}
use Rattle.run_laws.specs.word_reports.Reports.{AreReportsOfWords}
use Rattle.run_laws.specs.interleavings.Ends.{Outcome}
use Rattle.linked_code.specs.declared.program.LinkedProgram.{LinkedProgram}
use Rattle.machine_state.specs.declared.answers.Answer.{Answer}
use Rattle.machine_state.specs.declared.answers.Answer.TheVariants as answer
use Rattle.machine_state.specs.declared.refusals.EventRefusal.{EventRefusal}
use Rattle.machine_state.specs.declared.refusals.EventRefusal.TheVariants as refusal
use Rattle.machine_state.specs.declared.state.Shared.{Shared}
use Rattle.machine_state.specs.Shown.{IsProgram}
use Rattle.machine_state.specs.shown_runs.Runs.{HasRun, AreRunsOpened, AreRunsGoingOn}
use Rattle.machine.specs.declared.machine.Stopped.{Stopped}
use Rattle.machine.specs.declared.machine.Stopped.TheVariants as stopped
use Rattle.machine.specs.Machines.{MachineOf, Opens, Steps, Repeats}
use Rattle.machine.specs.schedule_runs.Done.{HasDone, EndsBy, GoesThrough}
use Rattle.machine.specs.machine_reports.Told.{AreQuietAt, Reports}
use Rattle.machine.proofs.schedule_runs.Repeated.{entry_gone}
use Rattle.search.specs.Machines.{IsAt, GoesBy, GoesOrStops, HasDoneMore, TellsOutcome}

-- ---- before any event

opened_at : AreRunsOpened → (p : LinkedProgram) (limits : Limits) (m : MachineOf) → Opens p limits m → IsAt p limits [] m
opened_at opens p limits m o =
    record {
      program = ap (λ (x : MachineOf). x.program) o.0;
      limits_are = ap (λ (x : MachineOf). x.limits) o.0;
      done = λ files trees accepted program.
          let shows = o.1 files trees accepted program in
          record { accepted = accepted; program = shows.program; run = opens trees m.program (bounds_of m.limits) m.shared shows.shown };
    }

-- where there was memory for it
pub opened_if : AreRunsOpened → (p : LinkedProgram) (limits : Limits) → {E : Type 0} (result : Result MachineOf E)
    → IfOk result (Opens p limits) → IfOk result (IsAt p limits [])
opened_if opens p limits (Ok m) o = opened_at opens p limits m o
opened_if opens p limits (Err e) o = tt

-- ---- a schedule, and an event

-- where no event of it is left
pub all_done : (schedule : List Event) (old new : MachineOf) (result : ℕ × Stopped) → GoesThrough result schedule old new → result.1 ≡ stopped.Most
    → (files : List (List ℕ)) (trees : Program) (events : List Event) → HasDone old files trees events → HasDone new files trees (events ++ schedule)
all_done schedule old new result goes most files trees events done =
    let gone = goes.1 files trees events done in
    let none : gone.left ≡ [] =
    subst (λ why. EndsBy why trees (bounds_of new.limits) gone.done.run.lead.state (events ++ gone.front) gone.left) most gone.ends
    in
    let all : gone.front ≡ schedule = sym (gone.schedule_is ∙ (ap (λ l. gone.front ++ l) none ∙ append-nil gone.front)) in
    subst (λ l. HasDone new files trees (events ++ l)) all gone.done

pub more_done : (event : Event) (n : ℕ) (old new : MachineOf) (result : ℕ × Stopped) → Repeats result event n old new → result.1 ≡ stopped.Most → HasDoneMore event n old new
more_done event n old new result repeats most =
    let goes = entry_gone result event n old new repeats in
    record {
      program = ap (λ (x : MachineOf). x.program) goes.0;
      limits_are = ap (λ (x : MachineOf). x.limits) goes.0;
      done = all_done (replicate n event) old new result goes most;
    }

module _ (p : LinkedProgram) (limits : Limits) (events : List Event) where
  pub gone_more : (event : Event) (n : ℕ) (old new : MachineOf) → IsAt p limits events old → HasDoneMore event n old new → IsAt p limits (events ++ replicate n event) new
  gone_more event n old new at more =
      record {
        program = more.program ∙ at.program;
        limits_are = more.limits_are ∙ at.limits_are;
        done = λ files trees accepted program. more.done files trees events (at.done files trees accepted program);
      }

  pub gone_on : (event : Event) (old new : MachineOf) → IsAt p limits events old → GoesBy (Ok answer.Done) event old new
      → IsAt p limits (events ++ event ∷ []) new
  gone_on event old new at goes =
      record {
        program = ap (λ (x : MachineOf). x.program) goes.0 ∙ at.program;
        limits_are = ap (λ (x : MachineOf). x.limits) goes.0 ∙ at.limits_are;
        done = λ files trees accepted program.
            let has = at.done files trees accepted program in
            let there : HasDone (record old { shared = new.shared }) files trees (events ++ event ∷ []) =
            record { accepted = accepted; program = has.program; run = goes.1 files trees events has }
            in
            subst (λ m. HasDone m files trees (events ++ event ∷ [])) (sym goes.0) there;
      }

  -- the run that it shows
  pub run_of : (m : MachineOf) → IsAt p limits events m → (files : List (List ℕ)) (trees : Program) → IsAccepted files trees
      → IsProgram trees p → HasRun trees p (bounds_of limits) m.shared events
  run_of m at files trees accepted program =
      subst (λ (l : Limits). HasRun trees p (bounds_of l) m.shared events) at.limits_are
      (subst (λ q. HasRun trees q (bounds_of m.limits) m.shared events) at.program (at.done files trees accepted program).run)

pub goes_by : AreRunsGoingOn → (result : Result Answer EventRefusal) (event : Event) (old new : MachineOf) → Steps result event old new
    → GoesBy result event old new
goes_by goes result event old new steps = (
  steps.0,
  λ files trees events has.
      goes files trees has.accepted old.program (bounds_of old.limits) events old.shared new.shared has.run event result
      (steps.1 files trees (inflated trees old.limits.frames events) has.run.at (record { accepted = has.accepted; program = has.program; shown = has.run.shown })),
)

-- a limit forbids it
pub stops : (told : EventRefusal) (event : Event) (old new : MachineOf) → (told ≡ refusal.Memory → ⊥) → GoesBy (Err told) event old new → GoesOrStops None event old new
stops refusal.Objects event old new no_want goes files trees events has = let h = goes.1 files trees events has in (h.0, (cause.Objects, h.1))
stops refusal.Cells event old new no_want goes files trees events has = let h = goes.1 files trees events has in (h.0, (cause.Cells, h.1))
stops refusal.Monitors event old new no_want goes files trees events has = let h = goes.1 files trees events has in (h.0, (cause.Monitors, h.1))
stops refusal.Threads event old new no_want goes files trees events has = let h = goes.1 files trees events has in (h.0, (cause.Threads, h.1))
stops refusal.LockCount event old new no_want goes files trees events has = let h = goes.1 files trees events has in (h.0, (cause.LockCount, h.1))
stops refusal.Memory event old new no_want goes files trees events has = absurd (no_want refl)

-- ---- an outcome

-- what is lent is of the machine
pub reports_at : (trees : Program) (m : MachineOf) (p : LinkedProgram) (shared : Shared) (limits : Limits) (r : Report)
    → p ≡ m.program → shared ≡ m.shared → limits ≡ m.limits → Reports trees p shared limits.frames 0 r
    → Reports trees m.program m.shared m.limits.frames 0 r
reports_at trees m p shared limits r program_is shared_is limits_are reports =
    let by_limits : Reports trees p shared m.limits.frames 0 r = subst (λ (l : Limits). Reports trees p shared l.frames 0 r) limits_are reports in
    let by_shared : Reports trees p m.shared m.limits.frames 0 r = subst (λ s. Reports trees p s m.limits.frames 0 r) shared_is by_limits in
    subst (λ q. Reports trees q m.shared m.limits.frames 0 r) program_is by_shared

module _ (reported : AreReportsOfWords) (trees : Program) (m : MachineOf) (r : Report)
    (reports : Reports trees m.program m.shared m.limits.frames 0 r) (quiet : Bool)
    (quiet_is : AreQuietAt r.threads.items quiet) where
  record IsTold (state : State) : Type 0 where
    quiet_so : quiet ≡ is_quiet trees m.limits.frames state
    printed : r.printed.items ≡ state.world.printed
    threads : map end_state_of r.threads.items ≡ thread_ends trees m.limits.frames state

  told : (files : List (List ℕ)) (events : List Event) (state : State) → HasDone m files trees events
      → run trees m.limits.frames events ≡ Some state → IsTold state
  told files events state done reached =
      let has = done.run in
      let same = reported files trees done.accepted.linkable m.limits.frames has.at has.lead.state has.lead.are in
      let on = reports (bounds_of m.limits) _ has.at done.program has.shown in
      let is : has.lead.state ≡ state = same_Some has.lead.state state (sym has.lead.reached ∙ reached) in
      let there : IsTold has.lead.state = record {
        quiet_so = quiet_is trees m.limits.frames has.at on.threads ∙ same.quiet;
        printed = on.printed ∙ ap (λ (w : StateOf ℕ). w.world.printed) has.lead.are.are;
        threads = on.threads ∙ same.ends;
      } in
      subst IsTold is there

  pub tells_quiet : quiet ≡ true → TellsOutcome trees m (Some (record { printed = r.printed; threads = r.threads }))
  tells_quiet e files events state done reached =
      let t = told files events state done reached in (
        sym t.quiet_so ∙ e,
        ap (λ l. let o : Outcome = record { printed = l; ends = map end_state_of r.threads.items } in o) t.printed
            ∙ ap (λ l. let o : Outcome = record { printed = state.world.printed; ends = l } in o) t.threads,
      )

  pub tells_none : quiet ≡ false → TellsOutcome trees m None
  tells_none e files events state done reached = sym (told files events state done reached).quiet_so ∙ e
