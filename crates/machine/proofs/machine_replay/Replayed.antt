-- A machine that has gone through a schedule has replayed it.
use Rattle.std.proofs.Common.{◌≡◌, ℕ, List, [], ◌∷◌, length, map, Bool, true, false, Some, Result, Ok, Err, sym, ap, subst, ◌∙◌}
use Rattle.std.specs.Prelude.{IfOk}
use Rattle.std.proofs.lemmas.Bool.{true≢false}
use Rattle.model.specs.declared.end.End.{End}
use Rattle.model.specs.declared.event.Event.{Event}
use Rattle.model.specs.declared.limits.Limits.{Limits}
use Rattle.model.specs.declared.report.Report.{Report}
use Rattle.model.specs.Accepted.{IsAccepted}
use Rattle.model.specs.Classes.{Program}
use Rattle.model.specs.LimitStands.{Bounds, bounds_of}
use Rattle.model.specs.Operands.{words}
use Rattle.model.specs.Report.{end_state_of, report_text}
use Rattle.model.specs.Run.{is_quiet}
use Rattle.model.specs.State.{State, StateOf}
use Rattle.run_laws.specs.laws.Steps.{is_wrong}
use Rattle.run_laws.specs.soundness.Runs.{IsNoEventWrong}
use Rattle.run_laws.specs.word_reports.Reports.{thread_ends_of, AreReportsOfWords}
use Rattle.machine_state.specs.declared.refusals.EventRefusal.{EventRefusal}
use Rattle.machine_state.specs.declared.refusals.EventRefusal.TheVariants as refusal
use Rattle.machine_state.specs.Refusals.{cause_of}
use Rattle.machine_state.specs.shown_runs.Runs.{IsRefusedAfter}
use Rattle.machine.specs.declared.machine.Stopped.{Stopped}
use Rattle.machine.specs.declared.machine.Stopped.TheVariants as stopped
use Rattle.machine.specs.Machines.{MachineOf}
use Rattle.machine.specs.schedule_runs.Done as done
use Rattle.machine.specs.schedule_runs.Done.{EndsBy, HasGone, GoesThrough}
use Rattle.machine.specs.machine_reports.Told.{ReportsOn}
use Rattle.machine.specs.machine_replay.Replays.{IsRefusedFor, MayWantMemory, OfNext, EndFits, AreOperandsFound, IsReplay}
use Rattle.machine.specs.machine_replay.Shown.{IsOpened, Tells, end_of}

-- ---- the end

module _ (trees : Program) (bounds : Bounds) (state : State) (front : List Event) where
  pub refused_for : (event : Event) (told : EventRefusal) → IsRefusedAfter trees bounds front event told
      → IsRefusedFor trees bounds front event (cause_of told)
  refused_for event refusal.Objects h = h
  refused_for event refusal.Cells h = h
  refused_for event refusal.Monitors h = h
  refused_for event refusal.Threads h = h
  refused_for event refusal.LockCount h = h
  refused_for event refusal.Memory h = tt

  wants_for : (event : Event) (told : EventRefusal) → IsRefusedAfter trees bounds front event told
      → MayWantMemory trees bounds.frames front event (cause_of told)
  wants_for event refusal.Objects h = tt
  wants_for event refusal.Cells h = tt
  wants_for event refusal.Monitors h = tt
  wants_for event refusal.Threads h = tt
  wants_for event refusal.LockCount h = tt
  wants_for event refusal.Memory h = h

  next_is : (P Q : Event → Type 0) → ((event : Event) → P event → Q event) → (left : List Event) → done.OfNext left P → OfNext left Q
  next_is P Q on [] h = absurd h
  next_is P Q on (event ∷ left) h = on event h

  pub fits : (why : Stopped) (n : ℕ) (quiet : Bool) (left : List Event) → n ≡ length front → quiet ≡ is_quiet trees bounds.frames state
      → EndsBy why trees bounds state front left
      → EndFits trees bounds state front left (end_of why n quiet)
  fits stopped.Most n true left count e h = (h, sym e)
  fits stopped.Most n false left count e h = (h, sym e)
  fits stopped.NotEnabled n quiet left count e h = (count, next_is _ _ (λ event p. p) left h)
  fits (stopped.Refused told) n quiet left count e h = (count, next_is _ _ (λ event p. (p.0, refused_for event told p.1, wants_for event told p.1)) left h)

-- ---- no operand is of a wrong kind

pub operands_found : IsNoEventWrong → (files : List (List ℕ)) (trees : Program) → IsAccepted files trees → (frames : ℕ)
    (events : List Event) → AreOperandsFound trees frames events
operands_found sound files trees accepted frames events front event left state are reached wrong =
    true≢false (sym (ap is_wrong wrong) ∙ sound files trees accepted frames front state event reached)

-- ---- the report

-- The text of what words show is that of the report.
pub told_of : (trees : Program) (frames : ℕ) (at : StateOf ℕ) (front : List Event) (n : ℕ) (r : Report) → n ≡ length front
    → ReportsOn trees frames at n r → (e : End)
    → report_text at.world.printed (thread_ends_of words trees frames at) (length front) e
    ≡ report_text r.printed.items (map end_state_of r.threads.items) r.events e
told_of trees frames at front n r count on e =
    ap (λ l. report_text l (thread_ends_of words trees frames at) (length front) e) (sym on.printed)
    ∙ ap (λ l. report_text r.printed.items l (length front) e) (sym on.threads)
    ∙ ap (λ k. report_text r.printed.items (map end_state_of r.threads.items) k e) (sym (on.count ∙ count))

-- ---- the replay

module _ (files : List (List ℕ)) (trees : Program) (m : MachineOf) (schedule : List Event) (n : ℕ) (why : Stopped) (r : Report)
    (end : End) where
  replayed : AreReportsOfWords → IsNoEventWrong → HasGone m files trees [] schedule n why → Tells trees m n why r end
      → IsReplay trees schedule m.limits r end
  replayed reported sound gone tells =
      let has = gone.done.run in
      let state = has.lead.state in
      let same = reported files trees gone.done.accepted.linkable m.limits.frames has.at state has.lead.are in
      let on = tells.reports (bounds_of m.limits) _ has.at gone.done.program has.shown in
      let quiet = tells.quiet_is trees m.limits.frames has.at on.threads ∙ same.quiet in
      record {
        front = gone.front;
        left = gone.left;
        events_are = gone.schedule_is;
        state = state;
        reached = has.lead.reached;
        within = has.lead.within;
        printed = on.printed ∙ ap (λ (w : StateOf ℕ). w.world.printed) has.lead.are.are;
        threads = on.threads ∙ same.ends;
        count = on.count ∙ gone.count;
        means = same.report gone.front end has.lead.reached ∙ ap Some (told_of trees m.limits.frames has.at gone.front n r gone.count on end);
        ended = subst (EndFits trees (bounds_of m.limits) state gone.front gone.left) (sym tells.end_is)
            (fits trees (bounds_of m.limits) state gone.front why n tells.quiet gone.left gone.count quiet gone.ends);
        found = operands_found sound files trees gone.done.accepted m.limits.frames schedule;
      }

-- of a machine that was opened
pub is_replay : AreReportsOfWords → IsNoEventWrong → (trees : Program) (limits : Limits) (old new : MachineOf) (schedule : List Event)
    (result : ℕ × Stopped) (r : Report) (end : End)
    → IsOpened trees limits old → GoesThrough result schedule old new → Tells trees new result.0 result.1 r end
    → IsReplay trees schedule limits r end
is_replay reported sound trees limits old new schedule result r end opened goes tells =
    let same : new.limits ≡ limits = ap (λ (x : MachineOf). x.limits) goes.0 ∙ opened.limits_are in
    subst (λ l. IsReplay trees schedule l r end) same
    (replayed opened.files trees new schedule result.0 result.1 r end reported sound (goes.1 opened.files trees [] opened.done) tells)

-- and where there is a report
pub replay_if : AreReportsOfWords → IsNoEventWrong → (trees : Program) (limits : Limits) (old new : MachineOf)
    (schedule : List Event) (result : ℕ × Stopped)
    → IsOpened trees limits old → GoesThrough result schedule old new
    → {E : Type 0} (ended : Result (Report × End) E) → IfOk ended (λ r. Tells trees new result.0 result.1 r.0 r.1)
    → IfOk ended (λ r. IsReplay trees schedule limits r.0 r.1)
replay_if reported sound trees limits old new schedule result opened goes (Ok r) tells =
    is_replay reported sound trees limits old new schedule result r.0 r.1 opened goes tells
replay_if reported sound trees limits old new schedule result opened goes (Err e) tells = tt
