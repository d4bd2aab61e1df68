-- One event that a machine does with a finder beside it.
use Rattle.std.proofs.Common.{◌≡◌, ℕ, List, [], ◌∷◌, ◌++◌, length, map, Option, Some, None, refl, sym, ap, subst, ◌∙◌}
use Rattle.std.specs.Prelude.{slice_get}
use Rattle.std.specs.Option.{option_and_then, option_map}
use Rattle.std.proofs.lemmas.List.{append-nil}
use Rattle.std.proofs.lemmas.Option.{same_Some}
use Rattle.model.specs.declared.event.Event.{Event}
use Rattle.model.specs.declared.value.Value.{Value}
use Rattle.model.specs.Classes.{Program}
use Rattle.model.specs.LimitStands.{Bounds, bounds_of, inflated}
use Rattle.model.specs.Opening.{opening}
use Rattle.model.specs.Operands.{values}
use Rattle.model.specs.Outcomes.{Cost}
use Rattle.model.specs.Run.{run, run_from}
use Rattle.model.specs.State.{StackOf, State, StateOf}
use Rattle.model.specs.Step.{SteppedOf, NotEnabled, WrongKind, Next, event_of, stepped, next_by, step}
use Rattle.machine_state.specs.state_events.Whole.{IsShown}
use Rattle.machine.specs.declared.machine.Stopped.{Stopped}
use Rattle.machine.specs.declared.machine.Stopped.TheVariants as stopped
use Rattle.machine.specs.Machines.{MachineOf, Repeats}
use Rattle.machine.specs.schedule_runs.Done.{HasDone, HasGone, OfNext}
use Rattle.machine.proofs.schedule_runs.Repeated.{entry_gone}
use Rattle.next_accesses.specs.next_access.Next.{IsReached}
use Rattle.race_places.specs.declared.run_actions.RunAction.{RunAction}
use Rattle.race_actions.specs.declared.looking.CodeSite.{CodeSite}
use Rattle.race_actions.specs.declared.looking.EventBefore.{EventBefore}
use Rattle.race_actions.specs.event_actions.Told.{LooksAt, HasLooked, AreActions}
use Rattle.run_races.specs.race_finder.Found.{HasWatched}
use Rattle.run_races.specs.named_races.Named.{AreOfRun, AreOfEvent, numbered_in}
use Rattle.run_races.proofs.named_races.Adding.{more_of_run}
use Rattle.race_runs.specs.declared.finder.Finder.{Finder}
use Rattle.race_runs.specs.finder.Events.{site_of, label_at, KeepsFound, FindsEvent}
use Rattle.race_runs.specs.raced_runs.Going.{HasRaced, HasRacedOn, RacesThrough}
use Rattle.race_runs.proofs.finder.Labelled.{of_event}

-- ---- the step of one event more

one_is : (last : State) (o : Option State) → option_and_then (λ (next : State). Some next) o ≡ Some last → o ≡ Some last
one_is last None h = absurd cc
one_is last (Some next) h = h

step_of : (files : Program) (frames : ℕ) (s state last : State) (events : List Event) (event : Event) → run_from files frames s events ≡ Some state
    → run_from files frames s (events ++ event ∷ []) ≡ Some last → step files frames state event ≡ Some last
step_of files frames s state last [] event h g =
    subst (λ (x : State). step files frames x event ≡ Some last) (same_Some s state h) (one_is last (step files frames s event) g)
step_of files frames s state last (first ∷ events) event h g = by (λ next. step_of files frames next state last events event) (step files frames s first) h g
  where
    by : ((next : State) → run_from files frames next events ≡ Some state → run_from files frames next (events ++ event ∷ []) ≡ Some last → step files frames state event ≡ Some last)
        → (o : Option State) → option_and_then (λ (next : State). run_from files frames next events) o ≡ Some state
        → option_and_then (λ (next : State). run_from files frames next (events ++ event ∷ [])) o ≡ Some last → step files frames state event ≡ Some last
    by rest None h g = absurd cc
    by rest (Some next) h g = rest next h g

stepped_next : (next : State) (o : SteppedOf State) → next_by o ≡ Some next → (cost : Cost) × (o ≡ Next cost next)
stepped_next next NotEnabled h = absurd cc
stepped_next next WrongKind h = absurd cc
stepped_next next (Next cost other) h = (cost, ap (λ (x : State). Next cost x) (same_Some other next h))

stack_there : (files : Program) (frames : ℕ) (s next : State) (event : Event) → step files frames s event ≡ Some next
    → (own : StackOf Value) × (slice_get s.stacks event.thread ≡ Some own)
stack_there files frames s next event h = by (slice_get s.stacks event.thread) refl h
  where
    by : (o : Option (StackOf Value)) → slice_get s.stacks event.thread ≡ o → next_by (event_of values files frames s event o) ≡ Some next
        → (own : StackOf Value) × (slice_get s.stacks event.thread ≡ Some own)
    by None e g = absurd cc
    by (Some own) e g = (own, e)

-- ---- what a machine has done was reached

reached_of : (m : MachineOf) (files : List (List ℕ)) (trees : Program) (events : List Event) (done : HasDone m files trees events)
    → IsReached trees m.program (bounds_of m.limits) m.shared done.run.lead.state
reached_of m files trees events done =
    record {
      files = files;
      accepted = done.accepted;
      program = done.program;
      events = events;
      reached = done.run.lead.reached;
      inflated = inflated trees (bounds_of m.limits).frames events;
      shown = subst (λ (at : StateOf ℕ). IsShown trees m.program (bounds_of m.limits) (inflated trees (bounds_of m.limits).frames events) m.shared at) done.run.lead.are.are done.run.shown;
    }

-- ---- the event

-- where it was done, it is all of the front
all_front : (m : MachineOf) (files : List (List ℕ)) (trees : Program) (events : List Event) (event : Event) (n : ℕ)
    → (gone : HasGone m files trees events (event ∷ []) n stopped.Most) → event ∷ [] ≡ gone.front
all_front m files trees events event n gone = gone.schedule_is ∙ ap (λ l. gone.front ++ l) gone.ends ∙ append-nil gone.front

module _ (old new : MachineOf) (before looked after : Finder) (event : Event) (n : ℕ) (repeats : Repeats (n, stopped.Most) event 1 old new)
    (looks : LooksAt before.tables.linked.now old.program old.shared event.thread looked.actions) (kept : KeepsFound before looked)
    (finds : FindsEvent new.shared event.thread looked after) (files : List (List ℕ)) (trees : Program) (events : List Event)
    (raced : HasRaced files trees old before events) where
  abbrev more : List Event
  more = events ++ event ∷ []

  abbrev bounds : Bounds
  bounds = bounds_of old.limits

  gone : HasGone new files trees events (event ∷ []) n stopped.Most
  gone = (entry_gone (n, stopped.Most) event 1 old new repeats).1 files trees events raced.done

  front : event ∷ [] ≡ gone.front
  front = all_front new files trees events event n gone

  done : HasDone new files trees more
  done = subst (λ (l : List Event). HasDone new files trees (events ++ l)) (sym front) gone.done

  abbrev state : State
  state = raced.done.run.lead.state

  abbrev next : State
  next = done.run.lead.state

  same_limits : new.limits ≡ old.limits
  same_limits = ap (λ (m : MachineOf). m.limits) repeats.1

  reached_now : IsReached trees new.program bounds new.shared next
  reached_now = subst (λ l. IsReached trees new.program (bounds_of l) new.shared next) same_limits (reached_of new files trees more done)

  steps : step trees bounds.frames state event ≡ Some next
  steps =
      step_of trees bounds.frames (opening values trees) state next events event raced.done.run.lead.reached
      (subst (λ l. run trees (bounds_of l).frames more ≡ Some next) same_limits done.run.lead.reached)

  has : HasLooked trees bounds state event.thread looked.actions
  has =
      let own = stack_there trees bounds.frames state next event steps in
      subst (λ (files : Program). LooksAt files old.program old.shared event.thread looked.actions) raced.tables looks bounds state own.0
      (reached_of old files trees events raced.done) own.1

  are : AreActions trees bounds.frames state event finds.actions
  are =
      let cost = stepped_next next (stepped values trees bounds.frames state event) steps in
      finds.are trees bounds state has new.program event refl cost.0 next cost.1 reached_now

  site : Option CodeSite
  site = site_of looked.actions

  site_is : site ≡ Some has.before.site
  unfolding site
  site_is = ap (option_map (λ (b : EventBefore). b.site)) has.is

  labelled : AreOfEvent trees bounds.frames state event (label_at site) finds.actions
  unfolding site
  labelled =
      subst (λ (s : Option CodeSite). AreOfEvent trees bounds.frames state event (label_at s) finds.actions) (sym site_is)
      (of_event trees bounds.frames state event next steps has.before has.known (finds.short has.before.site site_is) finds.actions are)

  told : List RunAction
  told = raced.run ++ map (numbered_in event.thread (label_at site)) finds.actions

  of_run : AreOfRun trees bounds.frames more told
  unfolding told
  of_run = more_of_run trees bounds.frames events state raced.done.run.lead.reached event next steps (label_at site) raced.run raced.of_run finds.actions labelled

  watched : HasWatched told after.races.detector after.races.told.races.keys
  unfolding told site
  watched = finds.watched raced.run (subst (λ r. HasWatched raced.run r.detector r.told.races.keys) (sym kept.races) raced.watched)

  pub event_raced : HasRaced files trees new after more
  event_raced =
      record {
        done = done;
        tables = ap (λ t. t.linked.now) (finds.tables ∙ kept.tables) ∙ raced.tables;
        run = told;
        of_run = subst (λ l. AreOfRun trees (bounds_of l).frames more told) (sym same_limits) of_run;
        watched = watched;
      }

  pub event_raced_on : HasRacedOn files trees events (event ∷ []) new after n stopped.Most
  event_raced_on = record { gone = gone; raced = subst (λ (l : List Event). HasRaced files trees new after (events ++ l)) front event_raced }

-- ---- by why no more is done

-- what is left of one event, and is not nothing, is that event
front_none : (event : Event) (front left : List Event) → event ∷ [] ≡ front ++ left → (P : Event → Type 0) → OfNext left P → front ≡ []
front_none event [] left e P h = refl
front_none event (x ∷ []) [] e P h = absurd h
front_none event (x ∷ []) (y ∷ left) e P h = absurd cc
front_none event (x ∷ z ∷ front) left e P h = absurd cc

-- where not all was done, nothing was
none_done : (m : MachineOf) (files : List (List ℕ)) (trees : Program) (events : List Event) (event : Event) (n : ℕ) (why : Stopped) → (why ≡ stopped.Most → ⊥)
    → (gone : HasGone m files trees events (event ∷ []) n why) → gone.front ≡ []
none_done m files trees events event n stopped.Most not_most passed = absurd (not_most refl)
none_done m files trees events event n stopped.NotEnabled not_most passed = front_none event passed.front passed.left passed.schedule_is _ passed.ends
none_done m files trees events event n (stopped.Refused cause) not_most passed = front_none event passed.front passed.left passed.schedule_is _ passed.ends

module _ (old new : MachineOf) (before looked after : Finder) (event : Event) (n : ℕ) (why : Stopped) (repeats : Repeats (n, why) event 1 old new)
    (kept : KeepsFound before looked) where
  pub all_raced : why ≡ stopped.Most → LooksAt before.tables.linked.now old.program old.shared event.thread looked.actions
      → FindsEvent new.shared event.thread looked after → RacesThrough (1, why) (event ∷ []) old new before after
  all_raced is looks finds = (
    repeats.1,
    λ files trees events raced.
        let mine : Repeats (n, stopped.Most) event 1 old new = subst (λ (w : Stopped). Repeats (n, w) event 1 old new) is repeats in
        let on = event_raced_on old new before looked after event n mine looks kept finds files trees events raced in
        let one : n ≡ 1 = on.gone.count ∙ ap length (sym (all_front new files trees events event n on.gone)) in
        subst (λ (k : ℕ). HasRacedOn files trees events (event ∷ []) new after k why) one
        (subst (λ (w : Stopped). HasRacedOn files trees events (event ∷ []) new after n w) (sym is) on),
  )

  pub none_raced : (why ≡ stopped.Most → ⊥) → RacesThrough (0, why) (event ∷ []) old new before looked
  none_raced not_most = (
    repeats.1,
    λ files trees events raced.
        let gone : HasGone new files trees events (event ∷ []) n why = (entry_gone (n, why) event 1 old new repeats).1 files trees events raced.done in
        let none : gone.front ≡ [] = none_done new files trees events event n why not_most gone in
        let zero_done : n ≡ 0 = gone.count ∙ ap length none in
        record {
          gone = record { front = gone.front; left = gone.left; schedule_is = gone.schedule_is; count = sym zero_done ∙ gone.count; done = gone.done; ends = gone.ends };
          raced = subst (λ (l : List Event). HasRaced files trees new looked (events ++ l)) (sym none)
              (subst (λ (l : List Event). HasRaced files trees new looked l) (sym (append-nil events))
              (record {
                done = subst (λ (l : List Event). HasDone new files trees l) (ap (λ l. events ++ l) none ∙ append-nil events) gone.done;
                tables = ap (λ t. t.linked.now) kept.tables ∙ raced.tables;
                run = raced.run;
                of_run = subst (λ l. AreOfRun trees (bounds_of l).frames events raced.run) (sym (ap (λ (m : MachineOf). m.limits) repeats.1)) raced.of_run;
                watched = subst (λ r. HasWatched raced.run r.detector r.told.races.keys) (sym kept.races) raced.watched;
              }));
        },
  )
