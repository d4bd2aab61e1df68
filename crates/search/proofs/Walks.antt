-- What is told of the state in which the machine of a walk is.
use Rattle.std.proofs.Common.{◌≡◌, ℕ, List, Option, Some, None, false, sym, ap, subst, ◌∙◌}
use Rattle.std.specs.Prelude.{IsTrue, IsFalse}
use Rattle.model.specs.declared.event.Event.{Event}
use Rattle.model.specs.declared.limits.Limits.{Limits}
use Rattle.model.specs.Classes.{Program}
use Rattle.model.specs.LimitStands.{bounds_of}
use Rattle.model.specs.Run.{run, is_quiet}
use Rattle.model.specs.State.{State}
use Rattle.machine.specs.Machines.{IsProgramOf}
use Rattle.machine.specs.schedule_runs.Done.{HasDone}
use Rattle.search.specs.met_states.Met.{AreMovingStatesNotQuiet}
use Rattle.search.specs.declared.kinds.Kinds.{Kinds}
use Rattle.search.specs.declared.run_outcomes.outcomes.Outcome.{Outcome as TheOutcome}
use Rattle.search.specs.declared.states.Walk.{Walk}
use Rattle.search.specs.Machines.{TellsOutcome, IsOutcomeOf}
use Rattle.search.specs.StateKinds.{TellsWith, AreKindsOf}
use Rattle.search.specs.States.{IsSchedule}
use Rattle.search.specs.Visits.{OfStateAt, HasOutcomeAt, ShowsAt, AreOf}
use Rattle.search.specs.Walks.{IsThere}
use Rattle.search.proofs.Shown.{run_of}

module _ (trees : Program) (walk : Walk) where
  module _ (number : ℕ) (there : IsThere walk.states number walk) (program : IsProgramOf trees walk.states.program) (events : List Event) (is : IsSchedule walk.states number events) where
    done : HasDone walk.machine program.files trees events
    done = (there.is_in events is).done program.files trees program.accepted program.program

    same : walk.machine.limits ≡ walk.states.limits
    same = (there.is_in events is).limits_are

    -- it is told of the state to which the events led that the machine has done
    of_machine : (P : ℕ → State → Type 0) (state : State) → run trees walk.states.limits.frames events ≡ Some state
        → ((files : List (List ℕ)) → HasDone walk.machine files trees events → run trees walk.machine.limits.frames events ≡ Some state → P walk.machine.limits.frames state)
        → P walk.states.limits.frames state
    of_machine P state r tells =
        let before : run trees walk.machine.limits.frames events ≡ Some state = subst (λ (l : Limits). run trees l.frames events ≡ Some state) (sym same) r in
        subst (λ (l : Limits). P l.frames state) same (tells program.files done before)

  pub outcome_told : (o : Option TheOutcome) → TellsOutcome trees walk.machine o → HasOutcomeAt trees walk o
  outcome_told o tells number there program events state is r =
      of_machine number there program events is (λ frames state. IsOutcomeOf trees frames state o) state r (λ files has before. tells files events state has before)

  -- an event leads on from there
  pub none_told : AreMovingStatesNotQuiet → IsTrue walk.moved → HasOutcomeAt trees walk None
  none_told not_quiet moved number there program events state is r =
      let led = there.moved moved in
      let leads = led.1 events is program.files trees program.accepted program.program in
      let has = run_of walk.states.program walk.states.limits events walk.machine (there.is_in events is) program.files trees program.accepted program.program in
      not_quiet trees walk.states.program (bounds_of walk.states.limits) events led.0 walk.machine.shared state leads.0 has r leads.1

  pub shows : (o : Option TheOutcome) (kinds : Kinds) → HasOutcomeAt trees walk o
      → TellsWith trees walk.machine o (λ trees frames state. AreKindsOf trees frames state kinds) → ShowsAt trees walk o kinds
  shows o kinds outcome kinds_told number there program events state is r =
      let of_it = outcome number there program events state is r in
      of_machine number there program events is (λ frames state. AreOf trees frames o kinds state) state r
      (λ files has before.
      let own : IsOutcomeOf trees walk.machine.limits.frames state o =
      subst (λ (l : Limits). IsOutcomeOf trees l.frames state o) (sym (same number there program events is)) of_it in
      record { outcome_is = own; kinds_are = kinds_told files events state has before own })
