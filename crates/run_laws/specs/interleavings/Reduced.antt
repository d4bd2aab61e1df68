-- The reduced steps (own): where the next event of some thread is local, only the lowest such thread moves.
use Rattle.std.specs.Prelude.{ℕ, List, [], ◌∷◌, Option, Some, None, Bool, true, ◌==◌, if◌then◌else◌, find, length}
use Rattle.std.specs.Option.{option_and_then}
use Rattle.model.specs.declared.event.Event.{Event}
use Rattle.model.specs.Classes.{Program}
use Rattle.model.specs.Operands.{values}
use Rattle.model.specs.Opening.{opening}
use Rattle.model.specs.Rows.{counting}
use Rattle.model.specs.State.{State}
use Rattle.model.specs.Step.{step}
use Rattle.run_laws.specs.interleavings.Local.{is_local}

-- the lowest thread whose next event is local, if there is one
abbrev pub first_local : Program → State → Option ℕ
first_local files state = find (is_local files state) (counting 0 (length state.stacks))

abbrev pub may_move : Option ℕ → ℕ → Bool
may_move None t = true
may_move (Some first) t = first == t

-- the one next state, where the thread of the event may move
abbrev pub reduced_step : Program → ℕ → State → Event → Option State
reduced_step files frames state event = if may_move (first_local files state) event.thread then step files frames state event else None

-- the state after the events; none from the first on that has no reduced step
abbrev pub reduced_run_from : Program → ℕ → State → List Event → Option State
reduced_run_from files frames state [] = Some state
reduced_run_from files frames state (event ∷ events) = option_and_then (λ next. reduced_run_from files frames next events) (reduced_step files frames state event)

-- the same from the opening state
abbrev pub reduced_run : Program → ℕ → List Event → Option State
reduced_run files frames events = reduced_run_from files frames (opening values files) events
