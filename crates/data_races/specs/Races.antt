-- Data races of runs and of states (JLS 17.4.5), and programs that are correctly synchronized.
use Rattle.std.specs.Prelude.{ℕ, suc, List, [], ◌∷◌, ◌++◌, Bool, not, ◌&&◌, ◌==◌, length, map, IsTrue}
use Rattle.std.specs.Option.{option_map_or}
use Rattle.std.specs.List.{list_any}
use Rattle.model.specs.declared.event.Event.{Event}
use Rattle.model.specs.Classes.{Program}
use Rattle.model.specs.Operands.{values}
use Rattle.model.specs.Rows.{counting}
use Rattle.model.specs.State.{State}
use Rattle.model.specs.Opening.{opening}
use Rattle.model.specs.Step.{step}
use Rattle.data_races.specs.Actions.{Action, synchronizes, takes_away, conflicts}
use Rattle.data_races.specs.EventActions.{actions_of}
use Rattle.data_races.specs.HappensBefore.{Relations, IsRace}

-- an action of a run: its thread, and the number of its event, counted from 0
pub record ActionOfRun : Type 0 where
  pub thread : ℕ
  pub event : ℕ
  pub action : Action

abbrev pub in_event : ℕ → ℕ → Action → ActionOfRun
in_event thread event action = record { thread = thread; event = event; action = action }

-- the actions of the events from a state on, of which the first has a number
abbrev pub actions_from : Program → ℕ → State → ℕ → List Event → List ActionOfRun
actions_from files frames state n [] = []
actions_from files frames state n (event ∷ events) =
    map (in_event event.thread n) (actions_of files frames state event)
    ++ option_map_or (λ next. actions_from files frames next (suc n) events) (step files frames state event) []

-- the actions of a run, in its order
abbrev pub actions_of_run : Program → ℕ → List Event → List ActionOfRun
actions_of_run files frames events = actions_from files frames (opening values files) 0 events

-- 17.4.3 to 17.4.5 over these actions
abbrev pub memory_order : Program → Relations ActionOfRun
memory_order files =
    record {
      is_of_one_thread = λ a b. a.thread == b.thread;
      synchronizes = λ a b. synchronizes files a.action b.action;
      takes_away = λ a between. takes_away a.action between.action;
      conflict = λ a b. not (a.thread == b.thread) && conflicts files a.action b.action;
    }

-- two conflicting accesses of a run, not ordered by happens-before
abbrev pub HasRace : Program → ℕ → List Event → Type 0
HasRace files frames events = (i j : ℕ) × IsRace (memory_order files) (actions_of_run files frames events) i j

-- ---- states (own)

-- the actions of the next event of a thread, with pick 0
abbrev pub next_actions : Program → ℕ → State → ℕ → List ActionOfRun
next_actions files frames state t = map (in_event t 0) (actions_of files frames state (record { thread = t; pick = 0 }))

abbrev pub have_conflict : Program → List ActionOfRun → List ActionOfRun → Bool
have_conflict files these others = list_any (λ a. list_any (λ b. (memory_order files).conflict a b) others) these

abbrev pub is_racy : Program → ℕ → State → Bool
is_racy files frames state =
    list_any (λ t. list_any (λ u. have_conflict files (next_actions files frames state t) (next_actions files frames state u)) (counting 0 (length state.world.threads)))
    (counting 0 (length state.world.threads))

-- the next events of two threads, each of them enabled, do conflicting accesses
abbrev pub IsRacy : Program → ℕ → State → Type 0
IsRacy files frames state = IsTrue (is_racy files frames state)

-- ---- programs

-- no run has a data race (17.4.5); runs here are sequentially consistent (17.4.3)
abbrev pub IsCorrectlySynchronized : Program → ℕ → Type 0
IsCorrectlySynchronized files frames = (events : List Event) → HasRace files frames events → ⊥
