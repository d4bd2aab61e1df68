-- What the next event of a thread reads and writes (JLS 17.4.2), by the words of a machine.
use Rattle.std.specs.Prelude.{◌≡◌, ℕ, List, Some, Bool, true, false, map, slice_get}
use Rattle.std.specs.List.{filter}
use Rattle.model.specs.declared.event.Event.{Event}
use Rattle.model.specs.Accepted.{IsAccepted}
use Rattle.model.specs.Classes.{Program}
use Rattle.model.specs.LimitStands.{Bounds}
use Rattle.model.specs.Run.{run}
use Rattle.model.specs.State.{State}
use Rattle.model.specs.Words.{words_of}
use Rattle.linked_code.specs.declared.program.LinkedProgram.{LinkedProgram}
use Rattle.thread_stacks.specs.Stacks.{ShownFrame, ShownEntry}
use Rattle.machine_state.specs.declared.state.Shared.{Shared}
use Rattle.machine_state.specs.Shown.{IsProgram}
use Rattle.machine_state.specs.state_events.Whole.{IsShown}
use Rattle.race_places.specs.declared.run_actions.Action.{Action}
use Rattle.race_places.specs.named_actions.Names.{IsRight, named_action}
use Rattle.data_races.specs.Actions as named
use Rattle.data_races.specs.EventActions.{actions_of}
use Rattle.thread_rules.specs.next_rules.Meant.{IsAtInstruction}
use Rattle.field_names.specs.named_fields.Fields.{names_of}

-- a state to which a run of accepted files led, and whose words are shown
pub record IsReached (trees : Program) (p : LinkedProgram) (bounds : Bounds) (shared : Shared) (state : State) : Type 0 where
  pub files : List (List ℕ)
  pub accepted : IsAccepted files trees
  pub program : IsProgram trees p
  pub events : List Event
  pub reached : run trees bounds.frames events ≡ Some state
  pub inflated : List ℕ
  pub shown : IsShown trees p bounds inflated shared (words_of state)

abbrev pub is_access : named.Action → Bool
is_access (named.Read variable) = true
is_access (named.Write variable) = true
is_access _ = false

-- the reads and writes among the actions of the next event of a thread, with pick 0
abbrev pub accesses_next : Program → ℕ → State → ℕ → List named.Action
accesses_next files frames state t = filter is_access (actions_of files frames state (record { thread = t; pick = 0 }))

-- actions by the names of the class files
abbrev pub names_given : Program → List Action → List named.Action
names_given trees told = map (named_action (names_of trees)) told

pub record AreAllRight (trees : Program) (told : List Action) : Type 0 where
  pub each : (k : ℕ) (a : Action) → slice_get told k ≡ Some a → IsRight (names_of trees) trees a

-- these are told, in their order
pub record AreNamed (trees : Program) (told : List Action) (actions : List named.Action) : Type 0 where
  pub are : names_given trees told ≡ actions
  pub right : AreAllRight trees told

-- the accesses alone
abbrev pub AreAccesses : Program → (frames : ℕ) → State → (t : ℕ) → List Action → Type 0
AreAccesses trees frames state t told = AreNamed trees told (accesses_next trees frames state t)

-- in whatever state that was reached
abbrev pub TellsNext : Program → LinkedProgram → Shared → (t : ℕ) → List Action → Type 0
TellsNext trees p shared t told =
    (bounds : Bounds) (state : State) → IsReached trees p bounds shared state → AreAccesses trees bounds.frames state t told

-- of a thread that has this stack
abbrev pub TellsStack : Program → LinkedProgram → Shared → (t : ℕ) → List ShownEntry → List Action → Type 0
TellsStack trees p shared t stack told = slice_get shared.stacks.items t ≡ Some stack → TellsNext trees p shared t told

-- of a thread that stands at an instruction in this frame
abbrev pub TellsFrame : Program → LinkedProgram → Shared → (t : ℕ) → ShownFrame → List Action → Type 0
TellsFrame trees p shared t frame told =
    (bounds : Bounds) (state : State) → (reached : IsReached trees p bounds shared state)
    → (stack : List ShownEntry) (at : IsAtInstruction trees p bounds reached.inflated t shared stack state) → at.runs.shown ≡ frame
    → AreAccesses trees bounds.frames state t told
