-- The monitor whose owner an event may have changed, told by what was meant before it and by the state after it.
use Rattle.std.specs.Prelude.{◌≡◌, ◌⊎◌, ℕ, nat_lt, List, [], ◌∷◌, Option, Some, None, Bool, false, not, ◌&&◌, ◌==◌, if◌then◌else◌, length}
use Rattle.model.specs.Classes.{Program}
use Rattle.model.specs.State.{Monitor, StackOf, WorldOf}
use Rattle.model.specs.Monitors.{monitor_at}
use Rattle.linked_code.specs.declared.program.LinkedProgram.{LinkedProgram}
use Rattle.thread_stacks.specs.Stacks.{ShownEntry, Invocation, Initialisation}
use Rattle.machine_state.specs.shown_stacks.Shown.{ShowsStack}
use Rattle.monitor_laws.specs.owners.Owners.{KeepsOwners, meant}
use Rattle.event_laws.specs.entered_monitors.Entries.{TellsOwner}
use Rattle.table_actions.specs.tables.Owners.{OwnsTheRest, WasOwner}
use Rattle.state_actions.specs.declared.changed_monitors.MonitorBefore.{MonitorBefore}

-- the object whose monitor the frame on top entered
abbrev pub entered_on : List ShownEntry → Option ℕ
entered_on [] = None
entered_on (Invocation frame ∷ stack) = frame.entered
entered_on (Initialisation class phase ∷ stack) = None

-- of a frame above so many entries
abbrev pub entered_above : ℕ → List ShownEntry → Option ℕ
entered_above depth stack = if nat_lt depth (length stack) then entered_on stack else None

-- whether its owner had entered it before, if it is there
abbrev pub tells_owner : Option ℕ → List Monitor → Bool
tells_owner None monitors = false
tells_owner (Some object) monitors = nat_lt object (length monitors) && not ((monitor_at monitors object).count == 1)

-- of an event of a thread: by its stacks, what is meant before it, and the worlds before it and after it
pub record OfEvent {A : Type 0} (t : ℕ) (said before : Option ℕ) (own stack : StackOf A) (old new : WorldOf A) : Type 0 where
  -- what is said to be meant before the event is that, where anything is
  pub is_meant : (said ≡ before) ⊎ (before ≡ None)
  -- where an invocation is new that entered a monitor, nothing is
  pub alone : (object : ℕ) → meant None own stack ≡ Some object → before ≡ None
  pub owners : KeepsOwners (meant before own stack) old.monitors new.monitors
  pub entries : TellsOwner t own stack old new

-- the one that is told is the only one whose owner may have changed, and whether the thread owned it before
pub record IsChanged (t : ℕ) (old new : List Monitor) (told : MonitorBefore) : Type 0 where
  pub rest : OwnsTheRest t told.object old new
  pub was : WasOwner t told.object old told.was_owner

abbrev pub ChangesMonitor : List Monitor → List ShownEntry → ℕ → (said told : MonitorBefore) → Type 0
ChangesMonitor monitors shown depth said told =
    (trees : Program) (p : LinkedProgram) (t : ℕ) (before : Option ℕ) (own stack : StackOf ℕ) (old new : WorldOf ℕ)
    → monitors ≡ new.monitors → ShowsStack trees p shown stack → depth ≡ length own → OfEvent t said.object before own stack old new
    → WasOwner t said.object old.monitors said.was_owner → IsChanged t old.monitors new.monitors told
