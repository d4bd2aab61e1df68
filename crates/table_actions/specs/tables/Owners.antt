-- Of whose monitors a thread is the owner, before an event and after it.
use Rattle.std.specs.Prelude.{◌≡◌, ℕ, List, Option, Some, None, Bool, true, false, ◌==◌, map}
use Rattle.model.specs.State.{Monitor}
use Rattle.model.specs.Monitors.{monitor_at, owns}
use Rattle.race_places.specs.declared.run_actions.Action.{Action}
use Rattle.race_places.specs.named_actions.Names.{Names, named_action}
use Rattle.data_races.specs.Actions.{Lock, Unlock}
use Rattle.data_races.specs.EventActions.{besides, owned_from}
use Rattle.table_actions.specs.tables.Told.{listed}

-- whether a thread owns the monitor of an object
abbrev pub is_owned : ℕ → List Monitor → ℕ → Bool
is_owned t monitors object = owns t (monitor_at monitors object).owner

abbrev pub is_meant : ℕ → Option ℕ → Bool
is_meant object None = false
is_meant object (Some other) = object == other

-- it owns the monitors of all objects as before, but maybe that of one
abbrev pub OwnsTheRest : ℕ → Option ℕ → (old new : List Monitor) → Type 0
OwnsTheRest t object old new = (other : ℕ) → is_meant other object ≡ false → is_owned t new other ≡ is_owned t old other

-- whether it owned that, where one is meant
abbrev pub WasOwner : ℕ → Option ℕ → List Monitor → Bool → Type 0
WasOwner t None monitors was_owner = was_owner ≡ false
WasOwner t (Some object) monitors was_owner = was_owner ≡ is_owned t monitors object

-- what is told of the change of one, where one is meant: nothing before, and it after
abbrev pub change_by : (ℕ → Action) → Option ℕ → (before after : Bool) → Option Action
change_by action None before after = None
change_by action (Some object) true after = None
change_by action (Some object) false true = Some (action object)
change_by action (Some object) false false = None

-- by whatever names, all monitors that it owns after the event and not before
abbrev pub TellsLocks : ℕ → (old new : List Monitor) → Option Action → Type 0
TellsLocks t old new told = (names : Names) → map (named_action names) (listed told) ≡ map Lock (besides (owned_from t 0 new) (owned_from t 0 old))

abbrev pub TellsUnlocks : ℕ → (old new : List Monitor) → Option Action → Type 0
TellsUnlocks t old new told = (names : Names) → map (named_action names) (listed told) ≡ map Unlock (besides (owned_from t 0 old) (owned_from t 0 new))
