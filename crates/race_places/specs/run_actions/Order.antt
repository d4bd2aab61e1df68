-- What orders the actions of a run, and which of them conflict (JLS 17.4), by numbers.
use Rattle.std.specs.Prelude.{ℕ, Option, Some, None, Bool, true, false, not, ◌&&◌, ◌||◌, ◌==◌}
use Rattle.race_places.specs.declared.run_actions.Variable.{Variable}
use Rattle.race_places.specs.declared.run_actions.Variable.TheVariants.{InstanceField, StaticField, Element}
use Rattle.race_places.specs.declared.run_actions.Action.{Action}
use Rattle.race_places.specs.declared.run_actions.Action.TheVariants.{Read, Write, Lock, Unlock, Begin, Finish, Start, Interrupt, ClearInterrupt, Wake, FinishInitialisation, FindStarted, FindFinished, FindInterrupted, FindNotInterrupted, FindWoken, FindInitialised}
use Rattle.race_places.specs.declared.run_actions.RunAction.{RunAction}
use Rattle.race_places.specs.declared.run_actions.Key.{Key}
use Rattle.data_races.specs.HappensBefore.{Relations}

-- ---- keys: a kind, and up to three numbers

abbrev pub key : ℕ → ℕ → ℕ → ℕ → Key
key kind first second third = record { kind = kind; first = first; second = second; third = third }

abbrev pub is_same_key : Key → Key → Bool
is_same_key a b = (a.kind == b.kind) && ((a.first == b.first) && ((a.second == b.second) && (a.third == b.third)))

-- of a variable
abbrev pub variable_key : Variable → Key
variable_key (InstanceField object class field) = key 0 object class field
variable_key (StaticField class field) = key 1 class field 0
variable_key (Element array index) = key 2 array index 0

-- Of places where an action leaves something that later ones find (17.4.4). A volatile variable is its own place.
abbrev pub monitor_key : ℕ → Key
monitor_key object = key 3 object 0 0

abbrev pub start_key : ℕ → Key
start_key thread = key 4 thread 0 0

abbrev pub end_key : ℕ → Key
end_key thread = key 5 thread 0 0

-- where a thread is interrupted, and where its status is cleared
abbrev pub interrupts_key : ℕ → Key
interrupts_key thread = key 6 thread 0 0

abbrev pub cleared_key : ℕ → Key
cleared_key thread = key 7 thread 0 0

-- where the end of another thread wakes it
abbrev pub wake_key : ℕ → Key
wake_key thread = key 8 thread 0 0

abbrev pub initialisation_key : ℕ → Key
initialisation_key class = key 9 class 0 0

-- ---- what actions leave, find and take away

abbrev pub only_key : Bool → Key → Option Key
only_key true k = Some k
only_key false k = None

abbrev pub left_by : Action → Option Key
left_by (Unlock object) = Some (monitor_key object)
left_by (Write variable is_volatile) = only_key is_volatile (variable_key variable)
left_by (Start thread) = Some (start_key thread)
left_by (Finish thread) = Some (end_key thread)
left_by (Interrupt thread) = Some (interrupts_key thread)
left_by (ClearInterrupt thread) = Some (cleared_key thread)
left_by (Wake thread) = Some (wake_key thread)
left_by (FinishInitialisation class) = Some (initialisation_key class)
left_by _ = None

abbrev pub found_by : Action → Option Key
found_by (Lock object) = Some (monitor_key object)
found_by (Read variable is_volatile) = only_key is_volatile (variable_key variable)
found_by (Begin thread) = Some (start_key thread)
found_by (FindStarted thread) = Some (start_key thread)
found_by (FindFinished thread) = Some (end_key thread)
found_by (FindInterrupted thread) = Some (interrupts_key thread)
found_by (FindNotInterrupted thread) = Some (cleared_key thread)
found_by (FindWoken thread) = Some (wake_key thread)
found_by (FindInitialised class) = Some (initialisation_key class)
found_by _ = None

abbrev pub taken_by : Action → Option Key
taken_by (ClearInterrupt thread) = Some (interrupts_key thread)
taken_by _ = None

-- what it reads and writes that is not volatile
abbrev pub read_by : Action → Option Key
read_by (Read variable is_volatile) = only_key (not is_volatile) (variable_key variable)
read_by _ = None

abbrev pub written_by : Action → Option Key
written_by (Write variable is_volatile) = only_key (not is_volatile) (variable_key variable)
written_by _ = None

-- ---- 17.4.3 to 17.4.5

abbrev pub is_one : Option Key → Option Key → Bool
is_one None other = false
is_one (Some k) None = false
is_one (Some k) (Some l) = is_same_key k l

abbrev pub conflicts : Action → Action → Bool
conflicts a b = is_one (read_by a) (written_by b) || (is_one (written_by a) (written_by b) || is_one (written_by a) (read_by b))

abbrev pub run_order : Relations RunAction
run_order =
    record {
      is_of_one_thread = λ a b. a.thread == b.thread;
      synchronizes = λ a b. is_one (left_by a.action) (found_by b.action);
      takes_away = λ a between. is_one (left_by a.action) (taken_by between.action);
      conflict = λ a b. not (a.thread == b.thread) && conflicts a.action b.action;
    }
