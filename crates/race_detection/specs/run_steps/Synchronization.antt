-- What orders the steps of a run, and which of them conflict (JLS 17.4).
use Rattle.std.specs.Prelude.{ℕ, Option, Some, None, Bool, false, not, ◌&&◌, ◌||◌, ◌==◌}
use Rattle.race_detection.specs.declared.run_steps.Action.{Action}
use Rattle.race_detection.specs.declared.run_steps.Action.TheVariants.{Read, Write, Acquire, Release, Clear}
use Rattle.race_detection.specs.declared.run_steps.Step.{Step}
use Rattle.data_races.specs.HappensBefore.{Relations}

-- the place where an action leaves something
abbrev pub left_by : Action → Option ℕ
left_by (Read variable) = None
left_by (Write variable) = None
left_by (Acquire place) = None
left_by (Release place) = Some place
left_by (Clear taken left) = Some left

-- an action finds what is left at a place
abbrev pub finds : ℕ → Action → Bool
finds place (Read variable) = false
finds place (Write variable) = false
finds place (Acquire other) = place == other
finds place (Release other) = false
finds place (Clear taken left) = false

-- an action takes away what is left at a place
abbrev pub takes : ℕ → Action → Bool
takes place (Read variable) = false
takes place (Write variable) = false
takes place (Acquire other) = false
takes place (Release other) = false
takes place (Clear taken left) = place == taken

abbrev pub is_found : Option ℕ → Action → Bool
is_found None later = false
is_found (Some place) later = finds place later

abbrev pub is_taken : Option ℕ → Action → Bool
is_taken None between = false
is_taken (Some place) between = takes place between

abbrev pub is_read : ℕ → Action → Bool
is_read variable (Read other) = variable == other
is_read variable _ = false

abbrev pub is_write : ℕ → Action → Bool
is_write variable (Write other) = variable == other
is_write variable _ = false

-- accesses of one variable, at least one of them a write
abbrev pub conflicts : Action → Action → Bool
conflicts (Read variable) other = is_write variable other
conflicts (Write variable) other = is_write variable other || is_read variable other
conflicts _ other = false

-- 17.4.3 to 17.4.5 over steps
abbrev pub step_order : Relations Step
step_order =
    record {
      is_of_one_thread = λ a b. a.thread == b.thread;
      synchronizes = λ a b. is_found (left_by a.action) b.action;
      takes_away = λ a between. is_taken (left_by a.action) between.action;
      conflict = λ a b. not (a.thread == b.thread) && conflicts a.action b.action;
    }
