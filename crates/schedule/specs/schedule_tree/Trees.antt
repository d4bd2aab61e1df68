-- Schedules, each of which goes on from another one (own).
use Rattle.std.specs.Prelude.{◌≡◌, ◌<◌, ◌≤◌, ℕ, suc, List, [], ◌∷◌, ◌++◌, length, reverse, slice_index_or}
use Rattle.std.specs.List.{AllByRecursion}
use Rattle.model.specs.declared.event.ScheduleEntry.{ScheduleEntry}
use Rattle.model.specs.Schedule.{EntryFits}
use Rattle.schedule.specs.declared.schedule_tree.tree.Node.{Node}

-- the schedule of a number
abbrev pub way_at : List (List ScheduleEntry) → ℕ → List ScheduleEntry
way_at ways number = slice_index_or ways number []

-- one more, that goes on from the schedule of a number with an entry
abbrev pub with_way : List (List ScheduleEntry) → ℕ → ScheduleEntry → List (List ScheduleEntry)
with_way ways parent entry = ways ++ (way_at ways parent ++ entry ∷ []) ∷ []

-- ---- what a tree keeps

-- the schedules of further nodes, after those that are there
abbrev pub ways_from : List (List ScheduleEntry) → List Node → List (List ScheduleEntry)
ways_from ways [] = ways
ways_from ways (node ∷ nodes) = ways_from (with_way ways node.parent node.entry) nodes

-- number 0 has no entries
abbrev pub ways : List Node → List (List ScheduleEntry)
ways nodes = ways_from ([] ∷ []) nodes

-- the parent of each has a lower number, where the first one has this
abbrev pub AreBelow : ℕ → List Node → Type 0
AreBelow number [] = Unit {0}
AreBelow number (node ∷ nodes) = (node.parent < number) × AreBelow (suc number) nodes

abbrev pub AreFitting : List Node → Type 0
AreFitting nodes = AllByRecursion (λ (node : Node). EntryFits node.entry) nodes

-- the entries of the schedule of a number, the last one first: they fit, and are no more than there are nodes
pub record IsWayBack (nodes : List Node) (number : ℕ) (entries : List ScheduleEntry) : Type 0 where
  pub are : way_at (ways nodes) number ≡ reverse entries
  pub each : AllByRecursion EntryFits entries
  pub few : length entries ≤ number
