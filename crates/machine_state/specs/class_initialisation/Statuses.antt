-- How far classes are, by their numbers (JVMS 5.5).
use Rattle.std.specs.Prelude.{◌≡◌, ◌<◌, ◌+◌, ℕ, Option, Some, None}
use Rattle.model.specs.BuiltInNumbers.{built_in_count}
use Rattle.model.specs.Names.{Name}
use Rattle.model.specs.Classes.{Program}
use Rattle.model.specs.State.{WorldOf}
use Rattle.model.specs.LimitStands.{Bounds}
use Rattle.model.specs.ClassInitialisation as model
use Rattle.model.specs.ClassInitialisation.{status_of, with_class_status, look_by}
use Rattle.linked_code.specs.declared.program.LinkedProgram.{LinkedProgram}
use Rattle.linked_code.specs.Numbers.{IsClassAt}
use Rattle.machine_state.specs.declared.state.ClassStatus.{ClassStatus}
use Rattle.machine_state.specs.declared.state.Shared.{Shared}
use Rattle.machine_state.specs.Shown.{IsProgram, Represents, shown_status}
use Rattle.machine_state.specs.declared.class_initialisation.statuses.ClassLook.{ClassLook}
use Rattle.machine_state.specs.declared.class_initialisation.statuses.ClassLook.TheVariants as look

-- the class of a number is the one of a file, unless it is built in: the built-in classes come first
abbrev pub IsFileOf : ℕ → Option ℕ → Type 0
IsFileOf number None = number < built_in_count
IsFileOf number (Some file) = number ≡ built_in_count + file

-- in whatever world is shown, with whatever class the number has
abbrev pub IsStatus : Shared → (number : ℕ) → ClassStatus → Type 0
IsStatus shared number status =
    (trees : Program) (p : LinkedProgram) (bounds : Bounds) (world : WorldOf ℕ) → IsProgram trees p → Represents trees p bounds shared world
    → (class : Name) → IsClassAt trees number class → shown_status status ≡ status_of world class

abbrev pub shown_look : ClassLook → model.Look
shown_look look.Ready = model.IsReady
shown_look look.New = model.IsNew
shown_look look.Held = model.IsHeld
shown_look look.Failed = model.HasFailed

-- how the thread finds the class
abbrev pub IsLook : Shared → (t number : ℕ) → ClassLook → Type 0
IsLook shared t number found =
    (trees : Program) (p : LinkedProgram) (bounds : Bounds) (world : WorldOf ℕ) → IsProgram trees p → Represents trees p bounds shared world
    → (class : Name) → IsClassAt trees number class → shown_look found ≡ look_by t (status_of world class)

-- the world that was shown is shown with this status of the class
abbrev pub IsStatusSet : (number : ℕ) → ClassStatus → Shared → Shared → Type 0
IsStatusSet number status old new =
    (trees : Program) (p : LinkedProgram) (bounds : Bounds) (world : WorldOf ℕ) → IsProgram trees p → Represents trees p bounds old world
    → (class : Name) → IsClassAt trees number class → Represents trees p bounds new (with_class_status world class (shown_status status))
