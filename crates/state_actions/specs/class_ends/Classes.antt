-- Classes that are done, by their numbers (JVMS 5.5; JLS 12.4.2).
use Rattle.std.specs.Prelude.{◌≡◌, ℕ, Option, Some, None, Bool, map}
use Rattle.model.specs.Names.{Name}
use Rattle.model.specs.Classes.{Program}
use Rattle.model.specs.State.{World, WorldOf}
use Rattle.model.specs.LimitStands.{Bounds}
use Rattle.model.specs.ClassInitialisation.{status_of}
use Rattle.model.specs.Operands.{word_of}
use Rattle.model.specs.Words.{map_world}
use Rattle.linked_code.specs.declared.program.LinkedProgram.{LinkedProgram}
use Rattle.linked_code.specs.Numbers.{IsClassAt, IsClassIf}
use Rattle.machine_state.specs.declared.state.Shared.{Shared}
use Rattle.machine_state.specs.Shown.{IsProgram, Represents}
use Rattle.race_places.specs.declared.run_actions.Action.{Action}
use Rattle.race_places.specs.declared.run_actions.Action.TheVariants as action
use Rattle.race_places.specs.named_actions.Names.{Names, named_action}
use Rattle.data_races.specs.Actions as named
use Rattle.data_races.specs.EventActions.{is_finished, found_class, finished_classes}
use Rattle.table_actions.specs.tables.Told.{listed}
use Rattle.event_laws.specs.event_changes.Changes.{KeepsClasses}

-- in whatever world is shown, with whatever class the number has
abbrev pub IsFinished : Shared → (number : ℕ) → Bool → Type 0
IsFinished shared number finished =
    (trees : Program) (p : LinkedProgram) (bounds : Bounds) (world : WorldOf ℕ) → IsProgram trees p → Represents trees p bounds shared world
    → (class : Name) → IsClassAt trees number class → finished ≡ is_finished (status_of world class)

-- the words of a world of values are shown
pub record Shows (trees : Program) (p : LinkedProgram) (bounds : Bounds) (shared : Shared) (world : World) : Type 0 where
  pub program : IsProgram trees p
  pub represents : Represents trees p bounds shared (map_world word_of world)

-- the names of classes are those that their numbers stand for
abbrev pub NamesClasses : Names → Program → Type 0
NamesClasses names trees = (number : ℕ) (class : Name) → IsClassAt trees number class → names.class_name number ≡ class

-- an action on the class of a number, where there is one
abbrev pub IsOfClass : (ℕ → Action) → Option ℕ → Option Action → Type 0
IsOfClass on number None = Unit {0}
IsOfClass on None (Some told) = ⊥
IsOfClass on (Some number) (Some told) = told ≡ on number

-- what an event finds of the class that it needs, before it
abbrev pub FindsNamed : Shared → Option ℕ → Option Action → Type 0
FindsNamed shared number told =
    (trees : Program) (p : LinkedProgram) (bounds : Bounds) (world : World) (names : Names) (class : Option Name) → Shows trees p bounds shared world
    → NamesClasses names trees → IsClassIf trees number class → map (named_action names) (listed told) ≡ found_class world class

abbrev pub FindsClass : Shared → Option ℕ → Option Action → Type 0
FindsClass shared number told = IsOfClass action.FindInitialised number told × FindsNamed shared number told

-- whether a class was done, if one is meant
abbrev pub WasFinished : World → Option Name → Bool → Type 0
WasFinished world None finished = Unit {0}
WasFinished world (Some class) finished = finished ≡ is_finished (status_of world class)

-- which class is done since an event that ends the initialisation of no other one, after it
abbrev pub FinishesNamed : Shared → Option ℕ → Bool → Option Action → Type 0
FinishesNamed shared number was_finished told =
    (trees : Program) (p : LinkedProgram) (bounds : Bounds) (old new : World) (names : Names) (class : Option Name) → Shows trees p bounds shared new
    → NamesClasses names trees → IsClassIf trees number class → KeepsClasses class old new → WasFinished old class was_finished
    → map (named_action names) (listed told) ≡ map named.FinishInitialisation (finished_classes old new)

abbrev pub FinishesClass : Shared → Option ℕ → Bool → Option Action → Type 0
FinishesClass shared number was_finished told = IsOfClass action.FinishInitialisation number told × FinishesNamed shared number was_finished told
