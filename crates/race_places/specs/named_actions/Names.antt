-- The actions of a run by the names that class files give to classes and fields.
use Rattle.std.specs.Prelude.{◌≡◌, ℕ, List, Bool, IsTrue, ⊤, ◌&&◌, ◌==◌, ◌↔◌, map, slice_get, Some, false}
use Rattle.model.specs.Names.{Name, Member, name_eq, member_eq}
use Rattle.model.specs.Classes.{Program}
use Rattle.data_races.specs.HappensBefore.{IsRace}
use Rattle.data_races.specs.Variables as named
use Rattle.data_races.specs.Variables.{declares_volatile}
use Rattle.data_races.specs.Actions as actions
use Rattle.data_races.specs.Actions.{Action as NamedAction}
use Rattle.data_races.specs.Races.{ActionOfRun, memory_order}
use Rattle.race_places.specs.declared.run_actions.Variable.{Variable}
use Rattle.race_places.specs.declared.run_actions.Variable.TheVariants.{InstanceField, StaticField, Element}
use Rattle.race_places.specs.declared.run_actions.Action.{Action}
use Rattle.race_places.specs.declared.run_actions.Action.TheVariants.{Read, Write, Lock, Unlock, Begin, Finish, Start, Interrupt, ClearInterrupt, Wake, FinishInitialisation, FindStarted, FindFinished, FindInterrupted, FindNotInterrupted, FindWoken, FindInitialised}
use Rattle.race_places.specs.declared.run_actions.RunAction.{RunAction}
use Rattle.race_places.specs.run_actions.Order.{run_order}

-- the names of classes, by their numbers, and the fields that they declare, by their places; and which of them there are
pub record Names : Type 0 where
  pub class_name : ℕ → Name
  pub has_class : ℕ → Bool
  pub field : ℕ → ℕ → Member
  pub has_field : ℕ → ℕ → Bool

-- no two of them have one name
pub record AreApart (names : Names) : Type 0 where
  pub classes : (c d : ℕ) → IsTrue (names.has_class c) → IsTrue (names.has_class d) → name_eq (names.class_name c) (names.class_name d) ≡ (c == d)
  pub fields : (c f d g : ℕ) → IsTrue (names.has_field c f) → IsTrue (names.has_field d g)
      → member_eq (names.field c f) (names.field d g) ≡ ((c == d) && (f == g))

-- ---- with names

abbrev pub named_variable : Names → Variable → named.Variable
named_variable names (InstanceField object class field) = named.InstanceField object (names.field class field)
named_variable names (StaticField class field) = named.StaticField (names.field class field)
named_variable names (Element array index) = named.Element array index

abbrev pub named_action : Names → Action → NamedAction
named_action names (Read variable is_volatile) = actions.Read (named_variable names variable)
named_action names (Write variable is_volatile) = actions.Write (named_variable names variable)
named_action names (Lock object) = actions.Lock object
named_action names (Unlock object) = actions.Unlock object
named_action names (Begin thread) = actions.Begin thread
named_action names (Finish thread) = actions.Finish thread
named_action names (Start thread) = actions.Start thread
named_action names (Interrupt thread) = actions.Interrupt thread
named_action names (ClearInterrupt thread) = actions.ClearInterrupt thread
named_action names (Wake thread) = actions.Wake thread
named_action names (FinishInitialisation class) = actions.FinishInitialisation (names.class_name class)
named_action names (FindStarted thread) = actions.FindStarted thread
named_action names (FindFinished thread) = actions.FindFinished thread
named_action names (FindInterrupted thread) = actions.FindInterrupted thread
named_action names (FindNotInterrupted thread) = actions.FindNotInterrupted thread
named_action names (FindWoken thread) = actions.FindWoken thread
named_action names (FindInitialised class) = actions.FindInitialised (names.class_name class)

abbrev pub named_in_run : Names → RunAction → ActionOfRun
named_in_run names a = record { thread = a.thread; event = a.event; action = named_action names a.action }

-- ---- what is right of an action: its class or field is there, and it tells whether that is volatile

abbrev pub IsOfField : Names → Program → Variable → Bool → Type 0
IsOfField names files (InstanceField object class field) is_volatile =
    IsTrue (names.has_field class field) × (is_volatile ≡ declares_volatile files (names.field class field))
IsOfField names files (StaticField class field) is_volatile =
    IsTrue (names.has_field class field) × (is_volatile ≡ declares_volatile files (names.field class field))
IsOfField names files (Element array index) is_volatile = is_volatile ≡ false

abbrev pub IsRight : Names → Program → Action → Type 0
IsRight names files (Read variable is_volatile) = IsOfField names files variable is_volatile
IsRight names files (Write variable is_volatile) = IsOfField names files variable is_volatile
IsRight names files (FinishInitialisation class) = IsTrue (names.has_class class)
IsRight names files (FindInitialised class) = IsTrue (names.has_class class)
IsRight names files _ = ⊤

-- actions race exactly where they do with names
abbrev pub AreNamedAlike : Type 0
AreNamedAlike =
    (names : Names) (files : Program) → AreApart names → (run : List RunAction)
    → ((k : ℕ) (a : RunAction) → slice_get run k ≡ Some a → IsRight names files a.action) → (i j : ℕ)
    → IsRace run_order run i j ↔ IsRace (memory_order files) (map (named_in_run names) run) i j
