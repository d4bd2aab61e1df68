-- Races of next events, with the places in code of their accesses.
use Rattle.std.specs.Prelude.{◌≡◌, ℕ, List, Option, Some, Bool, slice_get}
use Rattle.model.specs.declared.event.Event.{Event}
use Rattle.model.specs.declared.value.Value.{Value}
use Rattle.model.specs.Classes.{Program}
use Rattle.model.specs.Run.{run}
use Rattle.model.specs.State.{StackOf, State}
use Rattle.machine.specs.Machines.{MachineOf}
use Rattle.machine.specs.schedule_runs.Done.{HasDone}
use Rattle.race_places.specs.declared.run_actions.Variable.{Variable}
use Rattle.next_accesses.specs.declared.racy_states.Race.{Race as NextRace}
use Rattle.race_actions.specs.declared.looking.CodeSite.{CodeSite}
use Rattle.race_actions.specs.looking.Known.{IsSiteOf}
use Rattle.run_races.specs.declared.told_races.Race.{Race}
use Rattle.run_races.specs.declared.told_races.RaceAccess.{RaceAccess}
use Rattle.run_races.specs.race_finder.Found.{accessed}
use Rattle.run_races.specs.told_races.Variables.{numbers_of}

-- of a thread that has this stack, in the state to which the events led that a machine has done
pub record IsSiteIn (trees : Program) (state : State) (t : ℕ) (own : StackOf Value) (told : Option CodeSite) : Type 0 where
  pub site : CodeSite
  pub is : told ≡ Some site
  pub of : IsSiteOf trees state t own site

abbrev pub TellsSite : Program → MachineOf → (t : ℕ) → Option CodeSite → Type 0
TellsSite trees m t told =
    (files : List (List ℕ)) (events : List Event) (state : State) → HasDone m files trees events → run trees m.limits.frames events ≡ Some state
    → (own : StackOf Value) → slice_get state.stacks t ≡ Some own → IsSiteIn trees state t own told

abbrev pub access_at : (t : ℕ) → (is_write : Bool) → CodeSite → RaceAccess
access_at t is_write site = record { thread = t; is_write = is_write; method = site.method; offset = site.offset }

-- where both places are known, and both actions are accesses, this is the race
abbrev pub AreWithPlaces : NextRace → (first second : Option CodeSite) → Option Race → Type 0
AreWithPlaces race first second told =
    (a b : CodeSite) → first ≡ Some a → second ≡ Some b → (v w : Variable) (x y : Bool) → accessed race.access ≡ Some (v, x)
    → accessed race.other_access ≡ Some (w, y)
    → told ≡ Some (record { variable = numbers_of v; first = access_at race.thread x a; second = access_at race.other y b })

-- so it is of a race, in the state of a machine
abbrev pub IsPlaced : Program → MachineOf → NextRace → Option Race → Type 0
IsPlaced trees m race told =
    (first : Option CodeSite) × (second : Option CodeSite) × TellsSite trees m race.thread first × TellsSite trees m race.other second
    × AreWithPlaces race first second told
