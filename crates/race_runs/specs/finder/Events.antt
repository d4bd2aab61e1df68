-- The events of which a finder of races is told.
use Rattle.std.specs.Prelude.{◌≡◌, ◌<◌, ℕ, List, ◌++◌, Option, Some, None, Bool, map}
use Rattle.std.specs.Option.{option_map, option_map_or}
use Rattle.race_places.specs.declared.run_actions.Variable.{Variable}
use Rattle.race_places.specs.declared.run_actions.Action.{Action}
use Rattle.race_places.specs.declared.run_actions.RunAction.{RunAction}
use Rattle.machine_state.specs.declared.state.Shared.{Shared}
use Rattle.race_actions.specs.declared.event_actions.EventActions.{EventActions}
use Rattle.race_actions.specs.declared.looking.CodeSite.{CodeSite}
use Rattle.race_actions.specs.declared.looking.EventBefore.{EventBefore}
use Rattle.race_actions.specs.event_actions.Told.{TellsActions}
use Rattle.run_races.specs.declared.race_finder.RaceFinder.{RaceFinder}
use Rattle.run_races.specs.labels.Labels.{label_of}
use Rattle.run_races.specs.race_finder.Found.{HasWatched, accessed}
use Rattle.run_races.specs.named_races.Named.{numbered_in}
use Rattle.race_runs.specs.declared.finder.Finder.{Finder}

-- the place in code that was told before an event
abbrev pub site_of : EventActions → Option CodeSite
site_of e = option_map (λ (before : EventBefore). before.site) e.before

-- the number of an action at a place in code
abbrev pub label_at : Option CodeSite → Action → ℕ
label_at None a = 0
label_at (Some site) a = option_map_or (λ (access : Variable × Bool). label_of site.method site.offset access.1) (accessed a) 0

-- what was found stays
pub record KeepsFound (old new : Finder) : Type 0 where
  pub tables : new.tables ≡ old.tables
  pub races : new.races ≡ old.races

-- it was told of these actions of a thread, whose instruction stands at a place in code
abbrev pub Watched : (t : ℕ) → Option CodeSite → List Action → (old new : RaceFinder) → Type 0
Watched t site actions old new =
    (run : List RunAction) → HasWatched run old.detector old.told.races.keys
    → HasWatched (run ++ map (numbered_in t (label_at site)) actions) new.detector new.told.races.keys

-- it was told of those of an event that is done
pub record FindsEvent (shared : Shared) (t : ℕ) (old new : Finder) : Type 0 where
  pub tables : new.tables ≡ old.tables
  pub actions : List Action
  pub short : (site : CodeSite) → site_of old.actions ≡ Some site → site.offset < 65536
  pub are : TellsActions old.actions shared t actions
  pub watched : Watched t (site_of old.actions) actions old.races new.races
