-- What the words of a schedule with places do in a world (own; JVMS 2.6; JLS 17).
use Rattle.std.specs.Prelude.{◌≡◌, ◌⊎◌, ◌<◌, ◌≤◌, ℕ, List, [], ◌∷◌, ◌++◌, Option, Some, None, length, replicate}
use Rattle.model.specs.declared.event.Event.{Event}
use Rattle.model.specs.declared.limits.Limits.{Limits}
use Rattle.model.specs.Classes.{Program}
use Rattle.machine.specs.declared.machine.Stopped.{Stopped}
use Rattle.machine.specs.declared.machine.Stopped.TheVariants as stopped
use Rattle.machine.specs.Tops.{plain}
use Rattle.program_runs.specs.worlds.Worlds.{WorldOf, IsOfSame}
use Rattle.place_runs.specs.declared.following.Stop.{Stop}
use Rattle.place_runs.specs.declared.following.Stop.TheVariants as stops
use Rattle.place_texts.specs.Places.{PlaceOf, DeedOf, Entry, Until}
use Rattle.place_runs.specs.Meaning.{IsNotReached, IsReachedBy}
use Rattle.place_runs.specs.Following.{AreUsedUp, CannotBeDone, IsDone, IsStopped, IsFollowed}

-- ---- a thread that goes on

-- why an event was not done: the events are used up, as that is said; or the event can't be done
abbrev pub IsStoppedBy : (used_up : Type 0) → Stopped → WorldOf → Event → Type 0
IsStoppedBy used_up stopped.Most w event = used_up
IsStoppedBy used_up stopped.NotEnabled w event = (length w.events < w.budget) × CannotBeDone w.trees w.machine.limits w.events event
IsStoppedBy used_up (stopped.Refused told) w event = (length w.events < w.budget) × CannotBeDone w.trees w.machine.limits w.events event

-- so many events of a thread were done, and these brought it to the place; or none did, and this is why no more were done
abbrev pub ComesTo : Option Stopped → (t : ℕ) → PlaceOf → (budget count : ℕ) → (old new : WorldOf) → Type 0
ComesTo None t place budget count old new = IsReachedBy old.trees old.machine.limits.frames old.events t place count
ComesTo (Some why) t place budget count old new =
    IsNotReached old.trees old.machine.limits.frames old.events t place count
    × IsStoppedBy (AreUsedUp new.budget budget (Until t place) (length new.events)) why new (plain t)

pub record GoesOn (why : Option Stopped) (t : ℕ) (place : PlaceOf) (budget : ℕ) (old new : WorldOf) : Type 0 where
  pub same : IsOfSame old new
  pub on : new.end ≡ None
  pub count : ℕ
  pub done : new.events ≡ old.events ++ replicate count (plain t)
  pub within : (count ≡ 0) ⊎ (length new.events ≤ budget)
  pub comes : ComesTo why t place budget count old new

-- ---- words

abbrev pub stop_by : Stopped → Event → Stop
stop_by stopped.Most event = stops.UsedUp
stop_by stopped.NotEnabled event = stops.Event event
stop_by (stopped.Refused told) event = stops.Event event

-- a word was done whole, or in part
abbrev pub DeedComesTo : Option Stop → DeedOf → (budget : ℕ) → (old new : WorldOf) → Type 0
DeedComesTo None deed budget old new =
    (own : List Event) × (new.events ≡ old.events ++ own) × IsDone old.trees old.machine.limits.frames budget old.events deed own
DeedComesTo (Some stop) deed budget old new = IsStopped old.trees old.machine.limits old.budget budget old.events deed new.events stop

pub record DoesDeed (stop : Option Stop) (deed : DeedOf) (budget : ℕ) (old new : WorldOf) : Type 0 where
  pub same : IsOfSame old new
  pub on : new.end ≡ None
  pub comes : DeedComesTo stop deed budget old new

-- words were done in a world without events, as far as that went
pub record FollowsDeeds (stop : Stop) (deeds : List DeedOf) (budget : ℕ) (old new : WorldOf) : Type 0 where
  pub same : IsOfSame old new
  pub on : new.end ≡ None
  pub followed : IsFollowed old.trees old.machine.limits old.budget budget deeds new.events stop
