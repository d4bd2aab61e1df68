-- A schedule with places that is followed in a run, as far as it goes (own; JVMS 2.6; JLS 17).
use Rattle.std.specs.Prelude.{◌≡◌, ◌⊎◌, ◌+◌, ◌<◌, ◌≤◌, ◌^◌, ℕ, List, [], ◌∷◌, ◌++◌, Some, IsTrue, length, replicate}
use Rattle.model.specs.declared.end.End.{End}
use Rattle.model.specs.declared.event.Event.{Event}
use Rattle.model.specs.declared.limits.Limits.{Limits}
use Rattle.model.specs.Classes.{Program}
use Rattle.model.specs.LimitStands.{bounds_of, within_limits}
use Rattle.model.specs.Run.{run}
use Rattle.model.specs.State.{State}
use Rattle.machine.specs.Tops.{plain}
use Rattle.machine.specs.machine_replay.Replays.{EndFits}
use Rattle.program_runs.specs.continued_runs.Continuing.{IsCut}
use Rattle.place_runs.specs.declared.following.Stop.{Stop}
use Rattle.place_runs.specs.declared.following.Stop.TheVariants as stops
use Rattle.place_texts.specs.Places.{PlaceOf, DeedOf, Entry, Until}
use Rattle.place_runs.specs.Meaning.{InTurn, IsNotReached, MeansOne}

-- an event can't be done after some others: it is not enabled, or a limit refuses it
pub record CannotBeDone (trees : Program) (limits : Limits) (done : List Event) (event : Event) : Type 0 where
  pub state : State
  pub reached : run trees limits.frames done ≡ Some state
  pub end : End
  pub cut : IsCut end
  pub fits : EndFits trees (bounds_of limits) state done (event ∷ []) end

-- After some events, these ones of a word are within the budget: a place has none where that is used up.
abbrev pub IsWithin : (budget : ℕ) → (done : List Event) → DeedOf → List Event → Type 0
IsWithin budget done (Entry entry) own = Unit {0}
IsWithin budget done (Until t place) own = (own ≡ []) ⊎ (length (done ++ own) ≤ budget)

-- after some events, a word stands for these, which are within the budget
abbrev pub IsDone : Program → (frames budget : ℕ) → (done : List Event) → DeedOf → List Event → Type 0
IsDone trees frames budget done deed own = MeansOne trees frames done deed own × IsWithin budget done deed own

-- so do words, one after the other
abbrev pub AreDone : Program → (frames budget : ℕ) → (done : List Event) → List DeedOf → List Event → Type 0
AreDone trees frames budget done deeds events = InTurn (IsDone trees frames budget) done deeds events

-- These events are a part of those of a word, less than all: what stands behind them would be this one.
abbrev pub IsPartOf : Program → (frames : ℕ) → (done : List Event) → DeedOf → List Event → Event → Type 0
IsPartOf trees frames done (Entry entry) part next =
    (count : ℕ) × (count < entry.repeat) × (part ≡ replicate count entry.event) × (next ≡ entry.event)
IsPartOf trees frames done (Until t place) part next =
    (count : ℕ) × (part ≡ replicate count (plain t)) × IsNotReached trees frames done t place count × (next ≡ plain t)

-- So many events are the most that a run has, or, within a place, the budget.
abbrev pub AreUsedUp : (most budget : ℕ) → DeedOf → (count : ℕ) → Type 0
AreUsedUp most budget (Entry entry) count = count ≡ most
AreUsedUp most budget (Until t place) count = (budget ≤ count) ⊎ (count ≡ most)

-- why a word was not done whole, of which a part was after some events
abbrev pub StopsIn : Program → Limits → (most budget : ℕ) → (done part : List Event) → DeedOf → Event → Stop → Type 0
StopsIn trees limits most budget done part deed next stops.Whole = ⊥
StopsIn trees limits most budget done part deed next (stops.Event event) = (event ≡ next) × (length (done ++ part) < most) × CannotBeDone trees limits (done ++ part) event
StopsIn trees limits most budget done part deed next stops.UsedUp = AreUsedUp most budget deed (length (done ++ part))

-- a word was done in part, after those before it
pub record IsStopped (trees : Program) (limits : Limits) (most budget : ℕ) (done : List Event) (deed : DeedOf) (events : List Event) (stop : Stop) : Type 0 where
  pub part : List Event
  pub next : Event
  pub events_are : events ≡ done ++ part
  pub is_part : IsPartOf trees limits.frames done deed part next
  pub within : IsWithin budget done deed part
  pub stops : StopsIn trees limits most budget done part deed next stop

-- the words before a word were done whole, and that word in part
pub record StopsShort (trees : Program) (limits : Limits) (most budget : ℕ) (deeds : List DeedOf) (events : List Event) (stop : Stop) : Type 0 where
  pub before : List DeedOf
  pub deed : DeedOf
  pub behind : List DeedOf
  pub deeds_are : deeds ≡ before ++ deed ∷ behind
  pub done : List Event
  pub whole : AreDone trees limits.frames budget [] before done
  pub stopped : IsStopped trees limits most budget done deed events stop

-- All words were done, or some were: these are the events that were done, at most so many, and this is why there are no more.
abbrev pub IsFollowed : Program → Limits → (most budget : ℕ) → List DeedOf → List Event → Stop → Type 0
IsFollowed trees limits most budget deeds events stop =
    ((stop ≡ stops.Whole) × AreDone trees limits.frames budget [] deeds events) ⊎ StopsShort trees limits most budget deeds events stop

-- there may be one event more, if one is to be added: there are no more than a schedule may have
abbrev pub HasRoomFor : Stop → List Event → Type 0
HasRoomFor stops.Whole events = Unit {0}
HasRoomFor (stops.Event event) events = length events + 1 < 2 ^ 32
HasRoomFor stops.UsedUp events = Unit {0}

-- the events with the one that can't be done, if that is why there are no more
abbrev pub with_stop : List Event → Stop → List Event
with_stop events stops.Whole = events
with_stop events (stops.Event event) = events ++ event ∷ []
with_stop events stops.UsedUp = events
